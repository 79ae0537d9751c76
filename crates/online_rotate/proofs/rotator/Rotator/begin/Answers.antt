-- the walk begins at the roots for the new floor, and at the targets
use Rattle.std.proofs.Common.{◌≡◌, ◌∙◌, ◌++◌, [], Some, List, refl, ap, rules}
use Rattle.ledger_spec.specs.Bytes.{Hash}
use Rattle.online_rotate.proofs.Rotating.{begins}
use Rattle.online_rotate.proofs.rotator.Rotator.begin.Goals as goal

pub returns-clause-after : goal.returns-clause-after
returns-clause-after c =
    let is : c.args.book.now.last ≡ Some c.in-Some-Some.last = search rules in
    let all : c.extend_from_slice.new.self.items ≡ c.in_ok-roots.roots.items ++ c.args.targets.now = search rules in (
      c.begin.ensures,
      record {
        under_way = refl;
        none_sliced = refl;
        told = begins c.args.book.now c.args.targets.now c.in_ok-roots.roots.items c.extend_from_slice.new.self.items
            c.in-Some-Some.last is c.in_ok-roots.ensures all;
        walk = c.in_ok-walk.ensures ∙ ap (λ (hs : List Hash). record { grey = hs; black = [] }) c.deref.ensures.value;
      },
    )
