use Rattle.std.proofs.Common.{◌≡◌, ◌∙◌, ◌∷◌, [], Bool, not, cond, List, Contains, sym, subst, ap}
use Rattle.std.specs.List.{filter}
use Rattle.ledger_spec.specs.Bytes.{Hash, is_nonzero}
use Rattle.copy_walk.specs.Walks.{ShadesSome}
use Rattle.copy_walk.proofs.Shading.{one_shaded, all_shaded}
use Rattle.copy_walk.proofs.walk.CopyWalk.shade_unless_zero.Goals as goal

-- a hash that isn't zero is shaded
pub returns : goal.returns
returns c =
    let same : filter is_nonzero (c.args.h.now ∷ []) ≡ c.args.h.now ∷ [] =
    ap (λ (b : Bool). cond (not b) (c.args.h.now ∷ []) []) (sym c.is_zero.ensures ∙ c.if-is_zero.false) in
    record {
      some = subst (λ (hs : List Hash). ShadesSome c.args.self.now hs c.shade.new.self) (sym same)
          (one_shaded c.args.self.now c.args.h.now c.shade.new.self c.in_ok-shade.ensures.ok);
      all = λ q is. all_shaded c.args.self.now c.args.h.now c.shade.new.self c.in_ok-shade.ensures.ok q
          (subst (λ (hs : List Hash). Contains hs q) same is);
    }
