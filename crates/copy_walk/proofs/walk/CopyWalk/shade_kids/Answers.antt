use Rattle.std.proofs.Common.{◌≡◌, ◌∷◌, [], Option, None, Some, List, rules, refl, sym, subst, is_some, false}
use Rattle.std.specs.List.{filter}
use Rattle.ledger_spec.specs.Bytes.{Hash, is_nonzero}
use Rattle.ledger_spec.specs.Forms.{inner_of, header_of}
use Rattle.ledger_spec.specs.Reach.{kids, named_by}
use Rattle.copy_walk.specs.Calls.{ShadesEach}
use Rattle.copy_walk.proofs.walk.CopyWalk.shade_kids.Goals as goal

not_some : {A : Type 0} (o : Option A) → is_some o ≡ false → o ≡ None
not_some None e = refl
not_some (Some x) e = cc

-- what is a header is no inner node, and names its roots
pub returns-in-Some : goal.returns-in-Some
returns-in-Some c =
    let other : inner_of c.args.form.now ≡ None = not_some (inner_of c.args.form.now) (search rules) in
    let same : filter is_nonzero (c.in-Some.header.state_root ∷ c.in-Some.header.tx_root ∷ []) ≡ kids c.args.form.now =
    subst (λ (o : Option (List Hash)). filter is_nonzero (c.in-Some.header.state_root ∷ c.in-Some.header.tx_root ∷ [])
    ≡ filter is_nonzero (named_by o (header_of c.args.form.now))) (sym other) (search rules) in
    subst (λ (hs : List Hash). ShadesEach c.args.self.now hs c.shade_roots.result c.shade_roots.new.self) same c.shade_roots.ensures
