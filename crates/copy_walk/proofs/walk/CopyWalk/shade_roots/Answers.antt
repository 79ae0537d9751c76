use Rattle.std.proofs.Common.{◌≡◌, ◌++◌, ◌∷◌, [], List, Contains, sym, subst, arith, rules}
use Rattle.std.proofs.lemmas.Grind.{common_steps}
use Rattle.std.proofs.lemmas.List.Elements.{filter-append}
use Rattle.std.specs.List.{filter}
use Rattle.ledger_spec.specs.Bytes.{Hash, is_nonzero}
use Rattle.copy_walk.specs.Walks.{ShadesSome}
use Rattle.copy_walk.proofs.Shading.{front_shaded, more_shaded, all_more}
use Rattle.copy_walk.proofs.walk.CopyWalk.shade_roots.Goals as goal

-- the one root, and then the other
abbrev named : Hash → List Hash
named h = filter is_nonzero (h ∷ [])

both : (h k : Hash) → named h ++ named k ≡ filter is_nonzero (h ∷ k ∷ [])
both h k = sym (filter-append is_nonzero (h ∷ []) (k ∷ []))

pub returns-in_err-shade_unless_zero : goal.returns-in_err-shade_unless_zero
returns-in_err-shade_unless_zero c = record {
  some = front_shaded c.args.self.now (named c.args.header.now.state_root) (named c.args.header.now.tx_root) _
      c.shade_unless_zero.new.self (both c.args.header.now.state_root c.args.header.now.tx_root) c.shade_unless_zero.ensures.some;
  all = first_of (search rules, grind (arith, common_steps));
}

pub returns-in_err-shade_unless_zero-2 : goal.returns-in_err-shade_unless_zero-2
returns-in_err-shade_unless_zero-2 c = record {
  some = subst (λ (hs : List Hash). ShadesSome c.args.self.now hs c.shade_unless_zero-2.new.self)
      (both c.args.header.now.state_root c.args.header.now.tx_root)
      (more_shaded c.args.self.now (named c.args.header.now.state_root) c.shade_unless_zero.new.self (named c.args.header.now.tx_root)
      c.shade_unless_zero-2.new.self c.shade_unless_zero.ensures.some c.shade_unless_zero-2.ensures.some);
  all = first_of (search rules, grind (arith, common_steps));
}

pub returns : goal.returns
returns c =
    let whole = both c.args.header.now.state_root c.args.header.now.tx_root in
    record {
      some = subst (λ (hs : List Hash). ShadesSome c.args.self.now hs c.shade_unless_zero-2.new.self) whole
          (more_shaded c.args.self.now (named c.args.header.now.state_root) c.shade_unless_zero.new.self (named c.args.header.now.tx_root)
          c.shade_unless_zero-2.new.self c.shade_unless_zero.ensures.some c.shade_unless_zero-2.ensures.some);
      all = λ q is. all_more c.args.self.now (named c.args.header.now.state_root) c.shade_unless_zero.new.self
          (named c.args.header.now.tx_root) c.shade_unless_zero-2.new.self c.shade_unless_zero.ensures.some
          c.shade_unless_zero-2.ensures.some c.in_ok-shade_unless_zero.ensures.all c.in_ok-shade_unless_zero-2.ensures.all q
          (subst (λ (hs : List Hash). Contains hs q) (sym whole) is);
    }
