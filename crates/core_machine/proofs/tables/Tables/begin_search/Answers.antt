use Rattle.std.proofs.Common.{◌≡◌, ◌<◌, refl, sym, ap, ◌∙◌, subst, arith}
use Rattle.ledger_spec.specs.Maps.{ForHash, hash_cmp, insert_in}
use Rattle.ledger_spec.specs.Acquiring.{Acquiring, acquiring}
use Rattle.core_machine.specs.Wanting.{IsOpen, AreOpen}
use Rattle.core_machine.proofs.Opens.{insert_open}
use Rattle.core_machine.proofs.tables.Tables.begin_search.Goals as goal

-- a new acquisition has its key as its target, and had no tick
pub invariant_of-self-2 : goal.invariant_of-self-2
invariant_of-self-2 g c =
    let few : 0 < 7 = omega arith in
    let wanted : ForHash Acquiring = c.self.inside.wanted.entries in
    let fresh : Acquiring = acquiring c.args.target.now c.args.seq in
    let own : IsOpen c.args.target.now fresh = record { own = refl; awaited = few } in
    let is : c.insert.new.self.entries ≡ insert_in hash_cmp wanted c.args.target.now fresh =
    c.in_ok-insert.ensures.entries ∙ ap (insert_in hash_cmp wanted c.args.target.now) c.new.ensures in
    (subst AreOpen (sym is) (insert_open c.args.target.now wanted fresh c.self.invariant.0 own), c.self.invariant.1)
