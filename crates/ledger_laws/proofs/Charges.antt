-- The charges of peers stay a table, however the peers change.
use Rattle.std.proofs.Common.{ℕ, ◌+◌, ◌&&◌, ◌++◌, ◌∷◌, [], Bool, true, false, if◌then◌else◌}
use Rattle.std.proofs.lemmas.Cmp.{nat_cmp_total}
use Rattle.std.specs.Ordering.{nat_cmp}
use Rattle.ledger_spec.specs.Maps.{IsMap, insert_in}
use Rattle.ledger_spec.specs.Bases.{Judged}
use Rattle.ledger_spec.specs.Peers.{Peers, is_present, was_added, after_adding, charges_of, after_charging}
use Rattle.ledger_spec.specs.Acquiring.{is_bad_head, is_bad_root, after_outcome, after_judging}
use Rattle.ledger_laws.proofs.SoundTables.{insert_rises, set_rises}

-- the charges are a finite map
abbrev pub AreCharges : Peers → Type 0
AreCharges x = IsMap nat_cmp x.charges

-- one peer more
pub adding_rises : (p : ℕ) (x : Peers) → AreCharges x → AreCharges (after_adding x p)
adding_rises p x rises = at (was_added x p)
  where
    at : (b : Bool)
        → AreCharges (if b then x else record x { present = x.present ++ p ∷ []; charges = insert_in nat_cmp x.charges p 0 })
    at true = rises
    at false = insert_rises nat_cmp_total x.charges p 0 rises

-- one charge more, where the outcome is bad
pub outcome_rises : (p : ℕ) (bad : Bool) (x : Peers) → AreCharges x → AreCharges (after_outcome p bad x)
outcome_rises p bad x rises = at (bad && is_present x p)
  where
    at : (b : Bool) → AreCharges (if b then after_charging x p else x)
    at true = set_rises nat_cmp _ x.charges (charges_of x p + 1) rises
    at false = rises

-- one for each bad part
pub judging_rises : (p : ℕ) (j : Judged) (x : Peers) → AreCharges x → AreCharges (after_judging p j x)
judging_rises p j x rises =
    let first : Peers = after_outcome p (is_bad_head j.header) x in
    let second : Peers = after_outcome p (is_bad_root j.state) first in
    outcome_rises p (is_bad_root j.tx) second
    (outcome_rises p (is_bad_root j.state) first (outcome_rises p (is_bad_head j.header) x rises))
