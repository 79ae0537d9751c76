-- What searches share stays true as a store grows, behind a turn, and where one of them is forgotten; nothing at all is true of any store.
-- For proofs of other crates.
use Rattle.std.proofs.Common.{ℕ, Contains, List}
use Rattle.std.proofs.Common.{Option, None, IfSome, sym, subst}
use Rattle.lru.proofs.Splits.{Contains-nil}
use Rattle.ledger_spec.specs.Bytes.{Half, Lookup}
use Rattle.ledger_spec.proofs.shared.ReachLaws.{Grows}
use Rattle.shamap_node.specs.Nodes.{held}
use Rattle.missing_walk.specs.Searching.{Rule}
use Rattle.missing_walk.proofs.shared.Places.{full_grows, held_grows}
use Rattle.missing_walk.proofs.shared.Growing.{rule_grows, rule_turns}
use Rattle.ledger_searches.specs.declared.hunt.Hunt.{Hunt}
use Rattle.ledger_searches.specs.declared.searches.Searches.{Searches}
use Rattle.ledger_searches.specs.Hunting.{hunt_of}
use Rattle.ledger_searches.specs.Sharing.{AreTrueOf, Forgets, IsEmpty, IsTurned}
use Rattle.ledger_searches.proofs.Running.{if_some, true_set}

-- ---- the rule
-- marks and cached nodes beside begun searches, as a store grows
pub true_on : (half : Half) (m n : Lookup) (x : Searches) → Grows m n → AreTrueOf half m x → AreTrueOf half n x
true_on half m n x up t = record {
  marks = λ e there. full_grows half m n e.0 up (t.marks e there);
  cache = λ e there. held_grows half m n e.0 (held (e.1).value) up (t.cache e there);
  hunts = λ a. if_some (hunt_of x.hunts.items a) (λ h. Rule half m h.search x.cache x.marks) (λ h. Rule half n h.search x.cache x.marks)
      (λ h rule. rule_grows half m n up h.search x.cache x.marks rule) (t.hunts a);
}

-- nothing at all is true of any store
pub true_of_nothing : (half : Half) (nodes : Lookup) (x : Searches) → IsEmpty x → AreTrueOf half nodes x
true_of_nothing half nodes x none = record {
  marks = λ e there. absurd (Contains-nil e (subst (λ l. Contains l e) none.marks there));
  cache = λ e there. absurd (Contains-nil e (subst (λ l. Contains l e) none.cache there));
  hunts = λ a. subst (λ (o : Option Hunt). IfSome o (λ h. Rule half nodes h.search x.cache x.marks)) (sym (none.hunts a)) tt;
}

-- behind a turn
pub true_turned : (half : Half) (m n : Lookup) (x x' : Searches) → IsTurned x x' → AreTrueOf half m x → AreTrueOf half n x'
true_turned half m n x x' turned t = record {
  marks = λ e there. absurd (Contains-nil e (subst (λ l. Contains l e) turned.marks there));
  cache = λ e there. absurd (Contains-nil e (subst (λ l. Contains l e) turned.cache there));
  hunts = λ a. subst (λ (hs : List (Option Hunt)). IfSome (hunt_of hs a) (λ h. Rule half n h.search x'.cache x'.marks)) (sym turned.hunts)
      (if_some (hunt_of x.hunts.items a) (λ h. Rule half m h.search x.cache x.marks) (λ h. Rule half n h.search x'.cache x'.marks)
      (λ h rule. rule_turns half m n h.search x.cache x'.cache x.marks x'.marks rule turned.cache turned.marks turned.generation) (t.hunts a));
}

pub true_forgot : (half : Half) (nodes : Lookup) (a : ℕ) (x x' : Searches) → Forgets a x x' → AreTrueOf half nodes x
    → AreTrueOf half nodes x'
true_forgot half nodes a x x' forgets t = true_set half nodes a None x x' forgets.hunts forgets.marks forgets.cache tt t
