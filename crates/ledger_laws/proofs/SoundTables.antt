-- Tables whose keys rise stay such tables as entries come, change and go.
use Rattle.std.proofs.Common.{◌≡◌, Bool, true, false, cond, List, [], ◌∷◌, Some, refl, sym, ap, ◌∙◌, subst}
use Rattle.std.specs.List.{All, AllByRecursion, filter}
use Rattle.std.specs.List.Sorted.{IsStrictlySortedBy}
use Rattle.std.specs.Map.{keys_of, values_of, remove_entry, set_value}
use Rattle.std.specs.Cmp.{IsTotalOrder}
use Rattle.std.specs.Ordering.{match_ordering, ordering_reverse, nat_cmp}
use Rattle.std.specs.declared.cmp.Ordering.{Ordering}
use Rattle.std.specs.declared.cmp.Ordering.TheVariants.{Less, Equal, Greater}
use Rattle.std.proofs.lemmas.Map.{keys-set_value}
use Rattle.ledger_spec.specs.declared.Kind.TheVariants as kinds
use Rattle.ledger_spec.specs.Maps.{ForHash, ForActor, hash_cmp, numbered_cmp, IsMap, insert_in}
use Rattle.ledger_spec.specs.Bytes.{Half}
use Rattle.ledger_spec.specs.Tree.{AreItems}
use Rattle.ledger_spec.specs.Acquiring.{Acquiring}
use Rattle.ledger_machine.specs.State.{State, Session}
use Rattle.ledger_machine.specs.Sound.{AreTables}

-- what is greater the other way is less
turned : {K : Type 0} {R : K → K → Ordering} → IsTotalOrder R → (k h : K) → R k h ≡ Greater → R h k ≡ Less
turned o k h e = o.antisymm h k ∙ ap ordering_reverse e

-- the keys behind one that is greater are greater
all_behind : {K : Type 0} {R : K → K → Ordering} → IsTotalOrder R → (k h : K) (hs : List K) → R k h ≡ Less
    → AllByRecursion (λ y. R h y ≡ Less) hs → AllByRecursion (λ y. R k y ≡ Less) hs
all_behind o k h [] less all = tt
all_behind o k h (y ∷ hs) less all = (o.trans k h y less all.0, all_behind o k h hs less all.1)

module _ {K X : Type 0} {R : K → K → Ordering} (o : IsTotalOrder R) where
  -- each key after an entry was put is its key, or was one before
  all_keys_inserted : (P : K → Type 0) (m : List (K × X)) (k : K) (x : X) → AllByRecursion P (keys_of m) → P k
      → AllByRecursion P (keys_of (insert_in R m k x))
  all_keys_inserted P [] k x all own = (own, tt)
  all_keys_inserted P (e ∷ m) k x all own = by (R k e.0) (all_keys_inserted P m k x all.1 own)
    where
      by : (r : Ordering) → AllByRecursion P (keys_of (insert_in R m k x))
          → AllByRecursion P (keys_of (match_ordering r ((k, x) ∷ e ∷ m) ((e.0, x) ∷ m) (e ∷ insert_in R m k x)))
      by Less rest = (own, all)
      by Equal rest = all
      by Greater rest = (all.0, rest)

  pub insert_rises : (m : List (K × X)) (k : K) (x : X) → IsMap R m → IsMap R (insert_in R m k x)
  unfolding IsStrictlySortedBy
  insert_rises [] k x rises = (tt, tt)
  insert_rises (e ∷ m) k x rises = by (R k e.0) refl (insert_rises m k x rises.1)
    where
      by : (r : Ordering) → R k e.0 ≡ r → IsMap R (insert_in R m k x)
          → IsMap R (match_ordering r ((k, x) ∷ e ∷ m) ((e.0, x) ∷ m) (e ∷ insert_in R m k x))
      by Less is rest = ((is, all_behind o k e.0 (keys_of m) is rises.0), rises)
      by Equal is rest = rises
      by Greater is rest = (all_keys_inserted (λ y. R e.0 y ≡ Less) m k x rises.0 (turned o k e.0 is), rest)

-- a table without entries
pub none_rises : {K : Type 0} (R : K → K → Ordering) → IsStrictlySortedBy R []
unfolding IsStrictlySortedBy
none_rises R = tt

-- the keys that are left were keys before
all_keys_removed : {K X : Type 0} (P : K → Type 0) (test : K → Bool) (m : List (K × X)) → AllByRecursion P (keys_of m)
    → AllByRecursion P (keys_of (remove_entry test m))
all_keys_removed P test [] all = tt
all_keys_removed P test (e ∷ m) all = by (test e.0) (all_keys_removed P test m all.1)
  where
    by : (b : Bool) → AllByRecursion P (keys_of (remove_entry test m)) → AllByRecursion P (keys_of (cond b m (e ∷ remove_entry test m)))
    by true rest = all.1
    by false rest = (all.0, rest)

pub remove_rises : {K X : Type 0} (R : K → K → Ordering) (test : K → Bool) (m : List (K × X)) → IsMap R m → IsMap R (remove_entry test m)
unfolding IsStrictlySortedBy
remove_rises R test [] rises = tt
remove_rises R test (e ∷ m) rises = by (test e.0) (remove_rises R test m rises.1)
  where
    by : (b : Bool) → IsMap R (remove_entry test m) → IsMap R (cond b m (e ∷ remove_entry test m))
    by true rest = rises.1
    by false rest = (all_keys_removed (λ y. R e.0 y ≡ Less) test m rises.0, rest)

-- the keys of entries that pass a test were keys before
all_keys_filtered : {K X : Type 0} (P : K → Type 0) (test : K × X → Bool) (m : List (K × X)) → AllByRecursion P (keys_of m)
    → AllByRecursion P (keys_of (filter test m))
all_keys_filtered P test [] all = tt
all_keys_filtered P test (e ∷ m) all = by (test e) (all_keys_filtered P test m all.1)
  where
    by : (b : Bool) → AllByRecursion P (keys_of (filter test m)) → AllByRecursion P (keys_of (cond b (e ∷ filter test m) (filter test m)))
    by true rest = (all.0, rest)
    by false rest = rest

-- keys that are left out leave the others rising
pub filter_rises : {K X : Type 0} (R : K → K → Ordering) (test : K × X → Bool) (m : List (K × X)) → IsMap R m → IsMap R (filter test m)
unfolding IsStrictlySortedBy
filter_rises R test [] rises = tt
filter_rises R test (e ∷ m) rises = by (test e) (filter_rises R test m rises.1)
  where
    by : (b : Bool) → IsMap R (filter test m) → IsMap R (cond b (e ∷ filter test m) (filter test m))
    by true rest = (all_keys_filtered (λ y. R e.0 y ≡ Less) test m rises.0, rest)
    by false rest = rest

pub set_rises : {K X : Type 0} (R : K → K → Ordering) (test : K → Bool) (m : List (K × X)) (x : X) → IsMap R m
    → IsMap R (set_value test m x)
set_rises R test m x rises = subst (λ ks. IsStrictlySortedBy R ks) (sym (keys-set_value test m x)) rises

pub same_some : {A : Type 0} {x y : A} → Some x ≡ Some y → x ≡ y
same_some e = cc

-- the same tables
pub same_tables : (half : Half) (s s' : State) → s'.listed ≡ s.listed → s'.wanted ≡ s.wanted → s'.views ≡ s.views → s'.sessions ≡ s.sessions
    → AreTables half s → AreTables half s'
same_tables half s s' listed wanted views sessions t = record {
  listed = subst (λ m. IsMap hash_cmp m) (sym listed) t.listed;
  wanted = subst (λ m. IsMap hash_cmp m) (sym wanted) t.wanted;
  charges = subst (λ (m : ForHash Acquiring). All (λ a. IsMap nat_cmp a.peers.charges) (values_of m)) (sym wanted) t.charges;
  views = subst (λ m. IsMap numbered_cmp m) (sym views) t.views;
  sessions = subst (λ m. IsMap numbered_cmp m) (sym sessions) t.sessions;
  edits = subst (λ (m : ForActor Session). All (λ e. AreItems half kinds.State e.accounts × AreItems half kinds.Tx e.txs) (values_of m))
      (sym sessions) t.edits;
}
