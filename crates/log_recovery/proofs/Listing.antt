-- What is recovered is what a store may begin with: forms that may be stored, each under a hash of its own, no hash twice.
use Rattle.std.proofs.Common.{◌≡◌, inl, inr, ◌<◌, ◌∙◌, sym, ap, refl, subst, ℕ, Bool, true, false, List, [], ◌∷◌, cond, map}
use Rattle.std.proofs.Common.{length, take, drop, Option, Some, None, arith}
use Rattle.std.specs.Prelude.{T}
use Rattle.std.specs.List.{All, Contains, filter}
use Rattle.std.specs.Ordering.{is_eq, eq_by_cmp}
use Rattle.std.specs.Cmp.{tied_itself}
use Rattle.std.specs.Cmp.Lexicographic.{nat_list_cmp_total}
use Rattle.std.specs.FinMap as finite
use Rattle.std.specs.FinMap.{find, get-insert, get-empty, is_sorted}
use Rattle.std.specs.FinMap.Entries.{below_all}
use Rattle.std.proofs.lemmas.List.Elements.{All-nil, All-cons, Contains-push_cases, Contains-append_cases}
use Rattle.ledger_spec.specs.Maps.{hash_cmp}
use Rattle.ledger_spec.specs.Bytes.{Bytes, Hash, Half, Nodes}
use Rattle.ledger_spec.specs.Own.{IsStoredAt}
use Rattle.ledger_machine.proofs.shared.Entries.{Entries, said, first, second, found_below, found_first}
use Rattle.ledger_machine.specs.declared.commands.Record.{Record}
use Rattle.ledger_machine.specs.Records.{hashes_of, AreDistinct, AreRecords}
use Rattle.log_shelf.specs.Backends.{nodes_after}
use Rattle.log_shelf.specs.Rooms.{Files}
use Rattle.log_shelf.specs.Recovery.{entries_at, recovered_after, IsRecovered}
use Rattle.log_shelf.proofs.shared.Recovery.{same_key}
use Rattle.log_recovery.specs.Records.{is_record, records_of}
use Rattle.log_recovery.proofs.Fitting.{record_stored}

some_none : {A P : Type 0} (o : Option A) (v : A) → o ≡ None → o ≡ Some v → P
some_none o v none some = absurd (cc)

-- each pair of the map may be stored
abbrev AreStored : Half → Nodes → Type 0
AreStored half m = (h : Hash) (v : Bytes) → finite.get m h ≡ Some v → IsStoredAt half h v

module _ (half : Half) (sized : (x : Bytes) → length (half x) ≡ 32) where
  one_more : (b : Bool) (h k : Hash) (v w : Bytes) (o : Option Bytes) → (b ≡ true → h ≡ k) → cond b (Some w) o ≡ Some v
      → IsStoredAt half k w → (o ≡ Some v → IsStoredAt half h v) → IsStoredAt half h v
  one_more true h k v w o same is new old =
      subst (λ (x : Bytes). IsStoredAt half h x) (cc) (subst (λ (x : Hash). IsStoredAt half x w) (sym (same refl)) new)
  one_more false h k v w o same is new old = old is

  stored_insert : (m : Nodes) (k : Hash) (w : Bytes) → AreStored half m → IsStoredAt half k w → AreStored half (finite.insert m k w)
  stored_insert m k w all new h v is =
      one_more (eq_by_cmp hash_cmp h k) h k v w (finite.get m h) (λ e. same_key h k e) (sym (get-insert nat_list_cmp_total m k w h) ∙ is)
      new (all h v)

  stored_entry : (m : Nodes) (e : Bytes) (es : List Bytes) (b : Bool) → is_record half e ≡ b → AreStored half m
      → ((next : Nodes) → AreStored half next → AreStored half (nodes_after next es))
      → AreStored half (nodes_after m (cond b (e ∷ es) es))
  stored_entry m e es true is all rest =
      rest (finite.insert m (take 32 e) (drop 32 e)) (stored_insert m (take 32 e) (drop 32 e) all (record_stored half sized e is))
  stored_entry m e es false is all rest = rest m all

  stored_after : (m : Nodes) (es : List Bytes) → AreStored half m → AreStored half (nodes_after m (filter (is_record half) es))
  stored_after m [] all = all
  stored_after m (e ∷ es) all =
      stored_entry m e (filter (is_record half) es) (is_record half e) refl all (λ next stored. stored_after next es stored)

  stored_recovered : (files : Files) (numbers : List ℕ) (m : Nodes) → AreStored half m
      → AreStored half (recovered_after (is_record half) m files numbers)
  stored_recovered files [] m all = all
  stored_recovered files (n ∷ numbers) m all =
      stored_recovered files numbers (nodes_after m (filter (is_record half) (entries_at files n))) (stored_after m (entries_at files n) all)

  all_stored : (files : Files) (found : Nodes) → IsRecovered (is_record half) files found → AreStored half found
  all_stored files found is =
      subst (λ (m : Nodes). AreStored half m) (sym is.nodes)
      (stored_recovered files is.numbers finite.empty (λ h v some. some_none _ v (get-empty {X = Bytes} hash_cmp h) some))

found_later : (b : Bool) (q k : Hash) (v w : Bytes) (o : Option Bytes) → (b ≡ true → q ≡ k) → (q ≡ k → o ≡ None) → o ≡ Some v
    → cond b (Some w) o ≡ Some v
found_later true q k v w o same none some = some_none o v (none (same refl)) some
found_later false q k v w o same none some = some

all_listed : (P : Record → Type 0) (es : Entries) → T (is_sorted hash_cmp es)
    → ((h : Hash) (v : Bytes) → find hash_cmp h es ≡ Some v → P (said (h, v))) → All P (map said es)
all_listed P [] rise holds = All-nil P
all_listed P (e ∷ es) rise holds =
    let below = first (below_all hash_cmp e.0 es) (is_sorted hash_cmp es) rise in
    All-cons P (said e) (map said es) (holds e.0 e.1 (found_first e es))
    (all_listed P es (second (below_all hash_cmp e.0 es) (is_sorted hash_cmp es) rise)
    (λ h v is. holds h v (found_later (eq_by_cmp hash_cmp h e.0) h e.0 v e.1 (find hash_cmp h es) (λ t. same_key h e.0 t)
    (λ same. subst (λ (q : Hash). find hash_cmp q es ≡ None) (sym same) (found_below e.0 es below)) is)))

none_there : (h : Hash) → Contains {X = Hash} [] h → ⊥
none_there h is = let lt : is.0 < 0 = is.1 in absurd (omega (arith, lt))

only_one : (x h : Hash) → Contains (x ∷ []) h → x ≡ h
only_one x h is = elim (Contains-push_cases [] x h is) [ inl none ↦ absurd (none_there h none) | inr same ↦ same ]

not_found : (b : Bool) (w : Bytes) (o : Option Bytes) → cond b (Some w) o ≡ None → (b ≡ false) × (o ≡ None)
not_found true w o e = absurd (cc)
not_found false w o e = (refl, e)

not_listed : (es : Entries) (h : Hash) → find hash_cmp h es ≡ None → Contains (hashes_of (map said es)) h → ⊥
not_listed [] h none is = none_there h is
not_listed (e ∷ es) h none is =
    let other = not_found (eq_by_cmp hash_cmp h e.0) e.1 (find hash_cmp h es) none in
    elim (Contains-append_cases (e.0 ∷ []) (hashes_of (map said es)) h is) [
      | inl one ↦
          let same : e.0 ≡ h = only_one e.0 h one in
          let tied : eq_by_cmp hash_cmp h e.0 ≡ true =
          subst (λ (q : Hash). eq_by_cmp hash_cmp q e.0 ≡ true) same (ap is_eq (tied_itself nat_list_cmp_total e.0)) in
          absurd (cc)
      | inr more ↦ not_listed es h other.1 more
    ]

all_distinct : (es : Entries) → T (is_sorted hash_cmp es) → AreDistinct (hashes_of (map said es))
all_distinct [] rise = tt
all_distinct (e ∷ es) rise = (
  not_listed es e.0 (found_below e.0 es (first (below_all hash_cmp e.0 es) (is_sorted hash_cmp es) rise)),
  all_distinct es (second (below_all hash_cmp e.0 es) (is_sorted hash_cmp es) rise),
)

-- what is recovered are records that a store may begin with
pub records_fit : (half : Half) (sized : (x : Bytes) → length (half x) ≡ 32) (files : Files) (found : Nodes) (records : List Record)
    → IsRecovered (is_record half) files found → records ≡ records_of found → AreRecords half records
records_fit half sized files found records is each =
    subst (λ (rs : List Record). AreRecords half rs) (sym each) (record {
      own = all_listed (λ r. IsStoredAt half r.hash r.form) (finite.entries found) (finite.entries_sorted found)
          (λ h v some. all_stored half sized files found is h v (finite.get-entries found h ∙ some));
      distinct = all_distinct (finite.entries found) (finite.entries_sorted found);
    })
