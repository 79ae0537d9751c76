-- Records that are put into a store that holds nothing.
use Rattle.std.proofs.Common.{◌≡◌, ⊎_elim, ℕ, zero, suc, ◌+◌, ◌<◌, Bool, IsTrue, List, [], ◌∷◌, ◌∙◌, length, drop, get_or}
use Rattle.std.proofs.Common.{Option, None, Some, Contains, refl, sym, ap, subst}
use Rattle.std.specs.FinMap as map
use Rattle.std.proofs.lemmas.List.{drop_more}
use Rattle.std.proofs.lemmas.Option.{none-some}
use Rattle.ledger_spec.specs.Maps.{hash_cmp}
use Rattle.ledger_spec.specs.Bytes.{Bytes, Hash, Nodes}
use Rattle.ledger_machine.specs.declared.commands.Record.{Record}
use Rattle.ledger_machine.specs.Records.{AreDistinct, hashes_of, with_records}
use Rattle.rotating_store.specs.Puts.{MayStore}
use Rattle.rotating_store.specs.Stores.{Store, merged, nodes_of, Counted, with_pair}
use Rattle.rotating_store.proofs.shared.Merging.{merged-insert, merged_empty}
use Rattle.core_machine.specs.Dumping.{HoldsOf}
use Rattle.ledger_laws.proofs.shared.SoundForms.{new_or_old, in_head, in_tail}

-- The first i of the records were put into a store that held nothing, and no hash of the others is there.
pub record ArePut (told : Bool) (records : List Record) (i : ℕ) (st : Store) : Type 0 where
  pub archive : IsTrue told → st.archive ≡ map.empty
  pub writable : IsTrue told → with_records st.writable (drop i records) ≡ with_records map.empty records
  pub absent : IsTrue told → (h : Hash) → Contains (hashes_of (drop i records)) h → map.get (nodes_of st) h ≡ None

-- what isn't some value is none
none_if : {X : Type 0} (o : Option X) → ((x : X) → o ≡ Some x → ⊥) → o ≡ None
none_if None not = refl
none_if (Some x) not = absurd (not x refl)

pub none_put : (told : Bool) (records : List Record) (st : Store)
    → (IsTrue told → (st.writable ≡ map.empty) × (st.archive ≡ map.empty)) → ArePut told records 0 st
none_put told records st empty = record {
  archive = λ t. (empty t).1;
  writable = λ t. ap (λ (w : Nodes). with_records w records) (empty t).0;
  absent = λ t h c.
      ap (λ (n : Nodes). map.get n h)
      (ap (λ (w : Nodes). merged w st.archive) (empty t).0 ∙ merged_empty st.archive ∙ (empty t).1)
      ∙ map.get-empty hash_cmp h;
}

-- nothing is stored
pub none_held : (told : Bool) (records : List Record) (st : Store)
    → (IsTrue told → (st.writable ≡ map.empty) × (st.archive ≡ map.empty)) → IsTrue told → HoldsOf records (nodes_of st)
none_held told records st empty t h form e =
    let none : None ≡ Some form =
    sym (ap (λ (n : Nodes). map.get n h)
    (ap (λ (w : Nodes). merged w st.archive) (empty t).0 ∙ merged_empty st.archive ∙ (empty t).1)
    ∙ map.get-empty hash_cmp h) ∙ e in
    cc

-- a store that holds the same
held_same : (records : List Record) (st st' : Store) → Counted st st' → HoldsOf records (nodes_of st) → HoldsOf records (nodes_of st')
held_same records st st' same held =
    subst (HoldsOf records) (sym (ap (λ (x : Store). nodes_of x) same)) held

-- a record more
pub held_more : (records : List Record) (r : Record) (st st' : Store) → Contains records r → Counted (with_pair st r.hash r.form) st'
    → HoldsOf records (nodes_of st) → HoldsOf records (nodes_of st')
held_more records r st st' among put held h form e =
    let now : map.get (map.insert (nodes_of st) r.hash r.form) h ≡ Some form =
    sym (ap (λ (x : Store). map.get (nodes_of x) h) put
    ∙ ap (λ (n : Nodes). map.get n h) (merged-insert st.writable st.archive r.hash r.form)) ∙ e in
    ⊎_elim (λ old. held h form old)
    (λ new. let same : r ≡ record { hash = h; form = form } = (λ i. record { hash = sym new.0 i; form = sym new.1 i }) in
    subst (Contains records) same among)
    (new_or_old (nodes_of st) r.hash r.form h form now)

-- a record that may have been stored
pub held_maybe : (records : List Record) (r : Record) (st st' : Store) → Contains records r → MayStore st r.hash r.form st'
    → HoldsOf records (nodes_of st) → HoldsOf records (nodes_of st')
held_maybe records r st st' among may held =
    ⊎_elim (λ same. held_same records st st' same held) (λ put. held_more records r st st' among put.1 held) may

-- the others are distinct too
distinct_drop : (records : List Record) (i : ℕ) → AreDistinct (hashes_of records) → AreDistinct (hashes_of (drop i records))
distinct_drop records zero d = d
distinct_drop [] (suc i) d = d
distinct_drop (r ∷ records) (suc i) d = distinct_drop records i d.1

module _ (records : List Record) (i : ℕ) (r : Record) (lt : i < length records) (is : r ≡ get_or records i r) where
  rest_is : drop i records ≡ r ∷ drop (i + 1) records
  rest_is = drop_more records i r lt ∙ ap (λ (x : Record). x ∷ drop (i + 1) records) (sym is)

  -- the next record isn't there
  pub next_absent : (told : Bool) (st : Store) → ArePut told records i st → IsTrue told → map.get (nodes_of st) r.hash ≡ None
  next_absent told st put t =
      put.absent t r.hash (subst (λ (x : List Record). Contains (hashes_of x) r.hash) (sym rest_is)
      (in_head r.hash (hashes_of (drop (i + 1) records))))

  -- one record more
  pub one_put : (told : Bool) (st st' : Store) → AreDistinct (hashes_of records) → ArePut told records i st
      → (IsTrue told → Counted (with_pair st r.hash r.form) st') → ArePut told records (i + 1) st'
  one_put told st st' distinct put stored = record {
    archive = λ t. ap (λ (x : Store). x.archive) (stored t) ∙ put.archive t;
    writable = λ t.
        ap (λ (x : Store). with_records x.writable (drop (i + 1) records)) (stored t)
        ∙ ap (with_records st.writable) (sym rest_is) ∙ put.writable t;
    absent = λ t h c.
        ap (λ (x : Store). map.get (nodes_of x) h) (stored t)
        ∙ ap (λ (n : Nodes). map.get n h) (merged-insert st.writable st.archive r.hash r.form)
        ∙ none_if _ (λ now e. ⊎_elim
        (λ old. other h c now old t)
        (λ new. (subst (λ (x : List Record). AreDistinct (hashes_of x)) rest_is (distinct_drop records i distinct)).0
        (subst (Contains (hashes_of (drop (i + 1) records))) new.0 c))
        (new_or_old (nodes_of st) r.hash r.form h now e));
  }
    where
      other : (h : Hash) → Contains (hashes_of (drop (i + 1) records)) h → (now : Bytes) → map.get (nodes_of st) h ≡ Some now
          → IsTrue told → ⊥
      other h c now old t =
          none-some _ (sym (put.absent t h (subst (λ (x : List Record). Contains (hashes_of x) h) (sym rest_is)
          (in_tail r.hash h (hashes_of (drop (i + 1) records)) c))) ∙ old)
