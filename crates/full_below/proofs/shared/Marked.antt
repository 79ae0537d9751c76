-- Keys that were marked last are marked. For proofs of other crates.
use Rattle.std.proofs.Common.{◌≡◌, ℕ, suc, ◌-◌, ◌≤◌, Bool, true, false, is_some, List, [], ◌∷◌, take, Option, None, Some, refl, sym, ap}
use Rattle.std.proofs.Common.{◌∙◌, arith}
use Rattle.std.specs.Option.{option_map_or}
use Rattle.std.specs.Map.{lookup, lookup_entry, remove_entry}
use Rattle.lru.specs.LruCache.{put_entries}
use Rattle.lru.proofs.CallerLemmas.{lookup-put_entries, Contains-lookup_entry}
use Rattle.full_below.specs.declared.key.MarkKey.{MarkKey}
use Rattle.full_below.specs.declared.marks.Marks.{Marks}
use Rattle.full_below.specs.Keys.{same_mark}
use Rattle.full_below.specs.SameKeys.{mark_exact, mark_own, marks_alike}
use Rattle.full_below.specs.Marking.{is_marked, after_mark, after_use}

-- the key that was marked
pub mark_is : (m : Marks) (key : MarkKey) → is_marked (after_mark m key) key ≡ true
mark_is m key = ap is_some (lookup-put_entries same_mark m.entries key m.generation marks_alike)

-- the key stands first
pub record Leads (m : Marks) (key : MarkKey) : Type 0 where
  pub value : ℕ
  pub rest : List (MarkKey × ℕ)
  pub is : m.entries.entries ≡ (key, value) ∷ rest

leads_by : (m : Marks) (key : MarkKey) (o : Option (MarkKey × ℕ)) → lookup_entry (same_mark key) m.entries.entries ≡ o
    → put_entries same_mark m.entries key m.generation
    ≡ option_map_or (λ e. (e.0, m.generation) ∷ remove_entry (same_mark key) m.entries.entries) o
    ((key, m.generation) ∷ take (m.entries.cap - 1) m.entries.entries)
    → Leads (after_mark m key) key
leads_by m key None is e = record { value = m.generation; rest = take (m.entries.cap - 1) m.entries.entries; is = e }
leads_by m key (Some f) is e =
    let same : key ≡ f.0 = mark_exact key f.0 (Contains-lookup_entry (same_mark key) m.entries.entries f is).1 in
    record {
      value = m.generation;
      rest = remove_entry (same_mark key) m.entries.entries;
      is = e ∙ ap (λ k. (k, m.generation) ∷ remove_entry (same_mark key) m.entries.entries) (sym same);
    }

pub mark_leads : (m : Marks) (key : MarkKey) → Leads (after_mark m key) key
mark_leads m key =
    leads_by m key (lookup_entry (same_mark key) m.entries.entries) refl refl

head_found : (key : MarkKey) (v : ℕ) (rest : List (MarkKey × ℕ)) → is_some (lookup (same_mark key) ((key, v) ∷ rest)) ≡ true
head_found key v rest = rw (mark_own key) refl

second_found : (key : MarkKey) (e : MarkKey × ℕ) (v : ℕ) (rest : List (MarkKey × ℕ)) (b : Bool) → same_mark key e.0 ≡ b
    → is_some (lookup (same_mark key) (e ∷ (key, v) ∷ rest)) ≡ true
second_found key e v rest true is = rw is refl
second_found key e v rest false is = rw (is, mark_own key) refl

two : (n : ℕ) → 2 ≤ n → n - 1 ≡ suc (n - 2)
two n le = omega (arith, le)

stays_by : (m : Marks) (first key : MarkKey) (v : ℕ) (rest : List (MarkKey × ℕ)) → m.entries.entries ≡ (first, v) ∷ rest
    → same_mark key first ≡ false → 2 ≤ m.entries.cap
    → (o : Option (MarkKey × ℕ))
    → is_some (lookup (same_mark first) (option_map_or (λ e. (e.0, m.generation) ∷ remove_entry (same_mark key) ((first, v) ∷ rest)) o
    ((key, m.generation) ∷ take (m.entries.cap - 1) ((first, v) ∷ rest)))) ≡ true
stays_by m first key v rest is other room None =
    ap (λ n. is_some (lookup (same_mark first) ((key, m.generation) ∷ take n ((first, v) ∷ rest)))) (two m.entries.cap room)
    ∙ second_found first (key, m.generation) v (take (m.entries.cap - 2) rest) (same_mark first key) refl
stays_by m first key v rest is other room (Some f) =
    rw other (second_found first (f.0, m.generation) v (remove_entry (same_mark key) rest) (same_mark first f.0) refl)

-- where there is room for two, the first one stays as another key is marked
pub first_stays : (m : Marks) (first key : MarkKey) → Leads m first → same_mark key first ≡ false → 2 ≤ m.entries.cap
    → is_marked (after_mark m key) first ≡ true
first_stays m first key l other room =
    ap (λ es. is_some (lookup (same_mark first) (option_map_or (λ e. (e.0, m.generation) ∷ remove_entry (same_mark key) es)
    (lookup_entry (same_mark key) es) ((key, m.generation) ∷ take (m.entries.cap - 1) es)))) l.is
    ∙ stays_by m first key l.value l.rest l.is other room (lookup_entry (same_mark key) ((first, l.value) ∷ l.rest))

-- what is still there without the first entry of another key
rest_found : (key k : MarkKey) (es : List (MarkKey × ℕ)) (e : MarkKey × ℕ) → lookup_entry (same_mark key) es ≡ Some e
    → same_mark k e.0 ≡ false → is_some (lookup (same_mark k) es) ≡ true
    → is_some (lookup (same_mark k) (remove_entry (same_mark key) es)) ≡ true
rest_found key k [] e first other there = cc
rest_found key k (f ∷ es) e first other there = (elim (same_mark key f.0) as (λ y. same_mark key f.0 ≡ y
    → is_some (lookup (same_mark k) (remove_entry (same_mark key) (f ∷ es))) ≡ true) [
      | true ↦ λ t.
          let h = rw t at first in
          let same : f ≡ e = cc in
          let apart : same_mark k f.0 ≡ false = ap (λ x. same_mark k x.0) same ∙ other in
          rw t (rw apart at there)
      | false ↦ λ t.
          (elim (same_mark k f.0) as (λ z. same_mark k f.0 ≡ z
          → is_some (lookup (same_mark k) (remove_entry (same_mark key) (f ∷ es))) ≡ true) [
            | true ↦ λ z. rw (t, z) refl
            | false ↦ λ z. rw (t, z) (rest_found key k es e (rw t at first) other (rw z at there))
          ]) refl
    ]) refl

front_found : (key k : MarkKey) (es : List (MarkKey × ℕ)) (o : Option (MarkKey × ℕ)) → lookup_entry (same_mark key) es ≡ o
    → is_some (lookup (same_mark k) es) ≡ true
    → is_some (lookup (same_mark k) (option_map_or (λ e. e ∷ remove_entry (same_mark key) es) o es)) ≡ true
front_found key k es None first there = there
front_found key k es (Some e) first there = (elim (same_mark k e.0) as (λ z. same_mark k e.0 ≡ z
    → is_some (lookup (same_mark k) (e ∷ remove_entry (same_mark key) es)) ≡ true) [
      | true ↦ λ z. rw z refl
      | false ↦ λ z. rw z (rest_found key k es e first z there)
    ]) refl

-- what is marked stays so as a key is used
pub use_stays : (m : Marks) (key k : MarkKey) → is_marked m k ≡ true → is_marked (after_use m key) k ≡ true
use_stays m key k there = front_found key k m.entries.entries (lookup_entry (same_mark key) m.entries.entries) refl there
