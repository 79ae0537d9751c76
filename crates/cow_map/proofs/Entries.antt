-- A change of one branch's entries is that change of all of them.
use Rattle.std.proofs.Common.{◌≡◌, ◌≤◌, Bool, true, false, cond, List, [], ◌∷◌, ◌++◌, length, None, Some, refl, sym, ap, ◌∙◌, arith}
use Rattle.std.proofs.Common.{append_assoc}
use Rattle.std.specs.Ordering.{match_ordering, is_eq}
use Rattle.std.specs.declared.cmp.Ordering.{Ordering}
use Rattle.std.specs.declared.cmp.Ordering.TheVariants.{Less, Equal, Greater}
use Rattle.std.specs.BTreeMap.{is_at}
use Rattle.ledger_spec.specs.Bytes.{Bytes, Hash}
use Rattle.ledger_spec.specs.Maps.{hash_cmp, insert_in, get_in, remove_in}
use Rattle.ledger_spec.specs.Tree.{Entry}
use Rattle.cow_map.proofs.shared.Entries.{AllCompare}

module _ (key : Hash) (value : Bytes) where
  insert_step : (o : Ordering) (e : Entry) (es : List Entry) → hash_cmp key e.0 ≡ o
      → insert_in hash_cmp (e ∷ es) key value ≡ match_ordering o ((key, value) ∷ e ∷ es) ((e.0, value) ∷ es)
      (e ∷ insert_in hash_cmp es key value)
  insert_step o e es is = ap (λ r. match_ordering r ((key, value) ∷ e ∷ es) ((e.0, value) ∷ es) (e ∷ insert_in hash_cmp es key value)) is

  pub insert_behind : (front back : List Entry) → AllCompare Greater key front
      → insert_in hash_cmp (front ++ back) key value ≡ front ++ insert_in hash_cmp back key value
  insert_behind [] back h = refl
  insert_behind (e ∷ front) back h = insert_step Greater e (front ++ back) h.0 ∙ ap (λ es. e ∷ es) (insert_behind front back h.1)

  pub insert_first : (back : List Entry) → AllCompare Less key back → insert_in hash_cmp back key value ≡ (key, value) ∷ back
  insert_first [] h = refl
  insert_first (e ∷ back) h = insert_step Less e back h.0

  pub insert_before : (front back : List Entry) → AllCompare Less key back
      → insert_in hash_cmp (front ++ back) key value ≡ insert_in hash_cmp front key value ++ back
  insert_before [] back h = insert_first back h
  insert_before (e ∷ front) back h = by (hash_cmp key e.0) refl (insert_before front back h)
    where
      by : (o : Ordering) → hash_cmp key e.0 ≡ o
          → insert_in hash_cmp (front ++ back) key value ≡ insert_in hash_cmp front key value ++ back
          → insert_in hash_cmp (e ∷ front ++ back) key value ≡ insert_in hash_cmp (e ∷ front) key value ++ back
      by Less is rest = insert_step Less e (front ++ back) is ∙ sym (ap (λ es. es ++ back) (insert_step Less e front is))
      by Equal is rest = insert_step Equal e (front ++ back) is ∙ sym (ap (λ es. es ++ back) (insert_step Equal e front is))
      by Greater is rest =
          insert_step Greater e (front ++ back) is ∙ ap (λ es. e ∷ es) rest ∙ sym (ap (λ es. es ++ back) (insert_step Greater e front is))

  pub insert_between : (front mid back : List Entry) → AllCompare Greater key front → AllCompare Less key back
      → insert_in hash_cmp (front ++ mid ++ back) key value ≡ front ++ insert_in hash_cmp mid key value ++ back
  insert_between front mid back low high =
      ap (λ es. insert_in hash_cmp es key value) (append_assoc front mid back)
      ∙ insert_behind front (mid ++ back) low
      ∙ ap (λ es. front ++ es) (insert_before mid back high)
      ∙ sym (append_assoc front (insert_in hash_cmp mid key value) back)

  pub insert_longer : (es : List Entry) → length es ≤ length (insert_in hash_cmp es key value)
  insert_longer [] = omega arith
  insert_longer (e ∷ es) = by (hash_cmp key e.0) refl (insert_longer es)
    where
      by : (o : Ordering) → hash_cmp key e.0 ≡ o → length es ≤ length (insert_in hash_cmp es key value)
          → length (e ∷ es) ≤ length (insert_in hash_cmp (e ∷ es) key value)
      by Less is more = rw (insert_step Less e es is) (omega arith)
      by Equal is more = rw (insert_step Equal e es is) (omega arith)
      by Greater is more = rw (insert_step Greater e es is) (omega arith)

module _ (key : Hash) where
  test : Hash → Bool
  test k = is_at (hash_cmp key) k

  apart : (o : Ordering) (e : Entry) → hash_cmp key e.0 ≡ o → is_eq o ≡ false → is_at (hash_cmp key) e.0 ≡ false
  apart o e is other = ap is_eq is ∙ other

  lookup_step : (e : Entry) (es : List Entry) → is_at (hash_cmp key) e.0 ≡ false → get_in hash_cmp (e ∷ es) key ≡ get_in hash_cmp es key
  lookup_step e es other = ap (λ b. cond b (Some e.1) (get_in hash_cmp es key)) other

  pub get_none : (o : Ordering) (es : List Entry) → is_eq o ≡ false → AllCompare o key es → get_in hash_cmp es key ≡ None
  get_none o [] other h = refl
  get_none o (e ∷ es) other h = lookup_step e es (apart o e h.0 other) ∙ get_none o es other h.1

  pub get_behind : (front back : List Entry) → AllCompare Greater key front
      → get_in hash_cmp (front ++ back) key ≡ get_in hash_cmp back key
  get_behind [] back h = refl
  get_behind (e ∷ front) back h = lookup_step e (front ++ back) (apart Greater e h.0 refl) ∙ get_behind front back h.1

  pub get_before : (front back : List Entry) → AllCompare Less key back → get_in hash_cmp (front ++ back) key ≡ get_in hash_cmp front key
  get_before [] back h = get_none Less back refl h
  get_before (e ∷ front) back h = ap (λ o. cond (is_at (hash_cmp key) e.0) (Some e.1) o) (get_before front back h)

  pub get_between : (front mid back : List Entry) → AllCompare Greater key front → AllCompare Less key back
      → get_in hash_cmp (front ++ mid ++ back) key ≡ get_in hash_cmp mid key
  get_between front mid back low high =
      ap (λ es. get_in hash_cmp es key) (append_assoc front mid back) ∙ get_behind front (mid ++ back) low ∙ get_before mid back high

  remove_step : (e : Entry) (es : List Entry) → is_at (hash_cmp key) e.0 ≡ false
      → remove_in hash_cmp (e ∷ es) key ≡ e ∷ remove_in hash_cmp es key
  remove_step e es other = ap (λ b. cond b es (e ∷ remove_in hash_cmp es key)) other

  pub remove_none : (es : List Entry) → AllCompare Less key es → remove_in hash_cmp es key ≡ es
  remove_none [] h = refl
  remove_none (e ∷ es) h = remove_step e es (apart Less e h.0 refl) ∙ ap (λ r. e ∷ r) (remove_none es h.1)

  pub remove_behind : (front back : List Entry) → AllCompare Greater key front
      → remove_in hash_cmp (front ++ back) key ≡ front ++ remove_in hash_cmp back key
  remove_behind [] back h = refl
  remove_behind (e ∷ front) back h = remove_step e (front ++ back) (apart Greater e h.0 refl)
      ∙ ap (λ r. e ∷ r) (remove_behind front back h.1)

  pub remove_before : (front back : List Entry) → AllCompare Less key back
      → remove_in hash_cmp (front ++ back) key ≡ remove_in hash_cmp front key ++ back
  remove_before [] back h = remove_none back h
  remove_before (e ∷ front) back h = by (is_at (hash_cmp key) e.0) refl (remove_before front back h)
    where
      by : (b : Bool) → is_at (hash_cmp key) e.0 ≡ b → remove_in hash_cmp (front ++ back) key ≡ remove_in hash_cmp front key ++ back
          → remove_in hash_cmp (e ∷ front ++ back) key ≡ remove_in hash_cmp (e ∷ front) key ++ back
      by true is rest = ap (λ t. cond t (front ++ back) (e ∷ remove_in hash_cmp (front ++ back) key)) is
          ∙ sym (ap (λ t. cond t front (e ∷ remove_in hash_cmp front key) ++ back) is)
      by false is rest = remove_step e (front ++ back) is ∙ ap (λ r. e ∷ r) rest
          ∙ sym (ap (λ t. cond t front (e ∷ remove_in hash_cmp front key) ++ back) is)

  pub remove_between : (front mid back : List Entry) → AllCompare Greater key front → AllCompare Less key back
      → remove_in hash_cmp (front ++ mid ++ back) key ≡ front ++ remove_in hash_cmp mid key ++ back
  remove_between front mid back low high =
      ap (λ es. remove_in hash_cmp es key) (append_assoc front mid back)
      ∙ remove_behind front (mid ++ back) low
      ∙ ap (λ es. front ++ es) (remove_before mid back high)
      ∙ sym (append_assoc front (remove_in hash_cmp mid key) back)
