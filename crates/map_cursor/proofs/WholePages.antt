-- A page of a whole map is refused only for a fault of its source, or for want of memory.
use Rattle.std.proofs.Common.{◌≡◌, ◌⊎◌, ◌≤◌, ◌<◌, ◌+◌, ◌-◌, ◌==◌, ◌&&◌, ◌||◌, ℕ, zero, suc, Bool, true, false, if◌then◌else◌, List, []}
use Rattle.std.proofs.Common.{◌∷◌, ◌++◌, length, is_none, Option, None, Some, refl, sym, ap, ◌∙◌, subst, arith}
use Rattle.std.proofs.lemmas.Bool.{and_parts, or_parts}
use Rattle.std.proofs.lemmas.Slice.Eq.{bytes_eq-Decides}
use Rattle.std.specs.List.{slice_index_or, range_with_len, AllByRecursion}
use Rattle.ledger_spec.specs.declared.Kind.{Kind}
use Rattle.ledger_spec.specs.Bytes.{Hash, Half, Lookup, Items, zero_hash, is_zero, same_bytes}
use Rattle.ledger_spec.specs.Commits.{IsWholeMap}
use Rattle.ledger_spec.specs.Forms.{Held, inner, leaf, header, hash_of}
use Rattle.ledger_spec.specs.Rules.{fault_of}
use Rattle.ledger_spec.specs.Findings.{seen_as, walk, walk_map}
use Rattle.ledger_spec.specs.Pages.{Heard, said, wants, wrong, Reading, go_on, followed_by, in_turn, said_by, said_at, is_passed}
use Rattle.ledger_spec.specs.Pages.{is_skipped, page_from, heard_from, IsStoredNode}
use Rattle.tree_laws.proofs.shared.Shapes.{none_is}
use Rattle.path_proof.proofs.shared.WholeReads.{Clean, clean_below, sees_held, ends_by}
use Rattle.path_proof.specs.declared.answer.ReadFault.{ReadFault}
use Rattle.path_proof.specs.declared.answer.ReadFault.TheVariants.{Fault, Memory}
use Rattle.map_cursor.specs.Visits.{Refused}

module _ (half : Half) (nodes : Lookup) (kind : Kind) (after : Hash) where
  abbrev Stored : List Held → Type 0
  Stored used = AllByRecursion (IsStoredNode half nodes) used

  abbrev IsClean : ℕ → Option (List Hash) → List ℕ → Hash → Type 0
  IsClean l p path h = Clean half nodes kind (walk half nodes kind l p path h)

  -- the nodes that are left are stored, and a place for which a node is wanted has a clean walk
  abbrev Good : Heard → Type 0
  Good (said items rest) = Stored rest
  Good (wants p path h) = (l : ℕ) × IsClean l p path h × (is_zero h ≡ false)
  Good wrong = Unit {0}

  good_next : (items : Items) (o : Heard) → Good o → Good (followed_by items o)
  good_next items (said more rest) good = good
  good_next items (wants p path h) good = good
  good_next items wrong good = good

  good_then : (next : Items → List Held → Heard) (o : Heard) → Good o
      → ((items : Items) (rest : List Held) → Stored rest → Good (next items rest)) → Good (go_on next o)
  good_then next (said items rest) good each = each items rest good
  good_then next (wants p path h) good each = good
  good_then next wrong good each = good

  good_turn : (each : ℕ → Reading) → ((b m : ℕ) (rest : List Held) → b < 16 → Stored rest → Good (each b m rest)) → (a count : ℕ)
      → a + count ≤ 16 → (n : ℕ) (used : List Held) → Stored used
      → Good (in_turn each (range_with_len a count) n used)
  good_turn each good a zero within n used stored = stored
  good_turn each good a (suc count) within n used stored =
      good_then (λ items rest. followed_by items (in_turn each (range_with_len (a + 1) count) (n - length items) rest)) (each a n used)
      (good a n used (omega arith) stored)
      (λ items rest left.
      good_next items (in_turn each (range_with_len (a + 1) count) (n - length items) rest)
      (good_turn each good (a + 1) count (omega arith) (n - length items) rest left))

  good_at : (l : ℕ) (p : Option (List Hash)) (path : List ℕ) (h : Hash) (below : List Hash → Reading) (n : ℕ) (used : List Held)
      → IsClean l p path h → is_zero h ≡ false → Stored used
      → ((hashes : List Hash) (rest : List Held) → IsStoredNode half nodes (inner hashes) → hash_of half (inner hashes) ≡ h
      → fault_of (inner hashes) p kind path ≡ None → Stored rest → Good (below hashes n rest))
      → Good (said_at half kind after p path h below n used)
  good_at l p path h below n [] clean some stored go = (l, clean, some)
  good_at l p path h below n (x ∷ rest) clean some stored go =
      by_test (same_bytes (hash_of half x) h && is_none (fault_of x p kind path)) refl
    where
      by_node : (y : Held) → IsStoredNode half nodes y → hash_of half y ≡ h → fault_of y p kind path ≡ None
          → Good (said_by after below y n rest)
      by_node (leaf k key bytes) first same fits = stored.1
      by_node (inner hashes) first same fits = go hashes rest first same fits stored.1
      by_node (header bytes) first same fits = tt

      by_test : (t : Bool) → (same_bytes (hash_of half x) h && is_none (fault_of x p kind path)) ≡ t
          → Good (if t then said_by after below x n rest else wrong)
      by_test false is = tt
      by_test true is =
          let both = and_parts (same_bytes (hash_of half x) h) (is_none (fault_of x p kind path)) is in
          by_node x stored.0 ((bytes_eq-Decides (hash_of half x) h).0 both.0) (none_is (fault_of x p kind path) both.1)

  good_place : (l : ℕ) (p : Option (List Hash)) (path : List ℕ) (h : Hash) (below : List Hash → Reading) (n : ℕ) (used : List Held)
      → IsClean l p path h → Stored used
      → (is_zero h ≡ false → (hashes : List Hash) (rest : List Held) → IsStoredNode half nodes (inner hashes)
      → hash_of half (inner hashes) ≡ h → fault_of (inner hashes) p kind path ≡ None → Stored rest → Good (below hashes n rest))
      → Good (if is_skipped after path h n then said [] used else said_at half kind after p path h below n used)
  good_place l p path h below n used clean stored go = by_test (is_skipped after path h n) refl
    where
      by_test : (t : Bool) → is_skipped after path h n ≡ t
          → Good (if t then said [] used else said_at half kind after p path h below n used)
      by_test true is = stored
      by_test false is =
          let some : is_zero h ≡ false =
          (or_parts (is_zero h) (is_passed after path) (or_parts (n == 0) (is_zero h || is_passed after path) is).1).0 in
          good_at l p path h below n used clean some stored (go some)

  good : (l : ℕ) (p : Option (List Hash)) (path : List ℕ) (h : Hash) (n : ℕ) (used : List Held) → IsClean l p path h → Stored used
      → Good (page_from half kind after l p path h n used)
  unfolding page_from
  good zero p path h n used clean stored =
      good_place 0 p path h (λ hashes m rest. wrong) n used clean stored (λ some hashes rest first same fits left. tt)
  good (suc l) p path h n used clean stored =
      good_place (suc l) p path h _ n used clean stored
      (λ some hashes rest first same fits left.
      let seen = sees_held half nodes kind p path h (inner hashes) (ap nodes (sym same) ∙ first.stored, first.held)
      ∙ ap (seen_as (inner hashes)) fits in
      good_turn (λ b. page_from half kind after l (Some hashes) (path ++ b ∷ []) (slice_index_or hashes b zero_hash))
      (λ b m more low kept. good l (Some hashes) (path ++ b ∷ []) (slice_index_or hashes b zero_hash) m more
      (clean_below half nodes kind l p path h hashes some seen clean b low) kept)
      0 16 (omega arith) n rest left)

pub whole_page : (half : Half) (nodes : Lookup) (kind : Kind) (root after : Hash) (n : ℕ) (fault : ReadFault)
    → IsWholeMap half nodes kind root → Refused half kind true nodes (heard_from half kind root after) n fault
    → (fault ≡ Fault) ⊎ (fault ≡ Memory)
unfolding heard_from walk_map
whole_page half nodes kind root after n fault whole r =
    let place : Good half nodes kind after (wants r.above r.path r.hash) =
    subst (Good half nodes kind after) r.heard (good half nodes kind after 64 None [] root n r.more whole (r.stored refl)) in
    ends_by half nodes kind place.0 r.above r.path r.hash fault place.2 place.1 r.ends
