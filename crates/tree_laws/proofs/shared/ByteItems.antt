-- The items of a store of bytes are bytes, and so keys of nibbles. For proofs of other crates.
use Rattle.std.proofs.Common.{◌≡◌, ◌<◌, ℕ, zero, suc, Bool, true, false, if◌then◌else◌, nat_lt, List, [], ◌∷◌}
use Rattle.std.proofs.Common.{◌++◌, length, get_or, IsTrue, Option, None, Some, refl, sym, subst, arith, filter_map, flat_map}
use Rattle.std.proofs.lemmas.Bool.{and_parts, ltb-true}
use Rattle.std.proofs.lemmas.List.Elements.{filter_map-append}
use Rattle.std.specs.List.{slice_index_or, AllByRecursion}
use Rattle.nib_path.specs.Paths.{length-nibbles}
use Rattle.nib_path.proofs.shared.Nibbles.{nibbles-below}
use Rattle.ledger_spec.specs.declared.Kind.{Kind}
use Rattle.ledger_spec.specs.declared.Kind.TheVariants.{State, Tx, Set}
use Rattle.ledger_spec.specs.declared.Place.TheVariants.{Node}
use Rattle.ledger_spec.specs.Bytes.{Bytes, Hash, Half, Lookup, Items, zero_hash, is_zero, are_bytes, branches}
use Rattle.ledger_spec.specs.Commits.{AreByteForms}
use Rattle.ledger_spec.specs.Forms.{inner, leaf, header, Form, IsHeld, leaf_prefix, leaf_form}
use Rattle.ledger_spec.specs.Rules.{fault_of}
use Rattle.ledger_spec.specs.Findings.{Sight, missing, broken, sound, Met, sight_of, branches_of, walk, walk_map, item_at, items_of}
use Rattle.ledger_spec.specs.Tree.{Entry, IsByteEntry}
use Rattle.ledger_spec.specs.Reads.{IsKey}
use Rattle.ledger_spec.proofs.shared.ByteForms.{bytes_front, bytes_end}
use Rattle.ledger_spec.proofs.shared.Growth.{met}
use Rattle.ledger_spec.proofs.shared.Readings.{holds}
use Rattle.tree_laws.proofs.shared.Shapes.{key_size}
use Rattle.tree_laws.proofs.shared.Trees.{Sized}
use Rattle.tree_laws.proofs.shared.Orders.{all_append}
use Rattle.tree_laws.proofs.shared.Sights.{Sees, sees_sound}

byte_at : (xs : Bytes) → IsTrue (are_bytes xs) → (k : ℕ) → k < length xs → get_or xs k 0 < 256
byte_at [] all k lt = absurd (omega arith)
byte_at (x ∷ xs) all zero lt = ltb-true x 256 (and_parts (nat_lt x 256) (are_bytes xs) all).0
byte_at (x ∷ xs) all (suc k) lt = byte_at xs (and_parts (nat_lt x 256) (are_bytes xs) all).1 k (omega arith)

pub is_key : (key : Hash) → length key ≡ 32 → IsTrue (are_bytes key) → IsKey key
is_key key size all = record {
  size = size;
  path = record { short = omega (arith, length-nibbles key, size); nibbles_below = nibbles-below key (byte_at key all) };
}

-- each entry of a map of items has a key of nibbles
pub keys_of_items : (half : Half) (kind : Kind) (items : Items) → AllByRecursion (λ (e : Entry). IsHeld half (leaf kind e.0 e.1)) items
    → AllByRecursion IsByteEntry items
    → AllByRecursion (λ (e : Entry). IsKey e.0) items
keys_of_items half kind [] each bytes = tt
keys_of_items half kind (e ∷ items) each bytes =
    (is_key e.0 (key_size half kind e.0 e.1 each.0) bytes.0.0, keys_of_items half kind items each.1 bytes.1)

module _ (half : Half) (sized : Sized half) (nodes : Lookup) (forms : AreByteForms nodes) (kind : Kind)
    (halves : (bytes : Bytes) → IsTrue (are_bytes (half bytes))) where
  abbrev entries : List Met → Items
  entries walked = filter_map (λ m. item_at m.sight) walked

  abbrev AreBytes : Items → Type 0
  AreBytes items = AllByRecursion IsByteEntry items

  abbrev seen_at : Option (List Hash) → List ℕ → Hash → Sight
  seen_at p path h = sight_of half (λ n. fault_of n p kind path) (nodes h)

  -- the key and the data of a leaf whose form is bytes
  leaf_bytes : (k : Kind) (key bytes form : Bytes) → IsHeld half (leaf k key bytes) → form ≡ leaf_form k key bytes → IsTrue (are_bytes form)
      → IsByteEntry (key, bytes)
  leaf_bytes State key bytes form is e all =
      let whole : IsTrue (are_bytes (leaf_prefix State ++ bytes ++ key)) = subst (λ b. IsTrue (are_bytes b)) e all in (
        bytes_end (leaf_prefix State ++ bytes) key whole,
        bytes_end (leaf_prefix State) bytes
            (bytes_front (leaf_prefix State ++ bytes) key whole),
      )
  leaf_bytes Tx key bytes form is e all =
      let whole : IsTrue (are_bytes (leaf_prefix Tx ++ bytes ++ key)) = subst (λ b. IsTrue (are_bytes b)) e all in
      (bytes_end (leaf_prefix Tx ++ bytes) key whole, bytes_end (leaf_prefix Tx) bytes (bytes_front (leaf_prefix Tx ++ bytes) key whole))
  leaf_bytes Set key bytes form is e all =
      let whole : IsTrue (are_bytes (leaf_prefix Set ++ bytes)) = subst (λ b. IsTrue (are_bytes b)) e all in
      (subst (λ b. IsTrue (are_bytes b)) (sym is.1) (halves (leaf_form Set key bytes)), bytes_end (leaf_prefix Set) bytes whole)

  leaf_entry : (p : Option (List Hash)) (path : List ℕ) (h : Hash) (k : Kind) (key bytes : Bytes)
      → seen_at p path h ≡ sound (leaf k key bytes) → IsByteEntry (key, bytes)
  leaf_entry p path h k key bytes is =
      let sees : Sees half (λ n. fault_of n p kind path) (nodes h) (leaf k key bytes) =
      sees_sound half (λ n. fault_of n p kind path) (nodes h) (leaf k key bytes) is in
      let form : Form half (leaf k key bytes) sees.form = holds half sized (leaf k key bytes) sees.form sees.holds in
      leaf_bytes k key bytes sees.form form.0 form.1 (forms h sees.form sees.stored)

  by_sight : (p : Option (List Hash)) (path : List ℕ) (h : Hash) (x : Sight) (below : List Hash → List Met) → seen_at p path h ≡ x
      → ((hashes : List Hash) → AreBytes (entries (below hashes)))
      → AreBytes (entries (met (Node kind path) h p x ∷ branches_of x below))
  by_sight p path h missing below is each = tt
  by_sight p path h (broken fault) below is each = tt
  by_sight p path h (sound (leaf k key bytes)) below is each = (leaf_entry p path h k key bytes is, tt)
  by_sight p path h (sound (inner hashes)) below is each = each hashes
  by_sight p path h (sound (header bytes)) below is each = tt

  at_bottom : (p : Option (List Hash)) (path : List ℕ) (h : Hash) (x : Sight) → seen_at p path h ≡ x
      → AreBytes (entries (met (Node kind path) h p x ∷ []))
  at_bottom p path h missing is = tt
  at_bottom p path h (broken fault) is = tt
  at_bottom p path h (sound (leaf k key bytes)) is = (leaf_entry p path h k key bytes is, tt)
  at_bottom p path h (sound (inner hashes)) is = tt
  at_bottom p path h (sound (header bytes)) is = tt

  joined : (walked : ℕ → List Met) → ((b : ℕ) → AreBytes (entries (walked b))) → (xs : List ℕ) → AreBytes (entries (flat_map walked xs))
  joined walked each [] = tt
  joined walked each (b ∷ xs) =
      subst AreBytes (sym (filter_map-append (λ (m : Met). item_at m.sight) (walked b) (flat_map walked xs)))
      (all_append IsByteEntry (entries (walked b)) (entries (flat_map walked xs)) (each b) (joined walked each xs))

  walk_bytes : (l : ℕ) (p : Option (List Hash)) (path : List ℕ) (h : Hash) → AreBytes (entries (walk half nodes kind l p path h))
  unfolding walk
  walk_bytes zero p path h = by_zero (is_zero h)
    where
      by_zero : (t : Bool) → AreBytes (entries (if t then [] else met (Node kind path) h p (seen_at p path h) ∷ []))
      by_zero true = tt
      by_zero false = at_bottom p path h (seen_at p path h) refl
  walk_bytes (suc l) p path h =
      by_zero (is_zero h)
      (λ hashes. joined (λ b. walk half nodes kind l (Some hashes) (path ++ b ∷ []) (slice_index_or hashes b zero_hash))
      (λ b. walk_bytes l (Some hashes) (path ++ b ∷ []) (slice_index_or hashes b zero_hash)) branches)
    where
      by_zero : (t : Bool) → ((hashes : List Hash) → AreBytes
          (entries (flat_map (λ b. walk half nodes kind l (Some hashes) (path ++ b ∷ []) (slice_index_or hashes b zero_hash)) branches)))
          → AreBytes (entries (if t then [] else met (Node kind path) h p (seen_at p path h) ∷ branches_of (seen_at p path h)
          (λ hashes. flat_map (λ b. walk half nodes kind l (Some hashes) (path ++ b ∷ []) (slice_index_or hashes b zero_hash))
          branches)))
      by_zero true each = tt
      by_zero false each = by_sight p path h (seen_at p path h)
          (λ hashes. flat_map (λ b. walk half nodes kind l (Some hashes) (path ++ b ∷ []) (slice_index_or hashes b zero_hash)) branches)
          refl each

  pub byte_items : (root : Hash) → AreBytes (items_of half nodes kind root)
  unfolding walk_map
  byte_items root = walk_bytes 64 None [] root
