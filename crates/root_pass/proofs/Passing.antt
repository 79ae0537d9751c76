-- A pass over one item more, and at its end.
use Rattle.std.proofs.Common.{◌≡◌, ◌≢◌, ℕ, ◌+◌, ◌*◌, ◌<◌, ◌≤◌, List, [], ◌∷◌, ◌++◌, length, take, drop, Option, None, refl, sym, ap, ◌∙◌}
use Rattle.std.proofs.Common.{subst, arith}
use Rattle.std.specs.List.{concat}
use Rattle.std.specs.declared.cmp.Ordering.TheVariants.{Less}
use Rattle.ledger_spec.specs.declared.Kind.{Kind}
use Rattle.ledger_spec.specs.Bytes.{Bytes, Hash, Half, Items, zero_hash}
use Rattle.ledger_spec.specs.Forms.{inner_prefix, leaf_form}
use Rattle.ledger_spec.specs.Maps.{hash_cmp}
use Rattle.ledger_spec.specs.Tree.{root_of}
use Rattle.root_pass.specs.declared.pass.Last.{Last}
use Rattle.root_pass.specs.declared.rows.Rows.{Rows}
use Rattle.root_pass.specs.Rows.{way, cell, IsBehind, IsOpen, IsFull, IsShared, IsCrowded, IsFork}
use Rattle.root_pass.specs.Passed.{IsEmpty, Waits, SeenBy}
use Rattle.root_pass.proofs.Hashing.{hash_none}
use Rattle.root_pass.proofs.Steps.{rooted, crowd_from}
use Rattle.root_pass.proofs.Turning.{turned, turn_shared, all_behind, last_behind}

module _ (half : Half) (kind : Kind) where
  -- no item has come
  pub none_root : (rows : Rows) (items : Items) (last : Option Last) → last ≡ None → SeenBy half kind rows items last
      → zero_hash ≡ root_of half kind items
  none_root rows items last is seen =
      let empty : IsEmpty rows items = subst (SeenBy half kind rows items) is seen in
      sym (ap (root_of half kind) empty.none ∙ hash_none half kind [] [] refl)

  -- the root of no item is open, whatever comes
  empty_open : (rows : Rows) (items : Items) (key : Hash) → IsEmpty rows items → IsOpen half kind [] key rows.cells.items 1
  empty_open rows items key empty = record {
    rows = λ j b within below differ.
        let first : j ≡ 0 = omega arith in
        ap (λ i. cell rows.cells.items i b) first ∙ empty.zero b below ∙ sym (hash_none half kind [] (way key j ++ b ∷ []) refl);
    alone = refl;
  }

  -- the first item comes
  pub first_waits : (rows : Rows) (items : Items) (key : Hash) (bytes : Bytes) (hash : Hash) → IsEmpty rows items → hash ≡ half
      (leaf_form kind key bytes)
      → length key ≡ 32
      → IsBehind items key × Waits half kind rows (items ++ (key, bytes) ∷ []) (record { key = key; hash = hash })
  first_waits rows items key bytes hash empty is size = (
    subst (λ (es : Items). IsBehind es key) (sym empty.none) tt,
    record {
      front = [];
      bytes = bytes;
      items_are = ap (λ es. es ++ (key, bytes) ∷ []) empty.none;
      leaf = is;
      size = size;
      behind = tt;
      opened = subst (λ (n : ℕ). IsOpen half kind [] key rows.cells.items n) (sym empty.root) (empty_open rows items key empty);
      shared = λ deep. absurd (omega (arith, deep, empty.root));
    },
  )

  -- the next item comes
  pub next_waits : (rows new : Rows) (items : Items) (last : Last) (key : Hash) (bytes : Bytes) (hash : Hash) (c : ℕ)
      → Waits half kind rows items last → hash ≡ half (leaf_form kind key bytes) → length key ≡ 32
      → c < 64 → IsFork last.key key c → hash_cmp last.key key ≡ Less
      → new.depth ≡ c + 1 → IsFull half kind items last.key new.cells.items (c + 1)
      → IsBehind items key × Waits half kind new (items ++ (key, bytes) ∷ []) (record { key = key; hash = hash })
  next_waits rows new items last key bytes hash c waits is size low fork less depth full =
      let behind : IsBehind items key =
      subst (λ (es : Items). IsBehind es key) (sym waits.items_are) (all_behind waits.front last.key key waits.bytes waits.behind less) in
      let turn : IsOpen half kind (waits.front ++ (last.key, waits.bytes) ∷ []) key new.cells.items (c + 1) =
      turned last.key key c waits.size size low fork half kind waits.front waits.bytes new.cells.items less waits.behind
      (subst (λ (es : Items). IsFull half kind es last.key new.cells.items (c + 1)) waits.items_are full) in
      let shared : IsShared (waits.front ++ (last.key, waits.bytes) ∷ []) key (c + 1) =
      turn_shared last.key key c waits.size size low fork waits.front waits.bytes in (
        behind,
        record {
          front = items;
          bytes = bytes;
          items_are = refl;
          leaf = is;
          size = size;
          behind = behind;
          opened = subst (λ (n : ℕ). IsOpen half kind items key new.cells.items n) (sym depth)
              (subst (λ (es : Items). IsOpen half kind es key new.cells.items (c + 1)) (sym waits.items_are) turn);
          shared = subst (λ (n : ℕ). IsShared items key n) (sym depth)
              (subst (λ (es : Items). IsShared es key (c + 1)) (sym waits.items_are) shared);
        },
      )

  -- a key that isn't behind the last one isn't behind all
  pub not_behind : (rows : Rows) (items : Items) (last : Last) (key : Hash) → Waits half kind rows items last
      → hash_cmp last.key key ≢ Less → IsBehind items key → ⊥
  not_behind rows items last key waits differ behind =
      differ (last_behind waits.front last.key key waits.bytes (subst (λ (es : Items). IsBehind es key) waits.items_are behind))

  -- the last item has its place, and the root is complete
  pub waits_root : (rows new : Rows) (items : Items) (last : Last) → Waits half kind rows items last → length new.cells.items ≡ 1024
      → IsFull half kind items last.key new.cells.items 1
      → half (inner_prefix ++ concat (take 16 (drop (16 * 0) new.cells.items))) ≡ root_of half kind items
  waits_root rows new items last waits long full =
      rooted half kind last.key waits.size waits.front (last.key, waits.bytes) new.cells.items waits.size long
      (subst (λ (es : Items). IsFull half kind es last.key new.cells.items 1) waits.items_are full)
      ∙ ap (root_of half kind) (sym waits.items_are)

  -- the last item's place is below the lowest node that stays open
  pub settled : (rows : Rows) (items : Items) (last : Last) (opened put closed : List Hash) (n m p : ℕ) → Waits half kind rows items last
      → ((items : Items) (key : Hash) → length key ≡ 32 → IsOpen half kind items key rows.cells.items rows.depth
      → IsOpen half kind items key opened n)
      → ((items : Items) (bytes : Bytes) → last.hash ≡ half (leaf_form kind last.key bytes)
      → IsOpen half kind items last.key opened n → IsFull half kind (items ++ (last.key, bytes) ∷ []) last.key put m)
      → ((items : Items) → (p < m → IsCrowded items last.key m) → IsFull half kind items last.key put m
      → IsFull half kind items last.key closed p)
      → m ≡ n → (p < n → rows.depth ≡ n) → n ≤ 64
      → IsFull half kind items last.key closed p
  settled rows items last opened put closed n m p waits on leaf close same kept few =
      let crowded : p < m → IsCrowded (waits.front ++ (last.key, waits.bytes) ∷ []) last.key m =
      λ deep. subst (λ (i : ℕ). IsCrowded (waits.front ++ (last.key, waits.bytes) ∷ []) last.key i) (kept (omega arith) ∙ sym same)
      (crowd_from half kind last.key waits.size waits.front waits.bytes rows.depth (omega (arith, kept (omega arith))) waits.shared) in
      subst (λ (es : Items). IsFull half kind es last.key closed p) (sym waits.items_are)
      (close (waits.front ++ (last.key, waits.bytes) ∷ []) crowded
      (leaf waits.front waits.bytes waits.leaf (on waits.front last.key waits.size waits.opened)))
