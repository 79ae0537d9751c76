-- What becomes of the rows when a node is opened, a leaf is put and a node is closed.
use Rattle.std.proofs.Common.{◌≡◌, ◌≢◌, ℕ, ◌+◌, ◌-◌, ◌*◌, ◌<◌, ◌≤◌, ◌==◌, Bool, true, false, List, [], ◌∷◌, ◌++◌, length, take, drop}
use Rattle.std.proofs.Common.{refl, sym, ap, ◌∙◌, subst, arith, length-append}
use Rattle.std.proofs.lemmas.Bool.{eqb-true, eqb-false}
use Rattle.std.specs.List.{concat}
use Rattle.nib_path.specs.Paths.{nibble_of}
use Rattle.ledger_spec.specs.declared.Kind.{Kind}
use Rattle.ledger_spec.specs.Bytes.{Bytes, Hash, Half, Items, zero_hash}
use Rattle.ledger_spec.specs.Forms.{inner_prefix, leaf_form}
use Rattle.ledger_spec.specs.Tree.{Entry, part, root_of}
use Rattle.root_pass.specs.Rows.{way, hash_at, cell, IsTold, AreRows, IsOpen, IsFull, IsShared, IsCrowded}
use Rattle.root_pass.proofs.Ways.{way_more, way_size, on_way, off_way, part_on, part_none, part_fewer}
use Rattle.root_pass.proofs.Hashing.{row_joined, hash_none, hash_beside, hash_leaf, hash_inner}

-- a cell is set, and the others stay
pub record Sets (old new : List Hash) (row b : ℕ) (hash : Hash) : Type 0 where
  pub this : cell new row b ≡ hash
  pub others : (j c : ℕ) → c < 16 → (j ≡ row → c ≢ b) → cell new j c ≡ cell old j c

module _ (half : Half) (kind : Kind) (key : Hash) (size : length key ≡ 32) where
  -- a node is opened, with no branch
  pub opened : (items : Items) (old new : List Hash) (n : ℕ) → n < 64
      → ((b : ℕ) → b < 16 → cell new n b ≡ zero_hash)
      → ((j b : ℕ) → j ≢ n → b < 16 → cell new j b ≡ cell old j b)
      → IsOpen half kind items key old n → IsOpen half kind items key new (n + 1)
  opened items old new n low zeros others was = record {
    rows = λ j b within below differ. by j b (j == n) refl within below differ;
    alone = ap (part items) (way_more key n size low) ∙ part_none items (way key n) (nibble_of key n ∷ []) was.alone;
  }
    where
      by : (j b : ℕ) (t : Bool) → (j == n) ≡ t → j < n + 1 → b < 16 → b ≢ nibble_of key j → IsTold half kind items key new j b
      by j b true is within below differ =
          let here : j ≡ n = eqb-true j n is in
          ap (λ i. cell new i b) here ∙ zeros b below
          ∙ sym (hash_none half kind items (way key n ++ b ∷ []) (part_none items (way key n) (b ∷ []) was.alone))
          ∙ ap (λ i. hash_at half kind items (way key i ++ b ∷ [])) (sym here)
      by j b false is within below differ =
          let other : j ≢ n = eqb-false j n is in
          others j b other below ∙ was.rows j b (omega arith) below differ

  -- the last item's leaf is put under the lowest node
  pub leaf_put : (items : Items) (bytes : Bytes) (hash : Hash) (old new : List Hash) (n row : ℕ) → row + 1 ≡ n → n ≤ 64
      → hash ≡ half (leaf_form kind key bytes) → Sets old new row (nibble_of key row) hash
      → IsOpen half kind items key old n → IsFull half kind (items ++ (key, bytes) ∷ []) key new n
  leaf_put items bytes hash old new n row at few is set was = record {
    rows = beside;
    lowest = λ j b last below. by j b (b == nibble_of key j) refl last below;
  }
    where
      beside : AreRows half kind (items ++ (key, bytes) ∷ []) key new n
      beside j b within below differ =
          set.others j b below (λ e same. differ (same ∙ ap (nibble_of key) (sym e))) ∙ was.rows j b within below differ
          ∙ sym (hash_beside half kind items (key, bytes) (way key j ++ b ∷ []) (off_way key j b size (omega arith) differ))

      by : (j b : ℕ) (t : Bool) → (b == nibble_of key j) ≡ t → j + 1 ≡ n → b < 16 → IsTold half kind
          (items ++ (key, bytes) ∷ []) key new j b
      by j b false off last below = beside j b (omega arith) below (eqb-false b (nibble_of key j) off)
      by j b true at_way last below =
          let here : b ≡ nibble_of key j = eqb-true b (nibble_of key j) at_way in
          let same : j ≡ row = omega arith in
          let path : way key j ++ b ∷ [] ≡ way key n =
          ap (λ c. way key j ++ c ∷ []) here ∙ sym (way_more key j size (omega arith)) ∙ ap (way key) last in
          ap (λ c. cell new j c) (here ∙ ap (nibble_of key) same) ∙ ap (λ i. cell new i (nibble_of key row)) same ∙ set.this ∙ is
          ∙ sym (hash_leaf half kind items key bytes (way key n) (omega (arith, way_size key n size few)) was.alone (on_way key n size few))
          ∙ ap (hash_at half kind (items ++ (key, bytes) ∷ [])) (sym path)

  -- the hash of the lowest node, which is complete
  pub lowest_is : (items : Items) (cells : List Hash) (n row : ℕ) → row + 1 ≡ n → n ≤ 64 → length cells ≡ 1024 → part items
      (way key row) ≢ []
      → IsCrowded items key n → IsFull half kind items key cells n
      → half (inner_prefix ++ concat (take 16 (drop (16 * row) cells))) ≡ hash_at half kind items (way key row)
  lowest_is items cells n row at few long some crowded full =
      let depth : length (way key row) ≡ row = way_size key row size (omega arith) in
      let before : n - 1 ≡ row = omega arith in
      let many : 0 < length (way key row) → 2 ≤ length (part items (way key row)) =
      λ deep. subst (λ (i : ℕ). 2 ≤ length (part items (way key i))) before (crowded (omega arith)) in
      ap (λ (t : Bytes). half (inner_prefix ++ t))
      (row_joined (λ b. hash_at half kind items (way key row ++ b ∷ [])) cells row (omega arith) (λ b below. full.lowest row b at below))
      ∙ sym (hash_inner half kind items (way key row) (omega arith) some many)

  -- it is closed: its hash is put into the node above
  pub closed : (items : Items) (hash : Hash) (old new : List Hash) (n row : ℕ) → row + 2 ≡ n → n ≤ 64
      → hash ≡ hash_at half kind items (way key (row + 1)) → Sets old new row (nibble_of key row) hash
      → IsFull half kind items key old n → IsFull half kind items key new (n - 1)
  closed items hash old new n row at few is set full = record {
    rows = λ j b within below differ. beside j b (omega arith) below differ;
    lowest = λ j b last below. by j b (b == nibble_of key j) refl last below;
  }
    where
      beside : AreRows half kind items key new n
      beside j b within below differ =
          set.others j b below (λ e same. differ (same ∙ ap (nibble_of key) (sym e))) ∙ full.rows j b within below differ

      by : (j b : ℕ) (t : Bool) → (b == nibble_of key j) ≡ t → j + 1 ≡ n - 1 → b < 16 → IsTold half kind items key new j b
      by j b false off last below = beside j b (omega arith) below (eqb-false b (nibble_of key j) off)
      by j b true at_way last below =
          let here : b ≡ nibble_of key j = eqb-true b (nibble_of key j) at_way in
          let same : j ≡ row = omega arith in
          let path : way key j ++ b ∷ [] ≡ way key (row + 1) =
          ap (λ c. way key j ++ c ∷ []) here ∙ sym (way_more key j size (omega arith)) ∙ ap (λ i. way key (i + 1)) same in
          ap (λ c. cell new j c) (here ∙ ap (nibble_of key) same) ∙ ap (λ i. cell new i (nibble_of key row)) same ∙ set.this ∙ is
          ∙ ap (hash_at half kind items) (sym path)

  -- where several lie, several lie above
  pub crowd_up : (items : Items) (n : ℕ) → 1 < n → n ≤ 64 → IsCrowded items key n → IsCrowded items key (n - 1)
  crowd_up items n deep few crowded up =
      let at : n - 1 - 1 + 1 ≡ n - 1 = omega arith in
      let path : way key (n - 1) ≡ way key (n - 1 - 1) ++ nibble_of key (n - 1 - 1) ∷ [] =
      ap (way key) (sym at) ∙ way_more key (n - 1 - 1) size (omega arith) in
      let many : 2 ≤ length (part items (way key (n - 1))) = crowded deep in
      let same : length (part items (way key (n - 1))) ≡ length (part items (way key (n - 1 - 1) ++ nibble_of key (n - 1 - 1) ∷ [])) =
      ap (λ (p : List ℕ). length (part items p)) path in
      omega (arith, many, same, part_fewer items (way key (n - 1 - 1)) (nibble_of key (n - 1 - 1) ∷ []))

  -- one lies there and one more comes
  pub crowd_from : (items : Items) (bytes : Bytes) (n : ℕ) → n ≤ 64 → IsShared items key n → IsCrowded (items ++ (key, bytes) ∷ []) key n
  crowd_from items bytes n few shared deep =
      let joined = part_on items (key, bytes) (way key (n - 1)) (on_way key (n - 1) size (omega arith)) in
      subst (λ (es : Items). 2 ≤ length es) (sym joined) (two (part items (way key (n - 1))) (shared deep))
    where
      two : (es : Items) → es ≢ [] → 2 ≤ length (es ++ (key, bytes) ∷ [])
      two [] some = absurd (some refl)
      two (e ∷ es) some = omega (arith, length-append es ((key, bytes) ∷ []))

  -- where several lie, one does
  pub crowd_some : (items : Items) (n : ℕ) → 1 < n → IsCrowded items key n → part items (way key (n - 1)) ≢ []
  crowd_some items n deep crowded none =
      let many : 2 ≤ length (part items (way key (n - 1))) = crowded deep in
      let same : length (part items (way key (n - 1))) ≡ 0 = ap length none in
      omega arith

  -- the lowest node is hashed and closed
  pub closing : (items : Items) (hash : Hash) (old new : List Hash) (n m row : ℕ) → row + 2 ≡ n → m + 1 ≡ n → n ≤ 64 → length old ≡ 1024
      → hash ≡ half (inner_prefix ++ concat (take 16 (drop (16 * (n - 1)) old))) → Sets old new row (nibble_of key row) hash
      → IsCrowded items key n → IsFull half kind items key old n → IsFull half kind items key new m
  closing items hash old new n m row at below few long is set crowded full =
      let next : n - 1 ≡ row + 1 = omega arith in
      let last : n - 1 ≡ m = omega arith in
      let some : part items (way key (row + 1)) ≢ [] =
      subst (λ (i : ℕ). part items (way key i) ≢ []) next (crowd_some items n (omega arith) crowded) in
      let told : hash ≡ hash_at half kind items (way key (row + 1)) =
      is ∙ ap (λ i. half (inner_prefix ++ concat (take 16 (drop (16 * i) old)))) next
      ∙ lowest_is items old n (row + 1) (omega arith) few long some crowded full in
      subst (λ (i : ℕ). IsFull half kind items key new i) last (closed items hash old new n row at few told set full)

  -- the hash of the root
  pub rooted : (items : Items) (e : Entry) (cells : List Hash) → length e.0 ≡ 32 → length cells ≡ 1024
      → IsFull half kind (items ++ e ∷ []) key cells 1
      → half (inner_prefix ++ concat (take 16 (drop (16 * 0) cells))) ≡ root_of half kind (items ++ e ∷ [])
  rooted items e cells width long full =
      lowest_is (items ++ e ∷ []) cells 1 0 refl (omega arith) long some (λ deep. absurd (omega arith)) full
    where
      nonempty : (es : Items) → es ++ e ∷ [] ≡ [] → ⊥
      nonempty [] eq = cc
      nonempty (x ∷ es) eq = cc

      some : part (items ++ e ∷ []) (way key 0) ≢ []
      some none = nonempty (part items []) (sym (part_on items e [] (on_way e.0 0 width (omega arith))) ∙ none)
