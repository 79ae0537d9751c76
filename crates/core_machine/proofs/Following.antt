-- A path that says a value ends with that leaf.
use Rattle.std.proofs.Common.{◌≡◌, ◌∙◌, ℕ, ◌+◌, Bool, true, false, List, [], ◌∷◌, Option, Some, None, is_none, ◌&&◌, if◌then◌else◌}
use Rattle.std.proofs.Common.{take, length, ◌-◌, zero, suc, arith, refl, sym, ap}
use Rattle.std.specs.Option.{option_map, option_and_then}
use Rattle.std.proofs.lemmas.List.{length-map}
use Rattle.std.proofs.lemmas.Option.{slice_get-map}
use Rattle.std.specs.List.{slice_index_or, slice_get}
use Rattle.std.specs.declared.sync.Arc.{Arc}
use Rattle.std.specs.declared.alloc.Global.{Global}
use Rattle.shamap_node.specs.declared.Node.{Node}
use Rattle.shamap_node.specs.Nodes.{held}
use Rattle.path_proof.specs.Paths.{held_nodes}
use Rattle.nib_path.specs.Paths.{nibbles, nibble_of}
use Rattle.ledger_spec.specs.declared.Kind.{Kind}
use Rattle.ledger_spec.specs.Bytes.{Bytes, Hash, Half, zero_hash, is_zero, same_bytes}
use Rattle.ledger_spec.specs.Forms.{Held, inner, leaf, header, hash_of}
use Rattle.ledger_spec.specs.Rules.{fault_of}
use Rattle.ledger_spec.specs.Reads.{Outcome, nothing, value, ends_at, inner_hashes, follow_from, follow}
use Rattle.ledger_machine.specs.Reading.{value_in}

-- the last node of a list has this data
abbrev pub EndsWith : List Held → Outcome → Type 0
EndsWith [] o = ⊥
EndsWith (n ∷ []) o = value_in n ≡ Some o
EndsWith (n ∷ m ∷ rest) o = EndsWith (m ∷ rest) o

not_some : (o : Outcome) → None ≡ Some o → ⊥
not_some o e = cc

not_value : (b : Bytes) → Some nothing ≡ Some (value b) → ⊥
not_value b e = cc

last_ends : (key : Hash) (depth : ℕ) (n : Held) (b : Bytes) → ends_at key depth n ≡ Some (value b) → value_in n ≡ Some (value b)
last_ends key depth (leaf kind own bytes) b e = by_key (same_bytes own key) refl where
  by_key : (t : Bool) → same_bytes own key ≡ t → Some (value bytes) ≡ Some (value b)
  by_key true same = rw same at e
  by_key false other = absurd (not_value b (rw other at e))
last_ends key depth (inner hashes) b e = by_zero (is_zero (slice_index_or hashes (nibble_of key depth) zero_hash)) refl where
  by_zero : (t : Bool) → is_zero (slice_index_or hashes (nibble_of key depth) zero_hash) ≡ t → None ≡ Some (value b)
  by_zero true none = absurd (not_value b (rw none at e))
  by_zero false some = rw some at e
last_ends key depth (header bytes) b e = absurd (not_some _ e)

-- as it does on the way
path_ends : (half : Half) (kind : Kind) (key : Hash) (depth : ℕ) (parent : Option (List Hash)) (h : Hash) (used : List Held) (b : Bytes)
    → follow_from half kind key depth parent h used ≡ Some (value b) → EndsWith used (value b)
path_ends half kind key depth parent h [] b e = absurd (not_some _ e)
path_ends half kind key depth parent h (n ∷ []) b e =
    by_test (same_bytes (hash_of half n) h && is_none (fault_of n parent kind (take depth (nibbles key)))) e where
      by_test : (t : Bool) → (if t then ends_at key depth n else None) ≡ Some (value b) → value_in n ≡ Some (value b)
      by_test true e = last_ends key depth n b e
      by_test false e = absurd (not_some _ e)
path_ends half kind key depth parent h (n ∷ m ∷ rest) b e =
    by_test (same_bytes (hash_of half n) h && is_none (fault_of n parent kind (take depth (nibbles key)))) n
    (λ hashes e. path_ends half kind key (depth + 1) (Some hashes) (slice_index_or hashes (nibble_of key depth) zero_hash) (m ∷ rest) b e)
    e where
      by_test : (t : Bool) (n : Held)
          → ((hashes : List Hash)
          → follow_from half kind key (depth + 1) (Some hashes) (slice_index_or hashes (nibble_of key depth) zero_hash) (m ∷ rest)
          ≡ Some (value b) → EndsWith (m ∷ rest) (value b))
          → (if t then option_and_then (λ hashes. follow_from half kind key (depth + 1) (Some hashes)
          (slice_index_or hashes (nibble_of key depth) zero_hash) (m ∷ rest)) (inner_hashes n) else None) ≡ Some (value b)
          → EndsWith (m ∷ rest) (value b)
      by_test true (inner hashes) deeper e = deeper hashes e
      by_test true (leaf kind own bytes) deeper e = absurd (not_some _ e)
      by_test true (header bytes) deeper e = absurd (not_some _ e)
      by_test false n deeper e = absurd (not_some _ e)

-- a path that says a value ends with a leaf of that data
pub ends_with_leaf : (half : Half) (kind : Kind) (root key : Hash) (used : List Held) (b : Bytes)
    → follow half kind root key used ≡ Some (value b) → EndsWith used (value b)
ends_with_leaf half kind root key [] b e = by_zero (is_zero root) e where
  by_zero : (t : Bool) → (if t then Some nothing else None) ≡ Some (value b) → ⊥
  by_zero true e = not_value b e
  by_zero false e = not_some _ e
ends_with_leaf half kind root key (n ∷ rest) b e = by_zero (is_zero root) e where
  by_zero : (t : Bool) → (if t then None else follow_from half kind key 0 None root (n ∷ rest)) ≡ Some (value b)
      → EndsWith (n ∷ rest) (value b)
  by_zero true e = absurd (not_some _ e)
  by_zero false e = path_ends half kind key 0 None root (n ∷ rest) b e

-- and the last of the shared nodes is that leaf
same_value : (a x : Arc Node Global) (o : Outcome) → Some a ≡ Some x → value_in (held x.value) ≡ Some o → value_in (held a.value) ≡ Some o
same_value a x o same is = ap (λ q. option_and_then (λ (n : Arc Node Global). value_in (held n.value)) q) same ∙ is

last_at : (nodes : List (Arc Node Global)) (a : Arc Node Global) (o : Outcome) (n : ℕ) → length nodes ≡ suc n
    → Some a ≡ slice_get nodes n → EndsWith (held_nodes nodes) o → value_in (held a.value) ≡ Some o
last_at [] a o n size last ends = absurd ends
last_at (x ∷ []) a o zero size last ends = same_value a x o last ends
last_at (x ∷ []) a o (suc n) size last ends = absurd (omega (arith, size))
last_at (x ∷ y ∷ rest) a o zero size last ends = absurd (omega (arith, size))
last_at (x ∷ y ∷ rest) a o (suc n) size last ends = last_at (y ∷ rest) a o n (omega (arith, size)) last ends

pub last_says : (nodes : List (Arc Node Global)) (a : Arc Node Global) (o : Outcome) → Some a ≡ slice_get nodes (length nodes - 1)
    → EndsWith (held_nodes nodes) o → value_in (held a.value) ≡ Some o
last_says [] a o last ends = absurd ends
last_says (x ∷ rest) a o last ends =
    last_at (x ∷ rest) a o (length rest) refl (last ∙ ap (slice_get (x ∷ rest)) (omega (arith))) ends

-- the last of the shared nodes, among the nodes used
pub last_held : (nodes : List (Arc Node Global)) (a : Arc Node Global) → Some a ≡ slice_get nodes (length nodes - 1)
    → slice_get (held_nodes nodes) (length (held_nodes nodes) - 1) ≡ Some (held a.value)
last_held nodes a last =
    ap (λ n. slice_get (held_nodes nodes) (n - 1)) (length-map nodes (λ (x : Arc Node Global). held x.value))
    ∙ slice_get-map (λ (x : Arc Node Global). held x.value) nodes (length nodes - 1)
    ∙ ap (option_map (λ (x : Arc Node Global). held x.value)) (sym last)
