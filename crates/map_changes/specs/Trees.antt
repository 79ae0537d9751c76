-- Where shared nodes stand for the entries of a map.
use Rattle.std.specs.Prelude.{◌≡◌, ℕ, zero, suc, ◌<◌, Bool, true, false, List, [], ◌∷◌, ◌++◌, map, Option, None, Some}
use Rattle.ledger_spec.specs.declared.Kind.{Kind}
use Rattle.ledger_spec.specs.Bytes.{Half, branches}
use Rattle.ledger_spec.specs.Forms.{Held, inner, leaf, hash_or_zero}
use Rattle.ledger_spec.specs.Tree.{Entry, part, is_alone, form_of_part}

-- the node is this leaf, and has no branches
pub record IsLeafNode (held : ℕ → Held) (kid : ℕ → ℕ → Option ℕ) (kind : Kind) (i : ℕ) (e : Entry) : Type 0 where
  pub is_leaf : held i ≡ leaf kind e.0 e.1
  pub no_kids : (b : ℕ) → b < 16 → kid i b ≡ None

-- the inner node at a path, with the hashes of what stands at its branches
abbrev pub hashes_below : Half → Kind → List Entry → ℕ → List ℕ → Held
hashes_below half kind all left path =
    let below : ℕ → List ℕ = λ b. path ++ b ∷ [] in
    inner (map (λ b. hash_or_zero half (form_of_part half kind all left (below b) (part all (below b)))) branches)

-- the node is this inner node, and each branch is as it should be below it
pub record IsInnerNode (below : ℕ → Option ℕ → Type 0) (held : ℕ → Held) (kid : ℕ → ℕ → Option ℕ) (i : ℕ) (n : Held) : Type 0 where
  pub is_inner : held i ≡ n
  pub each : (b : ℕ) → b < 16 → below b (kid i b)

-- one fact of a single entry, another of many
abbrev pub IsNode : Bool → Type 0 → Type 0 → Type 0
IsNode true one many = one
IsNode false one many = many

-- The link at a path stands for these entries: it leads nowhere where there are none, to the leaf of an entry that is
-- alone, and else to an inner node whose branches stand for their parts. There are `left` levels below the path.
unfoldable pub StandsFor : Half → Kind → List Entry → (ℕ → Held) → (ℕ → ℕ → Option ℕ) → ℕ → List ℕ → Option ℕ
    → List Entry → Type 0
StandsFor half kind all held kid left path link [] = link ≡ None
StandsFor half kind all held kid zero path link (e ∷ others) = (i : ℕ) × (link ≡ Some i) × IsLeafNode held kid kind i e
StandsFor half kind all held kid (suc left) path link (e ∷ others) =
    (i : ℕ) × (link ≡ Some i)
    × IsNode (is_alone path others) (IsLeafNode held kid kind i e)
    (IsInnerNode (λ b below. StandsFor half kind all held kid left (path ++ b ∷ []) below (part all (path ++ b ∷ [])))
    held kid i (hashes_below half kind all left path))
