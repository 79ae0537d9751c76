-- The last node of a path, whose data is the answer.
use Rattle.std.proofs.Common.{◌≡◌, ◌+◌, ◌-◌, ℕ, zero, suc, List, [], ◌∷◌, length, Some, sym, ap, ◌∙◌, refl, arith}
use Rattle.std.specs.List.{slice_get}
use Rattle.std.specs.declared.sync.Arc.{Arc}
use Rattle.std.specs.declared.alloc.Global.{Global}
use Rattle.shamap_node.specs.declared.Node.{Node}
use Rattle.shamap_node.specs.Nodes.{held}
use Rattle.ledger_spec.specs.Forms.{Held, inner, leaf, header}
use Rattle.path_proof.specs.Paths.{held_nodes, last_data}

-- the first of two or more isn't the last
not_first : (x y : Held) (rest : List Held) → last_data (x ∷ y ∷ rest) ≡ last_data (y ∷ rest)
not_first (leaf kind key bytes) y rest = refl
not_first (inner hashes) y rest = refl
not_first (header bytes) y rest = refl

-- the node at the last place
last_at : (nodes : List (Arc Node Global)) (a : Arc Node Global) (n : ℕ) → length nodes ≡ n + 1 → Some a ≡ slice_get nodes n
    → last_data (held a.value ∷ []) ≡ last_data (held_nodes nodes)
last_at [] a n size is = absurd (omega (arith, size))
last_at (x ∷ []) a zero size is =
    let same : a ≡ x = cc in
    ap (λ (n : Arc Node Global). last_data (held n.value ∷ [])) same
last_at (x ∷ []) a (suc n) size is = absurd (omega (arith, size))
last_at (x ∷ y ∷ rest) a zero size is = absurd (omega (arith, size))
last_at (x ∷ y ∷ rest) a (suc n) size is =
    last_at (y ∷ rest) a n (omega (arith, size)) is ∙ sym (not_first (held x.value) (held y.value) (held_nodes rest))

pub last_found : (nodes : List (Arc Node Global)) (a : Arc Node Global) → Some a ≡ slice_get nodes (length nodes - 1)
    → last_data (held a.value ∷ []) ≡ last_data (held_nodes nodes)
last_found [] a is = cc
last_found (x ∷ rest) a is = last_at (x ∷ rest) a (length (x ∷ rest) - 1) (omega arith) is
