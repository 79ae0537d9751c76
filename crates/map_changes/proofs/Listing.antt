-- The nodes of a map in pre-order have the forms of its tree, which stand in post-order there.
use Rattle.std.proofs.Common.{◌≡◌, ℕ, zero, suc, ◌+◌, Bool, if◌then◌else◌, List, [], ◌∷◌, ◌++◌, map, refl, sym, ◌∙◌, ap, arith}
use Rattle.std.specs.List.{flat_map, concat}
use Rattle.ledger_spec.specs.declared.Kind.{Kind}
use Rattle.ledger_spec.specs.Bytes.{Bytes, Half, Items, branches}
use Rattle.ledger_spec.specs.Forms.{inner, form_of, inner_prefix, hash_or_zero}
use Rattle.ledger_spec.specs.Tree.{Entry, part, form_of_part, forms_of_part, forms_of}
use Rattle.map_changes.specs.Placed.{Placed, nodes_of_part, nodes_of}
use Rattle.map_changes.specs.Listed.{count, HaveSameForms}

abbrev shown : List Placed → List Bytes
shown nodes = map (λ p. form_of p.node) nodes

abbrev one : (Bytes → Bool) → Bytes → ℕ
one test form = if test form then 1 else 0

count_add : (test : Bytes → Bool) (xs ys : List Bytes) → count test (xs ++ ys) ≡ count test xs + count test ys
count_add test [] ys = omega arith
count_add test (x ∷ xs) ys =
    let rest : count test (xs ++ ys) ≡ count test xs + count test ys = count_add test xs ys in omega arith

shown_add : (test : Bytes → Bool) (xs ys : List Placed)
    → count test (shown (xs ++ ys)) ≡ count test (shown xs) + count test (shown ys)
shown_add test [] ys = omega arith
shown_add test (x ∷ xs) ys =
    let rest : count test (shown (xs ++ ys)) ≡ count test (shown xs) + count test (shown ys) = shown_add test xs ys in omega arith

-- branch by branch
branches_add : (test : Bytes → Bool) (g : ℕ → List Placed) (h : ℕ → List Bytes)
    → ((b : ℕ) → count test (shown (g b)) ≡ count test (h b))
    → (bs : List ℕ) → count test (shown (flat_map g bs)) ≡ count test (flat_map h bs)
branches_add test g h same [] = refl
branches_add test g h same (b ∷ bs) =
    shown_add test (g b) (flat_map g bs) ∙ (λ i. same b i + branches_add test g h same bs i) ∙ sym (count_add test (h b) (flat_map h bs))

joined : (hash : ℕ → Bytes) (bs : List ℕ) → concat (map hash bs) ≡ flat_map hash bs
joined hash [] = refl
joined hash (b ∷ bs) = ap (λ (x : Bytes). hash b ++ x) (joined hash bs)

-- an inner node before what is below it, and behind it
fork : (test : Bytes → Bool) (path : List ℕ) (hash : ℕ → Bytes) (g : ℕ → List Placed) (h : ℕ → List Bytes) (bs : List ℕ)
    → ((b : ℕ) → count test (shown (g b)) ≡ count test (h b))
    → count test (shown (record { path = path; node = inner (map hash bs) } ∷ flat_map g bs))
    ≡ count test (flat_map h bs ++ (inner_prefix ++ flat_map hash bs) ∷ [])
fork test path hash g h bs same =
    let kids : count test (shown (flat_map g bs)) ≡ count test (flat_map h bs) = branches_add test g h same bs in
    let own : one test (inner_prefix ++ concat (map hash bs)) ≡ one test (inner_prefix ++ flat_map hash bs) =
    ap (λ (x : Bytes). one test (inner_prefix ++ x)) (joined hash bs) in
    let all : count test (flat_map h bs ++ (inner_prefix ++ flat_map hash bs) ∷ [])
    ≡ count test (flat_map h bs) + (one test (inner_prefix ++ flat_map hash bs) + 0) =
    count_add test (flat_map h bs) ((inner_prefix ++ flat_map hash bs) ∷ []) in
    omega arith

counts : (test : Bytes → Bool) (half : Half) (kind : Kind) (all : List Entry) (left : ℕ) (path : List ℕ) (entries : List Entry)
    → count test (shown (nodes_of_part half kind all left path entries)) ≡ count test (forms_of_part half kind all left path entries)
unfolding nodes_of_part forms_of_part form_of_part
counts test half kind all zero path [] = refl
counts test half kind all (suc left) path [] = refl
counts test half kind all zero path (e ∷ others) = refl
counts test half kind all (suc left) [] (e ∷ others) =
    fork test [] (λ b. hash_or_zero half (form_of_part half kind all left (b ∷ []) (part all (b ∷ []))))
    (λ b. nodes_of_part half kind all left (b ∷ []) (part all (b ∷ [])))
    (λ b. forms_of_part half kind all left (b ∷ []) (part all (b ∷ []))) branches
    (λ b. counts test half kind all left (b ∷ []) (part all (b ∷ [])))
counts test half kind all (suc left) (n ∷ path) (e ∷ []) = refl
counts test half kind all (suc left) (n ∷ path) (e ∷ f ∷ others) =
    let at : ℕ → List ℕ = λ b. n ∷ path ++ b ∷ [] in
    fork test (n ∷ path) (λ b. hash_or_zero half (form_of_part half kind all left (at b) (part all (at b))))
    (λ b. nodes_of_part half kind all left (at b) (part all (at b)))
    (λ b. forms_of_part half kind all left (at b) (part all (at b))) branches
    (λ b. counts test half kind all left (at b) (part all (at b)))

pub same_forms : (half : Half) (kind : Kind) (items : Items)
    → HaveSameForms (map (λ p. form_of p.node) (nodes_of half kind items)) (forms_of half kind items)
same_forms half kind items test = counts test half kind items 64 [] (part items [])
