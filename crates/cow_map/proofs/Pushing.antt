-- Lists of nodes that grow at their end, and are cut there again.
use Rattle.std.proofs.Common.{◌≡◌, inl, inr, ℕ, zero, suc, ◌<◌, arith, slice_index_or, List, [], ◌∷◌, ◌++◌, length, take, map, Some}
use Rattle.std.proofs.Common.{refl, sym, ap, ◌∙◌, subst}
use Rattle.std.specs.List.{slice_get}
use Rattle.std.specs.declared.alloc.Global.{Global}
use Rattle.std.specs.declared.sync.Arc.{Arc}
use Rattle.std.proofs.lemmas.List.{map-append}
use Rattle.cow_map.specs.declared.node.Cow.{Cow}
use Rattle.cow_map.specs.Bodies.{Body, IsBody, AreBodies}
use Rattle.cow_map.specs.Shown.{body_of, bodies_of}
use Rattle.cow_map.proofs.shared.Pushing.{get_more}

get_fewer : {A : Type 0} (xs : List A) (n i : ℕ) (x : A) → slice_get (take n xs) i ≡ Some x → slice_get xs i ≡ Some x
get_fewer xs zero i x e = cc
get_fewer [] (suc n) i x e = e
get_fewer (z ∷ xs) (suc n) zero x e = e
get_fewer (z ∷ xs) (suc n) (suc i) x e = get_fewer xs n i x e

pub are_more : (bodies : List Body) (body : Body) → AreBodies bodies → IsBody (length bodies) body → AreBodies (bodies ++ body ∷ [])
are_more bodies body all one i x e =
    elim (get_more bodies body x i e)
    [ inl at ↦ all i x at | inr at ↦ subst (λ n. IsBody n x) (sym at.0) (subst (IsBody (length bodies)) (sym at.1) one) ]

pub are_fewer : (bodies : List Body) (n : ℕ) → AreBodies bodies → AreBodies (take n bodies)
are_fewer bodies n all i x e = all i x (get_fewer bodies n i x e)

pub bodies_more : (before after : List (Arc Cow Global)) (node : Arc Cow Global) (cow : Cow) → after ≡ before ++ node ∷ []
    → node.value ≡ cow
    → bodies_of after ≡ bodies_of before ++ body_of cow ∷ []
bodies_more before after node cow e is = ap bodies_of e ∙ map-append (λ (n : Arc Cow Global). body_of n.value) before (node ∷ [])
    ∙ ap (λ c. bodies_of before ++ body_of c ∷ []) is

pub pushed : (before after : List (Arc Cow Global)) (node : Arc Cow Global) (cow : Cow) → after ≡ before ++ node ∷ [] → node.value ≡ cow
    → AreBodies (bodies_of before) → IsBody (length (bodies_of before)) (body_of cow) → AreBodies (bodies_of after)
pushed before after node cow e is all one =
    subst AreBodies (sym (bodies_more before after node cow e is)) (are_more (bodies_of before) (body_of cow) all one)

take_map : {A B : Type 0} (f : A → B) (n : ℕ) (xs : List A) → map f (take n xs) ≡ take n (map f xs)
take_map f zero xs = refl
take_map f (suc n) [] = refl
take_map f (suc n) (x ∷ xs) = ap (λ ys. f x ∷ ys) (take_map f n xs)

pub bodies_fewer : (before after : List (Arc Cow Global)) (n : ℕ) → after ≡ take n before → bodies_of after ≡ take n (bodies_of before)
bodies_fewer before after n e = ap bodies_of e ∙ take_map (λ (x : Arc Cow Global). body_of x.value) n before

get_body : (nodes : List (Arc Cow Global)) (i : ℕ) (node : Arc Cow Global) → i < length (bodies_of nodes)
    → node ≡ slice_index_or nodes i node → slice_get (bodies_of nodes) i ≡ Some (body_of node.value)
get_body [] i node low e = absurd (omega arith)
get_body (x ∷ nodes) zero node low e = ap (λ (y : Arc Cow Global). Some (body_of y.value)) (sym e)
get_body (x ∷ nodes) (suc i) node low e = get_body nodes i node (omega arith) e

-- what the node at a place is
pub body_told : (nodes : List (Arc Cow Global)) (bodies : List Body) (i : ℕ) (node : Arc Cow Global) (body : Body)
    → bodies_of nodes ≡ bodies → i < length bodies → node ≡ slice_index_or nodes i node
    → slice_get bodies i ≡ Some body → body_of node.value ≡ body
body_told nodes bodies i node body are low e at =
    let told = get_body nodes i node (omega (arith, ap length are)) e in
    let same : Some (body_of node.value) ≡ Some body = sym told ∙ ap (λ bs. slice_get bs i) are ∙ at in
    some_same _ _ same
  where
    some_same : (a b : Body) → Some a ≡ Some b → a ≡ b
    some_same a b e = cc

-- a node that is shared stands behind the others
pub shared : (before after : List (Arc Cow Global)) (node : Arc Cow Global) (front : List Body) (body : Body)
    → after ≡ before ++ node ∷ [] → bodies_of before ≡ front → body_of node.value ≡ body
    → bodies_of after ≡ front ++ body ∷ []
shared before after node front body e are is = bodies_more before after node node.value e refl ∙ (λ i. are i ++ is i ∷ [])
