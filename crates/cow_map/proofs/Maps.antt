-- Maps as wholes: which have a top node, and that a change that failed is cut off again.
use Rattle.std.proofs.Common.{◌≡◌, ◌≢◌, inl, inr, ℕ, ◌<◌, ◌≤◌, ◌==◌, Bool, true, false, if◌then◌else◌, not, List, [], ◌∷◌, ◌++◌, length}
use Rattle.std.proofs.Common.{take, None, Some, refl, sym, ap, ◌∙◌, subst, arith}
use Rattle.std.proofs.lemmas.Option.{slice_get_cases}
use Rattle.nib_path.specs.Paths.{lies_under}
use Rattle.ledger_spec.specs.declared.Kind.{Kind}
use Rattle.ledger_spec.specs.declared.ShapeFault.TheVariants.{LeafElsewhere, InnerAtBottom, LeafAtRoot}
use Rattle.ledger_spec.specs.Bytes.{Hash, Half, Lookup}
use Rattle.ledger_spec.specs.Forms as held
use Rattle.ledger_spec.specs.Findings.{Sight, sight_of, missing, broken, sound}
use Rattle.ledger_spec.specs.Rules.{fault_of}
use Rattle.ledger_spec.specs.Tree.{Entry}
use Rattle.cow_map.specs.declared.link.Link.{Link}
use Rattle.cow_map.specs.declared.link.Link.TheVariants.{Empty, Unloaded, Own}
use Rattle.cow_map.specs.Bodies.{Body, leaf, inner, IsBelow}
use Rattle.cow_map.specs.Trees.{Found, none, one, fork, lacks, breaks, found_at, found_body, found_seen, fewest, Holds, StandsAt}
use Rattle.cow_map.proofs.shared.Standing.{Below, stands_into}

-- nodes that were added are cut off again
pub cut_back : (old more now cut : List Body) (n : ℕ) → n ≡ length old → now ≡ old ++ more → cut ≡ take n now → cut ≡ old
cut_back old more now cut n at grown is = is ∙ ap (λ m. take m now) at ∙ ap (take (length old)) grown ∙ front old
  where
    front : (xs : List Body) → take (length xs) (xs ++ more) ≡ xs
    front [] = refl
    front (x ∷ xs) = ap (λ ys. x ∷ ys) (front xs)

pub none_more : (xs : List Body) → xs ≡ xs ++ []
none_more [] = refl
none_more (x ∷ xs) = ap (λ ys. x ∷ ys) (none_more xs)

abbrev IsNot : Found → Type 0
IsNot none = ⊥
IsNot f = Unit {0}

if_not : (t : Bool) (a b : Found) → IsNot a → IsNot b → IsNot (if t then a else b)
if_not true a b p q = p
if_not false a b p q = q

body_not : (path : List ℕ) (body : Body) → IsNot (found_body path (Some body))
body_not path (leaf key bytes) =
    if_not (length path == 0) (breaks LeafAtRoot) (if not (lies_under path key) then breaks (LeafElsewhere key) else one key bytes) tt
    (if_not (not (lies_under path key)) (breaks (LeafElsewhere key)) (one key bytes) tt tt)
body_not path (inner links) = if_not (length path == 64) (breaks InnerAtBottom) (fork links) tt tt

seen_not : (h : Hash) (s : Sight) → IsNot (found_seen h s)
seen_not h missing = tt
seen_not h (broken fault) = tt
seen_not h (sound (held.inner hashes)) = tt
seen_not h (sound (held.leaf kind key bytes)) = tt
seen_not h (sound (held.header bytes)) = tt

link_not : (half : Half) (stored : Lookup) (kind : Kind) (nodes : List Body) (path : List ℕ) (link : Link) → IsBelow (length nodes) link
    → link ≢ Empty → IsNot (found_at half stored kind nodes path link)
link_not half stored kind nodes path Empty low other = absurd (other refl)
link_not half stored kind nodes path (Unloaded h) low other = seen_not h (sight_of half (λ n. fault_of n None kind path) (stored h))
link_not half stored kind nodes path (Own i) low other =
    elim ((slice_get_cases nodes i).1) [
      | inl at ↦ subst (λ o. IsNot (found_body path o)) (sym at.2) (body_not path at.0)
      | inr past ↦ absurd (omega (arith, past.0))
    ]

holds_some : (below : ℕ → Link → List Entry → Type 0) (path : List ℕ) (found : Found) (items : List Entry) → IsNot found
    → Holds below path found items → items ≢ []
holds_some below path none items some h e = some
holds_some below path (one key bytes) items some h e = let single : List Entry = (key, bytes) ∷ [] in let same : single ≡ [] = sym h.alone
    ∙ e in cc
holds_some below path (fork links) items some h e = at_least path items h.enough e
  where
    at_least : (p : List ℕ) (es : List Entry) → fewest p ≤ length es → es ≢ []
    at_least [] [] enough e = omega arith
    at_least (n ∷ p) [] enough e = omega arith
    at_least p (x ∷ es) enough e = cc
holds_some below path (lacks g) items some h e = h
holds_some below path (breaks fault) items some h e = h

-- a map with a top node isn't empty
pub stands_some : (half : Half) (stored : Lookup) (kind : Kind) (nodes : List Body) (left : ℕ) (path : List ℕ) (link : Link)
    (items : List Entry) → IsBelow (length nodes) link → link ≢ Empty
    → StandsAt half stored kind nodes left path link items → items ≢ []
stands_some half stored kind nodes left path link items low other stands =
    holds_some (Below half stored kind nodes left path) path (found_at half stored kind nodes path link) items
    (link_not half stored kind nodes path link low other)
    (stands_into half stored kind nodes left path link items (found_at half stored kind nodes path link) refl stands)

pub stands_none : (half : Half) (stored : Lookup) (kind : Kind) (nodes : List Body) (left : ℕ) (path : List ℕ) (link : Link)
    (items : List Entry) → link ≡ Empty → StandsAt half stored kind nodes left path link items → items ≡ []
stands_none half stored kind nodes left path link items at stands =
    stands_into half stored kind nodes left path link items none (ap (found_at half stored kind nodes path) at) stands

pub positive : (n m : ℕ) → m ≡ n → (m ≡ 0 → ⊥) → 0 < n
positive n m e h = omega arith
