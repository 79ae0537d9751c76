-- What is found of a node in a map's list, and links and nodes as the list grows. For proofs of other crates.
use Rattle.std.proofs.Common.{◌≡◌, ℕ, zero, suc, ◌<◌, ◌≤◌, ◌==◌, Bool, true, false, not, if◌then◌else◌, List, [], ◌∷◌, ◌++◌, length}
use Rattle.std.proofs.Common.{Option, None, Some, refl, ap, arith}
use Rattle.std.specs.List.{slice_get}
use Rattle.nib_path.specs.Paths.{lies_under}
use Rattle.ledger_spec.specs.declared.ShapeFault.{ShapeFault}
use Rattle.ledger_spec.specs.declared.ShapeFault.TheVariants.{LeafElsewhere, InnerAtBottom, LeafAtRoot}
use Rattle.ledger_spec.specs.Bytes.{Bytes, Hash}
use Rattle.cow_map.specs.declared.link.Link.{Link}
use Rattle.cow_map.specs.declared.link.Link.TheVariants.{Empty, Unloaded, Own}
use Rattle.cow_map.specs.Bodies.{Body, leaf, inner, IsBelow}
use Rattle.cow_map.specs.Trees.{none, one, fork, breaks, found_body}

-- an element of a longer list
pub get_within : {A : Type 0} (xs ys : List A) (i : ℕ) → i < length xs → slice_get (xs ++ ys) i ≡ slice_get xs i
get_within [] ys i h = absurd (omega arith)
get_within (x ∷ xs) ys zero h = refl
get_within (x ∷ xs) ys (suc i) h = let below : i < length xs = omega arith in get_within xs ys i below

pub weaker : (n m : ℕ) (link : Link) → n ≤ m → IsBelow n link → IsBelow m link
weaker n m Empty h in_n = tt
weaker n m (Unloaded g) h in_n = tt
weaker n m (Own i) h in_n = omega arith

-- what a node of one's own is, from what is found there
cond_fork : (b : Bool) (fault : ShapeFault) (ls links : List Link) → (if b then breaks fault else fork ls) ≡ fork links → ls ≡ links
cond_fork true fault ls links e = cc
cond_fork false fault ls links e = cc

cond_no_fork : (a b : Bool) (f g : ShapeFault) (key : Hash) (bytes : Bytes) (links : List Link)
    → (if a then breaks f else if b then breaks g else one key bytes) ≡ fork links → ⊥
cond_no_fork true b f g key bytes links e = cc
cond_no_fork false true f g key bytes links e = cc
cond_no_fork false false f g key bytes links e = cc

pub body_fork : (path : List ℕ) (o : Option Body) (links : List Link) → found_body path o ≡ fork links → o ≡ Some (inner links)
body_fork path None links e = cc
body_fork path (Some (leaf key bytes)) links e =
    absurd (cond_no_fork (length path == 0) (not (lies_under path key)) LeafAtRoot (LeafElsewhere key) key bytes links e)
body_fork path (Some (inner ls)) links e = ap (λ l. Some (inner l)) (cond_fork (length path == 64) InnerAtBottom ls links e)

cond_one : (a b : Bool) (f g : ShapeFault) (k key : Hash) (v bytes : Bytes)
    → (if a then breaks f else if b then breaks g else one k v) ≡ one key bytes → (k ≡ key) × (v ≡ bytes)
cond_one true b f g k key v bytes e = cc
cond_one false true f g k key v bytes e = cc
cond_one false false f g k key v bytes e = (cc, cc)

cond_not_one : (b : Bool) (f : ShapeFault) (ls : List Link) (key : Hash) (bytes : Bytes)
    → (if b then breaks f else fork ls) ≡ one key bytes → ⊥
cond_not_one true f ls key bytes e = cc
cond_not_one false f ls key bytes e = cc

pub body_one : (path : List ℕ) (o : Option Body) (key : Hash) (bytes : Bytes) → found_body path o ≡ one key bytes
    → o ≡ Some (leaf key bytes)
body_one path None key bytes e = cc
body_one path (Some (leaf k v)) key bytes e =
    let same = cond_one (length path == 0) (not (lies_under path k)) LeafAtRoot (LeafElsewhere k) k key v bytes e in
    λ i. Some (leaf (same.0 i) (same.1 i))
body_one path (Some (inner ls)) key bytes e = absurd (cond_not_one (length path == 64) InnerAtBottom ls key bytes e)

cond_no_none : (a b : Bool) (f g : ShapeFault) (key : Hash) (bytes : Bytes)
    → (if a then breaks f else if b then breaks g else one key bytes) ≡ none → ⊥
cond_no_none true b f g key bytes e = cc
cond_no_none false true f g key bytes e = cc
cond_no_none false false f g key bytes e = cc

fork_no_none : (a : Bool) (f : ShapeFault) (ls : List Link) → (if a then breaks f else fork ls) ≡ none → ⊥
fork_no_none true f ls e = cc
fork_no_none false f ls e = cc

-- nothing is found where there is no node alone
pub body_none : (path : List ℕ) (o : Option Body) → found_body path o ≡ none → o ≡ None
body_none path None e = refl
body_none path (Some (leaf key bytes)) e =
    absurd (cond_no_none (length path == 0) (not (lies_under path key)) LeafAtRoot (LeafElsewhere key) key bytes e)
body_none path (Some (inner ls)) e = absurd (fork_no_none (length path == 64) InnerAtBottom ls e)
