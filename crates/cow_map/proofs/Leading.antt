-- What a link leads to, in a list of nodes and in a source: the links and entries that are found there, and that a longer list changes
-- nothing.
use Rattle.std.proofs.Common.{◌≡◌, ℕ, zero, suc, ◌<◌, ◌==◌, Bool, true, false, not, if◌then◌else◌, List, [], ◌∷◌, ◌++◌, length, map}
use Rattle.std.proofs.Common.{Option, None, Some, refl, sym, ap, ◌∙◌, subst, arith, IsTrue, slice_index_or}
use Rattle.std.specs.List.{slice_get}
use Rattle.std.proofs.lemmas.Bool.Decides.{nat_tests}
use Rattle.nib_path.specs.Paths.{lies_under}
use Rattle.ledger_spec.specs.declared.Kind.{Kind}
use Rattle.ledger_spec.specs.declared.ShapeFault.{ShapeFault}
use Rattle.ledger_spec.specs.declared.ShapeFault.TheVariants.{LeafElsewhere, LeafAtRoot, WrongKind}
use Rattle.ledger_spec.specs.Bytes.{Bytes, Hash, Half, Lookup, is_zero}
use Rattle.ledger_spec.specs.Forms as held
use Rattle.ledger_spec.specs.Forms.{Held}
use Rattle.ledger_spec.specs.Rules.{fault_of, same_kind}
use Rattle.ledger_spec.specs.Findings.{Sight, sight_of, judged, seen_as, held_of, missing, broken, sound}
use Rattle.cow_map.specs.declared.link.Link.{Link}
use Rattle.cow_map.specs.declared.link.Link.TheVariants.{Empty, Unloaded, Own}
use Rattle.cow_map.specs.Bodies.{Body, leaf, inner, IsBelow, AreBodies}
use Rattle.cow_map.specs.Trees.{none, one, fork, breaks, link_to, found_seen, found_body, found_at}
use Rattle.cow_map.proofs.shared.Leading.{get_within, weaker, body_fork, body_one}

pub get_last : {A : Type 0} (xs : List A) (y : A) → slice_get (xs ++ y ∷ []) (length xs) ≡ Some y
get_last [] y = refl
get_last (x ∷ xs) y = get_last xs y

pub get_seam : {A : Type 0} (xs : List A) (y : A) (ys : List A) → slice_get (xs ++ y ∷ ys) (length xs) ≡ Some y
get_seam [] y ys = refl
get_seam (x ∷ xs) y ys = get_seam xs y ys

-- the links of a node of the source lead to none of the list
below_to : (n : ℕ) (zero_is : Bool) (h : Hash) → IsBelow n (if zero_is then Empty else Unloaded h)
below_to n true h = tt
below_to n false h = tt

pub below_all : (n : ℕ) (hashes : List Hash) (b : ℕ) → IsBelow n (slice_index_or (map link_to hashes) b Empty)
below_all n [] b = tt
below_all n (h ∷ hashes) zero = below_to n (is_zero h) h
below_all n (h ∷ hashes) (suc b) = below_all n hashes b

-- and of one of the source
pub seen_fork : (h : Hash) (s : Sight) (links : List Link) → found_seen h s ≡ fork links → (hashes : List Hash)
    × (s ≡ sound (held.inner hashes)) × (links ≡ map link_to hashes)
seen_fork h missing links e = cc
seen_fork h (broken fault) links e = cc
seen_fork h (sound (held.inner hashes)) links e = (hashes, refl, cc)
seen_fork h (sound (held.leaf kind key bytes)) links e = cc
seen_fork h (sound (held.header bytes)) links e = cc

module _ (half : Half) (stored : Lookup) (kind : Kind) (nodes : List Body) where
  -- a longer list changes nothing for a link into the list
  pub found_grows : (more : List Body) (path : List ℕ) (link : Link) → IsBelow (length nodes) link
      → found_at half stored kind (nodes ++ more) path link ≡ found_at half stored kind nodes path link
  found_grows more path Empty h = refl
  found_grows more path (Unloaded g) h = refl
  found_grows more path (Own i) h = ap (found_body path) (get_within nodes more i h)

  -- the links of what is found lead into the list
  pub fork_below : AreBodies nodes → (path : List ℕ) (link : Link) (links : List Link) → IsBelow (length nodes) link
      → found_at half stored kind nodes path link ≡ fork links
      → (b : ℕ) → IsBelow (length nodes) (slice_index_or links b Empty)
  fork_below bodies path Empty links h e b = absurd (no_none e)
    where
      no_none : none ≡ fork links → ⊥
      no_none e = cc
  fork_below bodies path (Own i) links h e b =
      weaker i (length nodes) (slice_index_or links b Empty) (omega arith)
      ((bodies i (inner links) (body_fork path (slice_get nodes i) links e)).1 b)
  fork_below bodies path (Unloaded g) links h e b =
      let seen = seen_fork g (sight_of half (λ n. fault_of n None kind path) (stored g)) links e in
      subst (λ ls. IsBelow (length nodes) (slice_index_or ls b Empty)) (sym seen.2) (below_all (length nodes) seen.0 b)

-- a leaf leads to its item at each place on the way to its key
pub found_leaf : (path : List ℕ) (key : Hash) (bytes : Bytes) → 0 < length path → IsTrue (lies_under path key)
    → found_body path (Some (leaf key bytes)) ≡ one key bytes
found_leaf path key bytes long under =
    let some : (length path == 0) ≡ false = grind (arith, nat_tests) in
    ap (λ t. if t then breaks LeafAtRoot else if not (lies_under path key) then breaks (LeafElsewhere key) else one key bytes) some
    ∙ ap (λ t. if not t then breaks (LeafElsewhere key) else one key bytes) under

pub seen_one : (h : Hash) (s : Sight) (key : Hash) (bytes : Bytes) → found_seen h s ≡ one key bytes → (kind : Kind)
    × (s ≡ sound (held.leaf kind key bytes))
seen_one h missing key bytes e = cc
seen_one h (broken fault) key bytes e = cc
seen_one h (sound (held.inner hashes)) key bytes e = cc
seen_one h (sound (held.leaf kind k v)) key bytes e = (kind, λ i. sound (held.leaf kind (first i) (second i)))
  where
    first : k ≡ key
    first = cc

    second : v ≡ bytes
    second = cc
seen_one h (sound (held.header b)) key bytes e = cc

-- a leaf's rules at another place on the way to its key
fits_there : (a b c d e : Bool) (f g h : ShapeFault)
    → (if not a then Some f else if b then Some g else if not c then Some h else None) ≡ None → d ≡ false → e ≡ true
    → (if not a then Some f else if d then Some g else if not e then Some h else None) ≡ None
fits_there false b c d e f g h is low up = cc
fits_there true b c true e f g h is low up = cc
fits_there true b c false true f g h is low up = refl
fits_there true b c false false f g h is low up = cc

held_judged : (rules over : Held → Option ShapeFault) (o : Option Held) (n : Held) → judged rules o ≡ sound n
    → (rules n ≡ None → over n ≡ None) → judged over o ≡ sound n
held_judged rules over None n e f = cc
held_judged rules over (Some m) n e f = by (rules m) refl e
  where
    by : (r : Option ShapeFault) → rules m ≡ r → seen_as m r ≡ sound n → judged over (Some m) ≡ sound n
    by None is e =
        let same : m ≡ n = cc in
        let fits : over m ≡ None = ap over same ∙ f (ap rules (sym same) ∙ is) in
        ap (seen_as m) fits ∙ ap sound same
    by (Some fault) is e = cc

pub sight_judged : (half : Half) (rules over : Held → Option ShapeFault) (o : Option Bytes) (n : Held) → sight_of half rules o ≡ sound n
    → (rules n ≡ None → over n ≡ None) → sight_of half over o ≡ sound n
sight_judged half rules over None n e f = cc
sight_judged half rules over (Some form) n e f = held_judged rules over (held_of half form) n e f

module _ (half : Half) (stored : Lookup) (kind : Kind) (nodes : List Body) where
  -- what leads to a leaf at one place leads to it at each on the way to its key
  pub leaf_moves : (path : List ℕ) (link : Link) (key : Hash) (bytes : Bytes) → found_at half stored kind nodes path link ≡ one key bytes
      → (q : List ℕ) → 0 < length q → IsTrue (lies_under q key) → found_at half stored kind nodes q link ≡ one key bytes
  leaf_moves path Empty key bytes e q long under = absurd (no_none e)
    where
      no_none : none ≡ one key bytes → ⊥
      no_none e = cc
  leaf_moves path (Own i) key bytes e q long under = ap (found_body q) (body_one path (slice_get nodes i) key bytes e)
      ∙ found_leaf q key bytes long under
  leaf_moves path (Unloaded h) key bytes e q long under =
      let seen = seen_one h (sight_of half (λ n. fault_of n None kind path) (stored h)) key bytes e in
      let some : (length q == 0) ≡ false = grind (arith, nat_tests) in
      ap (found_seen h) (sight_judged half (λ n. fault_of n None kind path) (λ n. fault_of n None kind q) (stored h)
      (held.leaf seen.0 key bytes) seen.1
      (λ fits. fits_there (same_kind seen.0 kind) (length path == 0) (lies_under path key) (length q == 0) (lies_under q key) WrongKind
      LeafAtRoot (LeafElsewhere key) fits some under))

pub seen_none : (h : Hash) (s : Sight) → found_seen h s ≡ none → ⊥
seen_none h missing e = cc
seen_none h (broken fault) e = cc
seen_none h (sound (held.inner hashes)) e = cc
seen_none h (sound (held.leaf kind key bytes)) e = cc
seen_none h (sound (held.header bytes)) e = cc
