-- What the code sees is what is found.
use Rattle.std.proofs.Common.{◌≡◌, ℕ, ◌≤◌, ◌==◌, suc, Bool, true, false, not, if◌then◌else◌, List, [], ◌∷◌, length, map, Option, None}
use Rattle.std.proofs.Common.{Some, refl, sym, ap, ◌∙◌, subst, arith, IsTrue, slice_index_or, cond}
use Rattle.std.proofs.lemmas.Bool.Decides.{nat_tests}
use Rattle.nib_path.specs.Paths.{lies_under}
use Rattle.ledger_spec.specs.declared.Kind.{Kind}
use Rattle.ledger_spec.specs.declared.ShapeFault.{ShapeFault}
use Rattle.ledger_spec.specs.declared.ShapeFault.TheVariants.{LeafElsewhere, InnerAtBottom, LeafAtRoot, Foreign, WrongKind}
use Rattle.ledger_spec.specs.Bytes.{Bytes, Hash, Half}
use Rattle.ledger_spec.specs.Forms as held
use Rattle.ledger_spec.specs.Forms.{Held, Form, IsHeld}
use Rattle.ledger_spec.specs.Rules.{fault_of, same_kind}
use Rattle.ledger_spec.specs.Findings.{sight_of, judged, seen_as, held_of, broken, sound}
use Rattle.shamap_node.specs.declared.Node.{Node}
use Rattle.shamap_node.specs.declared.Node.TheVariants as nodes
use Rattle.shamap_node.specs.Nodes.{held as held_in}
use Rattle.shamap_node.specs.Laws.{is_no_node}
use Rattle.ledger_spec.proofs.shared.Seeing.{sees}
use Rattle.cow_map.specs.declared.link.Link.{Link}
use Rattle.cow_map.specs.declared.link.Link.TheVariants.{Empty}
use Rattle.cow_map.specs.declared.look.Seen.{Seen}
use Rattle.cow_map.specs.declared.look.Seen.TheVariants as seen
use Rattle.cow_map.specs.Bodies.{Body, inner, IsBelow}
use Rattle.cow_map.specs.Trees.{Found, one, fork, breaks, link_to, found_held, found_body}
use Rattle.cow_map.specs.Looks.{SeenAs, IsPlaced}
use Rattle.cow_map.proofs.Leading.{below_all}

-- a leaf that breaks no rule is the item
pub passes : (a b : Bool) (f g : ShapeFault) (found : Found) → a ≡ false → b ≡ true
    → (if a then breaks f else if not b then breaks g else found) ≡ found
passes a b f g found e h = ap (λ t. cond t (breaks f) (if not b then breaks g else found)) e ∙ ap (λ t. cond (not t) (breaks g) found) h

-- what is held is seen where it breaks no rule, and else its fault
module _ (half : Half) (rules : Held → Option ShapeFault) (o : Option Bytes) (n : Held) (form : Bytes) (at : o ≡ Some form)
    (is : Form half n form) where
  pub seen_fits : rules n ≡ None → sight_of half rules o ≡ sound n
  seen_fits fits = ap (sight_of half rules) at ∙ ap (judged rules) (sees half n form is) ∙ ap (seen_as n) fits

  pub seen_breaks : (fault : ShapeFault) → rules n ≡ Some fault → sight_of half rules o ≡ broken fault
  seen_breaks fault found = ap (sight_of half rules) at ∙ ap (judged rules) (sees half n form is) ∙ ap (seen_as n) found

foreign_held : (kind : Kind) (path : List ℕ) (o : Option Held) → IsTrue (is_no_node o)
    → judged (λ n. fault_of n None kind path) o ≡ broken Foreign
foreign_held kind path None none_is = refl
foreign_held kind path (Some (held.header bytes)) none_is = refl
foreign_held kind path (Some (held.inner hashes)) none_is = cc
foreign_held kind path (Some (held.leaf k key bytes)) none_is = cc

pub seen_foreign : (half : Half) (kind : Kind) (path : List ℕ) (o : Option Bytes) (form : Bytes) → o ≡ Some form
    → IsTrue (is_no_node (held_of half form))
    → sight_of half (λ n. fault_of n None kind path) o ≡ broken Foreign
seen_foreign half kind path o form at none_is = ap (sight_of half (λ n. fault_of n None kind path)) at
    ∙ foreign_held kind path (held_of half form) none_is

-- a leaf that breaks no rule lies on the way to its key
leaf_faultless : (a b c : Bool) (f g h : ShapeFault)
    → (if not a then Some f else if b then Some g else if not c then Some h else None) ≡ None → (b ≡ false) × (c ≡ true)
leaf_faultless true false true f g h e = (refl, refl)
leaf_faultless true false false f g h e = cc
leaf_faultless true true c f g h e = cc
leaf_faultless false b c f g h e = cc

inner_faultless : (a : Bool) (f : ShapeFault) → (if a then Some f else None) ≡ None → a ≡ false
inner_faultless true f e = cc
inner_faultless false f e = refl

pub placed_leaf : (n : ℕ) (path : List ℕ) (key own : Hash) (bytes : Bytes) → own ≡ key → (length path == 0) ≡ false
    → lies_under path key ≡ true → IsPlaced n path (seen.Leaf own bytes)
placed_leaf n path key own bytes is long under = (subst (λ k. IsTrue (lies_under path k)) (sym is) under, grind (arith, nat_tests))

pub placed_inner : (n : ℕ) (path : List ℕ) (links : List Link) → length path ≤ 64 → (length path == 64) ≡ false → length links ≡ 16
    → ((b : ℕ) → IsBelow n (slice_index_or links b Empty))
    → IsPlaced n path (seen.Inner links)
placed_inner n path links low other width below = (grind (arith, nat_tests), width, below)

length_links : (hashes : List Hash) → length (map link_to hashes) ≡ length hashes
length_links [] = refl
length_links (h ∷ hashes) = ap suc (length_links hashes)

pub placed_node : (n : ℕ) (kind : Kind) (path : List ℕ) (node : Node) (s : Seen) → length path ≤ 64
    → fault_of (held_in node) None kind path ≡ None → SeenAs (found_held (held_in node)) s → IsPlaced n path s
placed_node n kind path node seen.Nothing low fits shown = tt
placed_node n kind path (nodes.Leaf l) (seen.Leaf key bytes) low fits shown =
    let both = leaf_faultless (same_kind l.kind kind) (length path == 0) (lies_under path l.item.key) WrongKind LeafAtRoot
    (LeafElsewhere l.item.key) fits in
    placed_leaf n path l.item.key key bytes (one_key _ _ _ _ shown) both.0 both.1
  where
    one_key : (k m : Hash) (b c : Bytes) → one k b ≡ one m c → m ≡ k
    one_key k m b c e = cc
placed_node n kind path (nodes.Inner i) (seen.Leaf key bytes) low fits shown = let e : fork (map link_to i.hashes) ≡ one key bytes =
    shown in cc
placed_node n kind path (nodes.Leaf l) (seen.Inner links) low fits shown = cc
placed_node n kind path (nodes.Inner i) (seen.Inner links) low fits shown =
    let is : map link_to i.hashes ≡ links = fork_links _ _ shown in
    placed_inner n path links low (inner_faultless (length path == 64) InnerAtBottom fits)
    (sym (ap length is) ∙ length_links i.hashes ∙ i.valid.count)
    (subst (λ ls. (b : ℕ) → IsBelow n (slice_index_or ls b Empty)) is (below_all n i.hashes))
  where
    fork_links : (ls ms : List Link) → fork ls ≡ fork ms → ls ≡ ms
    fork_links ls ms e = cc

-- what the map's own node is
pub own_shows : (path : List ℕ) (o : Option Body) (links : List Link) → o ≡ Some (inner links) → (length path == 64) ≡ false
    → found_body path o ≡ fork links
own_shows path o links at other = ap (found_body path) at ∙ ap (λ t. cond t (breaks InnerAtBottom) (fork links)) other
