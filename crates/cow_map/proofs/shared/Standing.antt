-- What a link stands for below a branch, and as the list of nodes grows. For proofs of other crates.
use Rattle.std.proofs.Common.{◌≡◌, ℕ, zero, suc, ◌<◌, List, [], ◌∷◌, ◌++◌, length}
use Rattle.std.proofs.Common.{refl, sym, subst, IsTrue, slice_index_or}
use Rattle.nib_path.specs.Paths.{lies_under}
use Rattle.ledger_spec.specs.declared.Kind.{Kind}
use Rattle.ledger_spec.specs.Bytes.{Half, Lookup, branches}
use Rattle.ledger_spec.specs.Tree.{Entry}
use Rattle.cow_map.specs.declared.link.Link.{Link}
use Rattle.cow_map.specs.declared.link.Link.TheVariants.{Empty}
use Rattle.cow_map.specs.Bodies.{Body, IsBelow, AreBodies}
use Rattle.cow_map.specs.Trees.{Found, none, one, fork, lacks, breaks, found_at, Forks, Holds, StandsAt}
use Rattle.cow_map.proofs.Leading.{found_grows, fork_below}
use Rattle.cow_map.proofs.Branches.{AllUnder, under_place, all_flat, all_range}

-- what a branch holds, a level lower
abbrev pub Below : Half → Lookup → Kind → List Body → ℕ → List ℕ → ℕ → Link → List Entry → Type 0
Below half stored kind nodes zero path b l es = ⊥
Below half stored kind nodes (suc left) path b l es = StandsAt half stored kind nodes left (path ++ b ∷ []) l es

-- where the branches hold more
pub forks_map : (below over : ℕ → Link → List Entry → Type 0) (path : List ℕ) (links : List Link) (items : List Entry)
    → ((b : ℕ) (es : List Entry) → b < 16 → below b (slice_index_or links b Empty) es → over b (slice_index_or links b Empty) es)
    → Forks below path links items → Forks over path links items
forks_map below over path links items f h = record {
  width = h.width;
  kids = h.kids;
  joined = h.joined;
  each = λ b low. f b (h.kids b) low (h.each b low);
  enough = h.enough;
}

pub holds_map : (below over : ℕ → Link → List Entry → Type 0) (path : List ℕ) (found : Found) (items : List Entry)
    → ((links : List Link) (b : ℕ) (es : List Entry) → found ≡ fork links → b < 16 → below b (slice_index_or links b Empty) es
    → over b (slice_index_or links b Empty) es)
    → Holds below path found items → Holds over path found items
holds_map below over path none items f h = h
holds_map below over path (one key bytes) items f h = h
holds_map below over path (fork links) items f h = forks_map below over path links items (λ b es low. f links b es refl low) h
holds_map below over path (lacks g) items f h = h
holds_map below over path (breaks fault) items f h = h

-- all entries lie below the place
holds_under : (below : ℕ → Link → List Entry → Type 0) (path : List ℕ) (found : Found) (items : List Entry)
    → ((b : ℕ) (l : Link) (es : List Entry) → below b l es → AllUnder (path ++ b ∷ []) es) → Holds below path found items
    → AllUnder path items
holds_under below path none items f h = subst (AllUnder path) (sym h) tt
holds_under below path (one key bytes) items f h = subst (AllUnder path) (sym h.alone) (h.under, tt)
holds_under below path (fork links) items f h =
    subst (AllUnder path) (sym h.joined) (all_flat (λ (e : Entry). IsTrue (lies_under path e.0)) h.kids branches
    (all_range (λ b. AllUnder path (h.kids b)) 16 0 (λ b low high. under_place path b (h.kids b) (f b _ (h.kids b) (h.each b high)))))
holds_under below path (lacks g) items f h = absurd h
holds_under below path (breaks fault) items f h = absurd h

pub stands_under : (half : Half) (stored : Lookup) (kind : Kind) (nodes : List Body) (left : ℕ) (path : List ℕ) (link : Link)
    (items : List Entry)
    → StandsAt half stored kind nodes left path link items → AllUnder path items
unfolding StandsAt
stands_under half stored kind nodes zero path link items h =
    holds_under _ path (found_at half stored kind nodes path link) items (λ b l es none. absurd none) h
stands_under half stored kind nodes (suc left) path link items h =
    holds_under (λ b l es. StandsAt half stored kind nodes left (path ++ b ∷ []) l es) path (found_at half stored kind nodes path link)
    items
    (λ b l es at. stands_under half stored kind nodes left (path ++ b ∷ []) l es at) h

-- a longer list of nodes stands for the same
pub stands_grows : (half : Half) (stored : Lookup) (kind : Kind) (nodes more : List Body) → AreBodies nodes
    → (left : ℕ) (path : List ℕ) (link : Link) (items : List Entry)
    → IsBelow (length nodes) link → StandsAt half stored kind nodes left path link items
    → StandsAt half stored kind (nodes ++ more) left path link items
unfolding StandsAt
stands_grows half stored kind nodes more bodies zero path link items low h =
    subst (λ f. Holds (λ b l es. ⊥) path f items) (sym (found_grows half stored kind nodes more path link low)) h
stands_grows half stored kind nodes more bodies (suc left) path link items low h =
    subst (λ f. Holds (λ b l es. StandsAt half stored kind (nodes ++ more) left (path ++ b ∷ []) l es) path f items)
    (sym (found_grows half stored kind nodes more path link low))
    (holds_map (λ b l es. StandsAt half stored kind nodes left (path ++ b ∷ []) l es)
    (λ b l es. StandsAt half stored kind (nodes ++ more) left (path ++ b ∷ []) l es) path
    (found_at half stored kind nodes path link) items
    (λ links b es is in_16 at. stands_grows half stored kind nodes more bodies left (path ++ b ∷ []) (slice_index_or links b Empty) es
    (fork_below half stored kind nodes bodies path link links low is b) at) h)

pub stands_into : (half : Half) (stored : Lookup) (kind : Kind) (nodes : List Body) (left : ℕ) (path : List ℕ) (link : Link)
    (items : List Entry) (found : Found)
    → found_at half stored kind nodes path link ≡ found → StandsAt half stored kind nodes left path link items
    → Holds (Below half stored kind nodes left path) path found items
unfolding StandsAt
stands_into half stored kind nodes zero path link items found is h =
    subst (λ f. Holds (Below half stored kind nodes zero path) path f items) is h
stands_into half stored kind nodes (suc left) path link items found is h =
    subst (λ f. Holds (Below half stored kind nodes (suc left) path) path f items) is h
