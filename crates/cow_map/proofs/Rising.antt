-- The entries that a link stands for are items whose keys rise.
use Rattle.std.proofs.Common.{◌≡◌, ◌≢◌, ℕ, zero, suc, ◌+◌, ◌<◌, ◌≤◌, List, [], ◌∷◌, ◌++◌, refl, sym, subst, arith, IsTrue}
use Rattle.std.specs.List.{flat_map, range_with_len, AllByRecursion}
use Rattle.std.specs.declared.cmp.Ordering.TheVariants.{Less}
use Rattle.std.specs.List.Sorted.{IsStrictlySortedBy}
use Rattle.std.specs.Map.{keys_of}
use Rattle.nib_path.specs.Paths.{lies_under}
use Rattle.ledger_spec.specs.declared.Kind.{Kind}
use Rattle.ledger_spec.specs.declared.Kind.TheVariants.{State, Tx, Set}
use Rattle.ledger_spec.specs.Bytes.{Half, Lookup, branches}
use Rattle.ledger_spec.specs.Forms as held
use Rattle.ledger_spec.specs.Forms.{IsItem, IsHeld}
use Rattle.ledger_spec.specs.Maps.{hash_cmp, IsMap}
use Rattle.ledger_spec.specs.Tree.{Entry}
use Rattle.cow_map.specs.declared.link.Link.{Link}
use Rattle.cow_map.specs.Bodies.{Body}
use Rattle.cow_map.specs.Trees.{Found, none, one, fork, lacks, breaks, found_at, Holds, StandsAt}
use Rattle.cow_map.specs.Laws.{IsFiniteMap}
use Rattle.cow_map.proofs.Orders.{branch_less}
use Rattle.cow_map.proofs.Branches.{AllUnder, all_flat, all_range, all_map, all_append}
use Rattle.cow_map.proofs.shared.Standing.{Below, stands_into, stands_under}

-- the key comes before those of the entries
abbrev AllAfter : Entry → List Entry → Type 0
AllAfter e es = AllByRecursion (λ (f : Entry). hash_cmp e.0 f.0 ≡ Less) es

-- keys rise
abbrev Rises : List Entry → Type 0
Rises [] = Unit {0}
Rises (e ∷ es) = AllAfter e es × Rises es

rises_append : (xs ys : List Entry) → Rises xs → Rises ys → AllByRecursion (λ (e : Entry). AllAfter e ys) xs → Rises (xs ++ ys)
rises_append [] ys p q r = q
rises_append (e ∷ xs) ys p q r = (all_append (λ (f : Entry). hash_cmp e.0 f.0 ≡ Less) xs ys p.0 r.0, rises_append xs ys p.1 q r.1)

rises_flat : (path : List ℕ) (kids : ℕ → List Entry) (n a : ℕ)
    → ((c : ℕ) → a ≤ c → c < a + n → Rises (kids c) × AllUnder (path ++ c ∷ []) (kids c)) → Rises (flat_map kids (range_with_len a n))
rises_flat path kids zero a each = tt
rises_flat path kids (suc n) a each =
    let here = each a (omega arith) (omega arith) in
    rises_append (kids a) (flat_map kids (range_with_len (a + 1) n)) here.0
    (rises_flat path kids n (a + 1) (λ c low high. each c (omega arith) (omega arith)))
    (all_map (λ (e : Entry). IsTrue (lies_under (path ++ a ∷ []) e.0))
    (λ (e : Entry). AllAfter e (flat_map kids (range_with_len (a + 1) n))) (kids a)
    (λ e at_a. all_flat (λ (f : Entry). hash_cmp e.0 f.0 ≡ Less) kids (range_with_len (a + 1) n)
    (all_range (λ c. AllAfter e (kids c)) n (a + 1)
    (λ c low high. all_map (λ (f : Entry). IsTrue (lies_under (path ++ c ∷ []) f.0)) (λ (f : Entry). hash_cmp e.0 f.0 ≡ Less) (kids c)
    (λ f at_c. branch_less path a c e.0 f.0 at_a at_c (omega arith)) (each c (omega arith) (omega arith)).1))) here.1)

abbrev AllItems : List Entry → Type 0
AllItems es = AllByRecursion (λ (e : Entry). IsItem e.0 e.1) es

holds_rises : (below : ℕ → Link → List Entry → Type 0) (path : List ℕ) (found : Found) (items : List Entry)
    → ((b : ℕ) (l : Link) (es : List Entry) → below b l es → (Rises es × AllUnder (path ++ b ∷ []) es) × AllItems es)
    → Holds below path found items → Rises items × AllItems items
holds_rises below path none items f h = subst (λ (es : List Entry). Rises es × AllItems es) (sym h) (tt, tt)
holds_rises below path (one key bytes) items f h =
    subst (λ (es : List Entry). Rises es × AllItems es) (sym h.alone) ((tt, tt), (h.item, tt))
holds_rises below path (fork links) items f h =
    subst (λ (es : List Entry). Rises es × AllItems es) (sym h.joined) (
      rises_flat path h.kids 16 0 (λ c low high. (f c _ (h.kids c) (h.each c high)).0),
      all_flat (λ (e : Entry). IsItem e.0 e.1) h.kids branches
          (all_range (λ c. AllItems (h.kids c)) 16 0 (λ c low high. (f c _ (h.kids c) (h.each c high)).1)),
    )
holds_rises below path (lacks g) items f h = absurd h
holds_rises below path (breaks fault) items f h = absurd h

stands_rises : (half : Half) (stored : Lookup) (kind : Kind) (nodes : List Body) (left : ℕ) (path : List ℕ) (link : Link)
    (items : List Entry) → StandsAt half stored kind nodes left path link items → Rises items × AllItems items
stands_rises half stored kind nodes zero path link items stands =
    holds_rises (Below half stored kind nodes 0 path) path (found_at half stored kind nodes path link) items
    (λ b l es none_is. absurd none_is)
    (stands_into half stored kind nodes 0 path link items (found_at half stored kind nodes path link) refl stands)
stands_rises half stored kind nodes (suc left) path link items stands =
    holds_rises (Below half stored kind nodes (suc left) path) path (found_at half stored kind nodes path link) items
    (λ b l es at. let both = stands_rises half stored kind nodes left (path ++ b ∷ []) l es at in
    ((both.0, stands_under half stored kind nodes left (path ++ b ∷ []) l es at), both.1))
    (stands_into half stored kind nodes (suc left) path link items (found_at half stored kind nodes path link) refl stands)

keys_after : (e : Entry) (es : List Entry) → AllAfter e es → AllByRecursion (λ k. hash_cmp e.0 k ≡ Less) (keys_of es)
keys_after e [] h = tt
keys_after e (f ∷ es) h = (h.0, keys_after e es h.1)

is_map : (es : List Entry) → Rises es → IsMap hash_cmp es
unfolding IsStrictlySortedBy
is_map [] h = tt
is_map (e ∷ es) h = (keys_after e es h.0, is_map es h.1)

-- each is a leaf's, but for a bare transaction's, whose key is its hash
keyed : (half : Half) (kind : Kind) (es : List Entry) → kind ≢ Set → AllItems es
    → AllByRecursion (λ (e : Entry). IsHeld half (held.leaf kind e.0 e.1)) es
keyed half State es other all = all
keyed half Tx es other all = all
keyed half Set es other all = absurd (other refl)

pub finite : IsFiniteMap
finite half stored m items stands =
    let both = stands_rises half stored m.kind m.nodes 64 [] m.top items stands in (
      record { rising = is_map items both.0; each = both.1 },
      λ other bytes. record { rising = is_map items both.0; each = keyed half m.kind items other both.1; bytes = bytes },
    )
