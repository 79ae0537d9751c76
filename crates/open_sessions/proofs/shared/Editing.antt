-- What drafts stand for is determined, and stays as the store grows. For proofs of other crates.
use Rattle.std.proofs.Common.{◌≡◌, ℕ, zero, suc, List, [], ◌∷◌, ◌++◌, Option, None, Some, refl, sym, ap, ◌∙◌, subst}
use Rattle.std.specs.List.{slice_index_or}
use Rattle.ledger_spec.specs.declared.Kind.{Kind}
use Rattle.ledger_spec.specs.Bytes.{Bytes, Hash, Half, Lookup, Items, branches}
use Rattle.ledger_spec.specs.Header.{header_bytes}
use Rattle.ledger_spec.specs.Forms.{header_of}
use Rattle.ledger_spec.specs.Spots.{header_in}
use Rattle.ledger_header.specs.Fields.{fields}
use Rattle.std.specs.Option.{option_and_then}
use Rattle.ledger_spec.specs.Reach.{Reach, root, kid}
use Rattle.ledger_spec.proofs.shared.ReachLaws.{Grows}
use Rattle.tree_laws.proofs.shared.Joins.{all_range, flat_same}
use Rattle.cow_map.specs.declared.link.Link.{Link}
use Rattle.cow_map.specs.declared.link.Link.TheVariants.{Empty}
use Rattle.cow_map.specs.Bodies.{Body, CowTree}
use Rattle.cow_map.specs.Trees.{Found, none, one, fork, lacks, breaks, found_at, Holds, StandsAt, StandsFor}
use Rattle.edit_session.specs.Drafts.{Draft, Edits, StaysOverParent}
use Rattle.open_sessions.specs.Edited.{items_found, items_at, items_in, session_in, IsKept}

-- what is found holds the items below it
held_items : (below : ℕ → Link → Items → Type 0) (items : ℕ → Link → Items)
    → ((b : ℕ) (l : Link) (es : Items) → below b l es → es ≡ items b l)
    → (path : List ℕ) (found : Found) (es : Items) → Holds below path found es → es ≡ items_found items found
held_items below items each path none es h = h
held_items below items each path (one key bytes) es h = h.alone
held_items below items each path (fork links) es h =
    h.joined ∙ flat_same h.kids (λ b. items b (slice_index_or links b Empty)) branches
    (all_range (λ b. h.kids b ≡ items b (slice_index_or links b Empty)) 16 0
    (λ b low high. each b (slice_index_or links b Empty) (h.kids b) (h.each b high)))
held_items below items each path (lacks g) es h = absurd h
held_items below items each path (breaks fault) es h = absurd h

-- what a link stands for is one
stood_at : (half : Half) (stored : Lookup) (kind : Kind) (nodes : List Body) (left : ℕ) (path : List ℕ) (link : Link) (es : Items)
    → StandsAt half stored kind nodes left path link es → es ≡ items_at half stored kind nodes left path link
unfolding StandsAt items_at
stood_at half stored kind nodes zero path link es h =
    held_items (λ b l x. ⊥) (λ b l. []) (λ b l x no. absurd no) path (found_at half stored kind nodes path link) es h
stood_at half stored kind nodes (suc left) path link es h =
    held_items (λ b l x. StandsAt half stored kind nodes left (path ++ b ∷ []) l x)
    (λ b l. items_at half stored kind nodes left (path ++ b ∷ []) l)
    (λ b l x at. stood_at half stored kind nodes left (path ++ b ∷ []) l x at) path (found_at half stored kind nodes path link) es h

pub stood_for : (half : Half) (stored : Lookup) (m : CowTree) (es : Items) → StandsFor half stored m es → es ≡ items_in half stored m
stood_for half stored m es h = stood_at half stored m.kind m.nodes 64 [] m.top es h

-- what a draft edits is one
pub edited : (half : Half) (stored : Lookup) (d : Draft) (accounts txs : Items) → Edits half stored d accounts txs
    → (accounts ≡ items_in half stored d.state) × (txs ≡ items_in half stored d.txs)
edited half stored d accounts txs e =
    (stood_for half stored d.state accounts e.state, stood_for half stored d.txs txs (e.alone half stored))

-- what is reached is stored, so a larger store has it
reached_same : (m n : Lookup) (roots : List Hash) (h : Hash) → Grows m n → Reach m roots h → n h ≡ m h
reached_same m n roots h up (root c there) = up h there.0 there.1 ∙ sym there.1
reached_same m n roots h up (kid r is c there) = up h there.0 there.1 ∙ sym there.1

-- a draft stays what it is as the store grows
pub kept_grows : (half : Half) → StaysOverParent → (m n : Lookup) (d : Draft) → Grows m n → IsKept half m d
    → IsKept half n d × (session_in half n d ≡ session_in half m d)
kept_grows half law m n d up k =
    let stays = law half m n d (items_in half m d.state) (items_in half m d.txs) k.edits k.left
    (λ h r. reached_same m n (d.parent.state_root ∷ []) h up r) in
    let same = edited half n d (items_in half m d.state) (items_in half m d.txs) stays.0 in (
      record {
        header = header_stays;
        reads = k.reads;
        edits = subst (λ (a : Items). Edits half n d a (items_in half n d.txs)) same.0
            (subst (λ (t : Items). Edits half n d (items_in half m d.state) t) same.1 stays.0);
        left = stays.1;
      },
      (λ i. record { base = d.base; accounts = sym same.0 i; txs = sym same.1 i }),
    )
  where
    header_stays : header_in n d.base ≡ Some (header_bytes (fields d.parent))
    header_stays = at (m d.base) refl k.header
      where
        at : (o : Option Bytes) → m d.base ≡ o
            → option_and_then header_of o
            ≡ Some (header_bytes (fields d.parent))
            → header_in n d.base ≡ Some (header_bytes (fields d.parent))
        at None is e = cc
        at (Some form) is e = ap (option_and_then header_of) (up d.base form is) ∙ e
