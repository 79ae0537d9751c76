use Rattle.std.proofs.Common.{◌≡◌, ℕ, ◌+◌, ◌-◌, ◌<◌, ◌++◌, ◌∷◌, [], true, List, length, arith, sym, subst, ap, ◌∙◌, refl}
use Rattle.std.proofs.Common.{rules, slice_index_or, length-append, append-nil}
use Rattle.shamap_node.specs.declared.parts.Item.{Item}
use Rattle.cow_map.specs.declared.link.Link.{Link}
use Rattle.cow_map.specs.declared.link.Link.TheVariants.{Empty, Own}
use Rattle.cow_map.specs.Bodies.{Body, leaf, inner, IsBelow}
use Rattle.cow_map.specs.Taking.{ends_under}
use Rattle.cow_map.proofs.shared.Planting.{none_below}
use Rattle.cow_map.proofs.Results.{ok_map}
use Rattle.cow_map.proofs.Taking.{halfway_none, halfway_more, inner_gathers, none_gathers, leaf_gathers, none_under}
use Rattle.cow_map.proofs.Ends.{two_end}
use Rattle.cow_map.proofs.Ends.{sorted_rest}
use Rattle.cow_map.proofs.Taking.{grows_twice}
use Rattle.cow_map.proofs.sorted.+gather.Goals as goal

-- the link to the last node of a list
own_last : (before after : List Body) (body : Body) (link : Link) → after ≡ before ++ body ∷ [] → link ≡ Own (length before)
    → IsBelow (length after) link
own_last before after body link e at =
    subst (IsBelow (length after)) (sym at) (omega (arith, ap length e, length-append before (body ∷ [])))

pub inner_of-loop-b-init : goal.inner_of-loop-b-init
inner_of-loop-b-init t c = record {
  within = omega arith;
  grows = ([], sym (append-nil c.args.arena.now));
  halfway = halfway_none c.args.id.now c.args.rest.now.items c.args.arena.now c.none-links.result 16 (omega arith)
      (ap length c.none-links.ensures)
      (λ k. subst (λ (ls : List Link). IsBelow (length c.args.arena.now) (slice_index_or ls k Empty)) (sym c.none-links.ensures)
      (none_below (length c.args.arena.now) 16 k));
}

-- the next branch lies a level lower, and what is left of the items is a front of them
pub inner_of-link_of-requires : goal.inner_of-link_of-requires
inner_of-link_of-requires t c =
    let h = c.loop-b.invariant.halfway in
    let longer : length c.below.result ≡ length c.args.id.now + 1 =
    ap length c.below.ensures ∙ length-append c.args.id.now ((c.loop-b.b - 1) ∷ []) in (
      omega (arith, longer, c.requires.inner),
      (omega (arith, longer), sorted_rest c.args.rest.now.items c.loop-b.rest.items h.taken h.split c.requires.rising),
    )

pub inner_of-loop-b-preserved : goal.inner_of-loop-b-preserved
inner_of-loop-b-preserved t c =
    let i = c.loop-b.invariant in record {
      within = omega (arith, i.within);
      grows = grows_twice c.args.arena.now c.loop-b.arena c.link_of.new.arena i.grows c.in_ok-link.ensures.grows;
      halfway = halfway_more c.args.id.now c.args.rest.now.items c.loop-b.rest.items c.link_of.new.rest.items c.loop-b.arena
          c.link_of.new.arena c.loop-b.links c.in_ok-links.links c.loop-b.b (c.loop-b.b - 1) c.in_ok-link.link
          (omega (arith, c.loop-b-test.true)) i.within c.requires.rising c.known.ensures c.in_ok-link.ensures.grows
          c.in_ok-link.ensures.below c.in_ok-links.ensures
          (subst (λ p. Rattle.cow_map.specs.Taking.Gathers p c.loop-b.rest.items c.link_of.new.rest.items c.link_of.new.arena
          c.in_ok-link.link) c.below.ensures c.in_ok-link.ensures.gathers) i.halfway;
    }

pub inner_of-returns : goal.inner_of-returns
inner_of-returns t c = record {
  grows = ok_map c.push_inner.result _ _ c.push_inner.ensures.ok (λ link ok.
      grows_twice c.args.arena.now c.loop-b.arena c.push_inner.new.self c.loop-b.invariant.grows (inner c.loop-b.links ∷ [], ok.1));
  below = ok_map c.push_inner.result _ _ c.push_inner.ensures.ok (λ link ok.
      own_last c.loop-b.arena c.push_inner.new.self (inner c.loop-b.links) link ok.1 ok.0);
  -- no branch is left, so the items of each are taken, and the inner node over them stands there
  gathers =
      let i = c.loop-b.invariant in
      let some = subst (λ (xs : List Item). ends_under c.args.id.now xs ≡ true
      → (b : ℕ) × (b < 16) × (ends_under (c.args.id.now ++ b ∷ []) xs ≡ true)) c.deref.ensures.value c.known_branch.ensures in
      ok_map c.push_inner.result _ _ c.push_inner.ensures.ok (λ link ok.
      inner_gathers c.args.id.now c.args.rest.now.items c.loop-b.rest.items c.loop-b.arena c.push_inner.new.self c.loop-b.links
      c.loop-b.b link (omega (arith, c.loop-b-test.false)) c.requires.inner c.known-2.ensures c.requires.enough
      (none_under c.args.id.now c.loop-b.rest.items some (λ k low. i.halfway.none k (omega (arith, c.loop-b-test.false)) low))
      ok.0 ok.1 i.halfway);
}

pub link_of-returns-then-not-ends_under : goal.link_of-returns-then-not-ends_under
link_of-returns-then-not-ends_under t c = record {
  grows = search rules;
  below = search rules;
  gathers = none_gathers c.args.id.now c.args.rest.now.items c.args.arena.now Empty refl (search rules);
}

-- two keys lie there, so it isn't the bottom
pub link_of-inner_of-requires : goal.link_of-inner_of-requires
link_of-inner_of-requires t c = (
  omega arith,
  (c.known_inner.ensures, (c.requires.rising, two_end c.args.id.now c.args.rest.now.items (search rules) (search rules))),
)

pub link_of-returns-in-Some : goal.link_of-returns-in-Some
link_of-returns-in-Some t c = record {
  grows = search rules;
  below = ok_map c.push_leaf.result _ _ c.push_leaf.ensures.ok (λ link ok.
      own_last c.args.arena.now c.push_leaf.new.self (leaf c.in-Some.item.key c.in-Some.item.value) link ok.1 ok.0);
  gathers =
      ok_map c.push_leaf.result _ _ c.push_leaf.ensures.ok (λ link ok.
      leaf_gathers c.args.id.now c.args.rest.now.items c.pop.new.self.items c.in-Some.item c.args.arena.now c.push_leaf.new.self link
      c.in-Some.ensures.items c.requires.placed (search rules) (search rules) ok.0 ok.1);
}
