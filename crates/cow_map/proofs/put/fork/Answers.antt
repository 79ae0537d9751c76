use Rattle.std.proofs.Common.{◌≡◌, ◌∙◌, ap, length, List, sym, subst, length-append, arith, ◌≤◌, ◌++◌, ◌∷◌, []}
use Rattle.std.specs.Prelude.{slice_set}
use Rattle.cow_map.specs.declared.link.Link.{Link}
use Rattle.cow_map.specs.declared.link.Link.TheVariants.{Own}
use Rattle.cow_map.specs.Bodies.{Body, IsBelow}
use Rattle.cow_map.proofs.shared.Planting.{pair_below, pair_done}
use Rattle.cow_map.proofs.Results.{ok_map}
use Rattle.cow_map.proofs.put.fork.Goals as goal

one_more : (before after : List Body) (body : Body) → after ≡ before ++ body ∷ [] → length before ≤ length after
one_more before after body e = omega (arith, ap length e, length-append before (body ∷ []))

own_last : (before after : List Body) (body : Body) (link : Link) → after ≡ before ++ body ∷ [] → link ≡ Own (length before)
    → IsBelow (length after) link
own_last before after body link e at =
    subst (IsBelow (length after)) (sym at) (omega (arith, ap length e, length-append before (body ∷ [])))

-- one link is the old one, one leads to the leaf just pushed, and the others lead nowhere, so all name nodes of the list
pub push_inner-requires : goal.push_inner-requires
push_inner-requires c =
    pair_below (length c.args.arena.now) (length c.push_leaf.new.self) c.args.a c.args.b c.args.old.now c.in_ok-leaf.leaf
    c.in_ok-links.links
    (c.in_ok-links.ensures
    ∙ ap (λ ls. slice_set ls c.args.b c.in_ok-leaf.leaf)
    (c.in_ok-with.ensures ∙ ap (λ ls. slice_set ls c.args.a c.args.old.now) c.none.ensures))
    (one_more _ _ _ c.in_ok-leaf.ensures.ok.1) c.requires.below (own_last _ _ _ _ c.in_ok-leaf.ensures.ok.1 c.in_ok-leaf.ensures.ok.0)

-- the keys go different ways from here, so each of two branches holds one entry, and two are enough for an inner node
pub returns-clause-stands : goal.returns-clause-stands
returns-clause-stands c =
    ok_map c.push_inner.result _ _ c.push_inner.ensures.ok (λ link ok half stored kind key bytes apart under leads.
    pair_done half stored kind c.args.arena.now c.push_leaf.new.self c.push_inner.new.self c.args.id.now c.args.a c.args.b c.args.old.now
    link c.in_ok-leaf.leaf c.in_ok-links.links c.args.item.key key bytes c.args.item.value
    c.in_ok-leaf.ensures.ok.0 c.in_ok-leaf.ensures.ok.1 ok.0 ok.1
    (c.in_ok-links.ensures
    ∙ ap (λ ls. slice_set ls c.args.b c.in_ok-leaf.leaf)
    (c.in_ok-with.ensures ∙ ap (λ ls. slice_set ls c.args.a c.args.old.now) c.none.ensures))
    c.known.ensures c.requires.below c.requires.branches.inner c.requires.branches.old_branch c.requires.branches.branch
    c.requires.branches.differ under c.requires.under
    apart leads c.args.item.valid)
