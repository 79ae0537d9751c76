use Rattle.std.proofs.Common.{ℕ, length, sym, subst, List}
use Rattle.std.specs.List.{slice_index_or}
use Rattle.cow_map.specs.declared.link.Link.TheVariants.{Empty}
use Rattle.cow_map.specs.declared.node.Cow.TheVariants.{Inner}
use Rattle.cow_map.specs.Bodies.{Body, IsBelow}
use Rattle.cow_map.proofs.Pushing.{pushed}
use Rattle.cow_map.proofs.arena.Arena.push_inner.Goals as goal

-- the new node stands last, and its sixteen links name nodes that were there before it
pub invariant_of-self-2 : goal.invariant_of-self-2
invariant_of-self-2 c =
    pushed _ _ c.in_ok-new.field-0 (Inner c.args.links) c.in_ok-push.ensures.items c.in_ok-new.ensures.ok c.self.invariant (
      c.known.ensures,
      subst (λ (bodies : List Body). (b : ℕ) → IsBelow (length bodies) (slice_index_or c.args.links b Empty))
          (sym c.self.view_is) c.requires,
    )
