-- a slice goes on within its generation, and the last one ends the search
use Rattle.std.proofs.Common.{rules, ◌≡◌, ◌≤◌, false, sym, ap, ◌∙◌, subst, arith}
use Rattle.ledger_spec.specs.Bytes.{Hash}
use Rattle.rotating_store.proofs.shared.Reading.{read_then}
use Rattle.missing_walk.specs.declared.search.Search.{Search}
use Rattle.missing_walk.specs.declared.search.Slice.{Slice}
use Rattle.missing_walk.specs.Ends.{IsClean, AreRootsMarked}
use Rattle.missing_walk.specs.Moves.{has_ended}
use Rattle.missing_walk.specs.Passes.{HasMarkedRoots, IsDone}
use Rattle.missing_walk.specs.Searching.{OnDone, OnMore}
use Rattle.missing_walk.specs.Sees.{Finds}
use Rattle.missing_walk.proofs.shared.Seeing.{tells_after}
use Rattle.ledger_searches.specs.declared.searches.Searches.{Searches}
use Rattle.ledger_searches.proofs.Running.{true_beside, present_on, few_left, roots_marked}
use Rattle.ledger_searches.proofs.searches.Searches.run.Goals as goal

-- what marks and cache say stays true
pub returns-in_err-found-clause-leaves : goal.returns-in_err-found-clause-leaves
returns-in_err-found-clause-leaves g c =
    record {
      keeps = λ nodes t all. let half = g.H.NodeHash.half in
          let now = tells_after g.Sh.B.Backend.tells half c.args.store.now c.loop-search.store nodes c.loop-search.invariant.read t in
          true_beside half nodes c.args.self.now
          (record { cache = c.slice.new.cache; marks = c.slice.new.marks; hunts = c.loop-search.self.hunts }) c.slice.new.self all
          (c.slice.ensures.keeps.rule nodes now (c.loop-search.invariant.rule nodes t all))
          (c.slice.ensures.leaves.marks ∙ c.loop-search.invariant.generation) c.loop-search.invariant.hunts;
      paired = search rules;
      generation = search rules;
      read = read_then _ _ _ _ _ c.loop-search.invariant.read c.slice.ensures.leaves.read;
      cause = search rules;
    }

pub returns-in-Done-clause-leaves : goal.returns-in-Done-clause-leaves
returns-in-Done-clause-leaves g c =
    record {
      keeps = λ nodes t all. let half = g.H.NodeHash.half in
          let now = tells_after g.Sh.B.Backend.tells half c.args.store.now c.loop-search.store nodes c.loop-search.invariant.read t in
          true_beside half nodes c.args.self.now
          (record { cache = c.slice.new.cache; marks = c.slice.new.marks; hunts = c.loop-search.self.hunts }) c.slice.new.self all
          (c.slice.ensures.keeps.rule nodes now (c.loop-search.invariant.rule nodes t all))
          (c.slice.ensures.leaves.marks ∙ c.loop-search.invariant.generation) c.loop-search.invariant.hunts;
      paired = search rules;
      generation = search rules;
      read = read_then _ _ _ _ _ c.loop-search.invariant.read c.slice.ensures.leaves.read;
      cause = search rules;
    }

-- what the last slice found
pub returns-in-Done-clause-finds : goal.returns-in-Done-clause-finds
returns-in-Done-clause-finds g c =
    record {
      found = λ nodes t all. let half = g.H.NodeHash.half in
          let now = tells_after g.Sh.B.Backend.tells half c.args.store.now c.loop-search.store nodes c.loop-search.invariant.read t in
          subst (λ (h : Hash). Finds half nodes h c.in-Done.found) c.loop-search.invariant.target
          (subst (λ (s : Slice). OnDone s (Finds half nodes c.loop-search.search.target)) c.in-Done.is
          (c.in_ok-found.ensures.answers.done nodes now (c.loop-search.invariant.rule nodes t all)));
      roots = λ nodes t all clean. let half = g.H.NodeHash.half in
          let now = tells_after g.Sh.B.Backend.tells half c.args.store.now c.loop-search.store nodes c.loop-search.invariant.read t in
          let finds : Finds half nodes c.args.search.target c.in-Done.found = subst (λ (h : Hash). Finds half nodes h c.in-Done.found)
          c.loop-search.invariant.target
          (subst (λ (s : Slice). OnDone s (Finds half nodes c.loop-search.search.target)) c.in-Done.is
          (c.in_ok-found.ensures.answers.done nodes now (c.loop-search.invariant.rule nodes t all))) in
          let marked = subst (λ (s : Slice). OnDone s (λ f. IsClean f → 2 ≤ c.slice.new.marks.entries.cap
          → AreRootsMarked f.header c.slice.new.marks)) c.in-Done.is c.in_ok-found.ensures.answers.roots in
          roots_marked nodes c.args.search.target c.slice.new.marks c.in-Done.found.header finds.header
          (marked clean (omega (arith, c.slice.ensures.leaves.room, c.loop-search.invariant.paired.room)));
      known = search rules;
    }

pub loop-search-preserved : goal.loop-search-preserved
loop-search-preserved g c =
    let half = g.H.NodeHash.half in
    let k = c.loop-search.invariant in
    record {
      rule = λ nodes t all. c.slice.ensures.keeps.rule nodes
          (tells_after g.Sh.B.Backend.tells half c.args.store.now c.loop-search.store nodes k.read t) (k.rule nodes t all);
      first = λ nodes t marked.
          let same = k.first nodes t marked in
          let new = ap (λ (s : Search). s.generation) same.0 ∙ c.requires.new.generation in
          let still : HasMarkedRoots nodes c.loop-search.search.target c.loop-search.self.marks =
          subst (λ (x : Search × Searches). HasMarkedRoots nodes x.0.target x.1.marks) (λ i. (sym same.0 i, sym same.1 i)) marked in
          let ends = c.in_ok-found.ensures.first nodes
          (tells_after g.Sh.B.Backend.tells half c.args.store.now c.loop-search.store nodes k.read t) new still (omega arith) in
          absurd (subst IsDone c.in-More.is ends.0);
      present = present_on c.loop-search.search.generation c.slice.new.self.generation c.loop-search.self.marks.generation
          c.slice.new.marks.generation k.present c.slice.ensures.keeps.generation c.slice.ensures.leaves.marks;
      target = c.slice.ensures.keeps.target ∙ k.target;
      few = few_left c.slice.new.self
          (subst (λ (s : Slice). OnMore s (has_ended c.slice.new.self ≡ false)) c.in-More.is c.in_ok-found.ensures.answers.more);
      paired = record {
        one = c.slice.ensures.leaves.cache ∙ k.paired.one ∙ sym c.slice.ensures.leaves.marks;
        room = c.slice.ensures.leaves.room ∙ k.paired.room;
        slots = k.paired.slots;
      };
      hunts = k.hunts;
      generation = c.slice.ensures.leaves.marks ∙ k.generation;
      read = read_then _ _ _ _ _ k.read c.slice.ensures.leaves.read;
    }
