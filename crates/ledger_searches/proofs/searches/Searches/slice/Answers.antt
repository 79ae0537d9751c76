-- the search that is taken up is true, and so is what a slice of it leaves
use Rattle.std.proofs.Common.{rules, ◌≤◌, refl, sym, ap, ◌∙◌, subst, arith}
use Rattle.ledger_spec.specs.Bytes.{Hash}
use Rattle.full_below.specs.declared.marks.Marks.{Marks}
use Rattle.rotating_store.proofs.shared.Reading.{read_then}
use Rattle.missing_walk.specs.declared.search.Slice.{Slice}
use Rattle.missing_walk.specs.Ends.{IsClean, AreRootsMarked}
use Rattle.missing_walk.specs.Rests as rests
use Rattle.missing_walk.specs.Searching.{IsStale, OnDone, OnMore, Rule, stale_in}
use Rattle.missing_walk.specs.Sees.{Finds}
use Rattle.missing_walk.proofs.shared.Seeing.{tells_after}
use Rattle.ledger_searches.specs.Hunting.{hunt_of}
use Rattle.ledger_searches.specs.Sharing.{AreTrueOf}
use Rattle.ledger_searches.proofs.TakingUp.{goes_anew, goes_on, kept_there, others_kept, rule_up, taken_target}
use Rattle.ledger_searches.proofs.Running.{roots_marked, true_beside, true_set}
use Rattle.ledger_searches.proofs.shared.Running.{true_forgot}
use Rattle.ledger_searches.proofs.searches.Searches.slice.Goals as goal

-- marks, cache and the searches of the others
pub returns-in_err-found-clause-leaves : goal.returns-in_err-found-clause-leaves
returns-in_err-found-clause-leaves g c =
    record {
      keeps = λ nodes t all. let half = g.H.NodeHash.half in
          let begun : Rule half nodes c.in_ok-hunt.hunt.search c.take_up.new.self.cache c.take_up.new.self.marks =
          rule_up half nodes c.args.actor c.args.target.now c.in_ok-hunt.hunt c.args.self.now c.take_up.new.self
          c.in_ok-hunt.ensures.taken c.take_up.ensures.forgets all in
          let left : AreTrueOf half nodes (record {
            cache = c.slice.new.cache;
            marks = c.slice.new.marks;
            hunts = c.take_up.new.self.hunts;
          }) =
          true_beside half nodes c.take_up.new.self
          (record { cache = c.slice.new.cache; marks = c.slice.new.marks; hunts = c.take_up.new.self.hunts }) c.slice.new.self
          (true_forgot half nodes c.args.actor c.args.self.now c.take_up.new.self c.take_up.ensures.forgets all)
          (c.slice.ensures.keeps.rule nodes t begun) c.slice.ensures.leaves.marks refl in
          left;
      paired = search rules;
      generation = search rules;
      read = search rules;
      cause = search rules;
    }

pub returns-in-Done-clause-leaves : goal.returns-in-Done-clause-leaves
returns-in-Done-clause-leaves g c =
    record {
      keeps = λ nodes t all. let half = g.H.NodeHash.half in
          let begun : Rule half nodes c.in_ok-hunt.hunt.search c.take_up.new.self.cache c.take_up.new.self.marks =
          rule_up half nodes c.args.actor c.args.target.now c.in_ok-hunt.hunt c.args.self.now c.take_up.new.self
          c.in_ok-hunt.ensures.taken c.take_up.ensures.forgets all in
          let left : AreTrueOf half nodes (record {
            cache = c.slice.new.cache;
            marks = c.slice.new.marks;
            hunts = c.take_up.new.self.hunts;
          }) =
          true_beside half nodes c.take_up.new.self
          (record { cache = c.slice.new.cache; marks = c.slice.new.marks; hunts = c.take_up.new.self.hunts }) c.slice.new.self
          (true_forgot half nodes c.args.actor c.args.self.now c.take_up.new.self c.take_up.ensures.forgets all)
          (c.slice.ensures.keeps.rule nodes t begun) c.slice.ensures.leaves.marks refl in
          left;
      paired = search rules;
      generation = search rules;
      read = search rules;
      cause = search rules;
    }

-- what the last slice found
pub returns-in-Done-clause-finds : goal.returns-in-Done-clause-finds
returns-in-Done-clause-finds g c =
    record {
      found = λ nodes t all. let half = g.H.NodeHash.half in
          let begun : Rule half nodes c.in_ok-hunt.hunt.search c.take_up.new.self.cache c.take_up.new.self.marks =
          rule_up half nodes c.args.actor c.args.target.now c.in_ok-hunt.hunt c.args.self.now c.take_up.new.self
          c.in_ok-hunt.ensures.taken c.take_up.ensures.forgets all in
          let finds : Finds half nodes c.args.target.now c.in-Done.found =
          subst (λ (h : Hash). Finds half nodes h c.in-Done.found)
          (c.in_ok-hunt.hunt.of ∙ taken_target (hunt_of c.args.self.now.hunts.items c.args.actor) c.args.target.now c.in_ok-hunt.hunt
          c.in_ok-hunt.ensures.taken)
          (subst (λ (s : Slice). OnDone s (Finds half nodes c.in_ok-hunt.hunt.search.target)) c.in-Done.is
          (c.in_ok-found.ensures.answers.done nodes t begun)) in
          finds;
      roots = λ nodes t all clean. let half = g.H.NodeHash.half in
          let begun : Rule half nodes c.in_ok-hunt.hunt.search c.take_up.new.self.cache c.take_up.new.self.marks =
          rule_up half nodes c.args.actor c.args.target.now c.in_ok-hunt.hunt c.args.self.now c.take_up.new.self
          c.in_ok-hunt.ensures.taken c.take_up.ensures.forgets all in
          let finds : Finds half nodes c.args.target.now c.in-Done.found =
          subst (λ (h : Hash). Finds half nodes h c.in-Done.found)
          (c.in_ok-hunt.hunt.of ∙ taken_target (hunt_of c.args.self.now.hunts.items c.args.actor) c.args.target.now c.in_ok-hunt.hunt
          c.in_ok-hunt.ensures.taken)
          (subst (λ (s : Slice). OnDone s (Finds half nodes c.in_ok-hunt.hunt.search.target)) c.in-Done.is
          (c.in_ok-found.ensures.answers.done nodes t begun)) in
          let marked = subst (λ (s : Slice). OnDone s (λ f. IsClean f → 2 ≤ c.slice.new.marks.entries.cap
          → AreRootsMarked f.header c.slice.new.marks)) c.in-Done.is c.in_ok-found.ensures.answers.roots in
          roots_marked nodes c.args.target.now c.slice.new.marks c.in-Done.found.header finds.header
          (marked clean (omega (
            arith,
            c.slice.ensures.leaves.room,
            ap (λ (m : Marks). m.entries.cap) c.take_up.ensures.forgets.marks,
            c.requires.paired.room,
          )));
      known = search rules;
    }

-- a search that goes on is kept
pub returns-in-More-clause-leaves : goal.returns-in-More-clause-leaves
returns-in-More-clause-leaves g c =
    record {
      keeps = λ nodes t all. let half = g.H.NodeHash.half in
          let begun : Rule half nodes c.in_ok-hunt.hunt.search c.take_up.new.self.cache c.take_up.new.self.marks =
          rule_up half nodes c.args.actor c.args.target.now c.in_ok-hunt.hunt c.args.self.now c.take_up.new.self
          c.in_ok-hunt.ensures.taken c.take_up.ensures.forgets all in
          let left : AreTrueOf half nodes (record {
            cache = c.slice.new.cache;
            marks = c.slice.new.marks;
            hunts = c.take_up.new.self.hunts;
          }) =
          true_beside half nodes c.take_up.new.self
          (record { cache = c.slice.new.cache; marks = c.slice.new.marks; hunts = c.take_up.new.self.hunts }) c.slice.new.self
          (true_forgot half nodes c.args.actor c.args.self.now c.take_up.new.self c.take_up.ensures.forgets all)
          (c.slice.ensures.keeps.rule nodes t begun) c.slice.ensures.leaves.marks refl in
          true_set half nodes c.args.actor _
          (record { cache = c.slice.new.cache; marks = c.slice.new.marks; hunts = c.take_up.new.self.hunts }) c.keep.new.self
          c.keep.ensures.hunts c.keep.ensures.marks c.keep.ensures.cache
          (c.slice.ensures.keeps.rule nodes t begun) left;
      paired = search rules;
      generation = search rules;
      read = search rules;
      cause = search rules;
    }

pub returns-in-More-clause-hunts : goal.returns-in-More-clause-hunts
returns-in-More-clause-hunts g c =
    record {
      more = λ nodes t all none. let half = g.H.NodeHash.half in
          let begun : Rule half nodes c.in_ok-hunt.hunt.search c.take_up.new.self.cache c.take_up.new.self.marks =
          rule_up half nodes c.args.actor c.args.target.now c.in_ok-hunt.hunt c.args.self.now c.take_up.new.self
          c.in_ok-hunt.ensures.taken c.take_up.ensures.forgets all in
          goes_on half nodes c.args.self.now.marks.generation c.args.target.now (hunt_of c.args.self.now.hunts.items c.args.actor)
          (hunt_of c.keep.new.self.hunts.items c.args.actor) c.in_ok-hunt.hunt _ c.in_ok-hunt.ensures.taken
          (kept_there c.args.actor c.args.self.now c.take_up.new.self c.keep.new.self _
          (omega (arith, c.requires.known_actor, c.requires.paired.slots))
          c.take_up.ensures.forgets c.keep.ensures.hunts)
          refl (omega arith)
          (ap (λ (m : Marks). stale_in c.in_ok-hunt.hunt.search.generation m.generation) (sym c.take_up.ensures.forgets.marks)
          ∙ subst (IsStale c.in_ok-hunt.hunt.search.generation c.take_up.new.self.marks.generation) c.in-More.is
          c.in_ok-found.ensures.keeps.stale)
          refl
          (subst (λ (s : Slice). OnMore s (rests.GoesOn half nodes 256 c.in_ok-hunt.hunt.search c.slice.new.self)) c.in-More.is
          (c.in_ok-found.ensures.answers.rest nodes t begun));
      others = others_kept c.args.actor c.args.self.now c.take_up.new.self c.keep.new.self _
          (omega (arith, c.requires.known_actor, c.requires.paired.slots))
          c.take_up.ensures.forgets c.keep.ensures.hunts;
      answered = search rules;
    }

-- ---- a search that has begun anew three times is run whole
pub returns-in_err-look-clause-leaves : goal.returns-in_err-look-clause-leaves
returns-in_err-look-clause-leaves g c =
    record {
      keeps = λ nodes t all. let half = g.H.NodeHash.half in
          let mine : AreTrueOf half nodes c.take_up.new.self =
          true_forgot half nodes c.args.actor c.args.self.now c.take_up.new.self c.take_up.ensures.forgets all in
          c.look.ensures.leaves.keeps nodes t mine;
      paired = search rules;
      generation = search rules;
      read = search rules;
      cause = search rules;
    }

pub returns-then-hunt-ge-MOST_STALES-clause-finds : goal.returns-then-hunt-ge-MOST_STALES-clause-finds
returns-then-hunt-ge-MOST_STALES-clause-finds g c =
    record {
      found = λ nodes t all. let half = g.H.NodeHash.half in
          let mine : AreTrueOf half nodes c.take_up.new.self =
          true_forgot half nodes c.args.actor c.args.self.now c.take_up.new.self c.take_up.ensures.forgets all in
          c.in_ok-look.ensures.finds.found nodes t mine;
      roots = λ nodes t all. let half = g.H.NodeHash.half in
          let mine : AreTrueOf half nodes c.take_up.new.self =
          true_forgot half nodes c.args.actor c.args.self.now c.take_up.new.self c.take_up.ensures.forgets all in
          c.in_ok-look.ensures.finds.roots nodes t mine;
      known = search rules;
    }

pub returns-then-hunt-ge-MOST_STALES-clause-leaves : goal.returns-then-hunt-ge-MOST_STALES-clause-leaves
returns-then-hunt-ge-MOST_STALES-clause-leaves g c =
    record {
      keeps = λ nodes t all. let half = g.H.NodeHash.half in
          let mine : AreTrueOf half nodes c.take_up.new.self =
          true_forgot half nodes c.args.actor c.args.self.now c.take_up.new.self c.take_up.ensures.forgets all in
          c.look.ensures.leaves.keeps nodes t mine;
      paired = search rules;
      generation = search rules;
      read = search rules;
      cause = search rules;
    }

pub returns-in_err-look-in-Stale-clause-leaves : goal.returns-in_err-look-in-Stale-clause-leaves
returns-in_err-look-in-Stale-clause-leaves g c =
    record {
      keeps = λ nodes t all. let half = g.H.NodeHash.half in
          let begun : Rule half nodes c.in_ok-hunt.hunt.search c.take_up.new.self.cache c.take_up.new.self.marks =
          rule_up half nodes c.args.actor c.args.target.now c.in_ok-hunt.hunt c.args.self.now c.take_up.new.self
          c.in_ok-hunt.ensures.taken c.take_up.ensures.forgets all in
          let left : AreTrueOf half nodes (record {
            cache = c.slice.new.cache;
            marks = c.slice.new.marks;
            hunts = c.take_up.new.self.hunts;
          }) =
          true_beside half nodes c.take_up.new.self
          (record { cache = c.slice.new.cache; marks = c.slice.new.marks; hunts = c.take_up.new.self.hunts }) c.slice.new.self
          (true_forgot half nodes c.args.actor c.args.self.now c.take_up.new.self c.take_up.ensures.forgets all)
          (c.slice.ensures.keeps.rule nodes t begun) c.slice.ensures.leaves.marks refl in
          let now = tells_after g.Sh.B.Backend.tells half c.args.store.now c.slice.new.store nodes c.slice.ensures.leaves.read t in
          c.look-then-hunt-ge-MOST_STALES-2.ensures.leaves.keeps nodes now left;
      paired = search rules;
      generation = search rules;
      read = read_then _ _ _ _ _ c.slice.ensures.leaves.read c.look-then-hunt-ge-MOST_STALES-2.ensures.leaves.read;
      cause = search rules;
    }

pub returns-then-hunt-ge-MOST_STALES-2-clause-finds : goal.returns-then-hunt-ge-MOST_STALES-2-clause-finds
returns-then-hunt-ge-MOST_STALES-2-clause-finds g c =
    record {
      found = λ nodes t all. let half = g.H.NodeHash.half in
          let begun : Rule half nodes c.in_ok-hunt.hunt.search c.take_up.new.self.cache c.take_up.new.self.marks =
          rule_up half nodes c.args.actor c.args.target.now c.in_ok-hunt.hunt c.args.self.now c.take_up.new.self
          c.in_ok-hunt.ensures.taken c.take_up.ensures.forgets all in
          let left : AreTrueOf half nodes (record {
            cache = c.slice.new.cache;
            marks = c.slice.new.marks;
            hunts = c.take_up.new.self.hunts;
          }) =
          true_beside half nodes c.take_up.new.self
          (record { cache = c.slice.new.cache; marks = c.slice.new.marks; hunts = c.take_up.new.self.hunts }) c.slice.new.self
          (true_forgot half nodes c.args.actor c.args.self.now c.take_up.new.self c.take_up.ensures.forgets all)
          (c.slice.ensures.keeps.rule nodes t begun) c.slice.ensures.leaves.marks refl in
          let now = tells_after g.Sh.B.Backend.tells half c.args.store.now c.slice.new.store nodes c.slice.ensures.leaves.read t in
          c.in_ok-look-in-Stale.ensures.finds.found nodes now left;
      roots = λ nodes t all. let half = g.H.NodeHash.half in
          let begun : Rule half nodes c.in_ok-hunt.hunt.search c.take_up.new.self.cache c.take_up.new.self.marks =
          rule_up half nodes c.args.actor c.args.target.now c.in_ok-hunt.hunt c.args.self.now c.take_up.new.self
          c.in_ok-hunt.ensures.taken c.take_up.ensures.forgets all in
          let left : AreTrueOf half nodes (record {
            cache = c.slice.new.cache;
            marks = c.slice.new.marks;
            hunts = c.take_up.new.self.hunts;
          }) =
          true_beside half nodes c.take_up.new.self
          (record { cache = c.slice.new.cache; marks = c.slice.new.marks; hunts = c.take_up.new.self.hunts }) c.slice.new.self
          (true_forgot half nodes c.args.actor c.args.self.now c.take_up.new.self c.take_up.ensures.forgets all)
          (c.slice.ensures.keeps.rule nodes t begun) c.slice.ensures.leaves.marks refl in
          let now = tells_after g.Sh.B.Backend.tells half c.args.store.now c.slice.new.store nodes c.slice.ensures.leaves.read t in
          c.in_ok-look-in-Stale.ensures.finds.roots nodes now left;
      known = search rules;
    }

pub returns-then-hunt-ge-MOST_STALES-2-clause-leaves : goal.returns-then-hunt-ge-MOST_STALES-2-clause-leaves
returns-then-hunt-ge-MOST_STALES-2-clause-leaves g c =
    record {
      keeps = λ nodes t all. let half = g.H.NodeHash.half in
          let begun : Rule half nodes c.in_ok-hunt.hunt.search c.take_up.new.self.cache c.take_up.new.self.marks =
          rule_up half nodes c.args.actor c.args.target.now c.in_ok-hunt.hunt c.args.self.now c.take_up.new.self
          c.in_ok-hunt.ensures.taken c.take_up.ensures.forgets all in
          let left : AreTrueOf half nodes (record {
            cache = c.slice.new.cache;
            marks = c.slice.new.marks;
            hunts = c.take_up.new.self.hunts;
          }) =
          true_beside half nodes c.take_up.new.self
          (record { cache = c.slice.new.cache; marks = c.slice.new.marks; hunts = c.take_up.new.self.hunts }) c.slice.new.self
          (true_forgot half nodes c.args.actor c.args.self.now c.take_up.new.self c.take_up.ensures.forgets all)
          (c.slice.ensures.keeps.rule nodes t begun) c.slice.ensures.leaves.marks refl in
          let now = tells_after g.Sh.B.Backend.tells half c.args.store.now c.slice.new.store nodes c.slice.ensures.leaves.read t in
          c.look-then-hunt-ge-MOST_STALES-2.ensures.leaves.keeps nodes now left;
      paired = search rules;
      generation = search rules;
      read = read_then _ _ _ _ _ c.slice.ensures.leaves.read c.look-then-hunt-ge-MOST_STALES-2.ensures.leaves.read;
      cause = search rules;
    }

-- and one that begins anew is kept
pub returns-else-hunt-ge-MOST_STALES-2-clause-leaves : goal.returns-else-hunt-ge-MOST_STALES-2-clause-leaves
returns-else-hunt-ge-MOST_STALES-2-clause-leaves g c =
    record {
      keeps = λ nodes t all. let half = g.H.NodeHash.half in
          let begun : Rule half nodes c.in_ok-hunt.hunt.search c.take_up.new.self.cache c.take_up.new.self.marks =
          rule_up half nodes c.args.actor c.args.target.now c.in_ok-hunt.hunt c.args.self.now c.take_up.new.self
          c.in_ok-hunt.ensures.taken c.take_up.ensures.forgets all in
          let left : AreTrueOf half nodes (record {
            cache = c.slice.new.cache;
            marks = c.slice.new.marks;
            hunts = c.take_up.new.self.hunts;
          }) =
          true_beside half nodes c.take_up.new.self
          (record { cache = c.slice.new.cache; marks = c.slice.new.marks; hunts = c.take_up.new.self.hunts }) c.slice.new.self
          (true_forgot half nodes c.args.actor c.args.self.now c.take_up.new.self c.take_up.ensures.forgets all)
          (c.slice.ensures.keeps.rule nodes t begun) c.slice.ensures.leaves.marks refl in
          true_set half nodes c.args.actor _
          (record { cache = c.slice.new.cache; marks = c.slice.new.marks; hunts = c.take_up.new.self.hunts }) c.keep-in-Stale.new.self
          c.keep-in-Stale.ensures.hunts
          c.keep-in-Stale.ensures.marks c.keep-in-Stale.ensures.cache (c.slice.ensures.keeps.rule nodes t begun) left;
      paired = search rules;
      generation = search rules;
      read = search rules;
      cause = search rules;
    }

pub returns-else-hunt-ge-MOST_STALES-2-clause-hunts : goal.returns-else-hunt-ge-MOST_STALES-2-clause-hunts
returns-else-hunt-ge-MOST_STALES-2-clause-hunts g c =
    record {
      more = λ nodes t all none. let half = g.H.NodeHash.half in
          goes_anew half nodes c.args.self.now.marks.generation c.args.target.now (hunt_of c.args.self.now.hunts.items c.args.actor)
          (hunt_of c.keep-in-Stale.new.self.hunts.items c.args.actor) c.in_ok-hunt.hunt _ c.in_ok-hunt.ensures.taken
          (kept_there c.args.actor c.args.self.now c.take_up.new.self c.keep-in-Stale.new.self _
          (omega (arith, c.requires.known_actor, c.requires.paired.slots))
          c.take_up.ensures.forgets c.keep-in-Stale.ensures.hunts)
          refl (omega arith) c.in-Stale.seen
          (ap (λ (m : Marks). stale_in c.in_ok-hunt.hunt.search.generation m.generation) (sym c.take_up.ensures.forgets.marks)
          ∙ (subst (IsStale c.in_ok-hunt.hunt.search.generation c.take_up.new.self.marks.generation) c.in-Stale.is
          c.in_ok-found.ensures.keeps.stale).0)
          refl;
      others = others_kept c.args.actor c.args.self.now c.take_up.new.self c.keep-in-Stale.new.self _
          (omega (arith, c.requires.known_actor, c.requires.paired.slots))
          c.take_up.ensures.forgets c.keep-in-Stale.ensures.hunts;
      answered = search rules;
    }
