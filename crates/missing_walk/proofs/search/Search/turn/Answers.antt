use Rattle.std.proofs.Common.{◌≡◌, ◌-◌, length, refl, ap, sym, ◌∙◌, arith, rules}
use Rattle.std.proofs.lemmas.Grind.{common_steps}
use Rattle.std.specs.Prelude.{reverse}
use Rattle.std.specs.List.{slice_get}
use Rattle.missing_walk.specs.Pending.{pending_of, stacked, IsFull}
use Rattle.missing_walk.specs.Rests.{weight, stored_weight, most_from, most_again}
use Rattle.missing_walk.proofs.Weights.{weighs_most}
use Rattle.missing_walk.proofs.Loads.{top_nonzero}
use Rattle.missing_walk.specs.Moves.{Heeds}
use Rattle.missing_walk.proofs.Stacking.{length_stacked, EndsIn, last_is}
use Rattle.missing_walk.proofs.Seeing.{fewer_marked}
use Rattle.missing_walk.proofs.shared.Heeding.{goes_on}
use Rattle.missing_walk.proofs.Heeding.{inside_of_going, inside_same, within_around, within_held, going_on}
use Rattle.std.proofs.Common.{true, subst}
use Rattle.full_below.specs.Marking.{is_marked}
use Rattle.missing_walk.specs.Passes.{StillMarked}
use Rattle.missing_walk.proofs.Passing.{top_marked, passes_one, no_err}
use Rattle.missing_walk.proofs.search.Search.turn.Goals as goal

-- only the marks and the cache were used
pub returns-in_err-view-clause-lighter : goal.returns-in_err-view-clause-lighter
returns-in_err-view-clause-lighter g c =
    record {
      going = λ nodes t going.
          let half = g.H.NodeHash.half in
          let s = c.args.self.now in
          let more = goes_on s c.requires in
          let len : length (stacked s.stack.items) ≡ c.len.result = omega
          (arith, length_stacked s.stack.items, c.len.ensures, s.stack.ok.0) in
          going_on half nodes s _ c.args.cache.now c.see.new.cache c.args.marks.now c.see.new.marks
          (record { target = refl; generation = refl; header = refl }) going
          (inside_same half nodes s _ refl refl refl refl more.0 (inside_of_going half nodes s c.args.cache.now c.args.marks.now going))
          (within_around half nodes (reverse c.settle.new.opened.items) (stacked s.stack.items)
          (c.settle.ensures.within half nodes (stacked s.stack.items) len going.kept.around))
          going.kept.few
          (fewer_marked (IsFull half nodes) c.settle.new.marks c.see.new.marks c.see.ensures.marks
          (c.settle.ensures.marks half nodes (stacked s.stack.items) len going.kept.around going.marks))
          ((c.see.ensures.cached.entries nodes t).entries going.cache);
      rests = first_of (search rules, grind (arith, common_steps));
      bounds = first_of (search rules, grind (arith, common_steps));
    }

-- the place on top gave way to what was seen there, as far as there was memory for that
pub returns-in_err-heed-clause-lighter : goal.returns-in_err-heed-clause-lighter
returns-in_err-heed-clause-lighter g c =
    record {
      going = λ nodes t going.
          let half = g.H.NodeHash.half in
          let s = c.args.self.now in
          let more = goes_on s c.requires in
          let len : length (stacked s.stack.items) ≡ c.len.result = omega
          (arith, length_stacked s.stack.items, c.len.ensures, s.stack.ok.0) in
          let marked = c.settle.ensures.marks half nodes (stacked s.stack.items) len going.kept.around going.marks in
          let last : EndsIn s.stack.items c.in-Some.top.now = last_is s.stack.items c.in-Some.top.now
          (c.in-Some.ensures.value ∙ ap (λ xs. slice_get xs (length xs - 1)) c.deref.ensures.value) in
          let heeds : Heeds half nodes _ c.heed.new.self = c.heed.ensures.goes.heeds half nodes last.rest c.in-Some.top.now last.is
          c.place-place.ensures
          (c.in_ok-view.ensures.seen.view nodes t marked going.cache) in
          let within = c.settle.ensures.within half nodes (stacked s.stack.items) len going.kept.around in
          let held = within_held half nodes c.settle.new.opened.items (stacked s.stack.items) within in
          going_on half nodes s c.heed.new.self c.args.cache.now c.heed.new.cache c.args.marks.now c.see.new.marks
          (record {
            target = c.heed.ensures.notes.same.target;
            generation = c.heed.ensures.notes.same.generation;
            header =
                c.heed.ensures.notes.same.header;
          })
          going
          (heeds.inside more.0 more.1
          (inside_same half nodes s _ refl refl refl refl more.0 (inside_of_going half nodes s c.args.cache.now c.args.marks.now going)))
          (heeds.around within)
          (omega (arith, c.heed.ensures.notes.few, more.1))
          (fewer_marked (IsFull half nodes) c.settle.new.marks c.see.new.marks c.see.ensures.marks marked)
          ((c.heed.ensures.cached.entries half nodes held).entries ((c.see.ensures.cached.entries nodes t).entries going.cache));
      rests = first_of (search rules, grind (arith, common_steps));
      bounds = first_of (search rules, grind (arith, common_steps));
    }

pub returns-in_err-heed-clause-passes : goal.returns-in_err-heed-clause-passes
returns-in_err-heed-clause-passes g c idle =
    let s = c.args.self.now in
    let settled = c.settle.ensures.idle idle.opened in
    let last : EndsIn s.stack.items c.in-Some.top.now = last_is s.stack.items c.in-Some.top.now
    (c.in-Some.ensures.value ∙ ap (λ xs. slice_get xs (length xs - 1)) c.deref.ensures.value) in
    let top = top_marked c.args.marks.now s.stack.items last.rest c.in-Some.top.now last.is idle.marked in
    let marked : is_marked c.settle.new.marks c.in-Some.top.now.at ≡ true =
    subst (λ m. is_marked m c.in-Some.top.now.at ≡ true) (sym settled.0) top.0 in
    let heeded = c.in_err-heed.ensures.goes.nothing (c.in_ok-view.ensures.passes.nothing marked) last.rest c.in-Some.top.now last.is in
    absurd (no_err heeded.0)

-- a marked place on top is passed
pub returns-clause-passes : goal.returns-clause-passes
returns-clause-passes g c idle =
    let s = c.args.self.now in
    let settled = c.settle.ensures.idle idle.opened in
    let last : EndsIn s.stack.items c.in-Some.top.now = last_is s.stack.items c.in-Some.top.now
    (c.in-Some.ensures.value ∙ ap (λ xs. slice_get xs (length xs - 1)) c.deref.ensures.value) in
    let top = top_marked c.args.marks.now s.stack.items last.rest c.in-Some.top.now last.is idle.marked in
    let marked : is_marked c.settle.new.marks c.in-Some.top.now.at ≡ true =
    subst (λ m. is_marked m c.in-Some.top.now.at ≡ true) (sym settled.0) top.0 in
    let heeded = c.in_ok-heed.ensures.goes.nothing (c.in_ok-view.ensures.passes.nothing marked) last.rest c.in-Some.top.now last.is in (
      refl,
      passes_one s _ c.heed.new.self c.args.marks.now c.see.new.marks last.rest c.in-Some.top.now last.is settled.1 refl refl heeded.1
          (subst (λ m. StillMarked m c.see.new.marks) settled.0 (c.see.ensures.passes.still marked)) idle,
      c.see.ensures.passes.unasked marked,
    )

-- the place on top gave way to fewer
pub returns-clause-lighter : goal.returns-clause-lighter
returns-clause-lighter g c =
    record {
      going = λ nodes t going.
          let half = g.H.NodeHash.half in
          let s = c.args.self.now in
          let more = goes_on s c.requires in
          let len : length (stacked s.stack.items) ≡ c.len.result = omega
          (arith, length_stacked s.stack.items, c.len.ensures, s.stack.ok.0) in
          let marked = c.settle.ensures.marks half nodes (stacked s.stack.items) len going.kept.around going.marks in
          let last : EndsIn s.stack.items c.in-Some.top.now = last_is s.stack.items c.in-Some.top.now
          (c.in-Some.ensures.value ∙ ap (λ xs. slice_get xs (length xs - 1)) c.deref.ensures.value) in
          let heeds : Heeds half nodes _ c.heed.new.self = c.heed.ensures.goes.heeds half nodes last.rest c.in-Some.top.now last.is
          c.place-place.ensures
          (c.in_ok-view.ensures.seen.view nodes t marked going.cache) in
          let within = c.settle.ensures.within half nodes (stacked s.stack.items) len going.kept.around in
          let held = within_held half nodes c.settle.new.opened.items (stacked s.stack.items) within in
          going_on half nodes s c.heed.new.self c.args.cache.now c.heed.new.cache c.args.marks.now c.see.new.marks
          (record {
            target = c.heed.ensures.notes.same.target;
            generation = c.heed.ensures.notes.same.generation;
            header =
                c.heed.ensures.notes.same.header;
          })
          going
          (heeds.inside more.0 more.1
          (inside_same half nodes s _ refl refl refl refl more.0 (inside_of_going half nodes s c.args.cache.now c.args.marks.now going)))
          (heeds.around within)
          (omega (arith, c.heed.ensures.notes.few, more.1))
          (fewer_marked (IsFull half nodes) c.settle.new.marks c.see.new.marks c.see.ensures.marks marked)
          ((c.heed.ensures.cached.entries half nodes held).entries ((c.see.ensures.cached.entries nodes t).entries going.cache));
      rests = λ nodes t going. let half = g.H.NodeHash.half in
          let s = c.args.self.now in
          let len : length (stacked s.stack.items) ≡ c.len.result = omega
          (arith, length_stacked s.stack.items, c.len.ensures, s.stack.ok.0) in
          let marked = c.settle.ensures.marks half nodes (stacked s.stack.items) len going.kept.around going.marks in
          let last : EndsIn s.stack.items c.in-Some.top.now = last_is s.stack.items c.in-Some.top.now
          (c.in-Some.ensures.value ∙ ap (λ xs. slice_get xs (length xs - 1)) c.deref.ensures.value) in
          let hash = top_nonzero half nodes s.target s last.rest c.in-Some.top.now last.is going.kept.covers.met in
          let less = c.in_ok-heed.ensures.goes.lighter (weight half nodes) (stored_weight half nodes) last.rest c.in-Some.top.now last.is
          (c.in_ok-view.ensures.seen.weighs nodes t marked going.cache hash) in
          record { fewer = less.fewer };
      bounds = let s = c.args.self.now in
          let last : EndsIn s.stack.items c.in-Some.top.now = last_is s.stack.items c.in-Some.top.now
          (c.in-Some.ensures.value ∙ ap (λ xs. slice_get xs (length xs - 1)) c.deref.ensures.value) in
          let less = c.in_ok-heed.ensures.goes.lighter most_from most_again last.rest c.in-Some.top.now last.is
          (weighs_most (pending_of c.in-Some.top.now) c.in_ok-view.view c.see.ensures.seen.short c.in_ok-view.ensures.seen.levels) in
          record { fewer = less.fewer };
    }
