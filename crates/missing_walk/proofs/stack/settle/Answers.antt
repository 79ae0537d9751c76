use Rattle.std.proofs.Common.{◌≡◌, ◌∷◌, true, sym, ap, ◌∙◌, subst}
use Rattle.std.specs.Prelude.{reverse}
use Rattle.missing_walk.specs.Pending.{IsFull, Around}
use Rattle.missing_walk.specs.Stacks.{is_topped}
use Rattle.missing_walk.proofs.Stacking.{closed, last_first, mark_keeps, mark_generation, mark_room, no_last}
use Rattle.missing_walk.proofs.stack.settle.Goals as goal

-- the last inner node is full where nothing is left above its height
pub loop-opened-preserved : goal.loop-opened-preserved
loop-opened-preserved c =
    let last : reverse c.loop-opened.opened.items ≡ c.in-Some.done ∷ reverse c.pop.new.self.items =
    last_first c.loop-opened.opened.items c.pop.new.self.items c.in-Some.done c.in-Some.ensures.items in
    let top : is_topped (c.in-Some.done ∷ reverse c.pop.new.self.items) c.args.height ≡ true =
    sym (c.loop-opened-test.ensures ∙ ap (λ items. is_topped (reverse items) c.args.height) c.deref.ensures.value
    ∙ ap (λ os. is_topped os c.args.height) last) in
    record {
      around = λ half nodes ps len a.
          (closed half nodes (reverse c.pop.new.self.items) c.in-Some.done c.args.height ps len top
          (subst (λ os. Around half nodes os ps) last (c.loop-opened.invariant.around half nodes ps len a))).1;
      marks = λ half nodes ps len a marked.
          mark_keeps (IsFull half nodes) c.mark-marked.result c.loop-opened.marks c.mark-marked.new.self c.in-Some.done.at
          c.generation-generation.result c.generation-generation.ensures c.mark-marked.ensures.ok c.mark-marked.ensures.err
          (closed half nodes (reverse c.pop.new.self.items) c.in-Some.done c.args.height ps len top
          (subst (λ os. Around half nodes os ps) last (c.loop-opened.invariant.around half nodes ps len a))).0
          (c.loop-opened.invariant.marks half nodes ps len a marked);
      generation = mark_generation c.mark-marked.result c.loop-opened.marks c.mark-marked.new.self c.in-Some.done.at
          c.generation-generation.result c.mark-marked.ensures.ok c.mark-marked.ensures.err ∙ c.loop-opened.invariant.generation;
      room = mark_room c.mark-marked.result c.loop-opened.marks c.mark-marked.new.self c.in-Some.done.at
          c.generation-generation.result c.mark-marked.ensures.ok c.mark-marked.ensures.err ∙ c.loop-opened.invariant.room;
      idle = λ none. no_last c.loop-opened.opened.items c.pop.new.self.items c.in-Some.done c.in-Some.ensures.items
          (c.loop-opened.invariant.idle none).1;
    }
