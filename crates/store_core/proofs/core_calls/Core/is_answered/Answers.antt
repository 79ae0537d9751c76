use Rattle.std.proofs.Common.{◌≡◌, ◌<◌, false, List, length, sym, ◌∙◌, ap, subst, arith}
use Rattle.std.specs.Prelude.{◌==◌, nat_lt, slice_index}
use Rattle.std.proofs.lemmas.Bool.Decides.{nat_tests}
use Rattle.std.proofs.lemmas.List.{get_or_read}
use Rattle.ledger_machine.specs.declared.commands.Line.{Line}
use Rattle.ledger_machine.specs.Runs.{is_answered}
use Rattle.store_core.specs.Journal.{AllBefore, AllFrom}
use Rattle.store_core.proofs.Waiting.{none_there}
use Rattle.store_core.proofs.Journals.{kept_answered, kept_unknown}
use Rattle.store_core.proofs.core_calls.Core.is_answered.Goals as goal

-- every line has a lower number, so none has this one and no entry answers it
pub returns-then-at-len : goal.returns-then-at-len
returns-then-at-len g c =
    let P : List Line → Type 0 = λ w. AllBefore w c.first_from-at.result c.args.number in
    let below = subst P c.deref.ensures.value c.first_from-at.ensures.below in
    rw (← c.self.view_is) (sym (kept_unknown _ _ _ _ _ _ _ _ _ _ _ _ c.self.invariant.0 c.args.number
    (λ j d lt same. omega
    (arith, below j d (omega (arith, lt, c.len.ensures, c.if-at-len.true, c.self.inside.script.lines.ok.0)) lt, same))))

-- a line has its entry exactly where its actor's cursor stands behind it
pub returns-then-line-number : goal.returns-then-line-number
returns-then-line-number g c =
    let k = c.self.invariant.0 in
    let line = c.index-line.result.now in
    let lt : c.first_from-at.result < length c.self.inside.script.lines.items =
    grind (
      arith,
      c.first_from-at.ensures.within,
      c.deref.ensures.len,
      c.self.inside.script.lines.ok.0,
      c.len.ensures,
      c.if-at-len.false,
    ) in
    let actor : line.actor < 64 = let P : Line → Type 0 = λ l. l.actor < 64 in
    subst P (sym c.index-line.ensures) (k.servable.actors_known c.first_from-at.result line lt) in
    let cursor : c.index.result.now ≡ slice_index c.self.inside.cursors.items line.actor =
    get_or_read c.self.inside.cursors.items line.actor c.index.result.now (omega (arith, actor, k.cursor_count)) c.index.ensures 0 in
    rw (← c.self.view_is) (ap (nat_lt c.first_from-at.result) cursor
    ∙ sym (ap (is_answered c.self.inside.journal.items) (sym c.if-line-number.true)
    ∙ kept_answered _ _ _ _ _ _ _ _ _ _ _ _ k c.first_from-at.result line lt (sym c.index-line.ensures)))

-- the first line that isn't lower has another number, and later ones are higher still, so no entry answers this number
pub returns-else-line-number : goal.returns-else-line-number
returns-else-line-number g c =
    let k = c.self.invariant.0 in
    let P : List Line → Type 0 = λ w. AllBefore w c.first_from-at.result c.args.number in
    let Q : List Line → Type 0 = λ w. AllFrom w c.first_from-at.result c.args.number in
    let below = subst P c.deref.ensures.value c.first_from-at.ensures.below in
    let above = subst Q c.deref.ensures.value c.first_from-at.ensures.above in
    let line = c.index-line.result.now in
    let lt : c.first_from-at.result < length c.self.inside.script.lines.items =
    grind (
      arith,
      c.first_from-at.ensures.within,
      c.deref.ensures.len,
      c.self.inside.script.lines.ok.0,
      c.len.ensures,
      c.if-at-len.false,
    ) in
    let other : (line.number == c.args.number) ≡ false = let apart = c.if-line-number.false in grind (arith, nat_tests) in
    rw (← c.self.view_is) (other
    ∙ sym (kept_unknown _ _ _ _ _ _ _ _ _ _ _ _ k c.args.number
    (none_there _ k.servable.numbers_rise c.first_from-at.result c.args.number line lt below c.index-line.ensures
    (omega (arith, above c.first_from-at.result line (omega arith) lt, ap (λ (l : Line). l.number) c.index-line.ensures))
    c.if-line-number.false)))
