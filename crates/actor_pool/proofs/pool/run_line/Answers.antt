use Rattle.std.proofs.Common.{◌≡◌, ◌+◌, sym, ◌∙◌, ap, subst, List}
use Rattle.std.proofs.lemmas.Option.{same_Some}
use Rattle.ledger_machine.specs.declared.commands.Line.{Line}
use Rattle.actor_pool.specs.Order.{AreAnswered}
use Rattle.actor_pool.proofs.Order.{first_next, first_left, first_free, first_more, no_other, read_line}
use Rattle.actor_pool.proofs.pool.run_line.Goals as goal

-- all lines before it have their entries, so this is its actor's next line, and the one that it waits for is answered
pub unreachable-requires : goal.unreachable-requires
unreachable-requires g c =
    let core = c.args.core.now in
    let line = c.index-line.result.now in
    let is = read_line core.lines c.script.result.now.lines.items c.args.at line c.script.ensures.lines c.index-line.ensures in
    let left = sym c.is_answered.ensures ∙ c.if-is_answered.false in
    no_other c.step_whole.result c.in_default.not-Answered c.step_whole.ensures.whole
    (λ e. first_free core.lines core.journal c.script.ensures.servable c.journal.ensures.kept.projects c.journal.ensures.kept.known
    c.args.at line c.requires.within is c.requires.before left (c.step_whole.ensures.comes.blocked.0 e))
    (λ e. first_left core.lines core.journal c.script.ensures.servable c.journal.ensures.kept.projects c.journal.ensures.kept.known
    c.args.at line c.requires.within is c.requires.before left (c.step_whole.ensures.comes.finished.0 e))

-- the actor's next line was answered, and that is this one, so the lines up to and with it have their entries
pub returns-clause-answered : goal.returns-clause-answered
returns-clause-answered g c =
    let core = c.args.core.now in
    let line = c.index-line.result.now in
    let is = read_line core.lines c.script.result.now.lines.items c.args.at line c.script.ensures.lines c.index-line.ensures in
    let left = sym c.is_answered.ensures ∙ c.if-is_answered.false in
    let by = c.step_whole.ensures.answered c.in-Answered.is in
    let next = first_next core.lines core.journal c.script.ensures.servable c.journal.ensures.kept.projects c.journal.ensures.kept.known
    c.args.at line c.requires.within is c.requires.before left in
    let same : by.line ≡ line = same_Some by.line line (sym by.next ∙ next) in
    let P : List Line → Type 0 = λ w. AreAnswered w c.step_whole.new.self.journal (c.args.at + 1) in
    subst P (sym by.lines) (first_more core.lines core.journal c.script.ensures.servable c.journal.ensures.kept.projects
    c.journal.ensures.kept.known c.args.at line c.requires.within is c.requires.before left
    c.step_whole.new.self.journal by.entry by.journal (by.number ∙ ap (λ (l : Line). l.number) same))
