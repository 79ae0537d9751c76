-- what was found decides as the machine's row does
use Rattle.std.proofs.Common.{◌≡◌, List, [], refl, sym, ap, ◌∙◌, subst, length, arith}
use Rattle.ledger_spec.specs.Bytes.{Hash}
use Rattle.core_machine.specs.Telling.{Hears}
use Rattle.core_machine.proofs.Retold.{settled_tells, unsettled_tells}
use Rattle.missing_walk.specs.Sees.{Finds}
use Rattle.ledger_machine.specs.State.{State, form_in}
use Rattle.ledger_machine.specs.Check.{after_check}
use Rattle.ledger_machine.specs.Steps.{IsAfter}
use Rattle.core_machine.specs.Wanting.{settled, told_at}
use Rattle.core_machine.proofs.shared.States.{on_err}
use Rattle.core_machine.proofs.shared.Checks.{found_here}
use Rattle.core_machine.proofs.Founds.{check_found, check_settled, check_unsettled, found_seq_is}
use Rattle.core_machine.proofs.Listed.{settled_few}
use Rattle.core_machine.proofs.Refusing.{forms_rest}
use Rattle.core_machine.proofs.tables.Tables.check.Goals as goal

pub judge-requires-after_bounds : goal.judge-requires-after_bounds
judge-requires-after_bounds g c κs within =
    (found_here g.H.NodeHash.half g.Sh.B.Backend.tells c.args.self.now.state c.args.target.now c.args.found.now c.in-Some.found
    c.requires.found
    (rw (← c.self.view_is) (sym c.contains_key.ensures ∙ c.if-not-contains_key.false)) c.in-Some.is).0

-- what was found decides the reply, and the state changes as the reply says, with the sequence of the stored header
pub returns-clause-row : goal.returns-clause-row
returns-clause-row g c told =
    let half = g.H.NodeHash.half in
    let s : State = c.args.self.now.state in
    let t = c.args.target.now in
    let finds : Finds half (form_in s) t c.in-Some.found =
    (found_here half g.Sh.B.Backend.tells s t c.args.found.now c.in-Some.found c.requires.found
    (rw (← c.self.view_is) (sym c.contains_key.ensures ∙ c.if-not-contains_key.false)) c.in-Some.is).1 told in
    let given : State = settled c.judge.new.self.state t c.found_seq.result c.in_ok-reply.reply in
    let is = check_settled s t s.floor c.in-Some.found c.judge.new.self.state given c.found_seq.result c.in_ok-reply.reply
    c.in_ok-reply.ensures.reply
    c.in_ok-reply.ensures.after refl
    ∙ ap (λ n. after_check s t n c.in_ok-reply.reply) (c.found_seq.ensures ∙ found_seq_is half s t c.in-Some.found finds) in (
      c.in_ok-reply.ensures.reply ∙ check_found half s t c.in-Some.found finds,
      subst (λ (x : State). IsAfter x c.settle.new.self.state) is c.in_ok-settle.ensures.ok,
    )

-- only to list a complete ledger wants memory, and its acquisition stayed as it was
pub returns-in_err-settle-clause-err : goal.returns-in_err-settle-clause-err
returns-in_err-settle-clause-err g c =
    let s : State = c.args.self.now.state in
    let t = c.args.target.now in
    let same : c.judge.new.self.state ≡ s =
    check_unsettled s t s.floor c.in-Some.found c.judge.new.self.state c.in_ok-reply.reply
    c.in_ok-reply.ensures.reply
    c.in_ok-reply.ensures.after
    c.in_err-settle.ensures.err.0 in
    on_err c.from_residual-in_err-settle.result
    (subst (λ (x : State). IsAfter x c.settle.new.self.state) same c.in_err-settle.ensures.err.1)

pub returns-in_err-settle-clause-kept : goal.returns-in_err-settle-clause-kept
returns-in_err-settle-clause-kept g c =
    let s : State = c.args.self.now.state in
    let t = c.args.target.now in
    let same : c.judge.new.self.state ≡ s =
    check_unsettled s t s.floor c.in-Some.found c.judge.new.self.state c.in_ok-reply.reply
    c.in_ok-reply.ensures.reply
    c.in_ok-reply.ensures.after
    c.in_err-settle.ensures.err.0 in
    on_err c.from_residual-in_err-settle.result
    (forms_rest g.H.NodeHash.half s c.settle.new.self.state []
    (subst (λ (x : State). IsAfter x c.settle.new.self.state) same c.in_err-settle.ensures.err.1))

-- a reply lists one ledger at most, and the judgement takes no fault back
pub returns-clause-grows : goal.returns-clause-grows
returns-clause-grows g c = record {
  later = omega (arith, c.judge.ensures.memory.stays.later, c.settle.ensures.store.faults);
  few = omega (
    arith,
    settled_few c.judge.new.self.state c.args.target.now c.found_seq.result c.in_ok-reply.reply,
    ap (λ (x : State). length x.listed) c.in_ok-settle.ensures.ok,
    ap (λ (x : State). length x.listed) c.in_ok-reply.ensures.after,
  );
  ages = omega (arith, c.settle.ensures.store.epoch, c.judge.ensures.memory.stays.epoch);
}

-- the rotation was told of the ledger that is listed, which was open
pub returns-clause-tells : goal.returns-clause-tells
returns-clause-tells g c =
    settled_tells c.args.self.now.state c.judge.new.self.state c.settle.new.self.state c.args.target.now c.found_seq.result
    c.in_ok-reply.reply
    (subst (λ (hs : List Hash). Hears hs (told_at c.args.target.now c.in_ok-reply.reply) c.settle.new.self.state.shaded)
    c.judge.ensures.memory.told c.settle.ensures.hears) c.in_ok-settle.ensures.ok

pub returns-in_err-settle-clause-tells : goal.returns-in_err-settle-clause-tells
returns-in_err-settle-clause-tells g c =
    let s : State = c.args.self.now.state in
    let t = c.args.target.now in
    let same : c.judge.new.self.state ≡ s =
    check_unsettled s t s.floor c.in-Some.found c.judge.new.self.state c.in_ok-reply.reply
    c.in_ok-reply.ensures.reply
    c.in_ok-reply.ensures.after
    c.in_err-settle.ensures.err.0 in
    unsettled_tells s s c.settle.new.self.state t c.in_ok-reply.reply s.floor c.in-Some.found
    c.in_ok-reply.ensures.reply
    c.in_err-settle.ensures.err.0
    (subst (λ (hs : List Hash). Hears hs (told_at c.args.target.now c.in_ok-reply.reply) c.settle.new.self.state.shaded)
    c.judge.ensures.memory.told c.settle.ensures.hears)
    (subst (λ (x : State). IsAfter x c.settle.new.self.state) same c.in_err-settle.ensures.err.1)
