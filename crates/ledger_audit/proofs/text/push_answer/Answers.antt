use Rattle.std.proofs.Common.{◌≡◌, ◌++◌, OnOk, sym, subst}
use Rattle.std.specs.String.{string_bytes}
use Rattle.audit_core.specs.declared.answer.Answer.{Answer}
use Rattle.ledger_audit.specs.Text.{answer_text}
use Rattle.ledger_audit.proofs.text.push_answer.Goals as goal

pub returns-in-OtherState : goal.returns-in-OtherState
returns-in-OtherState c =
    subst (λ (a : Answer). OnOk c.push_two-in-OtherState.result
    (string_bytes c.push_two-in-OtherState.new.text ≡ string_bytes c.args.text.now ++ answer_text a))
    (sym c.in-OtherState.is) c.push_two-in-OtherState.ensures

pub returns-in-OtherTx : goal.returns-in-OtherTx
returns-in-OtherTx c =
    subst (λ (a : Answer). OnOk c.push_two-in-OtherTx.result
    (string_bytes c.push_two-in-OtherTx.new.text ≡ string_bytes c.args.text.now ++ answer_text a))
    (sym c.in-OtherTx.is) c.push_two-in-OtherTx.ensures
