use Rattle.std.proofs.Common.{List, ◌∙◌, sym, subst}
use Rattle.ledger_spec.specs.Bytes.{Bytes}
use Rattle.script_form.specs.declared.cause.Cause.{Cause}
use Rattle.script_form.specs.Records.{earlier_in, StoreHas}
use Rattle.script_form.proofs.Stores.{behind_store, record_fine}
use Rattle.script_form.proofs.judging.judge_record.Goals as goal

-- the text is printable and not too long, and the words behind `store` have no cause, so none is left for the line
pub returns-clause-fine : goal.returns-clause-fine
returns-clause-fine g c =
    let F : List Bytes → Type 0 =
    λ ws. (d : Cause) → StoreHas g.H.NodeHash.half (earlier_in c.args.earlier.now c.args.records.now) ws d → ⊥ in
    record_fine g.H.NodeHash.half _ c.args.text.now c.requires.store (sym c.is_printable.ensures ∙ c.if-not-is_printable.false)
    c.if-text-gt-MOST_TEXT.false (subst F (behind_store c.args.words.now c.args.text.now c.requires.words) c.in_ok-record.ensures.fine)
