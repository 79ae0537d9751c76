-- The ledgers of two runs that answer whole for one hash are whole ledgers of that hash.
use Rattle.std.proofs.Common.{Option, sym, ◌∙◌}
use Rattle.ledger_spec.specs.Bytes.{Bytes, Hash, Half}
use Rattle.audit_core.specs.declared.answer.Answer.TheVariants.{Whole}
use Rattle.audit_core.specs.declared.answer.Sum.{Sum}
use Rattle.audit_core.specs.Said.{Said}
use Rattle.audit_core.specs.Verdicts.{IsVerdict}
use Rattle.audit_core.specs.Twins.{IsWhole}
use Rattle.audit_core.proofs.shared.Twins.{wholes_are_one}
use Rattle.plain_audit.specs.Ledgers.{IsLedgerText}
use Rattle.plain_audit.specs.Twins.{WholeRunsAreTwins}
use Rattle.plain_audit.proofs.shared.Told.{accepted_told, text_items}

-- the ledger of a text, of which the verdict is that it is whole
whole_text : (half : Half) (expect : Option Hash) (bytes : Bytes) (sum : Sum) (s : Said) → IsLedgerText bytes s
    → IsVerdict half expect s (Whole sum) → IsWhole half s
whole_text half expect bytes sum s text verdict =
    let items = text_items half bytes s text in
    record { maps = record { state = items.0; txs = items.1 }; own = verdict.1; own_txs = verdict.2 }

pub runs_are_twins : WholeRunsAreTwins
runs_are_twins half is expect also bytes others sum too first second hash =
    let a = accepted_told half expect bytes (Whole sum) first tt in
    let b = accepted_told half also others (Whole too) second tt in
    record {
      said = a.0;
      other = b.0;
      is_text = a.1;
      is_other = b.1;
      one = wholes_are_one half is a.0 b.0 (whole_text half expect bytes sum a.0 a.1 a.2) (whole_text half also others too b.0 b.1 b.2)
          (sym a.2.3.hash ∙ hash ∙ b.2.3.hash);
    }
