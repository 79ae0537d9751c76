use Rattle.std.proofs.Common.{rules, ◌≡◌, ◌∙◌, ap, refl, length}
use Rattle.ledger_spec.specs.Forms.{header}
use Rattle.ledger_spec.specs.Header.{header_bytes}
use Rattle.ledger_header.specs.Fields.{fields}
use Rattle.node_offer.proofs.Notes.{held_back}
use Rattle.node_offer.proofs.header.offer_header.Goals as goal

pub returns-in_err-stored-clause-store : goal.returns-in_err-stored-clause-store
returns-in_err-stored-clause-store g c =
    let bytes = header_bytes (fields c.in-Ok.header) in
    let size : length bytes ≡ 118 = ap length c.in-Ok.ensures.bytes ∙ c.in-Ok.ensures.size.0 refl in
    record {
      notes = c.in_err-stored.ensures.notes (held_back g.H.NodeHash.half (header bytes) c.form.result (size, c.form.ensures));
      later = search rules;
      cause = search rules;
    }

pub returns-clause-store : goal.returns-clause-store
returns-clause-store g c =
    let bytes = header_bytes (fields c.in-Ok.header) in
    let size : length bytes ≡ 118 = ap length c.in-Ok.ensures.bytes ∙ c.in-Ok.ensures.size.0 refl in
    record {
      notes = c.in_ok-stored.ensures.notes (held_back g.H.NodeHash.half (header bytes) c.form.result (size, c.form.ensures));
      later = search rules;
      cause = search rules;
    }
