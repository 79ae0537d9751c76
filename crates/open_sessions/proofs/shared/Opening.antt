-- A session that is opened over a whole ledger is kept, and is the machine's. For proofs of other crates.
use Rattle.std.proofs.Common.{◌≡◌, [], Option, Some, sym, ap, ◌∙◌, subst}
use Rattle.std.specs.Option.{option_map_or}
use Rattle.ledger_spec.specs.declared.Kind.TheVariants as kinds
use Rattle.ledger_spec.specs.Bytes.{Bytes, Half, Lookup, Items, zero_hash}
use Rattle.ledger_spec.specs.Findings.{items_of}
use Rattle.ledger_spec.specs.Header.{header_bytes}
use Rattle.ledger_spec.specs.Spots.{header_in, header_root}
use Rattle.ledger_header.specs.Fields.{fields, Reads}
use Rattle.edit_session.specs.Drafts.{Draft, Edits, LeavesToParent}
use Rattle.ledger_machine.specs.State.{State, form_in}
use Rattle.ledger_machine.specs.Sessions.{session_on}
use Rattle.open_sessions.specs.Edited.{IsKept, items_in, session_in}
use Rattle.open_sessions.proofs.shared.Editing.{edited}

-- what `Session::open` says of the draft, over a ledger whose header is stored and whose account state is whole
pub opened_kept : (half : Half) (s : State) (d : Draft)
    → header_in (form_in s) d.base ≡ Some (header_bytes (fields d.parent)) → Reads (header_bytes (fields d.parent)) d.parent
    → Edits half (form_in s) d (items_of half (form_in s) kinds.State d.parent.state_root) [] → LeavesToParent half (form_in s) d
    → IsKept half (form_in s) d × (session_in half (form_in s) d ≡ session_on half s d.base)
opened_kept half s d there reads edits left =
    let stored : Lookup = form_in s in
    let accounts : Items = items_of half stored kinds.State d.parent.state_root in
    let is = edited half stored d accounts [] edits in
    let root : option_map_or (header_root kinds.State) (header_in stored d.base) zero_hash ≡ d.parent.state_root =
    ap (λ (o : Option Bytes). option_map_or (header_root kinds.State) o zero_hash) there ∙ reads.state_root in
    let own : accounts ≡ items_of half stored kinds.State (option_map_or (header_root kinds.State) (header_in stored d.base) zero_hash) =
    ap (items_of half stored kinds.State) (sym root) in (
      record {
        header = there;
        reads = reads;
        edits = subst (λ (a : Items). Edits half stored d a (items_in half stored d.txs)) is.0
            (subst (λ (t : Items). Edits half stored d accounts t) is.1 edits);
        left = left;
      },
      λ i. record { base = d.base; accounts = (sym is.0 ∙ own) i; txs = sym is.1 i },
    )
