-- The rows of `edit`, `put`, `tx`, `del` and `abandon`.
use Rattle.std.specs.Prelude.{ℕ, ◌==◌, nat_le, not, Bool, if◌then◌else◌, [], length, Option, None, Some}
use Rattle.std.specs.Option.{option_map_or}
use Rattle.ledger_spec.specs.Maps.{hash_cmp, numbered_cmp, get_in, has_in, insert_in, set_in, remove_in}
use Rattle.ledger_spec.specs.declared.Kind.TheVariants as kinds
use Rattle.ledger_spec.specs.Bytes.{Bytes, Hash, Half, zero_hash}
use Rattle.ledger_spec.specs.Findings.{items_of}
use Rattle.ledger_spec.specs.Spots.{header_in, header_root}
use Rattle.ledger_machine.specs.declared.commands.EditReply.{EditReply}
use Rattle.ledger_machine.specs.declared.commands.EditReply.TheVariants as edits
use Rattle.ledger_machine.specs.declared.commands.DelReply.{DelReply}
use Rattle.ledger_machine.specs.declared.commands.DelReply.TheVariants as dels
use Rattle.ledger_machine.specs.Limits.{last_seq, most_sessions}
use Rattle.ledger_machine.specs.State.{State, Session, form_in, stored_seq}
use Rattle.ledger_machine.specs.Views.{is_retained}

abbrev pub edit_reply : State → ℕ × ℕ → Hash → EditReply
edit_reply s x t =
    if has_in numbered_cmp s.sessions x then edits.InUse
    else if not (is_retained s t) then edits.NotRetained
    else if nat_le last_seq (stored_seq s t) then edits.LastSeq
    else if length s.sessions == most_sessions then edits.TooMany
    else edits.Fine

-- a session on the ledger's account state, without transactions
abbrev pub session_on : Half → State → Hash → Session
session_on half s t =
    let root = option_map_or (header_root kinds.State) (header_in (form_in s) t) zero_hash in
    record { base = t; accounts = items_of half (form_in s) kinds.State root; txs = [] }

abbrev pub after_edit : Half → State → ℕ × ℕ → Hash → EditReply → State
after_edit half s x t edits.Fine = record s { sessions = insert_in numbered_cmp s.sessions x (session_on half s t) }
after_edit half s x t _ = s

-- whether the session is open
abbrev pub has_session : State → ℕ × ℕ → Bool
has_session s x = has_in numbered_cmp s.sessions x

-- a change of an open session
abbrev pub with_session : State → ℕ × ℕ → (Session → Session) → State
with_session s x change =
    option_map_or (λ e. record s { sessions = set_in numbered_cmp s.sessions x (change e) }) (get_in numbered_cmp s.sessions x) s

abbrev pub after_put : State → ℕ × ℕ → Hash → Bytes → State
after_put s x key bytes = with_session s x (λ e. record e { accounts = insert_in hash_cmp e.accounts key bytes })

abbrev pub after_tx : State → ℕ × ℕ → Hash → Bytes → State
after_tx s x key bytes = with_session s x (λ e. record e { txs = insert_in hash_cmp e.txs key bytes })

abbrev pub del_given : Hash → Option Session → DelReply
del_given key None = dels.NoSession
del_given key (Some e) = if has_in hash_cmp e.accounts key then dels.Fine else dels.Absent

abbrev pub del_reply : State → ℕ × ℕ → Hash → DelReply
del_reply s x key = del_given key (get_in numbered_cmp s.sessions x)

abbrev pub after_del : State → ℕ × ℕ → Hash → State
after_del s x key = with_session s x (λ e. record e { accounts = remove_in hash_cmp e.accounts key })

abbrev pub without_session : State → ℕ × ℕ → State
without_session s x = record s { sessions = remove_in numbered_cmp s.sessions x }
