-- The state of the commands with the open edit sessions beside it.
use Rattle.std.specs.Prelude.{ℕ, Bool, true, false, ◌≡◌, ◌==◌, nat_le, not, if◌then◌else◌, IsTrue, length, None, Some}
use Rattle.ledger_spec.specs.Bytes.{Hash, Half, Lookup}
use Rattle.ledger_spec.specs.Commits.{IsWholeMap}
use Rattle.ledger_spec.specs.declared.Kind.TheVariants as kinds
use Rattle.ledger_spec.specs.Header.{header_bytes}
use Rattle.ledger_spec.specs.Spots.{header_in}
use Rattle.ledger_header.specs.declared.Header.{Header}
use Rattle.ledger_header.specs.Fields.{fields, Reads}
use Rattle.ledger_machine.specs.declared.commands.EditReply.{EditReply}
use Rattle.ledger_machine.specs.declared.commands.EditReply.TheVariants as edits
use Rattle.ledger_spec.specs.Maps.{ForActor, numbered_cmp, has_in}
use Rattle.ledger_spec.specs.Own.{AreStored}
use Rattle.edit_session.specs.Drafts.{Draft}
use Rattle.ledger_machine.specs.declared.commands.ViewReply.{ViewReply}
use Rattle.ledger_machine.specs.declared.commands.ViewReply.TheVariants as view
use Rattle.ledger_machine.specs.Limits.{last_seq, most_sessions, most_views}
use Rattle.ledger_machine.specs.State.{State, form_in, with_sessions}
use Rattle.open_sessions.specs.Edited.{sessions_in}
use Rattle.open_sessions.specs.Rows.{AllKept}

-- what a store tells that it holds; one that doesn't tell may hold anything, so nothing is said of it
abbrev pub told_forms : Bool → State → Lookup
told_forms true s = form_in s
told_forms false s = λ h. None

-- the state with the sessions of open drafts
abbrev pub with_open : Half → Bool → State → ForActor Draft → State
with_open half tells s drafts = with_sessions s (sessions_in half (told_forms tells s) drafts)

-- where the store tells what it holds, and all of that are forms under their own hashes, each open draft is kept by it
abbrev pub KeepsDrafts : Half → Bool → State → ForActor Draft → Type 0
KeepsDrafts half tells s drafts = IsTrue tells → AreStored half (form_in s) → AllKept half s drafts

-- the reply to a view of a ledger that is retained or not
abbrev pub view_by : Bool → State → ℕ × ℕ → ViewReply
view_by retained s v =
    if has_in numbered_cmp s.views v then view.InUse
    else if not retained then view.NotRetained
    else if length s.views == most_views then view.TooMany
    else view.Fine

-- this header is stored under the hash, and is read of its bytes
pub record IsHeaderOf (s : State) (t : Hash) (h : Header) : Type 0 where
  pub held : header_in (form_in s) t ≡ Some (header_bytes (fields h))
  pub reads : Reads (header_bytes (fields h)) h

-- and the account state that it names is whole
pub record IsFit (half : Half) (s : State) (t : Hash) (h : Header) : Type 0 where
  pub header : IsHeaderOf s t h
  pub whole : IsWholeMap half (form_in s) kinds.State h.state_root

-- the reply to an edit of a retained ledger, by its sequence and how many sessions are open
abbrev pub edit_by : ℕ → ℕ → EditReply
edit_by seq open_ones = if nat_le last_seq seq then edits.LastSeq else if open_ones == most_sessions then edits.TooMany else edits.Fine
