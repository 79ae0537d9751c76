-- A session that is opened on a retained ledger.
use Rattle.std.proofs.Common.{◌≡◌, ℕ, Bool, true, false, not, nat_le, ◌==◌, if◌then◌else◌, length}
use Rattle.std.proofs.Common.{IsTrue, [], Option, None, Some, sym, ap, ◌∙◌, subst}
use Rattle.std.specs.Prelude.{IfSome}
use Rattle.std.specs.Option.{option_map, option_map_or, option_and_then}
use Rattle.std.proofs.lemmas.Bool.{false≢true}
use Rattle.ledger_spec.specs.declared.Kind.TheVariants as kinds
use Rattle.ledger_spec.specs.Bytes.{Bytes, Hash, Half}
use Rattle.ledger_spec.specs.Commits.{IsWholeMap}
use Rattle.ledger_spec.specs.Findings.{items_of}
use Rattle.ledger_spec.specs.Forms.{header_of}
use Rattle.ledger_spec.specs.Header.{header_bytes, seq_of}
use Rattle.ledger_spec.specs.Maps.{ForActor, numbered_cmp, insert_in}
use Rattle.ledger_spec.specs.Spots.{header_in}
use Rattle.ledger_header.specs.declared.Header.{Header}
use Rattle.ledger_header.specs.Fields.{fields, Reads}
use Rattle.edit_session.specs.Drafts.{Draft, Edits, LeavesToParent}
use Rattle.ledger_laws.proofs.shared.SoundViews.{among}
use Rattle.ledger_laws.proofs.shared.WholeMaps.{both_whole}
use Rattle.ledger_machine.specs.declared.commands.EditReply.{EditReply}
use Rattle.ledger_machine.specs.declared.commands.EditReply.TheVariants as edits
use Rattle.ledger_machine.specs.Sessions.{edit_reply, has_session, session_on}
use Rattle.ledger_machine.specs.Sound.{Sound}
use Rattle.ledger_machine.specs.State.{State, Session, form_in, retained, stored_seq, with_sessions}
use Rattle.ledger_machine.specs.Views.{is_retained}
use Rattle.open_sessions.specs.Edited.{IsKept, session_in}
use Rattle.open_sessions.specs.Rows.{AllKept}
use Rattle.open_sessions.proofs.shared.Opening.{opened_kept}
use Rattle.open_sessions.proofs.shared.Rows.{open_gives}
use Rattle.open_sessions.proofs.shared.Tables.{over_insert}
use Rattle.core_machine.specs.Machines.{with_open, KeepsDrafts, IsHeaderOf, IsFit, edit_by}

-- what a form that is stored reads as
pub header_found : (s : State) (t : Hash) (form given : Bytes) (r : Option Header) → form_in s t ≡ Some form → given ≡ form
    → option_map (λ (h : Header). header_bytes (fields h)) r ≡ header_of given
    → IfSome r (λ h. Reads (header_bytes (fields h)) h) → IfSome r (IsHeaderOf s t)
header_found s t form given None held same exact reads = tt
header_found s t form given (Some h) held same exact reads =
    record { held = ap (option_and_then header_of) held ∙ ap header_of (sym same) ∙ sym exact; reads = reads }

-- its sequence is the stored one
seq_is : (s : State) (t : Hash) (h : Header) → IsHeaderOf s t h → h.seq ≡ stored_seq s t
seq_is s t h is = sym (ap (λ (o : Option Bytes). option_map_or seq_of o 0) is.held ∙ is.reads.seq)

-- in a sound state the account state of a retained ledger is whole
pub fit_of : (half : Half) (s : State) (t : Hash) (h : Header) → Sound half s → is_retained s t ≡ true → IsHeaderOf s t h → IsFit half s t h
fit_of half s t h sound kept is = record {
  header = is;
  whole = subst (λ (r : Hash). IsWholeMap half (form_in s) kinds.State r) is.reads.state_root
      (both_whole half (form_in s) t (header_bytes (fields h)) is.held (sound.retained_whole t (among t (retained s) kept)).whole).0;
}

-- whatever sessions are open
pub fit_alone : (half : Half) (tells : Bool) (s : State) (drafts : ForActor Draft) (t : Hash) (h : Header)
    → IsFit half (with_open half tells s drafts) t h → IsFit half s t h
fit_alone half tells s drafts t h fit =
    record { header = record { held = fit.header.held; reads = fit.header.reads }; whole = fit.whole }

-- a draft on such a ledger is kept, and is the machine's session
pub started : (half : Half) (s : State) (t : Hash) (h : Header) (d : Draft) → IsFit half s t h → d.base ≡ t → d.parent ≡ h
    → Edits half (form_in s) d (items_of half (form_in s) kinds.State h.state_root) [] × LeavesToParent half (form_in s) d
    → IsKept half (form_in s) d × (session_in half (form_in s) d ≡ session_on half s t)
started half s t h d fit base parent maps =
    let k = opened_kept half s d
    (ap (header_in (form_in s)) base ∙ fit.header.held ∙ sym (ap (λ (x : Header). Some (header_bytes (fields x))) parent))
    (subst (λ (x : Header). Reads (header_bytes (fields x)) x) (sym parent) fit.header.reads)
    (subst (λ (x : Header). Edits half (form_in s) d (items_of half (form_in s) kinds.State x.state_root) []) (sym parent) maps.0) maps.1 in
    (k.0, k.1 ∙ ap (session_on half s) base)

pub start_keeps : (half : Half) (tells : Bool) (s : State) (old new : ForActor Draft) (x : ℕ × ℕ) (d : Draft)
    → new ≡ insert_in numbered_cmp old x d → (IsTrue tells → IsKept half (form_in s) d) → KeepsDrafts half tells s old
    → KeepsDrafts half tells s new
start_keeps half tells s old new x d is fit keeps told stored =
    subst (λ (ds : ForActor Draft). AllKept half s ds) (sym is) (open_gives half s old (keeps told stored) x d (fit told)).kept

pub start_after : (half : Half) (tells : Bool) (s : State) (old new : ForActor Draft) (x : ℕ × ℕ) (d : Draft) (t : Hash) → IsTrue tells
    → new ≡ insert_in numbered_cmp old x d → session_in half (form_in s) d ≡ session_on half s t
    → with_open half tells s new ≡ record (with_open half tells s old)
    { sessions = insert_in numbered_cmp (with_open half tells s old).sessions x (session_on half (with_open half tells s old) t) }
start_after half true s old new x d t told is same =
    ap (λ (ds : ForActor Draft). with_open half true s ds) is
    ∙ ap (λ (es : ForActor Session). with_sessions s es) (over_insert (session_in half (form_in s)) old x d)
    ∙ ap (λ (e : Session). record (with_open half true s old)
    { sessions = insert_in numbered_cmp (with_open half true s old).sessions x e }) same
start_after half false s old new x d t told is same = absurd (false≢true told)

-- the reply by the four tests
abbrev by_tests : Bool → Bool → Bool → Bool → EditReply
by_tests a b c d =
    if a then edits.InUse else if not b then edits.NotRetained else if c then edits.LastSeq else if d then edits.TooMany else edits.Fine

module _ (s : State) (x : ℕ × ℕ) (t : Hash) where
  pub said_in_use : has_session s x ≡ true → edits.InUse ≡ edit_reply s x t
  said_in_use e =
      sym (ap (λ a. by_tests a (is_retained s t) (nat_le 4294967295 (stored_seq s t)) (length s.sessions == 64)) e)

  pub said_lost : has_session s x ≡ false → is_retained s t ≡ false → edits.NotRetained ≡ edit_reply s x t
  said_lost e lost =
      sym (ap (λ a. by_tests a (is_retained s t) (nat_le 4294967295 (stored_seq s t)) (length s.sessions == 64)) e
      ∙ ap (λ b. by_tests false b (nat_le 4294967295 (stored_seq s t)) (length s.sessions == 64)) lost)

  pub said_started : (h : Header) (r : EditReply) (s' : State) → has_session s x ≡ false → is_retained s t ≡ true → IsHeaderOf s t h
      → s' ≡ s → r ≡ edit_by h.seq (length s'.sessions) → r ≡ edit_reply s x t
  said_started h r s' e kept is same says =
      says ∙ ap (λ (y : State). edit_by h.seq (length y.sessions)) same
      ∙ ap (λ n. edit_by n (length s.sessions)) (seq_is s t h is)
      ∙ sym (ap (λ a. by_tests a (is_retained s t) (nat_le 4294967295 (stored_seq s t)) (length s.sessions == 64)) e
      ∙ ap (λ b. by_tests false b (nat_le 4294967295 (stored_seq s t)) (length s.sessions == 64)) kept)
