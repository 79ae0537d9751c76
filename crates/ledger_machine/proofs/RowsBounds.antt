-- Worked rows of refusals, under the byte sum: what edits, closes, views and wants answer at their bounds.
use Rattle.std.specs.Prelude.{◌≡◌, ℕ, List, [], ◌∷◌, map, replicate, Some, refl}
use Rattle.std.specs.List.{range_with_len}
use Rattle.std.specs.FinMap as finite
use Rattle.std.proofs.Common.{sym, arith}
use Rattle.half_hash.specs.Half.{byte_sum_half}
use Rattle.ledger_spec.specs.declared.Kind.TheVariants.{State as accounts}
use Rattle.ledger_spec.specs.Bytes.{Hash}
use Rattle.ledger_spec.specs.Forms.{Held, leaf, inner, header, form_of, header_of}
use Rattle.ledger_spec.specs.Header.{header_bytes}
use Rattle.ledger_spec.specs.Tree.{form_at, form_of_part, forms_of_part}
use Rattle.ledger_machine.specs.declared.commands.Command.{Command}
use Rattle.ledger_machine.specs.declared.commands.Command.TheVariants as command
use Rattle.ledger_machine.specs.declared.commands.CloseReply.TheVariants as close
use Rattle.ledger_machine.specs.declared.commands.EditReply.TheVariants as edits
use Rattle.ledger_machine.specs.declared.commands.ViewReply.TheVariants as views
use Rattle.ledger_machine.specs.declared.commands.WantReply.TheVariants as wants
use Rattle.ledger_machine.specs.declared.commands.Reply.TheVariants as says
use Rattle.ledger_machine.specs.Closing.{closing_forms}
use Rattle.ledger_machine.specs.Limits.{default_interval}
use Rattle.ledger_machine.specs.State.{State, Session, opening}
use Rattle.ledger_spec.specs.Acquiring.{acquiring}
use Rattle.ledger_machine.specs.Steps.{Refused}
use Rattle.ledger_machine.specs.Views.{view_reply}
use Rattle.ledger_machine.specs.Want.{want_reply}
use Rattle.ledger_machine.proofs.RowValues.{at, entries_of, hashes_of, forms_in, head, leaf10, leaf11, inner11, root11, bytes11}
use Rattle.ledger_machine.proofs.RowValues.{nodes10, nodes11}
use Rattle.ledger_machine.proofs.RowSteps.{store, Row, step, gives, edit_says}
use Rattle.ledger_machine.proofs.RowClosing.{header_over, close_says}

-- these ledgers are listed, and these sessions are open
abbrev with : List (Hash × ℕ) → List ((ℕ × ℕ) × Session) → State
with ledgers sessions = record (opening finite.empty default_interval) { listed = ledgers; sessions = sessions; last = Some 10 }

abbrev only10 : List (Hash × ℕ)
only10 = (at 0xDD, 10) ∷ []

-- a session on ledger 10, as it is, and with [11] = 05
abbrev session10 : Session
session10 = record { base = at 0xDD; accounts = (at 0x10, 1 ∷ 2 ∷ []) ∷ []; txs = [] }

abbrev session10_put : Session
session10_put = record { base = at 0xDD; accounts = (at 0x10, 1 ∷ 2 ∷ []) ∷ (at 0x11, 5 ∷ []) ∷ []; txs = [] }

abbrev none : List ℕ
none = 0 ∷ 0 ∷ 0 ∷ 0 ∷ []

-- nothing changes where no own form is stored
refused : (s : State) (c : Command) → Refused byte_sum_half s 0 c s
refused s c = record { forms = []; own = λ form named. absurd (omega (arith, named.1)); same = refl }

-- a session's number is its actor's while it is open
edit_number_in_use : Row (store (with only10 (((0, 1), session10) ∷ [])) nodes10) (command.Edit 1 (at 0xDD))
    (says.Edit edits.InUse) (store (with only10 (((0, 1), session10) ∷ [])) nodes10)
edit_number_in_use = step (edit_says (with only10 (((0, 1), session10) ∷ [])) (entries_of nodes10) (hashes_of nodes10) (0, 1)
    (at 0xDD) edits.InUse _ refl refl) refl tt

-- a ledger that isn't listed or pinned isn't edited
edit_of_no_retained_ledger : Row (store (with only10 []) nodes11) (command.Edit 1 (at 0x9C)) (says.Edit edits.NotRetained)
    (store (with only10 []) nodes11)
edit_of_no_retained_ledger = step (edit_says (with only10 []) (entries_of nodes11) (hashes_of nodes11) (0, 1) (at 0x9C)
    edits.NotRetained _ refl refl) refl tt

-- at most 64 sessions
abbrev sessions64 : List ((ℕ × ℕ) × Session)
sessions64 = map (λ n. ((2, n), session10)) (range_with_len 0 64)

edit_of_too_many : Row (store (with only10 sessions64) nodes10) (command.Edit 1 (at 0xDD)) (says.Edit edits.TooMany)
    (store (with only10 sessions64) nodes10)
unfolding header_of
edit_of_too_many = step (edit_says (with only10 sessions64) (entries_of nodes10) (hashes_of nodes10) (0, 1) (at 0xDD) edits.TooMany
    _ refl refl) refl tt

-- at most 1,024 views, and 64 acquisitions
view_of_too_many : view_reply (record (opening finite.empty default_interval)
    { listed = only10; views = map (λ n. ((2, n), at 0xDD)) (range_with_len 0 1024) }) (0, 1) (at 0xDD) ≡ views.TooMany
view_of_too_many = refl

want_of_too_many : want_reply (record (opening finite.empty default_interval)
    { wanted = map (λ n. (at n, acquiring (at n) 0)) (range_with_len 1 64) }) (at 0xDD) 10 ≡ wants.TooMany
want_of_too_many = refl

-- an open target, and a listed one
want_of_an_open_target : want_reply (record (opening finite.empty default_interval)
    { wanted = (at 0xDD, acquiring (at 0xDD) 0) ∷ [] }) (at 0xDD) 10 ≡ wants.Open
want_of_an_open_target = refl

want_of_a_listed_ledger : want_reply (with only10 []) (at 0xDD) 10 ≡ wants.Listed
want_of_a_listed_ledger = refl

header11 : header_over byte_sum_half (entries_of nodes10) session10_put none ≡ bytes11
unfolding form_of_part form_at header_bytes header_of
header11 = refl

header11_again : header_over byte_sum_half (entries_of nodes11) session10_put none ≡ bytes11
unfolding form_of_part form_at header_bytes header_of
header11_again = refl

closing11 : closing_forms byte_sum_half session10_put bytes11 ≡ forms_in (leaf10 ∷ leaf11 ∷ inner11 ∷ root11 ∷ header bytes11 ∷ [])
unfolding form_of_part form_at forms_of_part
closing11 = refl

-- a session on ledger 10 that is pinned while the floor has passed it
abbrev below : State
below = record (with [] (((0, 1), session10_put) ∷ [])) { floor = 12 }

close_below_the_floor : Row (store below nodes10) (command.Close 1 none) (says.Close (close.BelowFloor 12)) (store below nodes10)
close_below_the_floor = step (gives (close_says byte_sum_half below (entries_of nodes10) (hashes_of nodes10) session10_put none
    bytes11 _ _ header11 closing11 refl) refl) refl tt

-- the same ledger was closed before
abbrev twice : State
twice = with ((at 0x9C, 11) ∷ only10) (((0, 1), session10_put) ∷ [])

close_of_a_listed_ledger : Row (store twice nodes11) (command.Close 1 none) (says.Close close.Listed) (store twice nodes11)
close_of_a_listed_ledger = step (gives (close_says byte_sum_half twice (entries_of nodes11) (hashes_of nodes11) session10_put none
    bytes11 _ _ header11_again closing11 refl) refl) refl tt

-- the leaf [10] = 06 has the hash of [11] = 05: it is stored, and clashes with what the close would store
abbrev other : Held
other = leaf accounts (at 0x10) (6 ∷ [])

abbrev open10 : State
open10 = with only10 (((0, 1), session10_put) ∷ [])

header11_beside : header_over byte_sum_half (entries_of (other ∷ nodes10)) session10_put none ≡ bytes11
unfolding form_of_part form_at header_bytes header_of
header11_beside = refl

close_with_a_clash : Row (store open10 (other ∷ nodes10)) (command.Close 1 none)
    (says.Clash (at 0xFD) (form_of other) (form_of leaf11)) (store open10 (other ∷ nodes10))
close_with_a_clash =
    step (
      sym (close_says byte_sum_half open10 (entries_of (other ∷ nodes10)) (hashes_of (other ∷ nodes10)) session10_put none bytes11
          _ _ header11_beside closing11 refl),
      refused (store open10 (other ∷ nodes10)) (command.Close 1 none),
    ) refl tt

-- both stand in one session: the second clashes with the first
abbrev session_both : Session
session_both = record { base = at 0xDD; accounts = (at 0x10, 6 ∷ []) ∷ (at 0x11, 5 ∷ []) ∷ []; txs = [] }

abbrev open_both : State
open_both = with only10 (((0, 1), session_both) ∷ [])

abbrev forms_both : List Held
forms_both = other ∷ leaf11 ∷ inner (at 0xFD ∷ at 0xFD ∷ replicate 14 (replicate 32 0)) ∷ inner
    (replicate 32 0 ∷ at 0xDE ∷ replicate 14 (replicate 32 0)) ∷ header (head 11 (at 0xDD) (at 0xC2)) ∷ []

header_both : header_over byte_sum_half (entries_of nodes10) session_both none ≡ head 11 (at 0xDD) (at 0xC2)
unfolding form_of_part form_at header_bytes header_of
header_both = refl

closing_both : closing_forms byte_sum_half session_both (head 11 (at 0xDD) (at 0xC2)) ≡ forms_in forms_both
unfolding form_of_part form_at forms_of_part
closing_both = refl

close_with_a_clash_of_its_own : Row (store open_both nodes10) (command.Close 1 none)
    (says.Clash (at 0xFD) (form_of other) (form_of leaf11)) (store open_both nodes10)
close_with_a_clash_of_its_own =
    step (
      sym (close_says byte_sum_half open_both (entries_of nodes10) (hashes_of nodes10) session_both none _ _ _ header_both
          closing_both refl),
      refused (store open_both nodes10) (command.Close 1 none),
    ) refl tt
