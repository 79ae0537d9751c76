-- Worked rows of edits, under the byte sum: sessions on ledgers 10, 11 and 12, each on the one that was closed before.
use Rattle.std.specs.Prelude.{◌≡◌, ℕ, List, [], ◌∷◌, true, false, Some, refl}
use Rattle.std.specs.FinMap as finite
use Rattle.half_hash.specs.Half.{byte_sum_half}
use Rattle.ledger_spec.specs.Bytes.{Hash}
use Rattle.ledger_spec.specs.Findings.{walk, walk_map}
use Rattle.ledger_spec.specs.Forms.{header, inner_of, header_of, keyed_leaf_of, bare_leaf_of}
use Rattle.ledger_spec.specs.Header.{header_bytes}
use Rattle.ledger_spec.specs.Tree.{form_at, form_of_part, forms_of_part}
use Rattle.ledger_machine.specs.declared.commands.Command.TheVariants as command
use Rattle.ledger_machine.specs.declared.commands.EditReply.TheVariants as edits
use Rattle.ledger_machine.specs.declared.commands.DelReply.TheVariants as dels
use Rattle.ledger_machine.specs.declared.commands.CloseReply.TheVariants as close
use Rattle.ledger_machine.specs.declared.commands.Reply.TheVariants as says
use Rattle.ledger_machine.specs.Limits.{default_interval}
use Rattle.ledger_machine.specs.State.{State, Session, opening}
use Rattle.ledger_machine.specs.Closing.{closing_forms}
use Rattle.ledger_machine.proofs.RowValues.{at, entries_of, hashes_of, forms_in, item11, leaf10, leaf11, inner11, root11, root12}
use Rattle.ledger_machine.proofs.RowValues.{bytes11, bytes12, nodes10, nodes11, nodes12}
use Rattle.ledger_machine.proofs.RowSteps.{store, Row, step, gives, edit_gives}
use Rattle.ledger_machine.proofs.RowClosing.{header_over, close_gives}

-- these ledgers are listed, and these sessions are open
abbrev with : List (Hash × ℕ) → List ((ℕ × ℕ) × Session) → State
with ledgers sessions = record (opening finite.empty default_interval) { listed = ledgers; sessions = sessions; last = Some 10 }

-- ledger 10 is listed; a session on it, to which [11] = 05 comes
abbrev only10 : List (Hash × ℕ)
only10 = (at 0xDD, 10) ∷ []

abbrev session10 : Session
session10 = record { base = at 0xDD; accounts = (at 0x10, 1 ∷ 2 ∷ []) ∷ []; txs = [] }

abbrev session10_put : Session
session10_put = record { base = at 0xDD; accounts = (at 0x10, 1 ∷ 2 ∷ []) ∷ (at 0x11, 5 ∷ []) ∷ []; txs = [] }

-- ledger 11 was closed; a session on it, from which [10] goes
abbrev up_to11 : List (Hash × ℕ)
up_to11 = (at 0x9C, 11) ∷ only10

abbrev session11 : Session
session11 = record { base = at 0x9C; accounts = (at 0x10, 1 ∷ 2 ∷ []) ∷ (at 0x11, 5 ∷ []) ∷ []; txs = [] }

abbrev session11_cut : Session
session11_cut = record { base = at 0x9C; accounts = (at 0x11, 5 ∷ []) ∷ []; txs = [] }

-- ledger 12 was closed; a session on it, from which [11] goes
abbrev up_to12 : List (Hash × ℕ)
up_to12 = (at 0x7E, 12) ∷ up_to11

abbrev session12 : Session
session12 = record { base = at 0x7E; accounts = (at 0x11, 5 ∷ []) ∷ []; txs = [] }

abbrev session12_cut : Session
session12_cut = record { base = at 0x7E; accounts = []; txs = [] }

-- the states between the commands
abbrev listed10 : State
listed10 = store (with only10 []) nodes10

abbrev edited10 : State
edited10 = store (with only10 (((0, 1), session10) ∷ [])) nodes10

abbrev put10 : State
put10 = store (with only10 (((0, 1), session10_put) ∷ [])) nodes10

abbrev listed11 : State
listed11 = store (with up_to11 []) nodes11

abbrev edited11 : State
edited11 = store (with up_to11 (((0, 2), session11) ∷ [])) nodes11

abbrev cut11 : State
cut11 = store (with up_to11 (((0, 2), session11_cut) ∷ [])) nodes11

abbrev listed12 : State
listed12 = store (with up_to12 []) nodes12

abbrev edited12 : State
edited12 = store (with up_to12 (((0, 3), session12) ∷ [])) nodes12

abbrev cut12 : State
cut12 = store (with up_to12 (((0, 3), session12_cut) ∷ [])) nodes12

-- the session is another actor's
abbrev others12 : State
others12 = store (with up_to12 (((1, 3), session12_cut) ∷ [])) nodes12

abbrev none : List ℕ
none = 0 ∷ 0 ∷ 0 ∷ 0 ∷ []

-- an edit of ledger 10 opens a session on its account state
edit_opens_a_session : Row listed10 (command.Edit 1 (at 0xDD)) (says.Edit edits.Fine) edited10
unfolding walk walk_map inner_of header_of keyed_leaf_of bare_leaf_of
edit_opens_a_session = step (edit_gives (with only10 []) (entries_of nodes10) (hashes_of nodes10) (0, 1) (at 0xDD) session10 refl
    refl) refl tt

-- a put adds to it
put_adds_an_item : Row edited10 (command.Put 1 item11) (says.Put true) put10
put_adds_an_item = step (gives refl refl) refl tt

-- the header of its close: the next sequence, the parent's hash, the root [BF]
close_numbers_the_next_ledger : header_over byte_sum_half (entries_of nodes10) session10_put none ≡ bytes11
unfolding form_of_part form_at header_bytes header_of
close_numbers_the_next_ledger = refl

-- the forms of its close: two leaves, the inner node, the root, the header
close_makes_the_tree : closing_forms byte_sum_half session10_put bytes11 ≡ forms_in
    (leaf10 ∷ leaf11 ∷ inner11 ∷ root11 ∷ header bytes11 ∷ [])
unfolding form_of_part form_at forms_of_part
close_makes_the_tree = refl

-- the close stores what is new of them and lists [9C]; the session has ended
close_lists_the_next_ledger : Row put10 (command.Close 1 none) (says.Close (close.Closed (at 0x9C))) listed11
close_lists_the_next_ledger =
    step (close_gives byte_sum_half (with only10 (((0, 1), session10_put) ∷ [])) (entries_of nodes10) (hashes_of nodes10)
    session10_put (0, 1) none bytes11 _ (at 0x9C) _
    close_numbers_the_next_ledger close_makes_the_tree refl refl) refl tt

-- a session on ledger 11
edit_of_a_closed_ledger : Row listed11 (command.Edit 2 (at 0x9C)) (says.Edit edits.Fine) edited11
unfolding walk walk_map inner_of header_of keyed_leaf_of bare_leaf_of
edit_of_a_closed_ledger = step (edit_gives (with up_to11 []) (entries_of nodes11) (hashes_of nodes11) (0, 2) (at 0x9C) session11
    refl refl) refl tt

-- del takes [10] from it
del_takes_an_item : Row edited11 (command.Del 2 (at 0x10)) (says.Del dels.Fine) cut11
del_takes_an_item = step (gives refl refl) refl tt

-- the leaf that is left moves up under the root
the_last_leaf_moves_up : closing_forms byte_sum_half session11_cut bytes12 ≡ forms_in (leaf11 ∷ root12 ∷ header bytes12 ∷ [])
unfolding form_of_part form_at forms_of_part
the_last_leaf_moves_up = refl

close_numbers_the_ledger_after_that : header_over byte_sum_half (entries_of nodes11) session11_cut none ≡ bytes12
unfolding form_of_part form_at header_bytes header_of
close_numbers_the_ledger_after_that = refl

-- its close stores the root and the header alone, and lists [7E]
close_lists_the_ledger_after_that : Row cut11 (command.Close 2 none) (says.Close (close.Closed (at 0x7E))) listed12
close_lists_the_ledger_after_that =
    step (close_gives byte_sum_half (with up_to11 (((0, 2), session11_cut) ∷ [])) (entries_of nodes11) (hashes_of nodes11)
    session11_cut (0, 2) none bytes12 _ (at 0x7E) _
    close_numbers_the_ledger_after_that the_last_leaf_moves_up refl refl) refl tt

-- a session on ledger 12
edit_of_ledger_12 : Row listed12 (command.Edit 3 (at 0x7E)) (says.Edit edits.Fine) edited12
unfolding walk walk_map inner_of header_of keyed_leaf_of bare_leaf_of
edit_of_ledger_12 = step (edit_gives (with up_to12 []) (entries_of nodes12) (hashes_of nodes12) (0, 3) (at 0x7E) session12 refl
    refl) refl tt

-- del takes its only item
del_takes_the_last_item : Row edited12 (command.Del 3 (at 0x11)) (says.Del dels.Fine) cut12
del_takes_the_last_item = step (gives refl refl) refl tt

-- a key that isn't there is absent, and nothing changes
del_of_no_item_is_absent : Row cut12 (command.Del 3 (at 0x11)) (says.Del dels.Absent) cut12
del_of_no_item_is_absent = step (gives refl refl) refl tt

-- an empty account state isn't closed, and nothing changes
close_of_an_empty_state : Row cut12 (command.Close 3 none) (says.Close close.ZeroState) cut12
close_of_an_empty_state = step (gives refl refl) refl tt

-- abandon ends the session without a ledger
abandon_ends_the_session : Row cut12 (command.Abandon 3) (says.Abandon true) listed12
abandon_ends_the_session = step (gives refl refl) refl tt

-- without a session of that number each of these commands says so: another actor's session 3 is none
nothing_without_a_session : Row others12 (command.Del 3 (at 0x11)) (says.Del dels.NoSession) others12
    × Row others12 (command.Put 3 item11) (says.Put false) others12
    × Row others12 (command.Close 3 none) (says.Close close.NoSession) others12
    × Row others12 (command.Abandon 3) (says.Abandon false) others12
nothing_without_a_session = (
  step (gives refl refl) refl tt,
  step (gives refl refl) refl tt,
  step (gives refl refl) refl tt,
  step
      (gives refl refl) refl tt,
)
