-- Worked rows, under the byte sum: a close that makes a form with the zero hash, the last sequence, and seven ticks.
use Rattle.std.specs.Prelude.{◌≡◌, ℕ, List, [], ◌∷◌, ◌++◌, replicate, Some, refl}
use Rattle.std.specs.FinMap as finite
use Rattle.std.proofs.Common.{sym, arith}
use Rattle.half_hash.specs.Half.{byte_sum_half}
use Rattle.ledger_spec.specs.declared.Kind.TheVariants.{State as accounts}
use Rattle.ledger_spec.specs.declared.Place.{Place}
use Rattle.ledger_spec.specs.declared.Place.TheVariants.{Header}
use Rattle.ledger_spec.specs.Bytes.{Bytes, zero_hash}
use Rattle.ledger_spec.specs.Forms.{Held, leaf, inner, header, form_of, header_of}
use Rattle.ledger_spec.specs.Header.{header_bytes}
use Rattle.ledger_spec.specs.Tree.{form_at, form_of_part, forms_of_part}
use Rattle.ledger_machine.specs.declared.commands.Command.{Command}
use Rattle.ledger_machine.specs.declared.commands.Command.TheVariants as command
use Rattle.ledger_machine.specs.declared.commands.EditReply.TheVariants as edits
use Rattle.ledger_spec.specs.declared.replies.TickReply.TheVariants as ticks
use Rattle.ledger_machine.specs.declared.commands.Reply.TheVariants as says
use Rattle.ledger_machine.specs.Limits.{default_interval}
use Rattle.ledger_machine.specs.State.{State, Session, opening}
use Rattle.ledger_spec.specs.Acquiring.{Acquiring}
use Rattle.ledger_machine.specs.Closing.{closing_forms}
use Rattle.ledger_machine.specs.Steps.{Refused}
use Rattle.ledger_machine.proofs.RowValues.{at, entries_of, hashes_of, forms_in, head, leaf10, root10, nodes10}
use Rattle.ledger_machine.proofs.RowSteps.{store, Row, step, gives, edit_says}
use Rattle.ledger_machine.proofs.RowClosing.{header_over, close_says}

abbrev none : List ℕ
none = 0 ∷ 0 ∷ 0 ∷ 0 ∷ []

-- a session on ledger 10 with [10] = 09, whose leaf has the zero hash
abbrev session : Session
session = record { base = at 0xDD; accounts = (at 0x10, 9 ∷ []) ∷ []; txs = [] }

abbrev state10 : State
state10 = record (opening finite.empty default_interval) {
  listed = (at 0xDD, 10) ∷ [];
  last = Some 10;
  sessions =
      ((0, 1), session) ∷ [];
}

abbrev leaf_zero : Held
leaf_zero = leaf accounts (at 0x10) (9 ∷ [])

abbrev forms_zero : List Bytes
forms_zero = forms_in (leaf_zero ∷ inner (replicate 16 zero_hash) ∷ header (head 11 (at 0xDD) (at 0xE4)) ∷ [])

header_zero : header_over byte_sum_half (entries_of nodes10) session none ≡ head 11 (at 0xDD) (at 0xE4)
unfolding form_of_part form_at header_bytes header_of
header_zero = refl

closing_zero : closing_forms byte_sum_half session (head 11 (at 0xDD) (at 0xE4)) ≡ forms_zero
unfolding form_of_part form_at forms_of_part
closing_zero = refl

-- nothing is stored
refused_zero : Refused byte_sum_half (store state10 nodes10) 0 (command.Close 1 none) (store state10 nodes10)
refused_zero = record { forms = []; own = λ form c. absurd (omega (arith, c.1)); same = refl }

-- the close answers the leaf, and stores nothing
close_with_a_zero_hash : Row (store state10 nodes10) (command.Close 1 none) (says.ZeroHash (form_of leaf_zero))
    (store state10 nodes10)
close_with_a_zero_hash =
    step (
      sym (close_says byte_sum_half state10 (entries_of nodes10) (hashes_of nodes10) session none _ _ _ header_zero
          closing_zero refl),
      refused_zero,
    ) refl tt

-- the last ledger that a header can number: its header, hash [CF], is over the root of ledger 10
abbrev bytes_last : Bytes
bytes_last = 255 ∷ 255 ∷ 255 ∷ 255 ∷ replicate 8 0 ++ zero_hash ++ zero_hash ++ at 0xDE ++ replicate 10 0

abbrev state_last : State
state_last = record (opening finite.empty default_interval) { listed = (at 0xCF, 4294967295) ∷ []; last = Some 4294967295 }

abbrev nodes_last : List Held
nodes_last = leaf10 ∷ root10 ∷ header bytes_last ∷ []

-- no session is opened on it, since no ledger can come after it
edit_of_the_last_sequence : Row (store state_last nodes_last) (command.Edit 1 (at 0xCF)) (says.Edit edits.LastSeq)
    (store state_last nodes_last)
unfolding header_of
edit_of_the_last_sequence = step (edit_says state_last (entries_of nodes_last) (hashes_of nodes_last) (0, 1) (at 0xCF)
    edits.LastSeq _ refl refl) refl tt

-- an acquisition of 32 bytes 11 that has asked for the header, with so many ticks
abbrev acquisition : ℕ → List Place → Acquiring
acquisition n asked = record {
  target = replicate 32 0x11;
  seq = 7;
  peers = record { present = 3 ∷ []; charges = (3, 0) ∷ []; asked = asked; ticks = n };
}

abbrev acquiring : Acquiring → State
acquiring a = record (opening finite.empty default_interval) { wanted = (replicate 32 0x11, a) ∷ [] }

abbrev tick : Command
tick = command.Tick (replicate 32 0x11)

-- each of six ticks forgets what was asked, the seventh gives up, and then nothing is open
tick_forgets : Row (acquiring (acquisition 0 (Header ∷ []))) tick (says.Tick (ticks.Timeout 1)) (acquiring (acquisition 1 []))
tick_forgets = step (gives refl refl) refl tt

ticks_count : Row (acquiring (acquisition 1 [])) tick (says.Tick (ticks.Timeout 2)) (acquiring (acquisition 2 []))
    × Row (acquiring (acquisition 2 [])) tick (says.Tick (ticks.Timeout 3)) (acquiring (acquisition 3 []))
    × Row (acquiring (acquisition 3 [])) tick (says.Tick (ticks.Timeout 4)) (acquiring (acquisition 4 []))
    × Row (acquiring (acquisition 4 [])) tick (says.Tick (ticks.Timeout 5)) (acquiring (acquisition 5 []))
    × Row (acquiring (acquisition 5 [])) tick (says.Tick (ticks.Timeout 6)) (acquiring (acquisition 6 []))
ticks_count = (
  step (gives refl refl) refl tt,
  step (gives refl refl) refl tt,
  step (gives refl refl) refl tt,
  step
      (gives refl refl) refl tt,
  step (gives refl refl) refl tt,
)

the_seventh_tick_gives_up : Row (acquiring (acquisition 6 [])) tick (says.Tick (ticks.GaveUp 7))
    (opening finite.empty default_interval)
the_seventh_tick_gives_up = step (gives refl refl) refl tt

tick_of_nothing_open : Row (opening finite.empty default_interval) tick (says.Tick ticks.NotOpen)
    (opening finite.empty default_interval)
tick_of_nothing_open = step (gives refl refl) refl tt
