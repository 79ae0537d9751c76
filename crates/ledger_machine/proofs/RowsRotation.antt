-- Worked rows of a rotation, under the byte sum: ledgers 10 to 14, an interval of 4, and a view of ledger 11 that is opened meanwhile.
use Rattle.std.specs.Prelude.{◌≡◌, ℕ, List, [], ◌∷◌, None, Some, refl}
use Rattle.std.specs.List.{Contains}
use Rattle.std.specs.FinMap as finite
use Rattle.std.proofs.Common.{inl, inr, sym, true≢false}
use Rattle.half_hash.specs.Half.{byte_sum_half}
use Rattle.ledger_spec.specs.Bytes.{Hash}
use Rattle.ledger_spec.specs.Forms.{Held, header, form_of, inner_of, header_of}
use Rattle.ledger_spec.specs.Reach.{Reach}
use Rattle.ledger_spec.specs.Header.{header_bytes}
use Rattle.ledger_spec.specs.Tree.{form_at, form_of_part, forms_of_part}
use Rattle.ledger_machine.specs.declared.commands.Command.TheVariants as command
use Rattle.ledger_machine.specs.declared.commands.BeginReply.TheVariants as begins
use Rattle.ledger_machine.specs.declared.commands.CloseReply.TheVariants as close
use Rattle.ledger_machine.specs.declared.commands.SwapReply.TheVariants as swaps
use Rattle.ledger_machine.specs.declared.commands.ViewReply.TheVariants as views
use Rattle.ledger_machine.specs.declared.commands.WantReply.TheVariants as wants
use Rattle.ledger_machine.specs.declared.commands.Reply.TheVariants as says
use Rattle.ledger_machine.specs.State.{State, Session, roots, opening}
use Rattle.ledger_spec.specs.Acquiring.{acquiring}
use Rattle.ledger_machine.specs.Closing.{closing_forms}
use Rattle.ledger_machine.specs.Rotation.{Swapped, Carries, AreShaded, Tells}
use Rattle.ledger_machine.proofs.RowValues.{at, entries_of, hashes_of, forms_in, leaf10, leaf11, inner11, root11, root12, leaf20}
use Rattle.ledger_machine.proofs.RowValues.{root_of_two}
use Rattle.ledger_machine.proofs.RowValues.{bytes11, bytes12, bytes13, bytes14, nodes12, nodes13, nodes14}
use Rattle.ledger_machine.proofs.RowSteps.{in_list, store, Row, step, gives}
use Rattle.ledger_machine.proofs.RowClosing.{header_over, close_gives}
use Rattle.ledger_machine.proofs.RowSwaps.{swapped_to, swap_may_leave, swap_may_not_lose, born_may_stay, carries_on, reach_on, reach_off}
use Rattle.ledger_machine.proofs.RowReach.{among, contained_passes, in_these, one_of, reach_start, reach_kid, reach_within, reach_more}

abbrev up_to12 : List (Hash × ℕ)
up_to12 = (at 0x7E, 12) ∷ (at 0x9C, 11) ∷ (at 0xDD, 10) ∷ []

abbrev up_to13 : List (Hash × ℕ)
up_to13 = (at 0x6F, 13) ∷ up_to12

abbrev up_to14 : List (Hash × ℕ)
up_to14 = (at 0x62, 14) ∷ up_to13

-- these ledgers are listed, and these sessions are open; a rotation is due every 4 ledgers
abbrev with : List (Hash × ℕ) → List ((ℕ × ℕ) × Session) → State
with ledgers sessions = record (opening finite.empty 4) { listed = ledgers; sessions = sessions; last = Some 10 }

abbrev session12 : Session
session12 = record { base = at 0x7E; accounts = (at 0x11, 5 ∷ []) ∷ (at 0x20, 7 ∷ []) ∷ []; txs = [] }

abbrev session13 : Session
session13 = record { base = at 0x6F; accounts = (at 0x11, 5 ∷ []) ∷ (at 0x20, 8 ∷ []) ∷ []; txs = [] }

abbrev none : List ℕ
none = 0 ∷ 0 ∷ 0 ∷ 0 ∷ []

header13 : header_over byte_sum_half (entries_of nodes12) session12 none ≡ bytes13
unfolding form_of_part form_at header_bytes header_of
header13 = refl

header14 : header_over byte_sum_half (entries_of nodes13) session13 none ≡ bytes14
unfolding form_of_part form_at header_bytes header_of
header14 = refl

closing13 : closing_forms byte_sum_half session12 bytes13 ≡ forms_in
    (leaf11 ∷ leaf20 7 ∷ root_of_two (at 0x0E) ∷ header bytes13 ∷ [])
unfolding form_of_part form_at forms_of_part
closing13 = refl

closing14 : closing_forms byte_sum_half session13 bytes14 ≡ forms_in
    (leaf11 ∷ leaf20 8 ∷ root_of_two (at 0x0F) ∷ header bytes14 ∷ [])
unfolding form_of_part form_at forms_of_part
closing14 = refl

-- ledger 13 is [6F], and ledger 14 is [62]
close_of_ledger_13 : Row (store (with up_to12 (((0, 3), session12) ∷ [])) nodes12) (command.Close 3 none)
    (says.Close (close.Closed (at 0x6F))) (store (with up_to13 []) nodes13)
close_of_ledger_13 =
    step (close_gives byte_sum_half (with up_to12 (((0, 3), session12) ∷ [])) (entries_of nodes12) (hashes_of nodes12) session12
    (0, 3) none bytes13 _ (at 0x6F) _ header13 closing13 refl refl) refl tt

close_of_ledger_14 : Row (store (with up_to13 (((0, 4), session13) ∷ [])) nodes13) (command.Close 4 none)
    (says.Close (close.Closed (at 0x62))) (store (with up_to14 []) nodes14)
close_of_ledger_14 =
    step (close_gives byte_sum_half (with up_to13 (((0, 4), session13) ∷ [])) (entries_of nodes13) (hashes_of nodes13) session13
    (0, 4) none bytes14 _ (at 0x62) _ header14 closing14 refl refl) refl tt

-- at ledger 13 no rotation is due, as 13 is less than 10 + 4
begin_before_it_is_due : Row (store (with up_to13 []) nodes13) command.Begin (says.Begin begins.NotDue)
    (store (with up_to13 []) nodes13)
begin_before_it_is_due = step (gives refl refl, tt) refl tt

-- what the rotation is told to keep: ledgers 11 to 14
abbrev kept14 : List Hash
kept14 = at 0x62 ∷ at 0x6F ∷ at 0x7E ∷ at 0x9C ∷ []

-- a rotation is under way: the floor is 11, and ledger 10 isn't listed any more
abbrev turning : State
turning = record (opening finite.empty 4) {
  listed = (at 0x62, 14) ∷ (at 0x6F, 13) ∷ (at 0x7E, 12) ∷ (at 0x9C, 11) ∷ [];
  floor = 11;
  last = Some 10;
  turning = Some 14;
  shaded = kept14;
}

-- begin fixes the greatest listed sequence, and shades the roots
begin_at_ledger_14 : Row (store (with up_to14 []) nodes14) command.Begin (says.Begin (begins.Begun 14 11)) (store turning nodes14)
begin_at_ledger_14 = step (record { says = refl; after = refl }, record { only = λ h kept. kept; all = λ h reached. reached }) refl
    tt

-- a second one is busy
begin_again : Row (store turning nodes14) command.Begin (says.Begin begins.Busy) (store turning nodes14)
begin_again = step (gives refl refl, tt) refl (carries_on _ _ _ refl refl refl)

-- ledger 10 isn't retained any more
view_of_an_old_ledger : Row (store turning nodes14) (command.View 1 (at 0xDD)) (says.View views.NotRetained) (store turning nodes14)
view_of_an_old_ledger = step (gives refl refl) refl (carries_on _ _ _ refl refl refl)

-- nor is it wanted by its sequence
want_of_an_old_ledger : Row (store turning nodes14) (command.Want (at 0xDD) 10) (says.Want (wants.BelowFloor 11))
    (store turning nodes14)
want_of_an_old_ledger = step (gives refl refl) refl (carries_on _ _ _ refl refl refl)

-- ledger 11 is, and the view pins it
abbrev viewed : State
viewed = record turning { views = ((0, 1), at 0x9C) ∷ [] }

view_while_turning : Row (store turning nodes14) (command.View 1 (at 0x9C)) (says.View views.Fine) (store viewed nodes14)
view_while_turning = step (gives refl refl) refl (carries_on _ _ _ refl refl refl)

-- what the roots reach: all but ledger 10's header and root
abbrev nodes_kept : List Held
nodes_kept = header bytes14 ∷ root_of_two (at 0x0F) ∷ leaf20 8 ∷ header bytes13 ∷ root_of_two (at 0x0E) ∷ leaf20 7 ∷ header bytes12
    ∷ root12
    ∷ header bytes11 ∷ root11 ∷ inner11 ∷ leaf11 ∷ leaf10 ∷ []

abbrev nodes14_but_leaf10 : List Held
nodes14_but_leaf10 = header bytes14 ∷ root_of_two (at 0x0F) ∷ leaf20 8 ∷ header bytes13 ∷ root_of_two (at 0x0E) ∷ leaf20 7 ∷ header
    bytes12 ∷ root12
    ∷ header bytes11 ∷ root11 ∷ inner11 ∷ leaf11 ∷ []

-- a swap may leave exactly that
swap_to_what_is_reached : Row (store viewed nodes14) command.Swap (says.Swap (swaps.Swapped 1))
    (swapped_to viewed (entries_of nodes_kept) [])
unfolding inner_of header_of
swap_to_what_is_reached =
    step (
      refl,
      swap_may_leave viewed (entries_of nodes14) (hashes_of nodes14) (entries_of nodes_kept) [] (hashes_of nodes_kept)
          (refl, (refl, (refl, (refl, (refl, (refl, (refl, (refl, (refl, (refl, (refl, (refl, (refl, tt)))))))))))))
          refl refl
          (refl, (refl, (refl, (refl, (refl, (refl, (refl, (refl, (refl, (refl, (refl, (refl, (refl, tt)))))))))))))
          (born_may_stay viewed (entries_of nodes14) (hashes_of nodes14) (hashes_of nodes_kept) refl),
    ) refl tt

-- no swap loses the leaf [10], which the view of ledger 11 reaches
a_swap_loses_no_leaf : (shaded : List Hash) → Swapped (store viewed nodes14)
    (swapped_to viewed (entries_of nodes14_but_leaf10) shaded) → ⊥
unfolding inner_of header_of
a_swap_loses_no_leaf shaded w =
    let root : Reach (in_list (entries_of nodes14)) (roots viewed) (at 0x9C) = reach_start (roots viewed) (at 0x9C) _ refl refl in
    let above : Reach (in_list (entries_of nodes14)) (roots viewed) (at 0xBF) = reach_kid (at 0xBF) _ _ root refl refl refl in
    let below : Reach (in_list (entries_of nodes14)) (roots viewed) (at 0xDB) = reach_kid (at 0xDB) _ _ above refl refl refl in
    let leaf : Reach (in_list (entries_of nodes14)) (roots viewed) (at 0xFA) = reach_kid (at 0xFA) _ _ below refl refl refl in
    let lost : None ≡ Some (form_of leaf10) = swap_may_not_lose viewed (entries_of nodes14) (hashes_of nodes14)
    (entries_of nodes14_but_leaf10) shaded (at 0xFA) leaf w in
    absurd cc

-- after the swap a second one is idle
swap_of_nothing : Row (swapped_to viewed (entries_of nodes_kept) []) command.Swap (says.Swap swaps.Idle)
    (swapped_to viewed (entries_of nodes_kept) [])
swap_of_nothing = step (gives refl refl) refl tt

-- a want of ledger 10 by any sequence, while its header is stored, shades it
abbrev wanting : List Hash → State
wanting shaded = record turning { wanted = (at 0xDD, acquiring (at 0xDD) 0) ∷ []; shaded = shaded }

a_want_shades_its_target : Row (store turning nodes14) (command.Want (at 0xDD) 0) (says.Want wants.Opened)
    (store (wanting (at 0xDD ∷ kept14)) nodes14)
a_want_shades_its_target =
    step (record { says = refl; after = refl }) refl
    record {
      before = λ h kept. reach_more kept14 (at 0xDD ∷ kept14) refl kept;
      roots_kept = λ h reached. reach_more (roots (wanting [])) (at 0xDD ∷ kept14) refl reached;
      only = λ h kept. inr (inl (reach_more (at 0xDD ∷ kept14) (roots (wanting [])) refl kept));
    }

-- one that shades nothing is no step
a_want_leaves_no_target_unshaded : Carries (store turning nodes14) (store (wanting kept14) nodes14) [] → ⊥
unfolding inner_of header_of
a_want_leaves_no_target_unshaded w =
    true≢false (sym (reach_within (in_list (entries_of nodes14)) kept14 (hashes_of nodes_kept) refl refl
    (reach_off (entries_of nodes14) (w.roots_kept (at 0xDD) (reach_on (entries_of nodes14)
    (reach_start (roots (wanting kept14)) (at 0xDD) _ refl refl))))))

-- it tells its target to the rotation, and nothing else
a_want_tells_its_target : AreShaded (wanting (at 0xDD ∷ kept14)) × Tells turning (wanting (at 0xDD ∷ kept14)) []
a_want_tells_its_target = (
  one_of (roots (wanting [])) (at 0xDD ∷ kept14) refl,
  record {
    stays = one_of kept14 (at 0xDD ∷ kept14) refl;
    only = λ h told. inr (inl (one_of (at 0xDD ∷ kept14) (roots (wanting [])) refl h told));
  },
)

-- where it doesn't, a root wasn't told
a_target_is_told : AreShaded (wanting kept14) → ⊥
a_target_is_told are =
    let told : Contains kept14 (at 0xDD) = are (at 0xDD) (in_these (roots (wanting kept14)) (at 0xDD) refl) in
    true≢false (sym (contained_passes (among kept14) kept14 (at 0xDD) refl told))
