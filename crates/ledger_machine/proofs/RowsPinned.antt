-- Worked rows of two rotations, under the byte sum, with an interval of 1: through the first a view pins ledger 10, and after the second
-- ledger 12 alone stays.
use Rattle.std.specs.Prelude.{◌≡◌, ℕ, List, [], ◌∷◌, true, None, Some, refl}
use Rattle.std.specs.List.{AllByRecursion}
use Rattle.std.specs.FinMap as finite
use Rattle.std.specs.declared.sync.Arc.{Arc}
use Rattle.std.specs.declared.alloc.Global.{Global}
use Rattle.std.proofs.Common.{ap, sym, ◌∙◌, inl, inr, ⊎_elim, true≢false}
use Rattle.half_hash.specs.Half.{byte_sum_half}
use Rattle.shamap_node.specs.declared.Node.{Node}
use Rattle.shamap_node.specs.Nodes.{held}
use Rattle.ledger_spec.specs.declared.Kind.TheVariants.{State as accounts}
use Rattle.ledger_spec.specs.Bytes.{Hash}
use Rattle.ledger_spec.specs.Findings.{walk, walk_map}
use Rattle.ledger_spec.specs.Forms.{Held, header, form_of, inner_of, header_of, keyed_leaf_of, bare_leaf_of}
use Rattle.ledger_spec.specs.Header.{header_bytes}
use Rattle.ledger_spec.specs.Reach.{Reach}
use Rattle.ledger_spec.specs.Reads.{value}
use Rattle.ledger_spec.specs.Tree.{form_at, form_of_part, forms_of_part}
use Rattle.ledger_machine.specs.declared.commands.Command.TheVariants as command
use Rattle.ledger_machine.specs.declared.commands.BeginReply.TheVariants as begins
use Rattle.ledger_machine.specs.declared.commands.CloseReply.TheVariants as close
use Rattle.ledger_machine.specs.declared.commands.DelReply.TheVariants as dels
use Rattle.ledger_machine.specs.declared.commands.EditReply.TheVariants as edits
use Rattle.ledger_machine.specs.declared.commands.GetReply.TheVariants as gets
use Rattle.ledger_machine.specs.declared.commands.SwapReply.TheVariants as swaps
use Rattle.ledger_machine.specs.declared.commands.ViewReply.TheVariants as views
use Rattle.ledger_machine.specs.declared.commands.Reply.TheVariants as says
use Rattle.ledger_machine.specs.Closing.{closing_forms}
use Rattle.ledger_machine.specs.Reading.{value_in}
use Rattle.ledger_machine.specs.Rotation.{Swapped}
use Rattle.ledger_machine.specs.State.{State, Session, opening, roots}
use Rattle.ledger_machine.proofs.RowValues.{at, entries_of, hashes_of, forms_in, leaf10, leaf11, root10, root12, bytes11, bytes12}
use Rattle.ledger_machine.proofs.RowValues.{nodes11, nodes12}
use Rattle.ledger_machine.proofs.RowSteps.{in_list, over, store, Row, Reads, step, gives, edit_gives, gets_from}
use Rattle.ledger_machine.proofs.RowClosing.{header_over, close_gives}
use Rattle.ledger_machine.proofs.RowReach.{reach_start, reach_kid}
use Rattle.ledger_machine.proofs.RowSwaps.{swapped_to, swap_may_leave, swap_leaves, swap_may_not_hold, swap_may_not_lose, born_may_stay}

abbrev with : List (Hash × ℕ) → List ((ℕ × ℕ) × Hash) → State
with ledgers views = record (opening finite.empty 1) { listed = ledgers; views = views; last = Some 10 }

-- ledgers 10 and 11 are listed, and a view pins ledger 10
abbrev both : List (Hash × ℕ)
both = (at 0x9C, 11) ∷ (at 0xDD, 10) ∷ []

abbrev pinned : List ((ℕ × ℕ) × Hash)
pinned = ((0, 9), at 0xDD) ∷ []

view_pins_ledger_10 : Row (store (with both []) nodes11) (command.View 9 (at 0xDD)) (says.View views.Fine)
    (store (with both pinned) nodes11)
view_pins_ledger_10 = step (gives refl refl) refl tt

-- the rotation at ledger 11: ledger 10 isn't listed any more, but it is pinned, so it is a root
abbrev turning11 : State
turning11 = record (with ((at 0x9C, 11) ∷ []) pinned) { floor = 11; turning = Some 11; shaded = at 0x9C ∷ at 0xDD ∷ [] }

begin_at_ledger_11 : Row (store (with both pinned) nodes11) command.Begin (says.Begin (begins.Begun 11 11))
    (store turning11 nodes11)
begin_at_ledger_11 = step (record { says = refl; after = refl }, record { only = λ h kept. kept; all = λ h reached. reached }) refl
    tt

-- each node of both ledgers is reached
abbrev Reached11 : Hash → Type 0
Reached11 = Reach (in_list (entries_of nodes11)) (roots turning11)

all_are_reached : AllByRecursion Reached11 (hashes_of nodes11)
unfolding inner_of header_of
all_are_reached =
    let h11 : Reached11 (at 0x9C) = reach_start (roots turning11) (at 0x9C) _ refl refl in
    let r11 : Reached11 (at 0xBF) = reach_kid (at 0xBF) _ _ h11 refl refl refl in
    let i11 : Reached11 (at 0xDB) = reach_kid (at 0xDB) _ _ r11 refl refl refl in
    let l11 : Reached11 (at 0xFD) = reach_kid (at 0xFD) _ _ i11 refl refl refl in
    let l10 : Reached11 (at 0xFA) = reach_kid (at 0xFA) _ _ i11 refl refl refl in
    let h10 : Reached11 (at 0xDD) = reach_start (roots turning11) (at 0xDD) _ refl refl in
    let r10 : Reached11 (at 0xDE) = reach_kid (at 0xDE) _ _ h10 refl refl refl in
    (h11, (r11, (i11, (l11, (l10, (r10, (h10, tt)))))))

-- the swap leaves all of them
abbrev swapped11 : State
swapped11 = swapped_to turning11 (entries_of nodes11) []

swap_keeps_the_pinned_ledger : Row (store turning11 nodes11) command.Swap (says.Swap (swaps.Swapped 1)) swapped11
unfolding inner_of header_of
swap_keeps_the_pinned_ledger =
    step (
      refl,
      swap_may_leave turning11 (entries_of nodes11) (hashes_of nodes11) (entries_of nodes11) [] (hashes_of nodes11)
          (refl, (refl, (refl, (refl, (refl, (refl, (refl, tt))))))) refl refl
          (refl, (refl, (refl, (refl, (refl, (refl, (refl, tt)))))))
          (born_may_stay turning11 (entries_of nodes11) (hashes_of nodes11) (hashes_of nodes11) refl),
    ) refl tt

-- and no swap leaves anything else
no_swap_loses_the_pinned_ledger : (s' : State) → Swapped (store turning11 nodes11) s'
    → s'.nodes ≡ finite.from_entries (entries_of nodes11)
unfolding inner_of header_of
no_swap_loses_the_pinned_ledger =
    swap_leaves turning11 (entries_of nodes11) (hashes_of nodes11) (entries_of nodes11)
    (refl, (refl, (refl, (refl, (refl, (refl, (refl, tt))))))) all_are_reached refl refl refl refl

-- the state after it: epoch 1, and nothing born in it yet
abbrev later : List (Hash × ℕ) → List ((ℕ × ℕ) × Hash) → List ((ℕ × ℕ) × Session) → State
later ledgers views sessions = record (with ledgers views) { sessions = sessions; epoch = 1; floor = 11; last = Some 11 }

abbrev only11 : List (Hash × ℕ)
only11 = (at 0x9C, 11) ∷ []

-- these nodes are stored, and those were written in this epoch
abbrev kept : State → List Held → List Held → State
kept s ns bs = over s (entries_of ns) (hashes_of bs)

epoch_1_begins : swapped11 ≡ kept (later only11 pinned []) nodes11 []
epoch_1_begins = refl

-- the pinned ledger is read
get_from_the_pinned_ledger : (n : Arc Node Global) → held n.value ≡ leaf10
    → Reads (kept (later only11 pinned []) nodes11 []) (command.Get 9 accounts (at 0x10)) (says.Get (gets.Value n))
    (root10 ∷ leaf10 ∷ [])
unfolding header_of
get_from_the_pinned_ledger n is = record {
  outcome = gets_from (later only11 pinned []) (entries_of nodes11) [] accounts (at 0x10) (0, 9) (at 0xDE) _ _ refl
      record {
        says = sym (ap value_in is);
        some = λ none. absurd
            (let e : Some (value (1 ∷ 2 ∷ [])) ≡ None = sym (ap value_in is) ∙ none in cc);
        last = sym (ap (λ (u : Held). Some u) is);
      };
  uses = tt;
  carries = tt;
}

unview_frees_it : Row (kept (later only11 pinned []) nodes11 []) (command.Unview 9) (says.Unview true)
    (kept (later only11 [] []) nodes11 [])
unview_frees_it = step (gives refl refl) refl tt

-- a session on ledger 11, without [10]
abbrev session11 : Session
session11 = record { base = at 0x9C; accounts = (at 0x10, 1 ∷ 2 ∷ []) ∷ (at 0x11, 5 ∷ []) ∷ []; txs = [] }

abbrev session11_cut : Session
session11_cut = record { base = at 0x9C; accounts = (at 0x11, 5 ∷ []) ∷ []; txs = [] }

edit_of_ledger_11 : Row (kept (later only11 [] []) nodes11 []) (command.Edit 2 (at 0x9C)) (says.Edit edits.Fine)
    (kept (later only11 [] (((0, 2), session11) ∷ [])) nodes11 [])
unfolding walk walk_map inner_of header_of keyed_leaf_of bare_leaf_of
edit_of_ledger_11 = step (edit_gives (later only11 [] []) (entries_of nodes11) [] (0, 2) (at 0x9C) session11 refl refl) refl tt

del_of_an_item : Row (kept (later only11 [] (((0, 2), session11) ∷ [])) nodes11 []) (command.Del 2 (at 0x10)) (says.Del dels.Fine)
    (kept (later only11 [] (((0, 2), session11_cut) ∷ [])) nodes11 [])
del_of_an_item = step (gives refl refl) refl tt

abbrev none : List ℕ
none = 0 ∷ 0 ∷ 0 ∷ 0 ∷ []

header12 : header_over byte_sum_half (entries_of nodes11) session11_cut none ≡ bytes12
unfolding form_of_part form_at header_bytes header_of
header12 = refl

closing12 : closing_forms byte_sum_half session11_cut bytes12 ≡ forms_in (leaf11 ∷ root12 ∷ header bytes12 ∷ [])
unfolding form_of_part form_at forms_of_part
closing12 = refl

-- the close writes the new root and the header in this epoch; the leaf was there
abbrev new12 : List Held
new12 = header bytes12 ∷ root12 ∷ []

abbrev to12 : List (Hash × ℕ)
to12 = (at 0x7E, 12) ∷ only11

close_of_ledger_12 : Row (kept (later only11 [] (((0, 2), session11_cut) ∷ [])) nodes11 []) (command.Close 2 none)
    (says.Close (close.Closed (at 0x7E))) (kept (later to12 [] []) nodes12 new12)
close_of_ledger_12 =
    step (close_gives byte_sum_half (later only11 [] (((0, 2), session11_cut) ∷ [])) (entries_of nodes11) [] session11_cut (0, 2)
    none bytes12 _ (at 0x7E) _ header12 closing12 refl refl) refl tt

-- the rotation at ledger 12, the only root
abbrev turning12 : State
turning12 = record (later ((at 0x7E, 12) ∷ []) [] []) { floor = 12; turning = Some 12; shaded = at 0x7E ∷ [] }

begin_at_ledger_12 : Row (kept (later to12 [] []) nodes12 new12) command.Begin (says.Begin (begins.Begun 12 12))
    (kept turning12 nodes12 new12)
begin_at_ledger_12 = step (record { says = refl; after = refl }, record { only = λ h kept. kept; all = λ h reached. reached }) refl
    tt

-- the three forms that stay: the header, the root and the leaf of ledger 12
abbrev three : List Held
three = header bytes12 ∷ root12 ∷ leaf11 ∷ []

abbrev Reached12 : Hash → Type 0
Reached12 = Reach (in_list (entries_of nodes12)) (at 0x7E ∷ [])

three_are_reached : AllByRecursion Reached12 (hashes_of three)
unfolding inner_of header_of
three_are_reached =
    let h12 : Reached12 (at 0x7E) = reach_start (at 0x7E ∷ []) (at 0x7E) _ refl refl in
    let r12 : Reached12 (at 0xE1) = reach_kid (at 0xE1) _ _ h12 refl refl refl in
    let l11 : Reached12 (at 0xFD) = reach_kid (at 0xFD) _ _ r12 refl refl refl in
    (h12, (r12, (l11, tt)))

swap_drops_the_old_ledgers : Row (kept turning12 nodes12 new12) command.Swap (says.Swap (swaps.Swapped 2))
    (swapped_to turning12 (entries_of three) [])
unfolding inner_of header_of
swap_drops_the_old_ledgers =
    step (
      refl,
      swap_may_leave turning12 (entries_of nodes12) (hashes_of new12) (entries_of three) [] (hashes_of three)
          (refl, (refl, (refl, tt))) refl refl (refl, (refl, (refl, tt))) (inr refl, (inr refl, (inl three_are_reached.1.1.0, tt))),
    ) refl tt

-- every swap leaves exactly these three
three_forms_stay : (s' : State) → Swapped (kept turning12 nodes12 new12) s' → s'.nodes ≡ finite.from_entries (entries_of three)
unfolding inner_of header_of
three_forms_stay =
    swap_leaves turning12 (entries_of nodes12) (hashes_of new12) (entries_of three) (refl, (refl, (refl, tt))) three_are_reached
    refl refl refl refl

-- so one that leaves the archive in place, with all that it had, is none
a_swap_drops_the_archive : (shaded : List Hash) → Swapped (kept turning12 nodes12 new12)
    (swapped_to turning12 (entries_of nodes12) shaded) → ⊥
unfolding inner_of header_of
a_swap_drops_the_archive shaded w =
    ⊎_elim (λ e. true≢false (sym e)) (λ e. true≢false (sym e))
    (swap_may_not_hold turning12 (entries_of nodes12) (hashes_of new12) (entries_of nodes12) shaded (hashes_of three) (at 0x9C)
    (form_of (header bytes11)) refl refl refl w)

-- and one that forgets the leaf, which was written before this epoch, is none either
a_swap_copies_what_is_older : (shaded : List Hash) → Swapped (kept turning12 nodes12 new12)
    (swapped_to turning12 (entries_of new12) shaded) → ⊥
a_swap_copies_what_is_older shaded w =
    let lost : None ≡ Some (form_of leaf11) = swap_may_not_lose turning12 (entries_of nodes12) (hashes_of new12) (entries_of new12)
    shaded (at 0xFD) three_are_reached.1.1.0 w in
    absurd cc

-- the end: ledger 12 alone is listed, last and floor are 12, and the epoch is 2
the_end : State
the_end = swapped_to turning12 (entries_of three) []

the_end_is : (the_end.listed ≡ (at 0x7E, 12) ∷ []) × (the_end.floor ≡ 12) × (the_end.last ≡ Some 12) × (the_end.epoch ≡ 2)
unfolding the_end
the_end_is = (refl, refl, refl, refl)
