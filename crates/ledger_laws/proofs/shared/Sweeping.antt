-- Along a run what a rotation keeps has all that the roots reach, and its swaps leave nothing but that and what was born. For proofs of
-- other crates.
use Rattle.std.proofs.Common.{◌≡◌, inl, inr, ⊎_elim, ℕ, List, [], ◌∷◌, Option, None, Some}
use Rattle.std.proofs.Common.{refl, sym, ap, ◌∙◌, subst, IsSome}
use Rattle.ledger_spec.specs.Bytes.{Hash, Half}
use Rattle.ledger_spec.specs.Forms.{Held}
use Rattle.ledger_spec.specs.Reach.{Reach}
use Rattle.ledger_machine.specs.declared.commands.Command.{Command}
use Rattle.ledger_machine.specs.declared.commands.Command.TheVariants as command
use Rattle.ledger_machine.specs.declared.commands.Line.{Line}
use Rattle.ledger_machine.specs.declared.commands.Record.{Record}
use Rattle.ledger_machine.specs.declared.journal.Entry.{Entry}
use Rattle.ledger_machine.specs.declared.commands.SwapReply.TheVariants as swaps
use Rattle.ledger_machine.specs.declared.commands.Reply.{Reply}
use Rattle.ledger_machine.specs.declared.commands.Reply.TheVariants as says
use Rattle.ledger_machine.specs.State.{State, form_in, roots, Kept}
use Rattle.ledger_machine.specs.Rotation.{Swapped, Carries, WhileTurning}
use Rattle.ledger_machine.specs.Steps.{Step, Swaps, own_forms, own_hashes}
use Rattle.ledger_machine.specs.Runs.{Run, IsRunOf, opening_of, used_by}
use Rattle.ledger_machine.specs.Swaps.{IsSwap, MayKeep, Sweeps, AllSwapsKeep}
use Rattle.ledger_laws.proofs.shared.Stored.{Goes, on, begun, swapped}
use Rattle.ledger_laws.proofs.shared.Going.{row_goes}

-- a rotation that is under way is not none
none_turns : (o : Option ℕ) → o ≡ None → IsSome o → ⊥
none_turns None e some = cc
none_turns (Some v) e some = cc

-- both are under way
both_turn : (o p : Option ℕ) (P : Type 0) → IsSome o → IsSome p → WhileTurning o p P → P
both_turn (Some v) (Some w) P a b x = x
both_turn (Some v) None P a b x = cc
both_turn None p P a b x = cc

-- what holds of what is kept after a step that leaves a rotation under way: it goes on, and the step carries it, or it has just begun
turning_by : (half : Half) (s s' : State) (a : ℕ) (c : Command) (reply : Reply) (used : List Held) (P : Type 0)
    → (IsSome s.turning → Carries s s' (own_hashes half s a c reply) → P)
    → (((h : Hash) → Kept s' h → Reach (form_in s') (roots s') h) → ((h : Hash) → Reach (form_in s') (roots s') h → Kept s' h) → P)
    → Step half s a c reply used s' → IsSome s'.turning → P
turning_by half s s' a c reply used P carried begins step turns = at (row_goes half s a c reply used s' step.outcome)
  where
    at : Goes half c (own_forms half s a c) s s' → P
    at (on g) =
        let was : IsSome s.turning = subst (λ (o : Option ℕ). IsSome o) g.turning turns in
        carried was (both_turn s.turning s'.turning (Carries s s' (own_hashes half s a c reply)) was turns step.carries)
    at (begun st shades) = begins shades.only shades.all
    at (swapped is w) = absurd (none_turns s'.turning (ap (λ (x : State). x.turning) w.rest) turns)

-- while a rotation is under way, what it keeps has all that the roots reach
abbrev HasRoots : State → Type 0
HasRoots s = IsSome s.turning → (h : Hash) → Reach (form_in s) (roots s) h → Kept s h

-- so it is along a run: each step that goes on carries it, and a rotation begins with it
run_keeps : (half : Half) (lines : List Line) (s : State) (entries : List Entry) (s' : State) → HasRoots s → Run half lines s entries s'
    → HasRoots s'
run_keeps half lines s [] s' has run = subst HasRoots (sym run) has
run_keeps half lines s (e ∷ rest) s' has run =
    run_keeps half lines run.0 rest s'
    (turning_by half s run.0 e.actor run.1.line.command e.reply (used_by e)
    ((h : Hash) → Reach (form_in run.0) (roots run.0) h → Kept run.0 h)
    (λ was carried. carried.roots_kept) (λ only all. all) run.1.step)
    run.2

-- from the opening, where none is under way
pub reached_kept : (half : Half) (records : List Record) (lines : List Line) (interval : ℕ) (entries : List Entry) (s' : State)
    → IsRunOf half records lines interval entries s' → IsSome s'.turning → (h : Hash) → Reach (form_in s') (roots s') h → Kept s' h
reached_kept half records lines interval entries s' run =
    run_keeps half lines (opening_of records interval) entries s' (λ turns. absurd (none_turns None refl turns)) run

-- the row of a swap that ends a rotation
swap_row : (half : Half) (s s' : State) (a : ℕ) (c : Command) (reply : Reply) (used : List Held) → IsSwap c reply
    → Step half s a c reply used s' → Swapped s s' × IsSome s.turning
swap_row half s s' a command.Swap (says.Swap (swaps.Swapped epoch)) used is step = at s.turning step.outcome
  where
    at : (o : Option ℕ) → Swaps s o (says.Swap (swaps.Swapped epoch)) s' → Swapped s s' × IsSome o
    at None g = let said : says.Swap (swaps.Swapped epoch) ≡ says.Swap swaps.Idle = g.says in absurd cc
    at (Some v) g = (g.1, refl)
swap_row half s s' a _ _ used is step = absurd is

-- what is kept, while a rotation is under way, it may keep
abbrev IsWithin : (Hash → Type 0) → State → Type 0
IsWithin may s = IsSome s.turning → (h : Hash) → Kept s h → may h

-- a swap leaves what was kept, which the rotation may keep
sweeps : (half : Half) (may : Hash → Type 0) (s s' : State) (a : ℕ) (c : Command) (reply : Reply) (used : List Held) → IsWithin may s
    → Step half s a c reply used s' → IsSwap c reply → Sweeps may s s'
sweeps half may s s' a c reply used within step is =
    let w : Swapped s s' × IsSome s.turning = swap_row half s s' a c reply used is step in
    record {
      stays = w.0.reached;
      left = λ h stored. ⊎_elim (λ kept. inl (kept, within w.1 h kept)) (λ born. inr born)
          (w.0.only h (λ none. let both : Some stored.0 ≡ None = sym stored.1 ∙ none in cc));
    }

-- what is kept after a step was kept before, or is reached from what is new
within_on : (half : Half) (may : Hash → Type 0) (s s' : State) (a : ℕ) (c : Command) (reply : Reply) (used : List Held) → IsWithin may s
    → Step half s a c reply used s' → IsWithin (MayKeep may s (own_hashes half s a c reply) s') s'
within_on half may s s' a c reply used within step =
    turning_by half s s' a c reply used ((h : Hash) → Kept s' h → MayKeep may s (own_hashes half s a c reply) s' h)
    (λ was carried h kept. ⊎_elim (λ old. inl (was, within was h old)) (λ new. inr new) (carried.only h kept))
    (λ only all h kept. inr (inl (only h kept))) step

-- along a run what may be kept grows by what each step brings, so a swap finds all that is kept among it
swaps_keep : (half : Half) (lines : List Line) (may : Hash → Type 0) (s : State) (entries : List Entry) (s' : State) → IsWithin may s
    → (run : Run half lines s entries s') → AllSwapsKeep half lines may s entries s' run
swaps_keep half lines may s [] s' within run = tt
swaps_keep half lines may s (e ∷ rest) s' within run = (
  sweeps half may s run.0 e.actor run.1.line.command e.reply (used_by e) within run.1.step,
  swaps_keep half lines (MayKeep may s (own_hashes half s e.actor run.1.line.command e.reply) run.0) run.0 rest s'
      (within_on half may s run.0 e.actor run.1.line.command e.reply (used_by e) within run.1.step) run.2,
)

-- at the opening no rotation is under way
pub all_swaps_keep : (half : Half) (records : List Record) (lines : List Line) (interval : ℕ) (entries : List Entry) (s' : State)
    (run : IsRunOf half records lines interval entries s')
    → AllSwapsKeep half lines (λ h. ⊥) (opening_of records interval) entries s' run
all_swaps_keep half records lines interval entries s' run =
    swaps_keep half lines (λ h. ⊥) (opening_of records interval) entries s' (λ turns. absurd (none_turns None refl turns)) run
