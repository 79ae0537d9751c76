-- Each state of a run is in order. For proofs of other crates.
use Rattle.std.proofs.Common.{◌≡◌, List, [], ◌∷◌, Option, Some, None, Contains, IsTrue, is_some, IsSomeAnd, refl, sym, subst}
use Rattle.std.specs.Option.{option_map, option_and_then}
use Rattle.std.proofs.lemmas.Bool.{false≢true}
use Rattle.ledger_spec.specs.declared.Kind.{Kind}
use Rattle.ledger_spec.specs.declared.Kind.TheVariants.{State, Tx, Set}
use Rattle.ledger_spec.specs.Bytes.{Bytes, Hash, Half, IsHalf, is_nonzero}
use Rattle.ledger_spec.specs.Commits.{Commits}
use Rattle.ledger_spec.specs.Findings.{Whole}
use Rattle.ledger_spec.specs.Header.{state_root_of}
use Rattle.ledger_spec.specs.Maps.{numbered_cmp, get_in}
use Rattle.ledger_spec.specs.Spots.{header_in, header_root}
use Rattle.tree_laws.proofs.shared.WholeLaw.{ledger_commits}
use Rattle.ledger_machine.specs.declared.commands.Line.{Line}
use Rattle.ledger_machine.specs.declared.journal.Entry.{Entry}
use Rattle.ledger_machine.specs.State.{State as MachineState, form_in}
use Rattle.ledger_machine.specs.Commands.{IsInRange}
use Rattle.ledger_machine.specs.Scripts.{IsLedgerMap}
use Rattle.ledger_machine.specs.Sound.{Sound, IsWholeLedger}
use Rattle.ledger_machine.specs.Runs.{Run, used_by}
use Rattle.ledger_machine.specs.Throughout.{IsInOrder, AreInOrder}
use Rattle.ledger_laws.proofs.shared.Completeness.{retained_stored}
use Rattle.ledger_laws.proofs.EachCommand.{step_sound}
use Rattle.ledger_laws.proofs.SoundRuns.{line_at}
use Rattle.ledger_laws.proofs.shared.SoundTables.{all_found}
use Rattle.ledger_laws.proofs.SoundViews.{views_whole}

module _ (half : Half) (sized : IsHalf half) (s : MachineState) (sound : Sound half s) where
  -- what is stored commits to both maps of a whole ledger
  by_head : (kind : Kind) → IsLedgerMap kind → (t : Hash) (o : Option Bytes) → header_in (form_in s) t ≡ o
      → IsSomeAnd o (λ h. IsTrue (is_nonzero (state_root_of h))) → Whole half (form_in s) t
      → IsSomeAnd (option_map (header_root kind) o) (Commits half (form_in s) kind)
  by_head kind is t None at has whole = absurd has
  by_head State is t (Some bytes) at has whole =
      (ledger_commits half sized (form_in s) (λ h form e. (sound.forms h form e).own) (λ h form e. (sound.forms h form e).bytes)
      t bytes at whole).0
  by_head Tx is t (Some bytes) at has whole =
      (ledger_commits half sized (form_in s) (λ h form e. (sound.forms h form e).own) (λ h form e. (sound.forms h form e).bytes)
      t bytes at whole).1
  by_head Set is t (Some bytes) at has whole = absurd is

  by_view : (kind : Kind) → IsLedgerMap kind → (o : Option Hash) → IsTrue (is_some o)
      → ((t : Hash) → o ≡ Some t → IsWholeLedger half (form_in s) t)
      → IsSomeAnd (option_and_then (λ t. option_map (header_root kind) (header_in (form_in s) t)) o) (Commits half (form_in s) kind)
  by_view kind is None has whole = absurd (false≢true has)
  by_view kind is (Some t) has whole =
      let ledger : IsWholeLedger half (form_in s) t = whole t refl in
      by_head kind is t (header_in (form_in s) t) refl ledger.header ledger.whole

  -- a sound state is in order
  pub in_order : IsInOrder half s
  in_order = record {
    sound = sound;
    present = λ t kept. retained_stored half s t sound kept;
    maps = λ view kind has is. by_view kind is (get_in numbered_cmp s.views view) has
        (λ t at. all_found (IsWholeLedger half (form_in s)) _ s.views t (views_whole half s sound) at);
  }

-- so is each state of a run from a sound state
pub run_in_order : (half : Half) → IsHalf half → (lines : List Line) → ((l : Line) → Contains lines l → IsInRange l.command)
    → (s : MachineState) (entries : List Entry) (s' : MachineState) (run : Run half lines s entries s') → Sound half s
    → AreInOrder half lines s entries s' run
run_in_order half sized lines range s [] s' run sound =
    in_order half sized s' (subst (Sound half) (sym run) sound)
run_in_order half sized lines range s (e ∷ rest) s' run sound =
    let line : Line = run.1.line in
    let fit : IsInRange line.command = range line (line_at lines run.1.place line run.1.stands) in (
      in_order half sized s sound,
      run_in_order half sized lines range run.0 rest s' run.2
          (step_sound half sized s run.0 e.actor line.command e.reply (used_by e) fit sound run.1.step),
    )
