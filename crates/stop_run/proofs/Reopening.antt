-- What was opened again answers each of its lines, and the ledgers that were kept are whole in it.
use Rattle.std.proofs.Common.{◌≡◌, ◌+◌, ◌<◌, ◌==◌, ◌||◌, ◌^◌, ℕ, zero, suc, Bool, true, false, cond, List, [], ◌∷◌, map, length}
use Rattle.std.proofs.Common.{Option, Some, None, All, Contains, refl, sym, ap, ◌∙◌, subst, arith, IsTrue}
use Rattle.std.specs.List.{filter, list_any}
use Rattle.std.specs.Prelude.{slice_get}
use Rattle.std.specs.FinMap as finite
use Rattle.std.proofs.lemmas.Bool.{eq-eqb}
use Rattle.std.proofs.lemmas.List.Elements.{All-nil, All-cons, All-weaker, All-contains_itself}
use Rattle.ledger_spec.specs.Bytes.{Bytes, Hash, Half, Lookup, Nodes, is_nonzero}
use Rattle.ledger_spec.specs.Own.{IsStoredAt}
use Rattle.ledger_spec.proofs.shared.Growth.{whole_stored}
use Rattle.ledger_machine.specs.declared.commands.Command.TheVariants as command
use Rattle.ledger_machine.specs.declared.commands.Line.{Line}
use Rattle.ledger_machine.specs.declared.commands.Record.{Record}
use Rattle.ledger_machine.specs.declared.journal.Entry.{Entry}
use Rattle.ledger_machine.specs.Runs.{Run, IsFull, answered_by, opening_of}
use Rattle.ledger_machine.specs.Commands.{IsInRange}
use Rattle.ledger_machine.specs.Scripts.{Rises, numbers_of}
use Rattle.ledger_machine.specs.Records.{with_records}
use Rattle.ledger_machine.specs.Sound.{Sound, IsWholeLedger, AreStored}
use Rattle.ledger_machine.specs.State.{State, form_in}
use Rattle.script_form.specs.Servable.{AreServable, WaitsForEarlier}
use Rattle.ledger_laws.proofs.shared.SoundKeeps.{whole_ledger_grows}
use Rattle.log_shelf.specs.Rooms.{Files}
use Rattle.log_shelf.specs.Recovery.{IsRecovered}
use Rattle.log_recovery.specs.Records.{is_record, AreRecovered}
use Rattle.store_core.specs.Journal.{CoreView, IsJournal}
use Rattle.core_machine.specs.Retaining.{AreRetained}
use Rattle.stop_run.specs.Leaving.{HoldsForms}
use Rattle.stop_run.specs.Opening.{IsReopened, complete_in}
use Rattle.stop_run.specs.Looking.{line_with, lines_behind, lines_for, is_unlucky, is_unlucky_entry, AreLucky}
use Rattle.stop_run.proofs.Holding.{records_held}
use Rattle.stop_run.proofs.Wholeness.{AreReady, numbers_in, numbers, all_complete}

-- the lines are actor 0's
actor_zero : (n : ℕ) (ts : List Hash) (place : ℕ) (line : Line) → slice_get (lines_behind n ts) place ≡ Some line → line.actor ≡ 0
actor_zero n [] place line e = absurd (cc)
actor_zero n (t ∷ ts) zero line e = ap (λ (o : Option Line). of o) (sym e)
  where
    of : Option Line → ℕ
    of None = 0
    of (Some l) = l.actor
actor_zero n (t ∷ ts) (suc zero) line e = ap (λ (o : Option Line). of o) (sym e)
  where
    of : Option Line → ℕ
    of None = 0
    of (Some l) = l.actor
actor_zero n (t ∷ ts) (suc (suc place)) line e = actor_zero (n + 2) ts place line e

own_numbers : (n : ℕ) (ts : List Hash) → numbers_of 0 (lines_behind n ts) ≡ numbers (lines_behind n ts)
own_numbers n [] = refl
own_numbers n (t ∷ ts) = ap (λ (ns : List ℕ). (n + 1) ∷ (n + 2) ∷ ns) (own_numbers (n + 2) ts)

-- so each entry is, and they answer these lines in order
own_entries : (half : Half) (lines : List Line) (s : State) (j : List Entry) (s' : State)
    → ((place : ℕ) (line : Line) → slice_get lines place ≡ Some line → line.actor ≡ 0) → Run half lines s j s'
    → answered_by 0 j ≡ numbers_in j
own_entries half lines s [] s' zeros run = refl
own_entries half lines s (e ∷ j) s' zeros run =
    let zero_is : e.actor ≡ 0 = run.1.actor ∙ zeros run.1.place run.1.line run.1.stands in
    ap (λ (b : Bool). map (λ (x : Entry). x.line) (cond b (e ∷ filter (λ (x : Entry). x.actor == 0) j) (filter (λ (x : Entry). x.actor == 0)
    j))) (eq-eqb e.actor 0 zero_is)
    ∙ ap (λ (ns : List ℕ). e.line ∷ ns) (own_entries half lines run.0 j s' zeros run.2)

pub answers_in_order : (half : Half) (ts : List Hash) (s : State) (j : List Entry) (s' : State) → Run half (lines_for ts) s j s'
    → IsFull (lines_for ts) j → numbers_in j ≡ numbers (lines_for ts)
answers_in_order half ts s j s' run full =
    sym (own_entries half (lines_for ts) s j s' (actor_zero 0 ts) run) ∙ full 0 (omega arith) ∙ own_numbers 0 ts

-- a store whose records hold whole ledgers is ready for these
pub opening_ready : (half : Half) (records : List Record) (interval : ℕ) (ts : List Hash)
    → ((t : Hash) → Contains ts t → IsWholeLedger half (form_in (opening_of records interval)) t)
    → AreReady half ts (opening_of records interval)
opening_ready half records interval ts whole = record { wanted = refl; floor = refl; whole = whole; unlisted = λ t among. refl }

-- a whole ledger isn't the zero hash
pub whole_nonzero : (half : Half) (m : Lookup) (t : Hash) → AreStored half m → IsWholeLedger half m t → IsTrue (is_nonzero t)
whole_nonzero half m t stored whole = at (m t) refl
  where
    at : (o : Option Bytes) → m t ≡ o → IsTrue (is_nonzero t)
    at None e = absurd (whole_stored half m t whole.whole e)
    at (Some form) e = (stored t form e).nonzero

-- the lines are a script's
rises_behind : (n : ℕ) (ts : List Hash) → Rises n (lines_behind n ts)
rises_behind n [] = tt
rises_behind n (t ∷ ts) = (omega arith, (omega arith, rises_behind (n + 2) ts))

all_lines : (P : Line → Type 0) (n : ℕ) (ts : List Hash) → ((k : ℕ) (t : Hash) → Contains ts t → P (line_with k (command.Want t 0)) × P (line_with k
    (command.Check t))) → All P (lines_behind n ts)
all_lines P n [] each = All-nil P
all_lines P n (t ∷ ts) each =
    All-cons P (line_with (n + 1) (command.Want t 0)) (line_with (n + 2) (command.Check t) ∷ lines_behind (n + 2) ts)
    (each (n + 1) t (0, omega arith, refl)).0
    (All-cons P (line_with (n + 2) (command.Check t)) (lines_behind (n + 2) ts) (each (n + 2) t (0, omega arith, refl)).1
    (all_lines P (n + 2) ts (λ k u c. each k u (suc c.0, omega (arith, c.1), c.2))))

how_many : (n : ℕ) (ts : List Hash) → length (lines_behind n ts) ≡ length ts + length ts
how_many n [] = refl
how_many n (t ∷ ts) = omega (arith, how_many (n + 2) ts)

pub lines_servable : (ts : List Hash) → length ts < 2 ^ 31 → ((t : Hash) → Contains ts t → IsTrue (is_nonzero t)) → AreServable (lines_for ts)
lines_servable ts few nonzero = record {
  actors_known = all_lines (λ (l : Line). l.actor < 64) 0 ts (λ k t c. (omega arith, omega arith));
  numbers_rise = rises_behind 0 ts;
  in_range = all_lines (λ (l : Line). IsInRange l.command) 0 ts (λ k t c. (nonzero t c, nonzero t c));
  waiting = all_lines (WaitsForEarlier (lines_for ts)) 0 ts (λ k t c. (λ waits. absurd (waits refl), λ waits. absurd (waits refl)));
  few = omega (arith, how_many 0 ts, few);
}

-- ---- a core that was opened again
none_unlucky : (j : List Entry) → list_any is_unlucky_entry j ≡ false → AreLucky j
none_unlucky [] none = All-nil (λ (e : Entry). is_unlucky e.reply ≡ false)
none_unlucky (e ∷ j) none =
    let neither = no_or (is_unlucky e.reply) (list_any is_unlucky_entry j) none in
    All-cons (λ (x : Entry). is_unlucky x.reply ≡ false) e j neither.0 (none_unlucky j neither.1)
  where
    no_or : (a b : Bool) → (a || b) ≡ false → (a ≡ false) × (b ≡ false)
    no_or true b e = absurd (cc)
    no_or false b e = (refl, e)

-- what a sound state retains is whole in a store that holds its forms
whole_again : (half : Half) (s : State) (records : List Record) (interval : ℕ) (hashes : List Hash) → Sound half s → AreRetained s hashes
    → HoldsForms half s.nodes records → (t : Hash) → Contains hashes t → IsWholeLedger half (form_in (opening_of records interval)) t
whole_again half s records interval hashes sound retained holds t among =
    whole_ledger_grows half (form_in s) (form_in (opening_of records interval)) t (λ h form e. holds h form e (sound.forms h form e))
    (sound.retained_whole t ((retained.all t).0 among))

-- so none of it is the zero hash
pub retained_nonzero : (half : Half) (s : State) (hashes : List Hash) → Sound half s → AreRetained s hashes → (t : Hash) → Contains hashes t
    → IsTrue (is_nonzero t)
retained_nonzero half s hashes sound retained t among =
    whole_nonzero half (form_in s) t sound.forms (sound.retained_whole t ((retained.all t).0 among))

all_of : (P : Hash → Type 0) (hashes : List Hash) → ((t : Hash) → Contains hashes t → P t) → All P hashes
all_of P hashes each = All-weaker (Contains hashes) P each hashes (All-contains_itself hashes)

-- what is recovered holds each form that a stop must not lose
pub holds_forms : (half : Half) (files : Files) (nodes : Nodes) (records : List Record) → AreRecovered half files records
    → ((found : Nodes) (h : Hash) (form : Bytes) → IsRecovered (is_record half) files found → finite.get nodes h ≡ Some form
    → IsStoredAt half h form → finite.get found h ≡ Some form)
    → HoldsForms half nodes records
holds_forms half files nodes records are loses h form some stored =
    subst (λ (rs : List Record). finite.get (with_records finite.empty rs) h ≡ Some form) (sym are.each)
    (records_held are.found h form (loses are.found h form are.last some stored))

-- what the first core retains is whole in the store with which the second one was opened
whole_at_opening : (half : Half) (c d : CoreView) (hashes : List Hash) (records : List Record) → IsJournal half true c
    → AreRetained c.state hashes → HoldsForms half c.state.nodes records → d.records ≡ records
    → (t : Hash) → Contains hashes t → IsWholeLedger half (form_in (opening_of d.records d.interval)) t
whole_at_opening half c d hashes records journal retained holds records_are =
    whole_again half c.state d.records d.interval hashes (journal.machine refl).sound retained
    (subst (λ (rs : List Record). HoldsForms half c.state.nodes rs) (sym records_are) holds)

-- so each of them is complete
pub complete_again : (half : Half) (c d : CoreView) (hashes : List Hash) (records : List Record) → IsJournal half true c
    → AreRetained c.state hashes → HoldsForms half c.state.nodes records → d.records ≡ records → d.lines ≡ lines_for hashes
    → IsJournal half true d → IsFull d.lines d.journal → list_any is_unlucky_entry d.journal ≡ false
    → complete_in d ≡ length hashes
complete_again half c d hashes records journal retained holds records_are lines_are kept full none =
    let whole : (t : Hash) → Contains hashes t → IsWholeLedger half (form_in (opening_of d.records d.interval)) t =
    whole_at_opening half c d hashes records journal retained holds records_are
    in
    let run : Run half (lines_for hashes) (opening_of d.records d.interval) d.journal d.state =
    subst (λ (ls : List Line). Run half ls (opening_of d.records d.interval) d.journal d.state) lines_are (kept.machine refl).run
    in
    let rise : Rises 0 (lines_for hashes) = subst (λ (ls : List Line). Rises 0 ls) lines_are kept.servable.numbers_rise in
    let all : IsFull (lines_for hashes) d.journal = subst (λ (ls : List Line). IsFull ls d.journal) lines_are full in
    all_complete half (lines_for hashes) 0 hashes (opening_of d.records d.interval) d.journal d.state rise (λ k above. refl)
    (answers_in_order half hashes (opening_of d.records d.interval) d.journal d.state run all) (none_unlucky d.journal none)
    retained.rise (opening_ready half d.records d.interval hashes whole) run

pub reopened_by : (half : Half) (Left : List Record → Type 0) (interval : ℕ) (c d : CoreView) (hashes : List Hash) (records : List Record)
    → IsJournal half true c → AreRetained c.state hashes → Left records → HoldsForms half c.state.nodes records
    → d.records ≡ records → d.lines ≡ lines_for hashes → d.interval ≡ interval → IsJournal half true d → IsFull d.lines d.journal
    → list_any is_unlucky_entry d.journal ≡ false
    → IsReopened half Left interval c d
reopened_by half Left interval c d hashes records journal retained left holds records_are lines_are interval_is kept full none = record {
  hashes = hashes;
  retained = retained;
  records = subst Left (sym records_are) left;
  whole = all_of (IsWholeLedger half (form_in (opening_of d.records interval))) hashes
      (subst (λ (n : ℕ). (t : Hash) → Contains hashes t → IsWholeLedger half (form_in (opening_of d.records n)) t) interval_is
      (whole_at_opening half c d hashes records journal retained holds records_are));
  lines = lines_are;
  interval_is = interval_is;
  kept = kept;
  full = full;
  lucky = none_unlucky d.journal none;
  complete = complete_again half c d hashes records journal retained holds records_are lines_are kept full none;
}
