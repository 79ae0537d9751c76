-- How a journal grows, and what a core keeps meanwhile.
use Rattle.std.proofs.Common.{IfSome, Option, None}
use Rattle.std.proofs.Common.{◌≡◌, ℕ, zero, suc, Some, ◌+◌, ◌-◌, Result, Ok, ◌<◌, ◌≤◌, List, [], ◌∷◌, ◌++◌, map, length, take, drop}
use Rattle.std.proofs.Common.{get_or, Bool, true, false, cond, refl, sym, ◌∙◌, ap, subst, arith, length-append, set, length-set, ◌≢◌}
use Rattle.std.proofs.Common.{get_or-set_same, get_or-set_other}
use Rattle.std.specs.Prelude.{◌==◌, nat_lt, slice_index}
use Rattle.std.specs.List.{filter, list_any, All, Contains}
use Rattle.std.specs.Result.{is_ok}
use Rattle.std.proofs.lemmas.Option.{slice_get_read, same_Some}
use Rattle.std.proofs.Math.Seq.{take-add}
use Rattle.std.proofs.lemmas.Bool.Decides.{nat_tests}
use Rattle.std.proofs.lemmas.List.{append-nil, get_or_read, get_or_default, take_all, get_or-take, get_or-drop, length-map, map-append}
use Rattle.std.proofs.lemmas.List.{take_more, take-append-drop}
use Rattle.std.proofs.lemmas.List.Elements.{filter-append, All-append, All-contains}
use Rattle.std.proofs.Common.{◌⊎◌, inl, inr, IsTrue}
use Rattle.ledger_machine.specs.declared.commands.Reply.TheVariants as says
use Rattle.ledger_spec.specs.Bytes.{Half}
use Rattle.ledger_machine.specs.State.{State}
use Rattle.ledger_machine.specs.Steps.{Step}
use Rattle.ledger_machine.specs.Runs.{Answers, IsRunOf, used_by, answered_by, Projects, opening_of}
use Rattle.node_backend.specs.Counts.{held_sum}
use Rattle.ledger_machine.specs.Commands.{IsInRange}
use Rattle.ledger_machine.specs.Scripts.{numbers_of, line_of}
use Rattle.script_form.specs.Servable.{AreServable}
use Rattle.ledger_machine.specs.Sound.{Sound}
use Rattle.ledger_machine.specs.Rotation.{AreShaded}
use Rattle.core_machine.specs.Telling.{AreTold}
use Rattle.ledger_laws.proofs.shared.Openings.{records_are_sound}
use Rattle.ledger_laws.proofs.shared.Sweeping.{all_swaps_keep}
use Rattle.ledger_machine.specs.Swaps.{AllSwapsKeep}
use Rattle.ledger_laws.proofs.shared.RunLaws.{run_more}
use Rattle.ledger_machine.specs.Runs.{IsDone, is_answered, next_line}
use Rattle.run_io.specs.Bytes.{Rose}
use Rattle.core_machine.specs.Desks.{KeepsRest}
use Rattle.store_core.specs.Journal.{CoreKeeps, IsNext, RoseBy, faults_in, fault_count}
use Rattle.store_core.proofs.Finding.{rising, line_there}
use Rattle.store_core.proofs.Waiting.{read_at, next_left, next_at, answered_any, any_answered, number_at, number_in, same_place, waits_more}
use Rattle.ledger_machine.specs.declared.commands.Line.{Line}
use Rattle.ledger_machine.specs.declared.commands.Record.{Record}
use Rattle.ledger_machine.specs.Records.{AreRecords}
use Rattle.ledger_machine.specs.declared.journal.Entry.{Entry}
use Rattle.ledger_machine.specs.declared.commands.Reply.{Reply}
use Rattle.store_core.proofs.Counting.{total-le, total-lt, part, parts_total, none_past}

pub numbers-append : (a : ℕ) (xs ys : List Line) → numbers_of a (xs ++ ys) ≡ numbers_of a xs ++ numbers_of a ys
numbers-append a xs ys =
    ap (map (λ (l : Line). l.number)) (filter-append (λ (l : Line). l.actor == a) xs ys)
    ∙ map-append (λ (l : Line). l.number) (filter (λ l. l.actor == a) xs) (filter (λ l. l.actor == a) ys)

pub answered-append : (a : ℕ) (xs ys : List Entry) → answered_by a (xs ++ ys) ≡ answered_by a xs ++ answered_by a ys
answered-append a xs ys =
    ap (map (λ (e : Entry). e.line)) (filter-append (λ (e : Entry). e.actor == a) xs ys)
    ∙ map-append (λ (e : Entry). e.line) (filter (λ e. e.actor == a) xs) (filter (λ e. e.actor == a) ys)

-- the entries of an actor, and one more of it or of another
answered_more : (a : ℕ) (es : List Entry) (e : Entry) → e.actor ≡ a → answered_by a (es ++ e ∷ []) ≡ answered_by a es ++ e.line ∷ []
answered_more a es e is =
    let yes : (e.actor == a) ≡ true = grind (arith, nat_tests) in
    answered-append a es (e ∷ []) ∙ rw yes refl

answered_other : (a : ℕ) (es : List Entry) (e : Entry) → (e.actor == a) ≡ false → answered_by a (es ++ e ∷ []) ≡ answered_by a es
answered_other a es e apart = answered-append a es (e ∷ []) ∙ rw apart (append-nil (answered_by a es))

-- the lines of an actor up to its next one, and with that one
numbers_next : (lines : List Line) (from a at : ℕ) (line : Line) → IsNext lines from a at → line ≡ get_or lines at line
    → numbers_of a (take (at + 1) lines) ≡ numbers_of a (take from lines) ++ line.number ∷ []
numbers_next lines from a at line next is =
    let yes : (line.actor == a) ≡ true = let same : line.actor ≡ a = next.actor line is in grind (arith, nat_tests) in
    ap (numbers_of a) (take_more lines at line next.within ∙ ap (λ (l : Line). take at lines ++ l ∷ []) (sym is))
    ∙ numbers-append a (take at lines) (line ∷ []) ∙ ap (λ (w : List ℕ). w ++ numbers_of a (line ∷ [])) next.none ∙ rw yes refl

numbers-take-le : (a n : ℕ) (lines : List Line) → length (numbers_of a (take n lines)) ≤ length (numbers_of a lines)
numbers-take-le a n lines =
    omega (
      arith,
      ap length (ap (numbers_of a) (sym (take-append-drop n lines)) ∙ numbers-append a (take n lines) (drop n lines)),
      length-append (numbers_of a (take n lines)) (numbers_of a (drop n lines)),
    )

answered_part : (a : ℕ) (es : List Entry) → part (λ e. e.actor) es a ≡ length (answered_by a es)
answered_part a es = sym (length-map (filter (λ e. e.actor == a) es) (λ (e : Entry). e.line))

numbers_part : (a : ℕ) (ls : List Line) → part (λ l. l.actor) ls a ≡ length (numbers_of a ls)
numbers_part a ls = sym (length-map (filter (λ l. l.actor == a) ls) (λ (l : Line). l.number))

faults_push : (es : List Entry) (e : Entry) → faults_in (es ++ e ∷ []) ≡ faults_in es + fault_count e.reply
faults_push [] e = omega arith
faults_push (x ∷ es) e = omega (arith, faults_push es e)

fault_or_none : (r : Reply) → (r ≡ says.Fault) ⊎ (fault_count r ≡ 0)
fault_or_none says.Fault = inl refl
fault_or_none _ = inr refl

-- a count that rises with each fault bounds the faults; it never passes the last value of a u64. A fault that stood apart may be the
-- entry's
pub bound_more : (es : List Entry) (e : Entry) (apart apart' opened now now' : ℕ) → RoseBy (faults_in es + apart) opened now → now ≤ now'
    → apart' ≤ apart → (e.reply ≡ says.Fault → Rose now now' ⊎ (suc apart' ≤ apart))
    → RoseBy (faults_in (es ++ e ∷ []) + apart') opened now'
bound_more es e apart apart' opened now now' (inr top) later fewer cause = inr (omega arith)
bound_more es e apart apart' opened now now' (inl b) later fewer cause =
    elim (fault_or_none e.reply) [
      | inl is ↦ elim (cause is) [
        | inl rise ↦ elim rise [
          | inl rose ↦ inl (omega (arith, faults_push es e, ap fault_count is))
          | inr top ↦ inr (omega (arith, top))
        ]
        | inr less ↦ inl (omega (arith, faults_push es e, ap fault_count is, less))
      ]
      | inr none ↦ inl (omega (arith, faults_push es e, none))
    ]

rose_by_later : (n before now now' : ℕ) → now ≤ now' → RoseBy n before now → RoseBy n before now'
rose_by_later n before now now' later (inl le) = inl (omega (arith, le, later))
rose_by_later n before now now' later (inr top) = inr (omega (arith, top, later))

-- the entry answers the line that is next
pub answers : (half : Half) (lines : List Line) (s s' : State) (line : Line) (e : Entry) (from at : ℕ) → IsNext lines from e.actor at
    → line ≡ get_or lines at line → e.line ≡ line.number → e.actor ≡ e.actor → Step half s e.actor line.command e.reply (used_by e) s'
    → Answers half lines s e s'
answers half lines s s' line e from at next is number _ step =
    record {
      place = at;
      line = line;
      stands = slice_get_read lines (length lines) at line refl next.within is;
      number = number;
      actor =
          sym (next.actor line is);
      step = step;
    }

module _ (half : Half) (records : List Record) (lines : List Line) (cursors : List ℕ) (journal : List Entry) (capacity interval : ℕ)
    (told : Bool)
    (opened now apart : ℕ) (s : State) (k : CoreKeeps half records lines cursors journal capacity interval told opened now apart s) where
  at_most : (a : ℕ) → a < 64 → part (λ e. e.actor) journal a ≤ part (λ l. l.actor) lines a
  at_most a lt =
      omega (arith, answered_part a journal, numbers_part a lines, ap length (k.done a lt), numbers-take-le a (slice_index cursors a) lines)

  pub kept_few : length journal ≤ length lines
  kept_few = omega (
    arith,
    parts_total 64 (λ (e : Entry). e.actor) journal k.known,
    parts_total 64
        (λ (l : Line). l.actor) lines k.servable.actors_known,
    total-le 64 _ _ at_most,
  )

  joins : (a : ℕ) → a < 64 → answered_by a journal ++ numbers_of a (drop (slice_index cursors a) lines) ≡ numbers_of a lines
  joins a lt =
      ap (λ (w : List ℕ). w ++ numbers_of a (drop (slice_index cursors a) lines)) (k.done a lt)
      ∙ sym (numbers-append a (take (slice_index cursors a) lines) (drop (slice_index cursors a) lines))
      ∙ ap (numbers_of a) (take-append-drop (slice_index cursors a) lines)

  pub kept_projects : Projects lines journal
  kept_projects = record { fronts = λ a lt. (numbers_of a (drop (slice_index cursors a) lines), joins a lt); waits = k.waits }

  pub kept_done : (a : ℕ) → a < 64 → numbers_of a (drop (slice_index cursors a) lines) ≡ [] → IsDone lines journal a
  kept_done a lt none = sym (append-nil (answered_by a journal)) ∙ ap (λ (w : List ℕ). answered_by a journal ++ w) (sym none) ∙ joins a lt

  -- an actor past the last one has no line
  pub kept_past : (a : ℕ) → 64 ≤ a → IsDone lines journal a
  kept_past a past =
      ap (map (λ (e : Entry). e.line)) (none_past (λ (e : Entry). e.actor) 64 a journal past k.known)
      ∙ sym (ap (map (λ (l : Line). l.number)) (none_past (λ (l : Line). l.actor) 64 a lines past k.servable.actors_known))

  -- along the run each swap keeps what it has to, and no more than it may
  pub kept_swaps : (run : IsRunOf half records lines interval journal s)
      → AllSwapsKeep half lines (λ h. ⊥) (opening_of records interval) journal s run
  kept_swaps run = all_swaps_keep half records lines interval journal s run

  pub kept_ranges : (l : Line) → Contains lines l → IsInRange l.command
  kept_ranges l among = All-contains (λ x. IsInRange x.command) lines l k.servable.in_range among

  pub kept_in_range : (at : ℕ) → at < length lines → (line : Line) → line ≡ get_or lines at line → IsInRange line.command
  kept_in_range at lt line is = let P : Line → Type 0 = λ l. IsInRange l.command in subst P (sym is) (k.servable.in_range at line lt)

  -- a line has its entry exactly where its actor's cursor stands behind it
  pub kept_answered : (at : ℕ) (line : Line) → at < length lines → get_or lines at line ≡ line
      → is_answered journal line.number ≡ nat_lt at (slice_index cursors line.actor)
  kept_answered at line lt is =
      elim (nat_lt at (slice_index cursors line.actor)) as
      (λ b. nat_lt at (slice_index cursors line.actor) ≡ b → is_answered journal line.number ≡ b) [
        | true ↦ λ t.
            let passed : at < slice_index cursors line.actor = grind (arith, nat_tests) in
            answered_any line.actor line.number journal
            (ap (list_any (λ m. m == line.number)) (k.done line.actor known_actor)
            ∙ number_in lines (slice_index cursors line.actor) at line passed lt is)
        | false ↦ λ t. elim (is_answered journal line.number) as (λ b. is_answered journal line.number ≡ b → b ≡ false) [
          | true ↦ λ any. let passed : at < slice_index cursors line.actor = behind any in grind (arith, nat_tests)
          | false ↦ λ none. refl
        ] refl
      ] refl
    where
      known_actor : line.actor < 64
      known_actor = let P : Line → Type 0 = λ l. l.actor < 64 in subst P is (k.servable.actors_known at line lt)

      behind : is_answered journal line.number ≡ true → at < slice_index cursors line.actor
      behind any =
          let by = any_answered line.number journal k.known any in
          let w = number_at by.0 line.number (slice_index cursors by.0) lines
          (sym (ap (list_any (λ m. m == line.number)) (k.done by.0 by.1)) ∙ by.2) in
          let place : w.0 ≡ at = same_place lines k.servable.numbers_rise w.0 at w.1 line w.3 lt w.4 is w.6 in
          let line_is : w.1 ≡ line = sym w.4 ∙ (get_or_default lines w.0 w.1 line w.3 ∙ (ap (λ (n : ℕ). get_or lines n line) place ∙ is)) in
          let actor : by.0 ≡ line.actor = sym w.5 ∙ ap (λ (l : Line). l.actor) line_is in
          omega (arith, w.2, place, ap (slice_index cursors) actor)

  -- no line has the number, so none of the number has an entry
  pub kept_unknown : (number : ℕ) → ((j : ℕ) (d : Line) → j < length lines → (get_or lines j d).number ≢ number)
      → is_answered journal number ≡ false
  kept_unknown number none =
      elim (is_answered journal number) as (λ b. is_answered journal number ≡ b → b ≡ false) [
        | true ↦ λ any.
            let by = any_answered number journal k.known any in
            let w = number_at by.0 number (slice_index cursors by.0) lines
            (sym (ap (list_any (λ m. m == number)) (k.done by.0 by.1)) ∙ by.2) in
            absurd (none w.0 w.1 w.3 (ap (λ (l : Line). l.number) w.4 ∙ w.6))
        | false ↦ λ e. refl
      ] refl

  -- a cursor may go on to a place before which the actor has no further line
  pub kept_moved : (a at : ℕ) → a < 64 → at ≤ length lines
      → numbers_of a (take at lines) ≡ numbers_of a (take (slice_index cursors a) lines)
      → CoreKeeps half records lines (set cursors a at) journal capacity interval told opened now apart s
  kept_moved a at lt within none = record {
    run = k.run;
    sound = k.sound;
    roots = k.roots;
    listed_few = k.listed_few;
    young = k.young;
    cursor_count = length-set cursors a at ∙ k.cursor_count;
    behind = λ b l. elim (b == a) as (λ t. (b == a) ≡ t → slice_index (set cursors a at) b ≤ length lines) [
      | true ↦ λ t.
          let same : b ≡ a = grind (arith, nat_tests) in
          let n : a < length cursors = omega (arith, k.cursor_count) in
          rw (same, get_or-set_same) (omega (arith, within))
      | false ↦ λ t. let other : b ≢ a = grind (arith, nat_tests) in rw get_or-set_other (k.behind b l)
    ] refl;
    done = λ b l. elim (b == a) as
        (λ t. (b == a) ≡ t → answered_by b journal ≡ numbers_of b (take (slice_index (set cursors a at) b) lines)) [
          | true ↦ λ t.
              let same : b ≡ a = grind (arith, nat_tests) in
              let n : a < length cursors = omega (arith, k.cursor_count) in
              rw (same, get_or-set_same) (k.done a lt ∙ sym none)
          | false ↦ λ t. let other : b ≢ a = grind (arith, nat_tests) in rw get_or-set_other (k.done b l)
        ] refl;
    waits = k.waits;
    known = k.known;
    servable = k.servable;
    recorded = k.recorded;
    room = k.room;
    since = k.since;
    fault_bound = k.fault_bound;
  }

  -- a slice leaves what is kept: the state is as it was, but for where forms lie
  pub kept_sliced : (s' : State) (now' : ℕ) → (IsTrue told → s' ≡ s) → KeepsRest s s' → now ≤ now'
      → CoreKeeps half records lines cursors journal capacity interval told opened now' apart s'
  kept_sliced s' now' same rest later = record {
    run = λ t. subst (IsRunOf half records lines interval journal) (sym (same t)) (k.run t);
    sound = λ t. subst (Sound half) (sym (same t)) (k.sound t);
    roots = λ t. subst AreTold (sym (same t)) (k.roots t);
    listed_few = omega (arith, k.listed_few, ap (λ (x : State). length x.listed) rest);
    young = omega (arith, k.young, ap (λ (x : State). x.epoch) rest);
    cursor_count = k.cursor_count;
    behind = k.behind;
    done = k.done;
    waits = k.waits;
    known = k.known;
    servable = k.servable;
    recorded = k.recorded;
    room = k.room;
    since = omega (arith, k.since, later);
    fault_bound = rose_by_later (faults_in journal + apart) opened now now' later k.fault_bound;
  }

  module _ (a at : ℕ) (lt : a < 64) (next : IsNext lines (slice_index cursors a) a at) (line : Line)
      (is : line ≡ get_or lines at line) where
    fewer : part (λ e. e.actor) journal a < part (λ l. l.actor) lines a
    fewer = omega (
      arith,
      answered_part a journal,
      numbers_part a lines,
      ap length (k.done a lt),
      ap length
          (numbers_next lines _ a at line next is),
      length-append (numbers_of a (take (slice_index cursors a) lines)) (line.number ∷ []),
      numbers-take-le a (at + 1) lines,
    )

    -- there is room for the entry of a line that is left
    pub kept_less : length journal < length lines
    kept_less = omega (
      arith,
      parts_total 64 (λ (e : Entry). e.actor) journal k.known,
      parts_total 64
          (λ (l : Line). l.actor) lines k.servable.actors_known,
      total-lt 64 _ _ at_most a lt fewer,
    )

    -- it is the actor's next line
    pub kept_next : next_line lines journal a ≡ Some line
    kept_next = next_at lines journal a at line next.within is (next.actor line is) (k.done a lt ∙ sym next.none)

    -- what the line that was found waits for
    waits_for : (l : Line) → line_of lines line.number ≡ Some l → (line.after ≢ 0 → is_answered journal line.after ≡ true) → l.after ≢ 0
        → Contains [] l.after ⊎ (is_answered journal l.after ≡ true)
    waits_for l found free waits =
        let same : line ≡ l = same_Some line l
        (line_there lines at line.number line next.within
        (λ j d before within. let less = rising 0 lines k.servable.numbers_rise j at d line before next.within in omega
        (arith, less, ap (λ (x : Line). x.number) is)) is refl ∙ found) in
        let P : Line → Type 0 = λ x. x.after ≢ 0 → is_answered journal x.after ≡ true in
        inr (subst P same free waits)

    pub kept_step : (e : Entry) (s' : State) (c now' apart' : ℕ) → e.line ≡ line.number → e.actor ≡ a
        → (line.after ≢ 0 → is_answered journal line.after ≡ true) → (IsTrue told → Step half s e.actor line.command e.reply (used_by e) s')
        → (IsTrue told → Sound half s') → (IsTrue told → AreTold s') → length s'.listed ≤ suc (length s.listed)
        → s'.epoch ≤ suc s.epoch → capacity ≤ c → now ≤ now'
        → apart' ≤ apart → (e.reply ≡ says.Fault → Rose now now' ⊎ (suc apart' ≤ apart))
        → CoreKeeps half records lines (set cursors a (at + 1)) (journal ++ e ∷ []) c interval told opened now' apart' s'
    kept_step e s' c now' apart' number actor free step sound roots few ages more later fewer cause = record {
      sound = sound;
      roots = roots;
      listed_few = omega (arith, few, k.listed_few, length-append journal (e ∷ []));
      young = omega (arith, ages, k.young, length-append journal (e ∷ []));
      run = λ t. run_more half lines (opening_of records interval) s s' journal e (k.run t)
          (record {
            place = at;
            line = line;
            stands = slice_get_read lines (length lines) at line refl next.within is;
            number =
                number;
            actor = actor ∙ sym (next.actor line is);
            step = step t;
          });
      cursor_count = length-set cursors a (at + 1) ∙ k.cursor_count;
      behind = λ b l. elim (b == a) as (λ t. (b == a) ≡ t → slice_index (set cursors a (at + 1)) b ≤ length lines) [
        | true ↦ λ t.
            let same : b ≡ a = grind (arith, nat_tests) in
            let n : a < length cursors = omega (arith, k.cursor_count) in
            rw (same, get_or-set_same) (omega (arith, next.within))
        | false ↦ λ t. let other : b ≢ a = grind (arith, nat_tests) in rw get_or-set_other (k.behind b l)
      ] refl;
      done = λ b l. elim (b == a) as
          (λ t. (b == a) ≡ t → answered_by b (journal ++ e ∷ []) ≡ numbers_of b (take (slice_index (set cursors a (at + 1)) b) lines)) [
            | true ↦ λ t.
                let same : b ≡ a = grind (arith, nat_tests) in
                let n : a < length cursors = omega (arith, k.cursor_count) in
                rw (same, get_or-set_same) (answered_more a journal e actor ∙ ap (λ (w : List ℕ). w ++ e.line ∷ []) (k.done a lt)
                ∙ ap (λ (n : ℕ). numbers_of a (take (slice_index cursors a) lines) ++ n ∷ []) number
                ∙ sym (numbers_next lines _ a at line next is))
            | false ↦ λ t.
                let other : b ≢ a = grind (arith, nat_tests) in
                let apart : (e.actor == b) ≡ false = grind (arith, nat_tests) in
                rw get_or-set_other (answered_other b journal e apart ∙ k.done b l)
          ] refl;
      waits = waits_more lines [] journal e k.waits (λ l found. waits_for l (sym (ap (line_of lines) number) ∙ found) free);
      known = All-append (λ (x : Entry). x.actor < 64) journal (e ∷ []) k.known (one e (omega arith));
      servable = k.servable;
      recorded = k.recorded;
      room = omega (arith, k.room);
      since = omega (arith, k.since, later);
      fault_bound = bound_more journal e apart apart' opened now now' k.fault_bound later fewer cause;
    }
      where
        one : (e : Entry) → e.actor < 64 → All (λ (x : Entry). x.actor < 64) (e ∷ [])
        one e l zero d in_it = l
        one e l (suc i) d in_it = absurd (omega arith)

  -- a section that answers no line
  pub kept_listed : (s' : State) (now' apart' : ℕ) → (IsTrue told → s' ≡ s) → s'.listed ≡ s.listed → s'.epoch ≡ s.epoch → now ≤ now'
      → RoseBy (faults_in journal + apart') opened now'
      → CoreKeeps half records lines cursors journal capacity interval told opened now' apart' s'
  kept_listed s' now' apart' same unlisted age later bound = record {
    run = λ t. subst (λ (x : State). IsRunOf half records lines interval journal x) (sym (same t)) (k.run t);
    sound = λ t. subst (Sound half) (sym (same t)) (k.sound t);
    roots = λ t. subst AreTold (sym (same t)) (k.roots t);
    listed_few = omega (arith, k.listed_few, ap length unlisted);
    young = omega (arith, k.young, age);
    cursor_count = k.cursor_count;
    behind = k.behind;
    done = k.done;
    waits = k.waits;
    known = k.known;
    servable = k.servable;
    recorded = k.recorded;
    room = k.room;
    since = omega (arith, k.since, later);
    fault_bound = bound;
  }

  -- an actor with a further line isn't done
  pub kept_undone : (a at : ℕ) → a < 64 → IsNext lines (slice_index cursors a) a at → IsDone lines journal a → ⊥
  kept_undone a at lt next done =
      let w = read_at lines at next.within in next_left lines journal a w.0 (kept_next a at lt next w.0 w.1) done

held_less : (a b : ℕ) → held_sum a b ≤ a + b
held_less a b = omega arith

-- a count that was missed, too
pub missed_more : (n missed opened now now' : ℕ) → RoseBy (n + missed) opened now → now ≤ now' → Rose now now'
    → RoseBy (n + held_sum missed 1) opened now'
missed_more n missed opened now now' (inr top) later rose = inr (omega arith)
missed_more n missed opened now now' (inl b) later (inl rose) = inl (omega (arith, held_less missed 1))
missed_more n missed opened now now' (inl b) later (inr top) = inr (omega (arith, top))

-- where no line of the actor is left, all are before
pub kept_end : (a from : ℕ) (lines : List Line) → numbers_of a (drop from lines) ≡ []
    → numbers_of a (take (length lines) lines) ≡ numbers_of a (take from lines)
kept_end a from lines none =
    ap (numbers_of a) (take_all (length lines) lines (omega arith) ∙ sym (take-append-drop from lines))
    ∙ (numbers-append a (take from lines) (drop from lines) ∙
    (ap (λ (w : List ℕ). numbers_of a (take from lines) ++ w) none ∙ append-nil (numbers_of a (take from lines))))

-- what is found from a place on
pub next_found : (lines : List Line) (from i a : ℕ) → from + i < length lines → numbers_of a (take i (drop from lines)) ≡ []
    → ((line : Line) → line ≡ get_or lines (from + i) line → line.actor ≡ a) → IsNext lines from a (from + i)
next_found lines from i a lt none actor = record {
  later = omega arith;
  within = lt;
  actor = actor;
  none =
      ap (numbers_of a) (take-add from i lines) ∙ numbers-append a (take from lines) (take i (drop from lines))
      ∙ ap (λ (w : List ℕ). numbers_of a (take from lines) ++ w) none ∙ append-nil (numbers_of a (take from lines));
}

-- the actor's next line, found in a copy of the lines from its cursor on
pub moved : {lines ls : List Line} (cursors : List ℕ) {from a len held at : ℕ} → ls ≡ lines → from ≡ get_or cursors a from
    → held ≡ length cursors → len ≡ held → a < len → IsNext ls from a at → IsNext lines (slice_index cursors a) a at
moved {lines} cursors {from} {a} {len} {held} {at} same start whole size lt next =
    let e : from ≡ slice_index cursors a = get_or_read cursors a from (omega (arith, whole, size, lt)) start 0 in
    let P : List Line → Type 0 = λ w. IsNext w from a at in
    let Q : ℕ → Type 0 = λ n. IsNext lines n a at in
    subst Q e (subst P same next)

-- and that there is none
pub moved_end : {lines ls : List Line} (cursors : List ℕ) {from a len held : ℕ} → ls ≡ lines → from ≡ get_or cursors a from
    → held ≡ length cursors → len ≡ held → a < len → numbers_of a (drop from ls) ≡ []
    → numbers_of a (drop (slice_index cursors a) lines) ≡ []
moved_end {lines} cursors {from} {a} same start whole size lt none =
    let e : from ≡ slice_index cursors a = get_or_read cursors a from (omega (arith, whole, size, lt)) start 0 in
    ap (λ (n : ℕ). numbers_of a (drop n lines)) (sym e) ∙ ap (λ (w : List Line). numbers_of a (drop from w)) (sym same) ∙ none

-- what a loop over the lines from a place on reads
pub read_actor : (lines : List Line) (from i a : ℕ) (d : Line) → from + i < length lines
    → (get_or (take (length lines - from) (drop from lines)) i d).actor ≡ a → (line : Line) → line ≡ get_or lines (from + i) line
    → line.actor ≡ a
read_actor lines from i a d lt is line at =
    ap (λ (l : Line). l.actor) (at ∙ get_or_default lines (from + i) line d lt
    ∙ sym (get_or-take (length lines - from) (drop from lines) i d (omega arith) ∙ get_or-drop from lines i d)) ∙ is

-- what a push that worked leaves
pub pushed : {X E : Type 0} (r : Result X E) (x : X) (old new more : List Entry) → new ≡ cond (is_ok r) more old → r ≡ Ok x → new ≡ more
pushed r x old new more e is = e ∙ ap (λ (b : Bool). cond b more old) (ap is_ok is)

numbers_none : (a : ℕ) (lines : List Line) (n : ℕ) → n ≡ 0 → numbers_of a (take n lines) ≡ []
numbers_none a lines n e = ap (λ (k : ℕ). numbers_of a (take k lines)) e

pub kept_open : (half : Half) (records : List Record) (lines : List Line) (cursors : List ℕ) (journal : List Entry) (capacity interval : ℕ)
    (told : Bool) (opened now apart : ℕ) (s : State) → apart ≡ 0
    → journal ≡ [] → length cursors ≡ 64 → ((a : ℕ) → a < 64 → slice_index cursors a ≡ 0) → AreServable lines → AreRecords half records
    → length lines ≤ capacity → opened ≡ now → s.listed ≡ [] → s.turning ≡ None → s.epoch ≡ 0
    → (IsTrue told → s ≡ opening_of records interval)
    → CoreKeeps half records lines cursors journal capacity interval told opened now apart s
kept_open half records lines cursors journal capacity interval told opened now apart s nothing none size start_at servable recorded room
    same unlisted
    idle age start =
    let P : List Entry → Type 0 = λ j. CoreKeeps half records lines cursors j capacity interval told opened now apart s in
    subst P (sym none) (record {
      run = start;
      sound = λ t. subst (Sound half) (sym (start t)) (records_are_sound half records interval recorded);
      roots = λ t. subst (λ (o : Option ℕ). IfSome o (λ v. AreShaded s)) (sym idle) tt;
      listed_few = omega (arith, ap length unlisted);
      young = omega (arith, age);
      cursor_count = size;
      behind = λ a l. omega (arith, start_at a l);
      done = λ a l. sym (numbers_none a lines (slice_index cursors a) (start_at a l));
      waits = tt;
      known = λ k d l. absurd (omega (arith, l));
      servable = servable;
      recorded = recorded;
      room = room;
      since = omega (arith, same);
      fault_bound = inl (omega (arith, same, nothing));
    })

-- a count that stands at 0 has met no fault
pub none_failed : (n : ℕ) → RoseBy n 0 0 → n ≡ 0
none_failed n (inl few) = omega arith
none_failed n (inr top) = absurd (omega arith)

-- a fault that stands apart, too
pub apart_more : (n apart apart' opened now now' : ℕ) → RoseBy (n + apart) opened now → now ≤ now' → apart' ≤ suc apart → Rose now now'
    → RoseBy (n + apart') opened now'
apart_more n apart apart' opened now now' (inr top) later few rose = inr (omega arith)
apart_more n apart apart' opened now now' (inl b) later few (inl rose) = inl (omega (arith, few))
apart_more n apart apart' opened now now' (inl b) later few (inr top) = inr (omega (arith, top))
