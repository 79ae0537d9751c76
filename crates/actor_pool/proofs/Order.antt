-- The first line that is left is the next one of its actor, and isn't blocked.
use Rattle.std.proofs.Common.{◌≡◌, ℕ, ◌+◌, ◌<◌, ◌≤◌, Some, List, [], ◌∷◌, ◌++◌, map, length, take, drop, get_or, Bool, true, false, cond}
use Rattle.std.proofs.Common.{length-append}
use Rattle.std.proofs.Common.{refl, sym, ◌∙◌, ap, subst, arith}
use Rattle.std.specs.Prelude.{◌==◌, ◌||◌, nat_lt}
use Rattle.std.specs.List.{filter, list_any, All, Contains}
use Rattle.std.proofs.lemmas.Bool.{false≢true}
use Rattle.std.proofs.lemmas.Bool.Decides.{nat_tests}
use Rattle.std.proofs.lemmas.List.{append-nil, get_or-take, get_or-map, get_or_default, length-map, length-take, take_all, take-append-drop}
use Rattle.std.proofs.lemmas.List.Elements.{All-more, All-weaker}
use Rattle.std.proofs.lemmas.List.Folds.{list_any-append}
use Rattle.ledger_machine.specs.declared.commands.Line.{Line}
use Rattle.ledger_machine.specs.declared.journal.Entry.{Entry}
use Rattle.ledger_machine.specs.Runs.{answered_by, Projects, IsFull}
use Rattle.ledger_machine.specs.Scripts.{numbers_of, Rises}
use Rattle.script_form.specs.Servable.{AreServable, WaitsForEarlier}
use Rattle.ledger_machine.specs.Runs.{IsDone, IsBlocked, is_answered, next_line}
use Rattle.store_core.proofs.Counting.{part, parts_total, total-lt}
use Rattle.store_core.proofs.Finding.{rising}
use Rattle.store_core.proofs.Journals.{numbers-append}
use Rattle.store_core.proofs.Waiting.{answered_any, any_answered, number_at, same_place, next_at, next_left, blocked_at, drop_at}
use Rattle.store_core.specs.declared.core_calls.Stepped.{Stepped}
use Rattle.store_core.specs.declared.core_calls.Stepped.TheVariants as step
use Rattle.actor_pool.specs.Order.{AreAnswered}

-- numbers that rise from above n
abbrev Climbs : ℕ → List ℕ → Type 0
Climbs n [] = Unit {0}
Climbs n (x ∷ xs) = (n < x) × Climbs x xs

climbs_lower : (m n : ℕ) (xs : List ℕ) → m ≤ n → Climbs n xs → Climbs m xs
climbs_lower m n [] le up = tt
climbs_lower m n (x ∷ xs) le up = (omega (arith, up.0), up.1)

numbers_climb : (a n : ℕ) (lines : List Line) → Rises n lines → Climbs n (numbers_of a lines)
numbers_climb a n [] rise = tt
numbers_climb a n (l ∷ lines) rise =
    elim (l.actor == a) as (λ b. Climbs n
    (map (λ x. x.number) (cond b (l ∷ filter (λ x. x.actor == a) lines) (filter (λ x. x.actor == a) lines)))) [
      | true ↦ (rise.0, numbers_climb a l.number lines rise.1)
      | false ↦ climbs_lower n l.number (numbers_of a lines) (omega (arith, rise.0)) (numbers_climb a l.number lines rise.1)
    ]

climbs_front : (n : ℕ) (xs ys : List ℕ) → Climbs n (xs ++ ys) → Climbs n xs
climbs_front n [] ys up = tt
climbs_front n (x ∷ xs) ys up = (up.0, climbs_front x xs ys up.1)

-- x is among them
abbrev has : ℕ → List ℕ → Bool
has n xs = list_any (λ m. m == n) xs

above : (n m : ℕ) (xs : List ℕ) → Climbs n xs → has m xs ≡ true → n < m
above n m [] up h = absurd (false≢true h)
above n m (x ∷ xs) up h =
    elim (x == m) as (λ b. (x == m) ≡ b → (b || has m xs) ≡ true → n < m) [
      | true ↦ λ t _. let same : x ≡ m = grind (arith, nat_tests) in omega (arith, up.0, same)
      | false ↦ λ t rest. omega (arith, up.0, above x m xs up.1 rest)
    ] refl h

has_self : (x : ℕ) (xs : List ℕ) → has x (x ∷ xs) ≡ true
has_self x xs = let same : (x == x) ≡ true = grind (arith, nat_tests) in rw same refl

has_later : (x y : ℕ) (xs : List ℕ) → has y xs ≡ true → has y (x ∷ xs) ≡ true
has_later x y xs h = elim (x == y) as (λ b. (b || has y xs) ≡ true) [ true ↦ refl | false ↦ h ]

has_tail : (x y : ℕ) (xs : List ℕ) → x < y → has y (x ∷ xs) ≡ true → has y xs ≡ true
has_tail x y xs less h = let apart : (x == y) ≡ false = grind (arith, nat_tests) in rw apart at h

not_later : (x y : ℕ) (xs : List ℕ) → has y (x ∷ xs) ≡ false → has y xs ≡ false
not_later x y xs h =
    elim (has y xs) as (λ b. has y xs ≡ b → b ≡ false) [
      | true ↦ λ t. absurd (false≢true (sym h ∙ has_later x y xs t))
      | false ↦ λ t. refl
    ] refl

-- two fronts of one rising list, of which the first has all of the second but not what stands behind that
same_front : (n : ℕ) (xs rest ys more : List ℕ) → Climbs n (ys ++ more) → xs ++ rest ≡ ys ++ more
    → ((y : ℕ) → has y ys ≡ true → has y xs ≡ true) → ((y : ℕ) (later : List ℕ) → more ≡ y ∷ later → has y xs ≡ false) → xs ≡ ys
same_front n [] rest [] more up same all none = refl
same_front n (x ∷ xs) rest [] more up same all none = absurd (false≢true (sym (none x (xs ++ rest) (sym same)) ∙ has_self x xs))
same_front n [] rest (y ∷ ys) more up same all none = absurd (false≢true (all y (has_self y ys)))
same_front n (x ∷ xs) rest (y ∷ ys) more up same all none =
    let head : x ≡ y = cc in
    let tail : xs ++ rest ≡ ys ++ more = cc in
    let rest_same : xs ≡ ys = same_front y xs rest ys more up.1 tail
    (λ z h. has_tail x z xs (omega (arith, head, above y z ys (climbs_front y ys more up.1) h)) (all z (has_later y z ys h)))
    (λ z later e. not_later x z xs (none z later e)) in
    cc

entries_part : (a : ℕ) (es : List Entry) → part (λ (e : Entry). e.actor) es a ≡ length (answered_by a es)
entries_part a es = sym (length-map (filter (λ e. e.actor == a) es) (λ (e : Entry). e.line))

lines_part : (a : ℕ) (ls : List Line) → part (λ (l : Line). l.actor) ls a ≡ length (numbers_of a ls)
lines_part a ls = sym (length-map (filter (λ l. l.actor == a) ls) (λ (l : Line). l.number))

module _ (lines : List Line) (journal : List Entry) (servable : AreServable lines) (projects : Projects lines journal)
    (known : All (λ e. e.actor < 64) journal) where
  -- the entry of a line is one of its actor
  by_its_actor : (j : ℕ) (l : Line) → j < length lines → get_or lines j l ≡ l → is_answered journal l.number ≡ true
      → has l.number (answered_by l.actor journal) ≡ true
  by_its_actor j l lt is any =
      let by = any_answered l.number journal known any in
      let front = projects.fronts by.0 by.1 in
      let among : has l.number (numbers_of by.0 (take (length lines) lines)) ≡ true =
      ap (λ (w : List Line). has l.number (numbers_of by.0 w)) (take_all (length lines) lines (omega arith))
      ∙ (ap (has l.number) (sym front.1) ∙ (list_any-append (λ m. m == l.number) (answered_by by.0 journal) front.0 ∙ rw by.2 refl)) in
      let w = number_at by.0 l.number (length lines) lines among in
      let place : w.0 ≡ j = same_place lines servable.numbers_rise w.0 j w.1 l w.3 lt w.4 is w.6 in
      let line_is : w.1 ≡ l = sym w.4 ∙ (get_or_default lines w.0 w.1 l w.3 ∙ (ap (λ (n : ℕ). get_or lines n l) place ∙ is)) in
      let actor : by.0 ≡ l.actor = sym w.5 ∙ ap (λ (x : Line). x.actor) line_is in
      rw (← actor) by.2

  -- where the first lines are answered, each actor has answered its lines among them
  front_answered : (c : ℕ) → AreAnswered lines journal c → (a y : ℕ) → has y (numbers_of a (take c lines)) ≡ true
      → has y (answered_by a journal) ≡ true
  front_answered c all a y h =
      let w = number_at a y c lines h in
      let P : Line → Type 0 = λ l. is_answered journal l.number ≡ true in
      let any : is_answered journal w.1.number ≡ true = subst P (get_or-take c lines w.0 w.1 w.2 ∙ w.4)
      (all w.0 w.1 (omega (arith, w.2, w.3, length-take c lines))) in
      let Q : ℕ → Type 0 = λ b. has w.1.number (answered_by b journal) ≡ true in
      let R : ℕ → Type 0 = λ m. has m (answered_by a journal) ≡ true in
      subst R w.6 (subst Q w.5 (by_its_actor w.0 w.1 w.3 w.4 any))

  -- where all lines are answered, the projection is full
  pub answered_full : AreAnswered lines journal (length lines) → IsFull lines journal
  answered_full all a lt =
      let front = projects.fronts a lt in
      same_front 0 (answered_by a journal) front.0 (numbers_of a lines) []
      (rw append-nil (numbers_climb a 0 lines servable.numbers_rise))
      (front.1 ∙ sym (append-nil (numbers_of a lines)))
      (λ y h. front_answered (length lines) all a y
      (ap (λ (w : List Line). has y (numbers_of a w)) (take_all (length lines) lines (omega arith)) ∙ h))
      (λ y later e. cc)

  at_most : (a : ℕ) → a < 64 → part (λ (e : Entry). e.actor) journal a ≤ part (λ (l : Line). l.actor) lines a
  at_most a lt =
      let front = projects.fronts a lt in
      omega (arith, entries_part a journal, lines_part a lines, ap length front.1, length-append (answered_by a journal) front.0)

  -- where there are as many entries as lines, the projection is full
  pub counted_full : length lines ≤ length journal → IsFull lines journal
  counted_full enough a lt = whole (projects.fronts a lt).0 (projects.fronts a lt).1
    where
      whole : (rest : List ℕ) → answered_by a journal ++ rest ≡ numbers_of a lines → answered_by a journal ≡ numbers_of a lines
      whole [] is = sym (append-nil (answered_by a journal)) ∙ is
      whole (x ∷ rest) is =
          let fewer : part (λ (e : Entry). e.actor) journal a < part (λ (l : Line). l.actor) lines a =
          omega (arith, entries_part a journal, lines_part a lines, ap length is, length-append (answered_by a journal) (x ∷ rest)) in
          absurd (omega (
            arith,
            enough,
            parts_total 64 (λ (e : Entry). e.actor) journal known,
            parts_total 64 (λ (l : Line). l.actor) lines servable.actors_known,
            total-lt 64 (part (λ (e : Entry). e.actor) journal) (part (λ (l : Line). l.actor) lines) at_most a lt fewer,
          ))

  module _ (at : ℕ) (line : Line) (lt : at < length lines) (is : line ≡ get_or lines at line) (all : AreAnswered lines journal at)
      (left : is_answered journal line.number ≡ false) where
    actor_known : line.actor < 64
    actor_known = let P : Line → Type 0 = λ l. l.actor < 64 in subst P (sym is) (servable.actors_known at line lt)

    -- it is its actor's next one
    pub first_next : next_line lines journal line.actor ≡ Some line
    first_next =
        let a = line.actor in
        let front = projects.fronts line.actor actor_known in
        let yes : (line.actor == line.actor) ≡ true = grind (arith, nat_tests) in
        let whole : numbers_of line.actor lines ≡ numbers_of line.actor (take at lines) ++ line.number ∷ numbers_of line.actor
        (drop (at + 1) lines) =
        ap (numbers_of line.actor)
        (sym (take-append-drop at lines) ∙ ap (λ (w : List Line). take at lines ++ w) (drop_at lines at line lt is))
        ∙ (numbers-append line.actor (take at lines) (line ∷ drop (at + 1) lines) ∙ rw yes refl) in
        next_at lines journal line.actor at line lt is refl
        (same_front 0 (answered_by line.actor journal) front.0 (numbers_of line.actor (take at lines))
        (line.number ∷ numbers_of line.actor (drop (at + 1) lines))
        (rw (← whole) (numbers_climb line.actor 0 lines servable.numbers_rise))
        (front.1 ∙ whole)
        (λ y h. front_answered at all line.actor y h)
        (λ y later e.
        let head : line.number ≡ y = cc in
        elim (has line.number (answered_by line.actor journal)) as
        (λ b. has line.number (answered_by line.actor journal) ≡ b → has y (answered_by line.actor journal) ≡ false) [
          | true ↦ λ t. absurd (false≢true (sym left ∙ answered_any line.actor line.number journal t))
          | false ↦ λ f. rw (← head) f
        ] refl))

    pub first_left : IsDone lines journal line.actor → ⊥
    first_left = next_left lines journal line.actor line first_next

    -- what it waits for is an earlier line
    pub first_free : IsBlocked lines journal line.actor → ⊥
    first_free blocked =
        let by = blocked_at lines journal line.actor line first_next blocked in
        let waits : (line.after < line.number) × Contains (map (λ (x : Line). x.number) lines) line.after =
        subst (WaitsForEarlier lines) (sym is) (servable.waiting at line lt) by.0 in
        let j = waits.1.0 in
        let within : j < length lines = omega (arith, waits.1.1, length-map lines (λ (x : Line). x.number)) in
        let number : (get_or lines j line).number ≡ line.after = number_of j within waits.1.2 in
        let earlier : j < at = before j within (omega (arith, number, waits.0)) in
        let any : is_answered journal line.after ≡ true =
        ap (is_answered journal) (sym (ap (λ (x : Line). x.number) (get_or-take at lines j line earlier) ∙ number))
        ∙ all j line (omega (arith, earlier, within, length-take at lines)) in
        false≢true (sym by.1 ∙ any)
      where
        number_of : (j : ℕ) → j < length lines → get_or (map (λ (x : Line). x.number) lines) j line.after ≡ line.after
            → (get_or lines j line).number ≡ line.after
        number_of j within e = sym (get_or-map (λ (x : Line). x.number) lines j line line.after within) ∙ e

        before : (j : ℕ) → j < length lines → (get_or lines j line).number < line.number → j < at
        before j within less =
            elim (nat_lt j at) as (λ b. nat_lt j at ≡ b → j < at) [
              | true ↦ λ t. grind (arith, nat_tests)
              | false ↦ λ t. elim (nat_lt at j) as (λ b. nat_lt at j ≡ b → j < at) [
                | true ↦ λ u.
                    let after : at < j = grind (arith, nat_tests) in
                    absurd (omega (
                      arith,
                      less,
                      rising 0 lines servable.numbers_rise at j line line after within,
                      ap
                          (λ (x : Line). x.number) is,
                    ))
                | false ↦ λ u.
                    let here : j ≡ at = grind (arith, nat_tests) in
                    absurd (omega (arith, less, ap (λ (n : ℕ). (get_or lines n line).number) here, ap (λ (x : Line). x.number) is))
              ] refl
            ] refl

    -- with its entry the lines up to it are answered
    pub first_more : (more : List Entry) (e : Entry) → more ≡ journal ++ e ∷ [] → e.line ≡ line.number → AreAnswered lines more (at + 1)
    first_more more e grown number =
        All-more (λ l. is_answered more l.number ≡ true) lines at line lt
        (All-weaker (λ l. is_answered journal l.number ≡ true) (λ l. is_answered more l.number ≡ true) (λ l any. kept l.number any)
        (take at lines) all)
        (ap (is_answered more) (ap (λ (l : Line). l.number) (sym is)) ∙ new)
      where
        last : (b : Bool) → (b || true) ≡ true
        last true = refl
        last false = refl

        kept : (n : ℕ) → is_answered journal n ≡ true → is_answered more n ≡ true
        kept n any =
            ap (λ (w : List Entry). is_answered w n) grown ∙ (list_any-append (λ (x : Entry). x.line == n) journal (e ∷ []) ∙ rw any refl)

        new : is_answered more line.number ≡ true
        new =
            let here : (e.line == line.number) ≡ true = grind (arith, nat_tests) in
            ap (λ (w : List Entry). is_answered w line.number) grown
            ∙ (list_any-append (λ (x : Entry). x.line == line.number) journal (e ∷ [])
            ∙ rw here (last (is_answered journal line.number)))

-- what is neither a slice, nor blocked, nor finished was answered
pub no_other : (r : Stepped) → (r ≡ step.Answered → ⊥) → (r ≡ step.More → ⊥) → (r ≡ step.Blocked → ⊥) → (r ≡ step.Finished → ⊥) → ⊥
no_other step.Answered a m b f = a refl
no_other step.More a m b f = m refl
no_other step.Blocked a m b f = b refl
no_other step.Finished a m b f = f refl

-- what a place of a copy of the lines reads
pub read_line : (lines ls : List Line) (at : ℕ) (line : Line) → ls ≡ lines → line ≡ get_or ls at line → line ≡ get_or lines at line
read_line lines ls at line same is = is ∙ ap (λ (w : List Line). get_or w at line) same
