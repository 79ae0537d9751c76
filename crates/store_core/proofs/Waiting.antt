-- Which lines have their entries, and which lines wait.
use Rattle.std.proofs.Common.{◌≡◌, ◌≢◌, ◌⊎◌, inl, inr, ℕ, zero, suc, ◌+◌, ◌<◌, ◌≤◌, Option, Some, None, List, [], ◌∷◌, ◌++◌, map, length}
use Rattle.std.proofs.Common.{take, drop, get_or, Bool, true, false, cond, refl, sym, ◌∙◌, ap, subst, arith}
use Rattle.std.specs.Prelude.{◌==◌, ◌&&◌, ◌||◌, nat_lt, slice_get, IsSomeAnd}
use Rattle.std.specs.List.{filter, list_any, All, Contains}
use Rattle.std.proofs.lemmas.Bool.{false≢true}
use Rattle.std.proofs.lemmas.Bool.Decides.{nat_tests}
use Rattle.std.proofs.lemmas.List.{length-map, get_or-take, get_or_default, length-take, take-append-drop}
use Rattle.std.proofs.lemmas.List.Elements.{filter-append, Contains-append_right}
use Rattle.std.proofs.lemmas.List.Folds.{Any-from_list_any, list_any_at}
use Rattle.std.proofs.lemmas.Option.{slice_get_past, none-some}
use Rattle.ledger_machine.specs.Runs.{answered_by, Waits}
use Rattle.ledger_machine.specs.Scripts.{numbers_of, line_of, Rises}
use Rattle.ledger_machine.specs.declared.commands.Line.{Line}
use Rattle.ledger_machine.specs.declared.journal.Entry.{Entry}
use Rattle.ledger_machine.specs.Runs.{IsDone, IsBlocked, is_answered, next_line}
use Rattle.store_core.specs.Journal.{AllBefore}
use Rattle.store_core.proofs.Finding.{rising}

both_true : (b c : Bool) → (b && c) ≡ true → (b ≡ true) × (c ≡ true)
both_true true c e = (refl, e)
both_true false c e = cc

-- a number among those of a key
any_keyed : {X : Type 0} (key num : X → ℕ) (a n : ℕ) (xs : List X)
    → list_any (λ m. m == n) (map num (filter (λ x. key x == a) xs)) ≡ list_any (λ x. (key x == a) && (num x == n)) xs
any_keyed key num a n [] = refl
any_keyed key num a n (x ∷ xs) =
    elim (key x == a) as (λ b. list_any (λ m. m == n) (map num (cond b (x ∷ filter (λ y. key y == a) xs) (filter (λ y. key y == a) xs))) ≡
    ((b && (num x == n)) || list_any (λ y. (key y == a) && (num y == n)) xs)) [
      | true ↦ ap (λ (b : Bool). (num x == n) || b) (any_keyed key num a n xs)
      | false ↦ any_keyed key num a n xs
    ]

-- it is that of an element
keyed_at : {X : Type 0} (key num : X → ℕ) (a n : ℕ) (xs : List X) → list_any (λ m. m == n) (map num (filter (λ x. key x == a) xs)) ≡ true
    → (k : ℕ) × (x : X) × (k < length xs) × (get_or xs k x ≡ x) × (key x ≡ a) × (num x ≡ n)
keyed_at key num a n xs h =
    let w = Any-from_list_any (λ x. (key x == a) && (num x == n)) xs (sym (any_keyed key num a n xs) ∙ h) in
    let tests = both_true (key w.1 == a) (num w.1 == n) w.4 in
    (w.0, w.1, w.2, w.3, (let t = tests.0 in grind (arith, nat_tests)), (let t = tests.1 in grind (arith, nat_tests)))

at_keyed : {X : Type 0} (key num : X → ℕ) (xs : List X) (k : ℕ) (x : X) → k < length xs → get_or xs k x ≡ x
    → list_any (λ m. m == num x) (map num (filter (λ y. key y == key x) xs)) ≡ true
at_keyed key num xs k x lt is =
    any_keyed key num (key x) (num x) xs
    ∙ list_any_at (λ y. (key y == key x) && (num y == num x)) xs k x lt
    (ap (λ y. (key y == key x) && (num y == num x)) is ∙ both (key x) (num x))
  where
    both : (m n : ℕ) → ((m == m) && (n == n)) ≡ true
    both m n =
        let one : (m == m) ≡ true = grind (arith, nat_tests) in
        let two : (n == n) ≡ true = grind (arith, nat_tests) in
        rw (one, two) refl

-- a number that an actor has answered has an entry
pub answered_any : (a n : ℕ) (es : List Entry) → list_any (λ m. m == n) (answered_by a es) ≡ true → is_answered es n ≡ true
answered_any a n es h =
    let w = keyed_at (λ (e : Entry). e.actor) (λ (e : Entry). e.line) a n es h in
    let yes : (w.1.line == n) ≡ true = let same = w.5 in grind (arith, nat_tests) in
    list_any_at (λ (e : Entry). e.line == n) es w.0 w.1 w.2 (ap (λ (e : Entry). e.line == n) w.3 ∙ yes)

-- an entry is one of a known actor
pub any_answered : (n : ℕ) (es : List Entry) → All (λ e. e.actor < 64) es → is_answered es n ≡ true
    → (a : ℕ) × (a < 64) × (list_any (λ m. m == n) (answered_by a es) ≡ true)
any_answered n es known h =
    let w = Any-from_list_any (λ (e : Entry). e.line == n) es h in
    let same : w.1.line ≡ n = let t = w.4 in grind (arith, nat_tests) in
    let P : Entry → Type 0 = λ e. e.actor < 64 in
    let Q : ℕ → Type 0 = λ m. list_any (λ k. k == m) (answered_by w.1.actor es) ≡ true in (
      w.1.actor,
      subst P w.3 (known w.0 w.1 w.2),
      subst Q same
          (at_keyed (λ (e : Entry). e.actor) (λ (e : Entry). e.line) es w.0 w.1 w.2 w.3),
    )

-- an actor's line of the number stands among the first c
pub number_at : (a n c : ℕ) (lines : List Line) → list_any (λ m. m == n) (numbers_of a (take c lines)) ≡ true
    → (j : ℕ) × (l : Line) × (j < c) × (j < length lines) × (get_or lines j l ≡ l) × (l.actor ≡ a) × (l.number ≡ n)
number_at a n c lines h =
    let w = keyed_at (λ (l : Line). l.actor) (λ (l : Line). l.number) a n (take c lines) h in
    let within : w.0 < c = omega (arith, w.2, length-take c lines) in
    (w.0, w.1, within, omega (arith, w.2, length-take c lines), sym (get_or-take c lines w.0 w.1 within) ∙ w.3, w.4, w.5)

pub number_in : (lines : List Line) (c j : ℕ) (l : Line) → j < c → j < length lines → get_or lines j l ≡ l
    → list_any (λ m. m == l.number) (numbers_of l.actor (take c lines)) ≡ true
number_in lines c j l before within is =
    at_keyed (λ (x : Line). x.actor) (λ (x : Line). x.number) (take c lines) j l (omega (arith, before, within, length-take c lines))
    (get_or-take c lines j l before ∙ is)

-- two lines of one number are one line
pub same_place : (lines : List Line) → Rises 0 lines → (j k : ℕ) (l m : Line) → j < length lines → k < length lines → get_or lines j l ≡ l
    → get_or lines k m ≡ m → l.number ≡ m.number → j ≡ k
same_place lines rise j k l m lj lk at_j at_k same =
    elim (nat_lt j k) as (λ b. nat_lt j k ≡ b → j ≡ k) [
      | true ↦ λ h.
          let before : j < k = grind (arith, nat_tests) in
          absurd (omega (
            arith,
            rising 0 lines rise j k l m before lk,
            ap (λ (x : Line). x.number) at_j,
            ap (λ (x : Line). x.number) at_k,
            same,
          ))
      | false ↦ λ h. elim (nat_lt k j) as (λ b. nat_lt k j ≡ b → j ≡ k) [
        | true ↦ λ t.
            let before : k < j = grind (arith, nat_tests) in
            absurd (omega (
              arith,
              rising 0 lines rise k j m l before lj,
              ap (λ (x : Line). x.number) at_j,
              ap
                  (λ (x : Line). x.number) at_k,
              same,
            ))
        | false ↦ λ t. grind (arith, nat_tests)
      ] refl
    ] refl

-- no line has the number, where the first that is not below it has another
pub none_there : (lines : List Line) → Rises 0 lines → (at number : ℕ) (l : Line) → at < length lines → AllBefore lines at number
    → l ≡ get_or lines at l → number ≤ l.number → l.number ≢ number → (j : ℕ) (d : Line) → j < length lines
    → (get_or lines j d).number ≢ number
none_there lines rise at number l lt below is more other j d within same =
    elim (nat_lt j at) as (λ b. nat_lt j at ≡ b → ⊥) [
      | true ↦ λ h. let before : j < at = grind (arith, nat_tests) in omega (arith, below j d before within, same)
      | false ↦ λ h. elim (nat_lt at j) as (λ b. nat_lt at j ≡ b → ⊥) [
        | true ↦ λ t.
            let after : at < j = grind (arith, nat_tests) in
            omega (arith, rising 0 lines rise at j l d after within, ap (λ (x : Line). x.number) is, more, same)
        | false ↦ λ t.
            let here : j ≡ at = grind (arith, nat_tests) in
            other (ap (λ (x : Line). x.number) (is ∙ (ap (λ (n : ℕ). get_or lines n l) (sym here) ∙ get_or_default lines j l d within))
            ∙ same)
      ] refl
    ] refl

-- one entry more, whose line waits for none or for one that has its entry
pub waits_more : (lines : List Line) (done : List ℕ) (es : List Entry) (e : Entry) → Waits lines done es
    → ((l : Line) → line_of lines e.line ≡ Some l → l.after ≢ 0 → Contains done l.after ⊎ (is_answered es l.after ≡ true))
    → Waits lines done (es ++ e ∷ [])
waits_more lines done [] e w before =
    ((λ l found waits. elim (before l found waits) [ inl c ↦ c | inr any ↦ absurd (false≢true any) ]), tt)
waits_more lines done (x ∷ es) e w before = (
  w.0,
  waits_more lines (x.line ∷ done) es e w.1 (λ l found waits. elim (before l found waits) [
    | inl c ↦ inl (Contains-append_right (x.line ∷ []) done l.after c)
    | inr any ↦ here x es done l.after any
  ]),
)
  where
    here : (x : Entry) (es : List Entry) (done : List ℕ) (n : ℕ) → is_answered (x ∷ es) n ≡ true
        → Contains (x.line ∷ done) n ⊎ (is_answered es n ≡ true)
    here x es done n any =
        elim (x.line == n) as (λ b. (x.line == n) ≡ b → (b || is_answered es n) ≡ true
        → Contains (x.line ∷ done) n ⊎ (is_answered es n ≡ true)) [
          | true ↦ λ t h. inl (0, omega arith, grind (arith, nat_tests))
          | false ↦ λ t h. inr h
        ] refl any

-- an actor that is done has no next line
pub done_none : (lines : List Line) (journal : List Entry) (a : ℕ) → IsDone lines journal a → next_line lines journal a ≡ None
done_none lines journal a done =
    slice_get_past (filter (λ (l : Line). l.actor == a) lines) (length (answered_by a journal))
    (omega (arith, ap length done, length-map (filter (λ (l : Line). l.actor == a) lines) (λ (l : Line). l.number)))

-- so it isn't blocked
pub done_free : (lines : List Line) (journal : List Entry) (a : ℕ) → IsDone lines journal a → IsBlocked lines journal a → ⊥
done_free lines journal a done blocked =
    let P : Option Line → Type 0 = λ o. IsSomeAnd o (λ l. (l.after ≢ 0) × (is_answered journal l.after ≡ false)) in
    subst P (done_none lines journal a done) blocked

-- an actor with a next line isn't done
pub next_left : (lines : List Line) (journal : List Entry) (a : ℕ) (l : Line) → next_line lines journal a ≡ Some l → IsDone lines journal a
    → ⊥
next_left lines journal a l next done = none-some l (sym (done_none lines journal a done) ∙ next)

-- whether it is blocked is said by that line
pub blocked_by : (lines : List Line) (journal : List Entry) (a : ℕ) (l : Line) → next_line lines journal a ≡ Some l → l.after ≢ 0
    → is_answered journal l.after ≡ false → IsBlocked lines journal a
blocked_by lines journal a l next waits none =
    let P : Option Line → Type 0 = λ o. IsSomeAnd o (λ x. (x.after ≢ 0) × (is_answered journal x.after ≡ false)) in
    subst P (sym next) (waits, none)

pub blocked_at : (lines : List Line) (journal : List Entry) (a : ℕ) (l : Line) → next_line lines journal a ≡ Some l
    → IsBlocked lines journal a → (l.after ≢ 0) × (is_answered journal l.after ≡ false)
blocked_at lines journal a l next blocked =
    let P : Option Line → Type 0 = λ o. IsSomeAnd o (λ x. (x.after ≢ 0) × (is_answered journal x.after ≡ false)) in subst P next blocked

-- two readings of one place
pub same_line : (lines : List Line) (at : ℕ) (l m : Line) → at < length lines → l ≡ get_or lines at l → m ≡ get_or lines at m → l ≡ m
same_line lines at l m lt one two = one ∙ (get_or_default lines at l m lt ∙ sym two)

-- the rest of a list from a place on
pub drop_at : (lines : List Line) (at : ℕ) (line : Line) → at < length lines → line ≡ get_or lines at line
    → drop at lines ≡ line ∷ drop (at + 1) lines
drop_at [] at line lt is = absurd (omega arith)
drop_at (l ∷ lines) zero line lt is = ap (λ (x : Line). x ∷ lines) (sym is)
drop_at (l ∷ lines) (suc at) line lt is = let e : suc at + 1 ≡ suc (at + 1) = omega arith in rw e (drop_at lines at line (omega arith) is)

-- what stands behind a list
slice_get_seam : (xs : List Line) (x : Line) (ys : List Line) → slice_get (xs ++ x ∷ ys) (length xs) ≡ Some x
slice_get_seam [] x ys = refl
slice_get_seam (w ∷ xs) x ys = slice_get_seam xs x ys

-- the actor's line at a place is its next one, where it has answered its lines before that
pub next_at : (lines : List Line) (journal : List Entry) (a at : ℕ) (line : Line) → at < length lines → line ≡ get_or lines at line
    → line.actor ≡ a → answered_by a journal ≡ numbers_of a (take at lines) → next_line lines journal a ≡ Some line
next_at lines journal a at line lt is actor done =
    let yes : (line.actor == a) ≡ true = grind (arith, nat_tests) in
    let front : length (answered_by a journal) ≡ length (filter (λ (l : Line). l.actor == a) (take at lines)) = ap length done
    ∙ length-map (filter (λ (l : Line). l.actor == a) (take at lines)) (λ (l : Line). l.number) in
    let whole : filter (λ (l : Line). l.actor == a) lines ≡ filter (λ (l : Line). l.actor == a) (take at lines) ++ line ∷ filter
    (λ (l : Line). l.actor == a) (drop (at + 1) lines) =
    ap (filter (λ (l : Line). l.actor == a))
    (sym (take-append-drop at lines) ∙ ap (λ (w : List Line). take at lines ++ w) (drop_at lines at line lt is))
    ∙ (filter-append (λ (l : Line). l.actor == a) (take at lines) (line ∷ drop (at + 1) lines) ∙ rw yes refl) in
    ap (slice_get (filter (λ (l : Line). l.actor == a) lines)) front
    ∙ (ap (λ (w : List Line). slice_get w (length (filter (λ (l : Line). l.actor == a) (take at lines)))) whole
    ∙ slice_get_seam (filter (λ (l : Line). l.actor == a) (take at lines)) line (filter (λ (l : Line). l.actor == a) (drop (at + 1) lines)))

-- the line at a place
pub read_at : (lines : List Line) (at : ℕ) → at < length lines → (l : Line) × (l ≡ get_or lines at l)
read_at [] at lt = absurd (omega arith)
read_at (l ∷ lines) zero lt = (l, refl)
read_at (l ∷ lines) (suc at) lt = read_at lines at (omega arith)
