-- Each ledger that is whole is complete, where it is wanted and checked in a store that retains nothing else.
use Rattle.std.proofs.Common.{◌≡◌, ⊎_elim, ◌+◌, ◌<◌, not, nat_lt, ℕ, zero, suc, Bool, true, false, cond, List, [], ◌∷◌, map}
use Rattle.std.proofs.Common.{length, Option, Some, None, Contains, is_some, refl, sym, ap, ◌∙◌, subst, arith, IsSomeAnd, filter_map}
use Rattle.std.specs.List.{count_by}
use Rattle.std.specs.List.Sorted.{IsStrictlySortedBy}
use Rattle.std.specs.Prelude.{slice_get, IsTrue}
use Rattle.std.specs.Option.{option_map}
use Rattle.std.specs.Ordering.{is_eq}
use Rattle.std.specs.declared.cmp.Ordering.{Ordering}
use Rattle.std.specs.declared.cmp.Ordering.TheVariants.{Less, Equal}
use Rattle.std.specs.Cmp.{tied_itself}
use Rattle.std.specs.Cmp.Lexicographic.{nat_list_cmp_total}
use Rattle.std.proofs.lemmas.Bool.{eq-eqb, ne_eqb, le-ltb}
use Rattle.std.proofs.lemmas.List.Elements.{All-head, All-tail, All-contains, All-from_recursion}
use Rattle.std.proofs.lemmas.List.Sums.{sum_by-cons}
use Rattle.std.proofs.lemmas.Option.{none-some}
use Rattle.ledger_spec.specs.Maps.{ForHash, hash_cmp, get_in, insert_in, remove_in}
use Rattle.ledger_spec.specs.Bytes.{Bytes, Hash, Half, Lookup, is_zero, is_nonzero}
use Rattle.ledger_spec.specs.Forms.{Held}
use Rattle.ledger_spec.specs.Header.{seq_of, state_root_of}
use Rattle.ledger_spec.specs.Spots.{header_in}
use Rattle.ledger_spec.specs.Findings.{Finding, up_to, seen, first_broken, missing_of}
use Rattle.ledger_spec.specs.Acquiring.{Acquiring, acquiring, Verdict, complete, header_verdict, check_verdict}
use Rattle.ledger_machine.specs.declared.commands.Command.{Command}
use Rattle.ledger_machine.specs.declared.commands.Command.TheVariants as command
use Rattle.ledger_machine.specs.declared.commands.Line.{Line}
use Rattle.ledger_machine.specs.declared.journal.Entry.{Entry}
use Rattle.ledger_machine.specs.declared.commands.Reply.{Reply}
use Rattle.ledger_machine.specs.declared.commands.Reply.TheVariants as says
use Rattle.ledger_machine.specs.declared.commands.WantReply.TheVariants as want
use Rattle.ledger_spec.specs.declared.replies.CheckReply.TheVariants as check
use Rattle.ledger_machine.specs.Check.{verdict_of, check_given, check_reply, after_check, told_by}
use Rattle.ledger_spec.specs.Replies.{check_said}
use Rattle.ledger_machine.specs.Runs.{Answers, Run, used_by}
use Rattle.ledger_machine.specs.Scripts.{line_of, Rises}
use Rattle.ledger_machine.specs.Sound.{IsWholeLedger}
use Rattle.ledger_machine.specs.State.{State, form_in, ended, listed_with, stored_seq}
use Rattle.ledger_machine.specs.Steps.{Outcomes, Gives, IsAfter}
use Rattle.ledger_machine.specs.Want.{want_reply, after_want}
use Rattle.ledger_laws.proofs.shared.SoundCheck.{get_inserted}
use Rattle.ledger_laws.proofs.shared.SoundForms.{some_same, in_head, in_tail}
use Rattle.core_machine.specs.Totals.{completes, is_complete}
use Rattle.stop_run.specs.Looking.{line_with, lines_behind, is_unlucky, AreLucky}

-- what can't be
true_false : {A : Type 0} → true ≡ false → A
true_false e = absurd (cc)

-- a lucky `want` and a lucky `check` are answered by their rows
want_row : (half : Half) (s : State) (t : Hash) (reply : Reply) (used : List Held) (s' : State)
    → Outcomes half s 0 (command.Want t 0) reply used s' → is_unlucky reply ≡ false
    → Gives (says.Want (want_reply s t 0)) (after_want s t 0 (want_reply s t 0)) reply s'
want_row half s t says.Fault used s' o lucky = true_false lucky
want_row half s t says.Memory used s' o lucky = true_false lucky
want_row half s t (says.Clash h old new) used s' o lucky = absurd o.0
want_row half s t (says.ZeroHash form) used s' o lucky = absurd o.0
want_row half s t _ used s' o lucky = o

check_row : (half : Half) (s : State) (t : Hash) (reply : Reply) (used : List Held) (s' : State)
    → Outcomes half s 0 (command.Check t) reply used s' → is_unlucky reply ≡ false
    → Gives (says.Check (check_reply half s t)) (after_check s t (stored_seq s t) (check_reply half s t)) reply s'
check_row half s t says.Fault used s' o lucky = true_false lucky
check_row half s t says.Memory used s' o lucky = true_false lucky
check_row half s t (says.Clash h old new) used s' o lucky = absurd o.0
check_row half s t (says.ZeroHash form) used s' o lucky = absurd o.0
check_row half s t _ used s' o lucky = o

-- A state in which each of these ledgers is whole and none is listed, none is wanted, and no sequence is too low.
pub record AreReady (half : Half) (ts : List Hash) (s : State) : Type 0 where
  pub wanted : s.wanted ≡ []
  pub floor : s.floor ≡ 0
  pub whole : (t : Hash) → Contains ts t → IsWholeLedger half (form_in s) t
  pub unlisted : (t : Hash) → Contains ts t → get_in hash_cmp s.listed t ≡ None

-- one that isn't listed may be wanted where nothing is
want_opens : (s : State) (t : Hash) → s.wanted ≡ [] → get_in hash_cmp s.listed t ≡ None → want_reply s t 0 ≡ want.Opened
want_opens s t none unlisted = rw (ap (λ (o : Option ℕ). is_some o) unlisted) (rw none refl)

-- the acquisition that is open then
abbrev open_one : Hash → ForHash Acquiring
open_one t = (t, acquiring t 0) ∷ []

found_one : (t : Hash) → get_in hash_cmp (open_one t) t ≡ Some (acquiring t 0)
found_one t = ap (λ (o : Ordering). cond (is_eq o) (Some (acquiring t 0)) None) (tied_itself nat_list_cmp_total t)

removed_one : (t : Hash) → remove_in hash_cmp (open_one t) t ≡ []
removed_one t = ap (λ (o : Ordering). cond (is_eq o) [] (open_one t)) (tied_itself nat_list_cmp_total t)

-- a ledger without findings is complete where any sequence is asked for and none is too low
not_so : (b : Bool) → IsTrue (not b) → b ≡ false
not_so true isnt = true_false (sym isnt)
not_so false isnt = refl

none_below : (n : ℕ) → nat_lt n 0 ≡ false
none_below n = le-ltb n 0 (omega arith)

fine_header : (seq : ℕ) (root : Hash) (rest : Verdict) → is_zero root ≡ false → header_verdict 0 0 seq root rest ≡ rest
fine_header seq root rest nonzero = rw nonzero (rw (none_below seq) refl)

whole_found : (a : Acquiring) (floor : ℕ) (header : Option Bytes) (found : List Finding) → a.seq ≡ 0 → floor ≡ 0 → found ≡ []
    → IsSomeAnd header (λ h. IsTrue (is_nonzero (state_root_of h)))
    → check_verdict a floor (option_map told_by header) (first_broken found) (filter_map missing_of found) ≡ complete
whole_found a floor None found any low none nonzero = absurd nonzero
whole_found a floor (Some h) found any low none nonzero =
    rw any (rw low (rw none (fine_header (seq_of h) (state_root_of h) complete (not_so (is_zero (state_root_of h)) nonzero))))

whole_verdict : (half : Half) (s : State) (t : Hash) → s.floor ≡ 0 → IsWholeLedger half (form_in s) t
    → verdict_of half s t (acquiring t 0) ≡ complete
whole_verdict half s t floor whole =
    whole_found (acquiring t 0) s.floor (header_in (form_in s) t) (seen half (form_in s) t) refl floor (ap (up_to 256) whole.whole) whole.header

-- a state with this acquisition alone answers a check of such a ledger so
whole_checks : (half : Half) (s : State) (t : Hash) → s.wanted ≡ open_one t → s.floor ≡ 0 → IsWholeLedger half (form_in s) t
    → check_reply half s t ≡ check.Complete
whole_checks half s t wanted floor whole =
    ap (check_given half s t) (ap (λ (w : ForHash Acquiring). get_in hash_cmp w t) wanted ∙ found_one t)
    ∙ ap check_said (whole_verdict half s t floor whole)

-- another hash than one that it comes after
other_hash : (t u : Hash) → hash_cmp t u ≡ Less → (u ≡ t) → ⊥
other_hash t u less same = no_less (sym less ∙ ap (hash_cmp t) same ∙ tied_itself nat_list_cmp_total t)
  where
    no_less : Less ≡ Equal → ⊥
    no_less e = absurd (cc)

-- what isn't listed isn't when another ledger is
not_listed : (listed : ForHash ℕ) (t u : Hash) (seq : ℕ) → get_in hash_cmp listed u ≡ None → ((u ≡ t) → ⊥)
    → get_in hash_cmp (insert_in hash_cmp listed t seq) u ≡ None
not_listed listed t u seq none other = at (get_in hash_cmp (insert_in hash_cmp listed t seq) u) refl
  where
    at : (o : Option ℕ) → get_in hash_cmp (insert_in hash_cmp listed t seq) u ≡ o → o ≡ None
    at None e = refl
    at (Some v) e = ⊎_elim (λ same. absurd (other same.0)) (λ old. absurd (none-some _ (sym none ∙ old))) (get_inserted listed t seq u v e)

-- after the two lines of a ledger the others are ready
ready_next : (half : Half) (t : Hash) (ts : List Hash) (s s1 s2 : State) (seq : ℕ) → IsStrictlySortedBy hash_cmp (t ∷ ts)
    → AreReady half (t ∷ ts) s → IsAfter (record s { wanted = open_one t }) s1 → IsAfter (ended (listed_with s1 t seq) t) s2
    → AreReady half ts s2
unfolding IsStrictlySortedBy
ready_next half t ts s s1 s2 seq rise ready one two = record {
  wanted = ap (λ (x : State). x.wanted) two
      ∙ ap (λ (w : ForHash Acquiring). remove_in hash_cmp w t) (ap (λ (x : State). x.wanted) one) ∙ removed_one t;
  floor = ap (λ (x : State). x.floor) two ∙ ap (λ (x : State). x.floor) one ∙ ready.floor;
  whole = λ u among. subst (λ (x : Lookup). IsWholeLedger half x u)
      (sym (ap form_in two ∙ ap form_in one)) (ready.whole u (in_tail t u ts among));
  unlisted = λ u among.
      ap (λ (x : State). get_in hash_cmp x.listed u) two
      ∙ ap (λ (x : State). get_in hash_cmp (insert_in hash_cmp x.listed t seq) u) one
      ∙ not_listed s.listed t u seq (ready.unlisted u (in_tail t u ts among))
      (other_hash t u (All-contains (λ (y : Hash). hash_cmp t y ≡ Less) ts u (All-from_recursion (λ (y : Hash). hash_cmp t y ≡ Less) ts rise.0) among));
}

-- a line that stands among rising ones is the one of its number
later_number : (n : ℕ) (lines : List Line) (place : ℕ) (line : Line) → Rises n lines → slice_get lines place ≡ Some line → n < line.number
later_number n [] place line rise e = absurd (none-some _ e)
later_number n (l ∷ lines) zero line rise e = subst (λ (x : Line). n < x.number) (some_same e) rise.0
later_number n (l ∷ lines) (suc place) line rise e = omega (arith, rise.0, later_number l.number lines place line rise.1 e)

pub found_line : (n : ℕ) (lines : List Line) (place : ℕ) (line : Line) → Rises n lines → slice_get lines place ≡ Some line
    → line_of lines line.number ≡ Some line
found_line n [] place line rise e = absurd (none-some _ e)
found_line n (l ∷ lines) zero line rise e =
    let same : l ≡ line = some_same e in
    ap (λ (b : Bool). cond b (Some l) (line_of lines line.number)) (eq-eqb l.number line.number (ap (λ (x : Line). x.number) same))
    ∙ ap (λ (x : Line). Some x) same
found_line n (l ∷ lines) (suc place) line rise e =
    let up = later_number l.number lines place line rise.1 e in
    ap (λ (b : Bool). cond b (Some l) (line_of lines line.number)) (ne_eqb l.number line.number (λ (same : l.number ≡ line.number). absurd (omega arith)))
    ∙ found_line l.number lines place line rise.1 e

-- what the entry of a line answers
line_answered : (half : Half) (lines : List Line) (k : ℕ) (c : Command) (s : State) (e : Entry) (s' : State) → Rises 0 lines
    → line_of lines e.line ≡ Some (line_with k c) → Answers half lines s e s' → Outcomes half s 0 c e.reply (used_by e) s'
line_answered half lines k c s e s' rise at answers =
    let same : answers.line ≡ line_with k c =
    some_same (sym (found_line 0 lines answers.place answers.line rise answers.stands) ∙ ap (line_of lines) (sym answers.number) ∙ at)
    in
    let actor : e.actor ≡ 0 = answers.actor ∙ ap (λ (l : Line). l.actor) same in
    subst (λ (x : ℕ). Outcomes half s x c e.reply (used_by e) s') actor
    (subst (λ (l : Line). Outcomes half s e.actor l.command e.reply (used_by e) s') same answers.step.outcome)

-- the line of a number that others come before
later_line : (l : Line) (lines : List Line) (k : ℕ) → l.number < k → line_of (l ∷ lines) k ≡ line_of lines k
later_line l lines k less =
    ap (λ (b : Bool). cond b (Some l) (line_of lines k)) (ne_eqb l.number k (λ (same : l.number ≡ k). absurd (omega arith)))

first_line : (l : Line) (lines : List Line) (k : ℕ) → l.number ≡ k → line_of (l ∷ lines) k ≡ Some l
first_line l lines k same = ap (λ (b : Bool). cond b (Some l) (line_of lines k)) (eq-eqb l.number k same)

-- the numbers that the entries answer
abbrev pub numbers_in : List Entry → List ℕ
numbers_in j = map (λ (e : Entry). e.line) j

abbrev pub numbers : List Line → List ℕ
numbers lines = map (λ (l : Line). l.number) lines

no_cons : {A X : Type 0} {x : X} {xs : List X} → [] ≡ x ∷ xs → A
no_cons e = absurd (cc)

same_first : {X : Type 0} {x y : X} {xs ys : List X} → x ∷ xs ≡ y ∷ ys → x ≡ y
same_first e = cc

same_rest : {X : Type 0} {x y : X} {xs ys : List X} → x ∷ xs ≡ y ∷ ys → xs ≡ ys
same_rest e = cc

-- a count, one entry after another
counted : (b : Bool) (e : Entry) (j : List Entry) → is_complete e ≡ b → count_by is_complete (e ∷ j) ≡ cond b 1 0 + count_by is_complete j
counted b e j is = sum_by-cons (λ (x : Entry). cond (is_complete x) 1 0) e j ∙ ap (λ (x : Bool). cond x 1 0 + count_by is_complete j) is

-- each ledger that was ready is complete
pub all_complete : (half : Half) (lines : List Line) (n : ℕ) (ts : List Hash) (s : State) (j : List Entry) (s' : State)
    → Rises 0 lines
    → ((k : ℕ) → n < k → line_of lines k ≡ line_of (lines_behind n ts) k)
    → numbers_in j ≡ numbers (lines_behind n ts)
    → AreLucky j
    → IsStrictlySortedBy hash_cmp ts
    → AreReady half ts s
    → Run half lines s j s'
    → count_by is_complete j ≡ length ts
unfolding IsStrictlySortedBy
all_complete half lines n [] s [] s' rise same answers lucky sorted ready run = refl
all_complete half lines n [] s (e ∷ j) s' rise same answers lucky sorted ready run = no_cons (sym answers)
all_complete half lines n (t ∷ ts) s [] s' rise same answers lucky sorted ready run = no_cons answers
all_complete half lines n (t ∷ ts) s (e ∷ []) s' rise same answers lucky sorted ready run = no_cons (same_rest answers)
all_complete half lines n (t ∷ ts) s (e ∷ f ∷ j) s' rise same answers lucky sorted ready run =
    let s1 : State = run.0 in
    let s2 : State = run.2.0 in
    let rest : List Line = lines_behind (n + 2) ts in
    let wants : Line = line_with (n + 1) (command.Want t 0) in
    let checks : Line = line_with (n + 2) (command.Check t) in
    let e_is : e.line ≡ n + 1 = same_first answers in
    let f_is : f.line ≡ n + 2 = same_first (same_rest answers) in
    let e_at : line_of lines e.line ≡ Some wants =
    ap (line_of lines) e_is ∙ same (n + 1) (omega arith) ∙ first_line wants (checks ∷ rest) (n + 1) refl
    in
    let f_at : line_of lines f.line ≡ Some checks =
    ap (line_of lines) f_is ∙ same (n + 2) (omega arith) ∙ later_line wants (checks ∷ rest) (n + 2) (omega arith)
    ∙ first_line checks rest (n + 2) refl
    in
    let lucky_e : is_unlucky e.reply ≡ false = All-head (λ (x : Entry). is_unlucky x.reply ≡ false) e (f ∷ j) lucky in
    let lucky_more = All-tail (λ (x : Entry). is_unlucky x.reply ≡ false) e (f ∷ j) lucky in
    let lucky_f : is_unlucky f.reply ≡ false = All-head (λ (x : Entry). is_unlucky x.reply ≡ false) f j lucky_more in
    let lucky_j : AreLucky j = All-tail (λ (x : Entry). is_unlucky x.reply ≡ false) f j lucky_more in
    let here : Contains (t ∷ ts) t = in_head t ts in
    let wanted = want_row half s t e.reply (used_by e) s1 (line_answered half lines (n + 1) (command.Want t 0) s e s1 rise e_at run.1) lucky_e in
    let opens : want_reply s t 0 ≡ want.Opened = want_opens s t ready.wanted (ready.unlisted t here) in
    let e_says : e.reply ≡ says.Want want.Opened = wanted.says ∙ ap (λ r. says.Want r) opens in
    let one : IsAfter (record s { wanted = open_one t }) s1 =
    wanted.after ∙ ap (λ (x : State). record x { shaded = s1.shaded }) (ap (after_want s t 0) opens
    ∙ ap (λ (w : ForHash Acquiring). record s { wanted = insert_in hash_cmp w t (acquiring t 0) }) ready.wanted)
    in
    let checked = check_row half s1 t f.reply (used_by f) s2 (line_answered half lines (n + 2) (command.Check t) s1 f s2 rise f_at run.2.1) lucky_f in
    let whole : IsWholeLedger half (form_in s1) t = subst (λ (x : Lookup). IsWholeLedger half x t) (sym (ap form_in one)) (ready.whole t here) in
    let complete_is : check_reply half s1 t ≡ check.Complete =
    whole_checks half s1 t (ap (λ (x : State). x.wanted) one) (ap (λ (x : State). x.floor) one ∙ ready.floor) whole
    in
    let f_says : f.reply ≡ says.Check check.Complete = checked.says ∙ ap (λ r. says.Check r) complete_is in
    let two : IsAfter (ended (listed_with s1 t (stored_seq s1 t)) t) s2 =
    checked.after ∙ ap (λ (x : State). record x { shaded = s2.shaded }) (ap (after_check s1 t (stored_seq s1 t)) complete_is)
    in
    let next : AreReady half ts s2 = ready_next half t ts s s1 s2 (stored_seq s1 t) sorted ready one two in
    let more = all_complete half lines (n + 2) ts s2 j s' rise
    (λ k above. same k (omega (arith, above)) ∙ later_line wants (checks ∷ rest) k (omega (arith, above)) ∙ later_line checks rest k (omega (arith, above)))
    (same_rest (same_rest answers)) lucky_j sorted.1 next run.2.2
    in
    let e_counts = counted false e (f ∷ j) (ap completes e_says) in
    let f_counts = counted true f j (ap completes f_says) in
    omega (arith, e_counts, f_counts, more)
