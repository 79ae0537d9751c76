use Rattle.std.proofs.Common.{◌≡◌, ◌+◌, ◌<◌, ◌≤◌, length, drop, ◌∙◌, ap, arith}
use Rattle.std.proofs.lemmas.List.{drop-drop, take_all}
use Rattle.std.proofs.lemmas.Bool.Decides.{nat_tests}
use Rattle.std.specs.Prelude.{nat_lt, true, false}
use Rattle.script_form.proofs.Cuts.{cuts_word, cuts_none, cuts_end, cuts_over}
use Rattle.script_form.proofs.words.put_words.Goals as goal
use Rattle.script_form.proofs.words.put_words.Goals.{then-not-is_empty+in_ok-push, else-not-is_empty}

-- the piece before the next space is a word unless it is empty, and the words of what is behind that space are left
pub loop-words-preserved : goal.loop-words-preserved
loop-words-preserved c =
    let found = c.word_end-end.ensures in
    let parts = c.split_at.ensures in
    let lt : c.word_end-end.result < length c.loop-words.rest.now =
    grind (arith, nat_tests, parts.back_len, c.if-is_empty.false, c.is_empty-in-loop-words.ensures) in
    let rest : c.split_at-in-loop-words.result.1.now ≡ drop (c.word_end-end.result + 1) c.loop-words.rest.now =
    c.split_at-in-loop-words.ensures.back ∙ ap (drop 1) parts.back ∙ drop-drop 1 c.word_end-end.result c.loop-words.rest.now in
    elim c.if-not-is_empty.branch [
      | then-not-is_empty+in_ok-push w ↦
          let some : nat_lt 0 (length c.split_at.result.0.now) ≡ true =
          grind (arith, nat_tests, c.is_empty.ensures, w.if-not-is_empty.true) in
          rw (w.words-is, w.in_ok-push.ensures.items, rest)
          (cuts_word c.args.text.now c.loop-words.words.items c.split_at.result.0 c.loop-words.rest.now c.word_end-end.result
          c.loop-words.invariant lt found.before (found.at lt) parts.front some)
      | else-not-is_empty w ↦
          let none : nat_lt 0 (length c.split_at.result.0.now) ≡ false =
          grind (arith, nat_tests, c.is_empty.ensures, w.if-not-is_empty.false) in
          rw (w.words-is, rest)
          (cuts_none c.args.text.now c.loop-words.words.items c.split_at.result.0.now c.loop-words.rest.now c.word_end-end.result
          c.loop-words.invariant lt found.before (found.at lt) parts.front none)
    ]

-- no space is left, so the rest of the text is the last word, or there is none in it
pub returns-then-is_empty : goal.returns-then-is_empty
returns-then-is_empty c =
    let found = c.word_end-end.ensures in
    let parts = c.split_at.ensures in
    let le : length c.loop-words.rest.now ≤ c.word_end-end.result =
    grind (arith, nat_tests, parts.back_len, c.if-is_empty.true, c.is_empty-in-loop-words.ensures) in
    let whole = parts.front ∙ take_all c.word_end-end.result c.loop-words.rest.now le in
    elim c.if-not-is_empty.branch [
      | then-not-is_empty+in_ok-push w ↦
          let some : nat_lt 0 (length c.split_at.result.0.now) ≡ true =
          grind (arith, nat_tests, c.is_empty.ensures, w.if-not-is_empty.true) in
          rw (w.words-is, w.in_ok-push.ensures.items)
          (cuts_end c.args.text.now c.loop-words.words.items c.split_at.result.0 c.loop-words.rest.now c.loop-words.invariant
          (λ k lt. found.before k (omega arith)) whole some)
      | else-not-is_empty w ↦
          let none : nat_lt 0 (length c.split_at.result.0.now) ≡ false =
          grind (arith, nat_tests, c.is_empty.ensures, w.if-not-is_empty.false) in
          rw w.words-is
          (cuts_over c.args.text.now c.loop-words.words.items c.split_at.result.0.now c.loop-words.rest.now c.loop-words.invariant
          (λ k lt. found.before k (omega arith)) whole none)
    ]
