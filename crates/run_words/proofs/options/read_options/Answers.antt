use Rattle.std.proofs.Common.{◌≡◌, ◌<◌, [], drop, arith, length}
use Rattle.std.proofs.lemmas.List.{drop_all}
use Rattle.std.proofs.lemmas.Result.{err_from_is_err_and}
use Rattle.run_words.proofs.Reading.{so_far_start, so_far_more, so_far_none, so_far_awaiting, so_far_end}
use Rattle.run_words.proofs.options.read_options.Goals as goal

pub loop-word-init : goal.loop-word-init
loop-word-init c = so_far_start c.args.words.now c.none.result c.none.ensures

-- a word that is read moves from what is left into the options, so what all words give is the same
pub loop-word-preserved : goal.loop-word-preserved
loop-word-preserved c =
    let i = c.loop-word.word-index in
    let lt : i < length c.args.words.now = c.loop-word-test.true in
    so_far_more c.args.words.now i (record { ref_ptr = (0, 0); now = [] }) c.loop-word.reader.given c.read_word.new.self.given
    c.loop-word.reader.awaiting c.read_word.new.self.awaiting
    lt c.in_ok-read_word.ensures.gives c.loop-word.invariant

-- what is left, this word first, gives nothing beside the options so far, so all words give nothing
pub returns-in_err-read_word : goal.returns-in_err-read_word
returns-in_err-read_word c =
    let i = c.loop-word.word-index in
    let lt : i < length c.args.words.now = c.loop-word-test.true in
    let p = err_from_is_err_and c.from_residual.result c.from_residual.ensures.1 in
    rw p.1 (so_far_none c.args.words.now i (record { ref_ptr = (0, 0); now = [] }) c.loop-word.reader.given c.loop-word.reader.awaiting
    lt c.in_err-read_word.ensures.none c.loop-word.invariant)

pub returns-then-is_some : goal.returns-then-is_some
returns-then-is_some c =
    let e : drop c.loop-word.word-index c.args.words.now ≡ [] = drop_all c.loop-word.word-index c.args.words.now (omega arith) in
    so_far_awaiting c.args.words.now c.loop-word.word-index c.loop-word.reader.given c.loop-word.reader.awaiting e c.if-is_some.ensures
    c.loop-word.invariant

pub returns : goal.returns
returns c =
    let e : drop c.loop-word.word-index c.args.words.now ≡ [] = drop_all c.loop-word.word-index c.args.words.now (omega arith) in
    so_far_end c.args.words.now c.loop-word.word-index c.loop-word.reader.given c.loop-word.reader.awaiting e c.if-is_some.ensures
    c.loop-word.invariant
