use Rattle.std.proofs.Common.{◌<◌, length, sym, ◌∙◌, arith}
use Rattle.std.proofs.lemmas.List.{take_all, drop_all}
use Rattle.script_form.proofs.Cuts.{line_at, text_at, line_end, text_end}
use Rattle.script_form.proofs.script.first_line.Goals as goal

-- no newline is found, so the whole rest is the text of its line
pub returns-then-end-bytes-clause-text : goal.returns-then-end-bytes-clause-text
returns-then-end-bytes-clause-text c =
    let bytes = c.args.bytes.now in
    let found = c.piece_end-end.ensures in
    rw (take_all c.piece_end-end.result bytes (omega (arith, c.if-end-bytes.true)))
    (sym (text_end bytes (λ k lt. found.before k (omega (arith, c.if-end-bytes.true, lt)))))

-- no newline is found, so the bytes are one line and nothing is behind it
pub returns-then-end-bytes-clause-cut : goal.returns-then-end-bytes-clause-cut
returns-then-end-bytes-clause-cut c =
    let bytes = c.args.bytes.now in
    let found = c.piece_end-end.ensures in
    rw (
      take_all c.piece_end-end.result bytes (omega (arith, c.if-end-bytes.true)),
      drop_all c.piece_end-end.result bytes
          (omega (arith, c.if-end-bytes.true)),
    )
    (line_end bytes c.requires (λ k lt. found.before k (omega (arith, c.if-end-bytes.true, lt))))

pub returns-clause-text : goal.returns-clause-text
returns-clause-text c =
    let found = c.piece_end-end.ensures in
    let lt : c.piece_end-end.result < length c.args.bytes.now = omega (arith, found.within, c.if-end-bytes.false) in
    c.split_at.ensures.front ∙ sym (text_at c.args.bytes.now c.piece_end-end.result lt found.before (found.at lt))

pub returns-clause-cut : goal.returns-clause-cut
returns-clause-cut c =
    let found = c.piece_end-end.ensures in
    let lt : c.piece_end-end.result < length c.args.bytes.now = omega (arith, found.within, c.if-end-bytes.false) in
    line_at c.args.bytes.now c.piece_end-end.result lt found.before (found.at lt)
