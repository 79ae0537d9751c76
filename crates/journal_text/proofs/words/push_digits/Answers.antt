use Rattle.std.proofs.Common.{◌≡◌, ◌++◌, arith, length, sym}
use Rattle.std.specs.String.{string_bytes}
use Rattle.std.proofs.lemmas.Bool.Decides.{nat_tests}
use Rattle.std.proofs.lemmas.List.{nil_from_length, take-append-drop}
use Rattle.journal_text.proofs.Pieces.{piece_more, pieces_done}
use Rattle.journal_text.proofs.words.push_digits.Goals as goal

pub loop-rest-preserved : goal.loop-rest-preserved
loop-rest-preserved c =
    let split : c.loop-rest.rest.now ≡ c.split_at.result.0.now ++ c.split_at.result.1.now =
    rw (c.split_at.ensures.front, c.split_at.ensures.back) (sym (take-append-drop c.min.result c.loop-rest.rest.now)) in
    piece_more (string_bytes c.loop-rest.text) (string_bytes c.push_piece.new.text) c.split_at.result.0.now c.split_at.result.1.now
    c.loop-rest.rest.now _ c.loop-rest.invariant split c.in_ok-push_piece.ensures

pub returns : goal.returns
returns c =
    let none : length c.loop-rest.rest.now ≡ 0 = grind (arith, nat_tests) in
    pieces_done (string_bytes c.loop-rest.text) _ c.loop-rest.rest.now (nil_from_length c.loop-rest.rest.now none) c.loop-rest.invariant
