use Rattle.std.proofs.Common.{sym}
use Rattle.log_shelf.proofs.Parsing.{front_of-few, front_of-other, found-cut, found-whole}
use Rattle.log_shelf.proofs.reading.front.Goals as goal

pub returns-then-bytes-lt9 : goal.returns-then-bytes-lt9
returns-then-bytes-lt9 c = sym (front_of-few c.args.bytes.now c.if-bytes-lt9.true)

pub returns-then-bytes-ne1 : goal.returns-then-bytes-ne1
returns-then-bytes-ne1 c = sym (front_of-other c.args.bytes.now c.if-bytes-lt9.false c.if-bytes-ne1.true)

pub returns-then-behind-len : goal.returns-then-behind-len
returns-then-behind-len c =
    sym (found-cut c.args.bytes.now c.split_at.result.1.now c.split_at-2.result.1.now c.number_at-len.result c.if-bytes-lt9.false
    c.split_at.ensures.back c.number_at-len.ensures c.split_at-2.ensures.back c.if-behind-len.true)

pub returns : goal.returns
returns c =
    found-whole c.args.bytes.now c.split_at.result.1.now c.split_at-2.result.1.now c.split_at-3.result.0.now c.split_at-3.result.1.now
    c.number_at-len.result c.if-bytes-lt9.false
    c.if-bytes-ne1.false c.split_at.ensures.back c.number_at-len.ensures c.split_at-2.ensures.back c.if-behind-len.false
    c.split_at-3.ensures.front c.split_at-3.ensures.back
