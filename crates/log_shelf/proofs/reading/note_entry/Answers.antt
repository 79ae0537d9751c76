use Rattle.std.proofs.Common.{sym}
use Rattle.log_shelf.proofs.Parsing.{noted-few, noted-none, noted-found-one, noted-found-two}
use Rattle.log_shelf.proofs.reading.note_entry.Goals as goal

pub returns-then-entry-lt9 : goal.returns-then-entry-lt9
returns-then-entry-lt9 c = sym (noted-few c.args.live.now.items c.args.entry.now c.if-entry-lt9.true)

pub returns-then-kind-eq1 : goal.returns-then-kind-eq1
returns-then-kind-eq1 c =
    noted-found-one c.args.live.now.items c.args.entry.now c.split_at.result.1.now c.push.new.self.items c.number_at-number.result
    c.if-entry-lt9.false c.if-kind-eq1.true
    c.split_at.ensures.back c.number_at-number.ensures c.in_ok-push.ensures.items

pub returns-then-kind-eq2 : goal.returns-then-kind-eq2
returns-then-kind-eq2 c =
    noted-found-two c.args.live.now.items c.args.entry.now c.split_at.result.1.now c.take_out.new.live.items c.number_at-number.result
    c.if-entry-lt9.false c.if-kind-eq2.true
    c.split_at.ensures.back c.number_at-number.ensures c.take_out.ensures

pub returns-else-kind-eq2 : goal.returns-else-kind-eq2
returns-else-kind-eq2 c = sym (noted-none c.args.live.now.items c.args.entry.now c.if-entry-lt9.false c.if-kind-eq1.false
    c.if-kind-eq2.false)
