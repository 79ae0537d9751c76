use Rattle.script_form.proofs.Shapes.{data_tells, no_data}
use Rattle.script_form.proofs.wrong.data_is_wrong.Goals as goal

pub returns-in_ok-bytes-in-BadHex : goal.returns-in_ok-bytes-in-BadHex
returns-in_ok-bytes-in-BadHex c = data_tells c.args.cause c.args.word.now c.in_ok-bytes-in-BadHex.bytes c.is_none.result c.in-BadHex.is
    c.is_none.ensures c.in_ok-bytes-in-BadHex.ensures

-- a word that is no bytes is no data that is too long
pub returns-in-None : goal.returns-in-None
returns-in-None c = no_data c.args.cause c.args.word.now c.in-DataTooLong.is (rw c.in-None.is at c.in_ok-blob-in-DataTooLong.ensures)
