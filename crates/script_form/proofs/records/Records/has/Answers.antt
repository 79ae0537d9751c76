use Rattle.ledger_machine.specs.Records.{hashes_of}
use Rattle.script_form.proofs.Finding.{tells}
use Rattle.script_form.proofs.records.Records.has.Goals as goal

pub returns : goal.returns
returns c =
    rw (← c.self.view_is)
    (tells c.self.inside.hashes (hashes_of c.self.inside.records.items) c.args.hash.now
    c.contains.result c.self.invariant c.contains.ensures)
