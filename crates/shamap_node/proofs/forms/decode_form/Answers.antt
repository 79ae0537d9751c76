use Rattle.shamap_node.proofs.Reading.{reads_back, reads_fit}
use Rattle.shamap_node.proofs.Seen.{reads_seen, reads_none}
use Rattle.shamap_node.proofs.forms.decode_form.Goals as goal

pub returns-clause-back : goal.returns-clause-back
returns-clause-back g c =
    reads_back g.H.NodeHash.half c.node_from.result c.args.bytes.now c.node_from.ensures.form c.node_from.ensures.cause

pub returns-clause-fits : goal.returns-clause-fits
returns-clause-fits g c = reads_fit g.H.NodeHash.half c.node_from.result c.args.bytes.now c.node_from.ensures.form

pub returns-clause-held : goal.returns-clause-held
returns-clause-held g c = record {
  seen = reads_seen g.H.NodeHash.half c.node_from.result c.args.bytes.now c.node_from.ensures.form;
  none = reads_none g.H.NodeHash.half c.node_from.result c.args.bytes.now c.node_from.ensures.cause;
}
