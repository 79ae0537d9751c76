use Rattle.map_changes.proofs.Telling.{are_two}
use Rattle.map_changes.proofs.nodes.have_two_hashes.Goals as goal

pub returns : goal.returns
returns c t = record {
  own = (c.in_ok-own.own, c.in_ok-own.ensures);
  others = (c.in_ok-others.others, c.in_ok-others.ensures);
  apart = are_two _ _ c.equals.result c.equals.ensures t;
}
