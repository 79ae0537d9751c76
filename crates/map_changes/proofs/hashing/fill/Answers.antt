use Rattle.map_changes.proofs.Closing.{then_ok, know_all}
use Rattle.map_changes.proofs.hashing.fill.Goals as goal

-- the hash of each top is known, and below a hash that is known all are
pub returns-clause-all : goal.returns-clause-all
returns-clause-all g c =
    then_ok c.known_tops.result
    (know_all c.args.map.now.nodes c.hash_reached.new.hashes.items c.hash_reached.ensures.closed c.args.tops.now c.deref-2.result.now
    c.deref-2.ensures.value)
    c.known_tops.ensures
