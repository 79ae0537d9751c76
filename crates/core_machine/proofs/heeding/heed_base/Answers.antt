-- the target first, and then the roots
use Rattle.std.proofs.Common.{rules}
use Rattle.std.specs.Option.{option_copied}
use Rattle.core_machine.proofs.Turns.{on_ok}
use Rattle.core_machine.proofs.Offered.{heeds_three, heeded_three, are_second, turning_on}
use Rattle.core_machine.proofs.heeding.heed_base.Goals as goal

pub returns-clause-walk : goal.returns-clause-walk
returns-clause-walk g c = record {
  heeds = λ told.
      heeds_three g.H.NodeHash.half c.args.store.now c.heed_hash.new.store c.heed_root.new.store c.args.rotator.now c.heed_hash.new.rotator
      c.heed_root.new.rotator c.heed_root-2.new.rotator (c.heed_hash.ensures.walk.store told) (c.heed_root.ensures.walk.store told)
      (c.heed_hash.ensures.walk.heeds told) (c.heed_root.ensures.walk.heeds told) (c.heed_root-2.ensures.walk.heeds told);
  rest = search rules;
  idle = search rules;
  store = search rules;
  later = search rules;
  fault = search rules;
}

pub returns-clause-target : goal.returns-clause-target
returns-clause-target g c told =
    on_ok c.heed_root-2.result (λ turning.
    heeded_three g.H.NodeHash.half c.args.store.now c.heed_hash.new.store c.heed_root.new.store c.args.rotator.now c.heed_hash.new.rotator
    c.heed_root.new.rotator c.heed_root-2.new.rotator (c.heed_hash.ensures.walk.store told) (c.heed_root.ensures.walk.store told)
    (c.heed_hash.ensures.walk.heeds told) (c.heed_root.ensures.walk.heeds told) (c.heed_root-2.ensures.walk.heeds told) c.args.target.now
    (c.in_ok-heed_hash.ensures.heeded told turning))

pub returns-clause-state : goal.returns-clause-state
returns-clause-state g c told =
    on_ok c.heed_root-2.result (λ turning.
    are_second g.H.NodeHash.half c.args.store.now c.heed_hash.new.store c.heed_root.new.store c.args.rotator.now c.heed_hash.new.rotator
    c.heed_root.new.rotator c.heed_root-2.new.rotator (c.heed_hash.ensures.walk.store told) (c.heed_root.ensures.walk.store told)
    (c.heed_hash.ensures.walk.heeds told) (c.heed_root.ensures.walk.heeds told) (c.heed_root-2.ensures.walk.heeds told) (option_copied
    c.args.state)
    (c.in_ok-heed_root.ensures.heeded told
    (turning_on c.args.rotator.now c.heed_hash.new.rotator c.heed_hash.ensures.walk.rest turning)))
