use Rattle.std.proofs.Common.{refl}
use Rattle.missing_walk.proofs.Sliced.{taken_up}
use Rattle.missing_walk.proofs.Loads.{load_taken}
use Rattle.missing_walk.proofs.search.Search.take_up.Goals as goal

pub returns-clause-kept : goal.returns-clause-kept
returns-clause-kept c half nodes kept =
    taken_up half nodes c.args.self.now _ refl refl c.clear.ensures.items c.in_ok-put_back.ensures.ok.0 c.in_ok-put_back.ensures.ok.1 kept

pub returns-clause-loads : goal.returns-clause-loads
returns-clause-loads c f g again =
    load_taken f g c.args.self.now _ _ again c.in_ok-put_back.ensures.ok.0 c.in_ok-put_back.ensures.ok.1
