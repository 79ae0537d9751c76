use Rattle.edit_session.proofs.Leaving.{stays}
use Rattle.edit_session.proofs.laws.a_session_stays_over_its_ledger.Goals as goal

pub returns : goal.returns
returns c = stays c.a_map_stays_over_what_it_reaches.ensures c.what_is_left_is_whole.ensures
