use Rattle.log_recovery.proofs.Listing.{records_fit}
use Rattle.log_recovery.proofs.records.recover.Goals as goal

-- the records are what was found
pub returns-in-Ok-clause-records : goal.returns-in-Ok-clause-records
returns-in-Ok-clause-records g c told =
    record { found = c.in_ok-found.found; last = c.in_ok-found.ensures.found told; each = c.in-Ok.ensures }

pub returns-in-Ok-clause-fit : goal.returns-in-Ok-clause-fit
returns-in-Ok-clause-fit g c told =
    records_fit g.H.NodeHash.half c.known_half.ensures.size _ c.in_ok-found.found _ (c.in_ok-found.ensures.found told) c.in-Ok.ensures
