-- each session's ledger, in their order
use Rattle.std.proofs.Common.{rules, tests}
use Rattle.std.specs.Map.{values_of}
use Rattle.std.proofs.lemmas.Iterator.{items_from_collect, YieldsList-from_map}
use Rattle.std.proofs.lemmas.Iterator.Consumers.{YieldsList-from_rest, YieldsList-at}
use Rattle.edit_session.specs.Drafts.{Draft}
use Rattle.open_sessions.proofs.open.Open.bases.Goals as goal

pub returns : goal.returns
returns c =
    rw (← c.self.view_is) (rw c.in_ok-bases.was at (items_from_collect c.collect.result c.collect.ensures.ran
    (YieldsList-from_map _ (λ (d : Draft). d.base)
    (YieldsList-at c.map.ensures.source (YieldsList-from_rest (values_of c.self.inside.sessions.entries) c.values.ensures.rest))
    c.map.ensures.closure (λ x r q k. search (rules, tests)))))
