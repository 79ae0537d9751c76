-- the map over the parent's root stands for its leaves, and leaves that root alone
use Rattle.std.proofs.Common.{[]}
use Rattle.ledger_spec.specs.declared.Kind.TheVariants.{State}
use Rattle.ledger_spec.specs.Findings.{items_of}
use Rattle.edit_session.proofs.Leaving.{opened, none_left}
use Rattle.edit_session.proofs.session.Session.open.Goals as goal

-- the state stands for the leaves of the parent's whole tree and leaves only its root to the source; no transaction is there
pub returns-clause-maps : goal.returns-clause-maps
returns-clause-maps c half stored sized clean =
    let stands = c.over.ensures.stands half stored sized clean in (
      record { state = stands; alone = c.new.ensures.stands },
      opened c.what_is_left_is_whole.ensures half stored _ State (items_of half stored State c.args.parent.state_root)
          c.over.ensures.parts stands
          (none_left c.a_map_without_a_source_stands_anywhere.ensures half c.new.result [] c.new.ensures.stands),
    )
