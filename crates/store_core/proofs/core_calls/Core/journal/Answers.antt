-- the core's invariant, and the laws of the machine along the run
use Rattle.ledger_laws.proofs.shared.Completeness.{retained_stored, run_exact}
use Rattle.ledger_laws.proofs.shared.Collisions.{entry_shown}
use Rattle.ledger_laws.proofs.shared.Openings.{records_are_sound}
use Rattle.ledger_laws.proofs.shared.Receipts.{all_stay}
use Rattle.ledger_laws.proofs.shared.Throughout.{run_in_order}
use Rattle.ledger_laws.proofs.shared.EveryMaps.{reads_exact}
use Rattle.store_core.proofs.Journals.{kept_few, kept_projects, kept_ranges, kept_swaps}
use Rattle.store_core.proofs.core_calls.Core.journal.Goals as goal

pub returns-clause-few : goal.returns-clause-few
returns-clause-few g c = rw (← c.self.view_is) (kept_few _ _ _ _ _ _ _ _ _ _ _ _ c.self.invariant.0)

-- each entry was a step of the machine, so its laws hold along the run and in the state that it led to
pub returns-clause-kept : goal.returns-clause-kept
returns-clause-kept g c =
    let k = c.self.invariant.0 in
    rw (← c.self.view_is) (record {
      servable = k.servable;
      recorded = k.recorded;
      machine = λ told. record {
        run = k.run told;
        checks = λ run. run_exact g.H.NodeHash.half _ _ _ _ run;
        received = λ run. all_stay g.H.NodeHash.half _ _ _ _ run;
        reads = λ run. reads_exact g.H.NodeHash.half c.known_half.ensures _ (kept_ranges _ _ _ _ _ _ _ _ _ _ _ _ k) _ _ _ run;
        sound = k.sound told;
        present = λ t i. retained_stored g.H.NodeHash.half _ t (k.sound told) i;
        in_order = λ run. run_in_order g.H.NodeHash.half c.known_half.ensures _
            (kept_ranges _ _ _ _ _ _ _ _ _ _ _ _ k) _ _ _ run (records_are_sound g.H.NodeHash.half _ _ k.recorded);
        swaps = λ run. kept_swaps _ _ _ _ _ _ _ _ _ _ _ _ k run;
        clashes = λ run e among. entry_shown g.H.NodeHash.half _ _ _ _ _ e k.recorded run among;
      };
      projects = kept_projects _ _ _ _ _ _ _ _ _ _ _ _ k;
      known = k.known;
      since = k.since;
      faults = k.fault_bound;
      views = c.known.ensures.views;
    })
