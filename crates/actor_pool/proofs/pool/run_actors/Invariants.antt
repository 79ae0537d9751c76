use Rattle.actor_pool.proofs.pool.run_actors.Given as goal

abbrev pub ghosts-run_workers : goal.ghosts-run_workers
ghosts-run_workers g a = record {
  run = record {
    records = a.core.records;
    lines = a.core.lines;
    interval = a.core.interval;
    opened = a.core.opened;
    missed = a.core.missed;
  };
}
