use Rattle.std.proofs.Common.{◌≡◌, Ok, length, get_or, sym, subst, arith}
use Rattle.cow_map.specs.Gathered.{entries_of}
use Rattle.cow_map.specs.Trees.{StandsFor}
use Rattle.cow_build.proofs.Joined.{each_stands, all_at_places, told_at, same_length}
use Rattle.cow_build.proofs.threads.build_side_by_side.Goals as goal

-- each map is the answer of one job, and a job answers with a map of this kind
pub returns-clause-kinds : goal.returns-clause-kinds
returns-clause-kinds g c =
    let built = c.in_ok-built.built.items in
    let maps = c.in_ok-maps.maps.items in
    let long : length maps ≡ length c.args.parts.items =
    omega (
      arith,
      same_length built maps (sym c.in_ok-maps.ensures),
      c.in_ok-built.ensures.len,
      c.in_ok-built.built.ok.0,
      c.args.parts.ok.0,
    ) in
    all_at_places _ maps
    (λ i m lt. told_at _ built maps i m (sym c.in_ok-maps.ensures)
    ((c.in_ok-built.ensures.each i (Ok m) (omega (arith, long))).1.call.met.0))

-- the map at a place is the answer of the job that got the list at this place, so it stands for that list's items
pub returns-clause-stands : goal.returns-clause-stands
returns-clause-stands g c =
    let built = c.in_ok-built.built.items in
    let maps = c.in_ok-maps.maps.items in
    let long : length maps ≡ length c.args.parts.items =
    omega (
      arith,
      same_length built maps (sym c.in_ok-maps.ensures),
      c.in_ok-built.ensures.len,
      c.in_ok-built.built.ok.0,
      c.args.parts.ok.0,
    ) in
    each_stands maps c.args.parts.items (λ part. entries_of part.items) long
    (λ i m p lt half stored. let job = (c.in_ok-built.ensures.each i (Ok m) lt).1 in
    subst (λ part. StandsFor half stored (get_or maps i m) (entries_of part.items)) (sym (job.job_is p))
    (told_at _ built maps i m (sym c.in_ok-maps.ensures) job.call.met.1 half stored))
