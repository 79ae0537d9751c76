-- all that is reached is in the writable backend, which a swap leaves
use Rattle.online_rotate.proofs.Rotating.{on_err, strode_some, strode_walks, some_alike, drained_rotated}
use Rattle.online_rotate.proofs.shared.Rotating.{walking_alike}
use Rattle.std.proofs.Common.{◌≡◌, OnOk, rules, arith, ap, ◌∙◌}
use Rattle.std.proofs.lemmas.Grind.{common_steps}
use Rattle.rotating_store.specs.Stores.{Store}
use Rattle.online_rotate.proofs.Rotating.{swapped_rest, swapped_notes}
use Rattle.online_rotate.proofs.rotator.rotate.Goals as goal

-- what was copied before the refusal stays; where nothing is grey, nothing is done before the swap
pub returns-in_err-drain-clause-rotates : goal.returns-in_err-drain-clause-rotates
returns-in_err-drain-clause-rotates g c = record {
  rotated = first_of (search rules, grind (arith, common_steps));
  some = λ tells told k.
      let d = c.drain.ensures.drains.strode tells in
      on_err _ c.from_residual.result (
        strode_some told c.args.walk.now c.args.store.now k d.taken d.copied c.drain.new.self c.drain.new.store d.strode,
        strode_walks told c.args.walk.now c.args.store.now k d.taken d.copied c.drain.new.self c.drain.new.store d.strode,
      );
  notes = first_of (search rules, grind (arith, common_steps));
  still = λ told none.
      let same = c.drain.ensures.none none in
      let ok : OnOk c.from_residual.result (c.drain.new.store.archive ≡ c.args.store.now.writable) = search rules in
      (ok, on_err _ c.from_residual.result (ap (λ (s : Store). s.writable) same, ap (λ (s : Store). s.archive) same));
}

-- no fresh backend is ready, and what was copied stays
pub returns-in_err-prepare-clause-rotates : goal.returns-in_err-prepare-clause-rotates
returns-in_err-prepare-clause-rotates g c = record {
  rotated = first_of (search rules, grind (arith, common_steps));
  some = λ tells told k.
      let d = c.drain.ensures.drains.strode tells in
      let same = c.prepare.ensures.same tells in
      on_err _ c.from_residual-in_err-prepare.result (
        some_alike told c.args.store.now c.drain.new.store c.prepare.new.self
            (strode_some told c.args.walk.now c.args.store.now k d.taken d.copied c.drain.new.self c.drain.new.store d.strode)
            same.0 same.1,
        walking_alike told c.drain.new.self c.drain.new.store c.prepare.new.self
            (strode_walks told c.args.walk.now c.args.store.now k d.taken d.copied c.drain.new.self c.drain.new.store d.strode)
            same.0 same.1,
      );
  notes = first_of (search rules, grind (arith, common_steps));
  still = λ told none.
      let drained = c.drain.ensures.none none in
      let same = c.prepare.ensures.same told in
      let ok : OnOk c.from_residual-in_err-prepare.result (c.prepare.new.self.archive ≡ c.args.store.now.writable) = search rules in (
        ok,
        on_err _ c.from_residual-in_err-prepare.result
            (same.0 ∙ ap (λ (s : Store). s.writable) drained, same.1 ∙ ap (λ (s : Store). s.archive) drained),
      );
}

pub returns-clause-rotates : goal.returns-clause-rotates
returns-clause-rotates g c = record {
  rotated = λ tells told k.
      let same = c.prepare.ensures.same tells in
      drained_rotated told c.args.walk.now c.drain.new.self c.args.store.now c.drain.new.store c.prepare.new.self c.swap.new.self k
      (c.drain.ensures.drains.strode tells) c.in_ok-drain.ensures.ok same.0 same.1 (c.swap.ensures.maps.nodes tells)
      (c.swap.ensures.maps.writable tells);
  some = first_of (search rules, grind (arith, common_steps));
  notes = λ told.
      swapped_notes c.args.store.now c.drain.new.store c.prepare.new.self c.swap.new.self
      (c.drain.ensures.store.past, c.drain.ensures.store.ready, c.drain.ensures.store.noted) c.prepare.ensures.rest.2
      (c.swap.ensures.notes.kept told);
  still = λ told none.
      (c.swap.ensures.maps.archive told ∙ (c.prepare.ensures.same told).0 ∙ ap (λ (s : Store). s.writable) (c.drain.ensures.none none), tt);
}

-- nothing but the swap changes the epoch, the notes and the shelf's other numbers
pub returns-clause-rest : goal.returns-clause-rest
returns-clause-rest g c = record {
  ok =
      swapped_rest c.args.store.now c.drain.new.store c.prepare.new.self c.swap.new.self
      (c.drain.ensures.store.past, c.drain.ensures.store.ready, c.drain.ensures.store.noted) c.prepare.ensures.rest.0
      c.prepare.ensures.rest.2 c.swap.ensures.turns.epoch c.swap.ensures.notes.no_more c.swap.ensures.turns.spare
      c.swap.ensures.turns.undone;
  err = first_of (search rules, grind (arith, common_steps));
}
