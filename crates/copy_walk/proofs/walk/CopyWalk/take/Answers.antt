-- the last hash of a list that isn't empty
use Rattle.std.proofs.Common.{◌≡◌, ◌≢◌, ◌-◌, ◌<◌, [], Some, length, slice_get, refl, sym, subst, arith, rules}
use Rattle.std.proofs.lemmas.Option.{slice_get_read}
use Rattle.std.proofs.lemmas.Grind.{common_steps}
use Rattle.copy_walk.specs.Walks.{Walk}
use Rattle.copy_walk.proofs.Shading.{stands_at, leaves_at, left_less}
use Rattle.copy_walk.proofs.Taking.{strode_again, some_grey}
use Rattle.copy_walk.proofs.walk.CopyWalk.take.Goals as goal

-- a black hash is let go
pub returns-then-contains-clause-takes : goal.returns-then-contains-clause-takes
returns-then-contains-clause-takes g c = record {
  ok = λ told.
      let was : Walk = record { grey = c.self.inside.grey.items; black = c.self.inside.black } in
      let now : Walk = record { grey = c.swap_remove.new.self.items; black = c.self.inside.black } in
      let some : 0 < length was.grey =
      some_grey was.grey (subst (λ (w : Walk). w.grey ≢ []) (sym c.self.view_is) c.requires) in
      let at : slice_get was.grey (c.len-place.result - 1) ≡ Some c.index.result.now =
      slice_get_read was.grey (length was.grey) (c.len-place.result - 1) c.index.result.now refl
      (omega (arith, some, c.len-place.ensures, c.self.inside.grey.ok.0)) c.index.ensures in
      rw (← c.self.view_is)
      (strode_again was now c.args.store.now c.index.result.now
      (leaves_at was now (c.len-place.result - 1) c.index.result.now c.swap_remove.result
      (stands_at was.grey (c.len-place.result - 1) c.index.result.now at) c.swap_remove.ensures.value c.swap_remove.ensures.items)
      (c.contains.ensures c.if-contains.true) refl);
  err = first_of (search rules, grind (arith, common_steps));
  less =
      let was : Walk = record { grey = c.self.inside.grey.items; black = c.self.inside.black } in
      let now : Walk = record { grey = c.swap_remove.new.self.items; black = c.self.inside.black } in
      let some : 0 < length was.grey =
      some_grey was.grey (subst (λ (w : Walk). w.grey ≢ []) (sym c.self.view_is) c.requires) in
      let at : slice_get was.grey (c.len-place.result - 1) ≡ Some c.index.result.now =
      slice_get_read was.grey (length was.grey) (c.len-place.result - 1) c.index.result.now refl
      (omega (arith, some, c.len-place.ensures, c.self.inside.grey.ok.0)) c.index.ensures in
      rw (← c.self.view_is)
      (left_less was c.index.result.now now
      (leaves_at was now (c.len-place.result - 1) c.index.result.now c.swap_remove.result
      (stands_at was.grey (c.len-place.result - 1) c.index.result.now at) c.swap_remove.ensures.value c.swap_remove.ensures.items) refl);
}

-- it stands at the last place
pub take_at-taken-requires-after_bounds : goal.take_at-taken-requires-after_bounds
take_at-taken-requires-after_bounds g c κs within =
    let some : 0 < length c.self.inside.grey.items =
    some_grey c.self.inside.grey.items (subst (λ (w : Walk). w.grey ≢ []) (sym c.self.view_is) c.requires) in
    slice_get_read c.self.inside.grey.items (length c.self.inside.grey.items) (c.len-place.result - 1) c.index.result.now refl
    (omega (arith, some, c.len-place.ensures, c.self.inside.grey.ok.0)) c.index.ensures
