-- the form is copied first; then its hash leaves the grey list, or becomes black once all that it names is shaded
use Rattle.std.proofs.Common.{◌≡◌, ◌<◌, Some, length, slice_get, refl, sym, subst, arith, rules}
use Rattle.std.proofs.lemmas.Grind.{common_steps}
use Rattle.std.specs.FinMap as finite
use Rattle.ledger_spec.specs.Bytes.{Bytes}
use Rattle.ledger_spec.specs.Reach.{kids}
use Rattle.rotating_store.specs.Stores.{nodes_of}
use Rattle.copy_walk.specs.Walks.{Walk, ShadesSome}
use Rattle.copy_walk.specs.Strides.{Leaves}
use Rattle.copy_walk.specs.Slices.{Blackens}
use Rattle.node_backend.proofs.shared.Filling.{has_some, has_none}
use Rattle.copy_walk.proofs.Shading.{stands_at, leaves_at, grey_at, left_less}
use Rattle.copy_walk.proofs.Taking.{on_err, strode_copy, strode_absent, strode_named, strode_found}
use Rattle.copy_walk.proofs.walk.CopyWalk.take_at.Goals as goal

-- the form can't be copied
pub returns-in_err-there-clause-takes : goal.returns-in_err-there-clause-takes
returns-in_err-there-clause-takes g c = record {
  ok = first_of (search rules, grind (arith, common_steps));
  err = λ told.
      on_err _ c.from_residual.result
      (strode_copy c.args.self.now c.args.store.now c.copy_one.new.store c.args.hash.now
      (grey_at c.args.self.now c.args.place c.args.hash.now c.requires) (c.copy_one.ensures.one told));
  less = first_of (search rules, grind (arith, common_steps));
}

-- its place is one of the list
pub swap_remove-requires : goal.swap_remove-requires
swap_remove-requires g c =
    let within : c.args.place < length c.self.inside.grey.items =
    subst (λ (w : Walk). c.args.place < length w.grey) (sym c.self.view_is) (stands_at c.args.self.now.grey c.args.place c.args.hash.now
    c.requires).0 in
    omega (arith, within, c.self.inside.grey.ok.0)

-- nothing is stored under it
pub returns-then-not-there-clause-takes : goal.returns-then-not-there-clause-takes
returns-then-not-there-clause-takes g c = record {
  ok = λ told.
      let was : Walk = record { grey = c.self.inside.grey.items; black = c.self.inside.black } in
      let now : Walk = record { grey = c.swap_remove.new.self.items; black = c.self.inside.black } in
      let at : slice_get was.grey c.args.place ≡ Some c.args.hash.now =
      subst (λ (w : Walk). slice_get w.grey c.args.place ≡ Some c.args.hash.now) (sym c.self.view_is) c.requires in
      let leaves : Leaves was c.args.hash.now now =
      leaves_at was now c.args.place c.args.hash.now c.swap_remove.result (stands_at was.grey c.args.place c.args.hash.now at)
      c.swap_remove.ensures.value c.swap_remove.ensures.items in
      rw (← c.self.view_is)
      (strode_absent was c.args.store.now c.copy_one.new.store c.args.hash.now (grey_at was c.args.place c.args.hash.now at)
      (c.copy_one.ensures.one told) now (has_none _ _ _ (c.in_ok-there.ensures.form told) c.if-not-there.true) leaves refl);
  err = first_of (search rules, grind (arith, common_steps));
  less =
      let was : Walk = record { grey = c.self.inside.grey.items; black = c.self.inside.black } in
      let now : Walk = record { grey = c.swap_remove.new.self.items; black = c.self.inside.black } in
      let at : slice_get was.grey c.args.place ≡ Some c.args.hash.now =
      subst (λ (w : Walk). slice_get w.grey c.args.place ≡ Some c.args.hash.now) (sym c.self.view_is) c.requires in
      rw (← c.self.view_is)
      (left_less was c.args.hash.now now
      (leaves_at was now c.args.place c.args.hash.now c.swap_remove.result (stands_at was.grey c.args.place c.args.hash.now at)
      c.swap_remove.ensures.value c.swap_remove.ensures.items) refl);
}

-- what it names can't be shaded, or it not become black: it is grey still
pub returns-in_err-blacken-clause-takes : goal.returns-in_err-blacken-clause-takes
returns-in_err-blacken-clause-takes g c = record {
  ok = first_of (search rules, grind (arith, common_steps));
  err = λ told.
      let is : finite.get (nodes_of c.args.store.now) c.args.hash.now ≡ Some c.copy_one.new.room.items =
      has_some _ _ _ (c.in_ok-there.ensures.form told) c.if-not-there.false in
      on_err _ c.from_residual-in_err-blacken.result
      (strode_named c.args.self.now c.args.store.now c.copy_one.new.store c.args.hash.now
      (grey_at c.args.self.now c.args.place c.args.hash.now c.requires) (c.copy_one.ensures.one told) c.copy_one.new.room.items
      c.blacken.new.self is
      (subst (λ (form : Bytes). ShadesSome c.args.self.now (kids form) c.blacken.new.self) c.deref.ensures.value
      c.in_err-blacken.ensures.err));
  less = first_of (search rules, grind (arith, common_steps));
}

-- it is black
pub returns-clause-takes : goal.returns-clause-takes
returns-clause-takes g c = record {
  ok = λ told.
      let is : finite.get (nodes_of c.args.store.now) c.args.hash.now ≡ Some c.copy_one.new.room.items =
      has_some _ _ _ (c.in_ok-there.ensures.form told) c.if-not-there.false in
      strode_found c.args.self.now c.args.store.now c.copy_one.new.store c.args.hash.now
      (grey_at c.args.self.now c.args.place c.args.hash.now c.requires) (c.copy_one.ensures.one told) c.copy_one.new.room.items
      c.blacken.new.self is (c.in_ok-there.ensures.there told)
      (subst (λ (form : Bytes). Blackens c.args.self.now c.args.hash.now (kids form) c.blacken.new.self) c.deref.ensures.value
      c.in_ok-blacken.ensures.ok);
  err = first_of (search rules, grind (arith, common_steps));
  less = c.in_ok-blacken.ensures.less;
}
