-- What stops a call of an open session is what stops its map.
use Rattle.std.proofs.Common.{◌≡◌, Option, Some, Result, Ok, Err, sym, subst, ◌∙◌}
use Rattle.std.specs.Result.{IsErrAnd}
use Rattle.ledger_spec.specs.Bytes.{Half, Hash, Lookup}
use Rattle.cow_map.specs.declared.fault.MapFault.{MapFault}
use Rattle.cow_map.specs.declared.fault.MapFault.TheVariants as causes
use Rattle.cow_map.specs.Ways.{Stop, Goes}
use Rattle.edit_session.specs.Changes.{GoesBy}
use Rattle.edit_session.specs.Drafts.{Draft}

-- why a call stopped doesn't depend on what it would have given
stopped : (X Y : Type 0) (stop : Option Stop) (why : MapFault) → Goes {X = X} stop (Err why) → Goes {X = Y} stop (Err why)
stopped X Y stop (causes.Absent h) goes = goes
stopped X Y stop (causes.Shape place rule) goes = goes
stopped X Y stop (causes.ZeroHash form) goes = goes
stopped X Y stop causes.Fault goes = goes
stopped X Y stop causes.Memory goes = goes

same_draft : (d e : Draft) → Some d ≡ Some e → d ≡ e
same_draft d e same = cc

-- the draft under the number is the one that was lent, and the key the item's
module _ (half : Half) (stored : Lookup) (stop_at : Draft → Hash → Option Stop) (lent d : Draft) (o : Option Draft) (key key' : Hash)
    (was : Some lent ≡ o) (is : o ≡ Some d) (same : key' ≡ key) where
  moved : (Y : Type 0) (r : Result Y MapFault) → GoesBy half stored lent (stop_at lent key') r → GoesBy half stored d (stop_at d key) r
  moved Y r = subst (λ (v : Draft × Hash). GoesBy half stored v.0 (stop_at v.0 v.1) r) (λ i. (same_draft lent d (was ∙ is) i, same i))

  pub stopped_by : (X Y : Type 0) (why : MapFault) (r : Result Y MapFault) → IsErrAnd r (λ y. y ≡ why)
      → GoesBy {X = X} half stored lent (stop_at lent key') (Err why) → GoesBy half stored d (stop_at d key) r
  stopped_by X Y why (Ok y) e goes = absurd e
  stopped_by X Y why (Err y) e goes =
      subst (λ (x : MapFault). GoesBy {X = Y} half stored d (stop_at d key) (Err x)) (sym e)
      (moved Y (Err why) (record { way = stopped X Y (stop_at lent key') why goes.way; free = goes.free }))

  pub gone_by : (X Y : Type 0) (x : X) (y : Y) → GoesBy {X = X} half stored lent (stop_at lent key') (Ok x)
      → GoesBy half stored d (stop_at d key) (Ok y)
  gone_by X Y x y goes = moved Y (Ok y) (record { way = goes.way; free = goes.free })
