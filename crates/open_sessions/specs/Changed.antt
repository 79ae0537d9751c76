-- What a call makes of the open sessions.
use Rattle.std.specs.Prelude.{◌≡◌, ℕ, Bool, true, false, IfErr, IsTrue, Option, None, Some, Result}
use Rattle.ledger_spec.specs.Bytes.{Half, Lookup}
use Rattle.ledger_spec.specs.Maps.{ForActor, numbered_cmp, get_in, set_in}
use Rattle.node_backend.specs.declared.back.BackFault.{BackFault}
use Rattle.node_backend.specs.declared.back.BackFault.TheVariants as back
use Rattle.cow_map.specs.declared.fault.MapFault.{MapFault}
use Rattle.cow_map.specs.declared.fault.MapFault.TheVariants as causes
use Rattle.cow_map.specs.Ways.{Stop}
use Rattle.edit_session.specs.Changes.{GoesBy}
use Rattle.edit_session.specs.Drafts.{Draft}

-- an open session's draft has become another one that is so; or none of that number is open
abbrev pub Changed : (Draft → Draft → Type 0) → ForActor Draft → ForActor Draft → ℕ × ℕ → Bool → Type 0
Changed IsNext old new x true =
    (d : Draft) × (d' : Draft) × (get_in numbered_cmp old x ≡ Some d) × (new ≡ set_in numbered_cmp old x d') × IsNext d d'
Changed IsNext old new x false = (get_in numbered_cmp old x ≡ None) × (new ≡ old)

-- what is answered where a map wasn't changed: what a source gave is whole, so that only memory was wanted where it didn't fail
abbrev pub unedited : MapFault → BackFault
unedited causes.Fault = back.Fault
unedited _ = back.Memory

-- what stops a call on an open session is what stops that session's map, and where the session isn't open only memory is wanted
pub record GoesByOpen {X : Type 0} (tells : Bool) (half : Half) (stored : Lookup) (drafts : ForActor Draft) (id : ℕ × ℕ)
    (stop : Draft → Option Stop) (result : Result X MapFault) : Type 0 where
  pub way : IsTrue tells → (d : Draft) → get_in numbered_cmp drafts id ≡ Some d → GoesBy half stored d (stop d) result
  pub shut : get_in numbered_cmp drafts id ≡ None → IfErr result (λ e. e ≡ causes.Memory)
