-- What calls do to the count of faults of a device.
use Rattle.std.specs.Prelude.{◌≡◌, ◌≤◌, ℕ, Result, Err}
use Rattle.run_io.specs.Bytes.{Rose}
use Rattle.node_backend.specs.declared.back.BackFault.{BackFault}
use Rattle.node_backend.specs.declared.back.BackFault.TheVariants.{Fault}

-- it holds where a call ends with the fault of a device
abbrev pub OnFault : {X : Type 0} → Result X BackFault → Type 0 → Type 0
OnFault result p = result ≡ Err Fault → p

-- a call leaves a device its number; its count of faults doesn't fall, and where the device failed it rose
pub record LeavesDevice {D : Type 0} (number faults : D → ℕ) (Where : Type 0 → Type 0) (old new : D) : Type 0 where
  pub numbered : number new ≡ number old
  pub later : faults old ≤ faults new
  pub cause : Where (Rose (faults old) (faults new))
