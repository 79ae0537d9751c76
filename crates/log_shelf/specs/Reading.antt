-- What reading the disks of a room leaves of it, and why nothing was read.
use Rattle.std.specs.Prelude.{◌≡◌, ◌≢◌, ℕ, Bool, IsTrue, Result, Err, OnErr}
use Rattle.run_io.specs.Bytes.{Rose}
use Rattle.log_shelf.specs.Rooms.{Files}
use Rattle.log_shelf.specs.declared.recover.RecoverFault.{RecoverFault}
use Rattle.log_shelf.specs.declared.recover.RecoverFault.TheVariants as fault

-- the files are as before; a calm room stays calm, and only memory can be refused; else the room failed in this call, or the disk that is
-- told did
pub record ReadsRoom {R D X : Type 0} (tells : Bool) (files : R → Files) (is_calm : R → Bool) (faults : R → ℕ) (disk_faults : D → ℕ)
    (old new : R) (result : Result X (RecoverFault D)) : Type 0 where
  pub same : IsTrue tells → files new ≡ files old
  pub calm : IsTrue (is_calm old) → IsTrue (is_calm new) × OnErr result (result ≡ Err fault.Memory)
  pub room : result ≡ Err fault.Room → Rose (faults old) (faults new)
  pub disk : (d : D) → result ≡ Err (fault.Disk d) → disk_faults d ≢ 0
