-- How far a read came that goes on outside the core's lock.
use Rattle.std.specs.Prelude.{◌≡◌, false, None}
use Rattle.ledger_spec.specs.Bytes.{Half, is_zero}
use Rattle.path_proof.specs.declared.way.Reading.{Reading}
use Rattle.path_proof.specs.Progressing.{IsOnWay}
use Rattle.store_core.specs.declared.jobs.ReadJob.{ReadJob}

-- a read on its way below a job's root, whose hash isn't zero; of what is held nothing is known
pub record IsDescent (half : Half) (job : ReadJob) (reading : Reading) : Type 0 where
  pub root : is_zero job.root ≡ false
  pub on_way : IsOnWay half job.kind job.root job.key false (λ h. None) reading
