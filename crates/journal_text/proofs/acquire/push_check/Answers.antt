use Rattle.std.proofs.Common.{append_assoc}
use Rattle.journal_text.proofs.acquire.push_check.Goals as goal

pub returns-in-SeqDiffers : goal.returns-in-SeqDiffers
returns-in-SeqDiffers c = rw (c.in-SeqDiffers.is, append_assoc) c.write-in-SeqDiffers.ensures.bytes
