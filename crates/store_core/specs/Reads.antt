-- What a reader got for a job, and the reply to it.
use Rattle.std.specs.Prelude.{◌≡◌, ◌⊎◌, List, [], None, Result, Ok, Err, IfOk}
use Rattle.std.specs.declared.sync.Arc.{Arc}
use Rattle.std.specs.declared.alloc.Global.{Global}
use Rattle.shamap_node.specs.declared.Node.{Node}
use Rattle.ledger_spec.specs.declared.Kind.{Kind}
use Rattle.ledger_spec.specs.Bytes.{Hash, Half}
use Rattle.ledger_spec.specs.Reads.{follow}
use Rattle.path_proof.specs.declared.answer.Answer.{Answer}
use Rattle.path_proof.specs.declared.answer.ReadFault.{ReadFault}
use Rattle.store_core.specs.declared.jobs.ReadJob.{ReadJob}
use Rattle.path_proof.specs.Paths.{held_nodes}
use Rattle.ledger_machine.specs.declared.commands.GetReply.{GetReply}
use Rattle.ledger_machine.specs.declared.commands.Reply.{Reply}
use Rattle.ledger_machine.specs.declared.commands.Reply.TheVariants as says
use Rattle.ledger_machine.specs.Reading.{IsRead}
use Rattle.core_machine.specs.Reads.{IsFollowed}

-- an answer that a reader got for a job is the one that its nodes say
abbrev pub IsSaid : Half → ReadJob → Result Answer ReadFault → Type 0
IsSaid half job got = IfOk got (IsFollowed half job.kind job.root job.key)

-- it has an answer whose nodes say nothing of the job's key
abbrev pub IsUnsaid : Half → ReadJob → Result Answer ReadFault → Type 0
IsUnsaid half job (Ok a) = follow half job.kind job.root job.key (held_nodes a.used.items) ≡ None
IsUnsaid half job (Err why) = ⊥

-- the same nodes, or the same reason
abbrev pub IsJudged : Result Answer ReadFault → Result Answer ReadFault → Type 0
IsJudged (Ok a) got = (b : Answer) × (got ≡ Ok b) × (b.used.items ≡ a.used.items)
IsJudged (Err why) got = got ≡ Err why

-- the reply is by what an answer's path says of the key, and uses that path; or memory was refused
abbrev pub IsReplied : Half → Kind → Hash → Hash → Answer → Reply → List (Arc Node Global) → Type 0
IsReplied half kind root key a reply used =
    ((reply ≡ says.Memory) × (used ≡ []))
    ⊎ ((g : GetReply) × (reply ≡ says.Get g) × IsRead half kind key root (says.Get g) (held_nodes used) × (used ≡ a.used.items))
