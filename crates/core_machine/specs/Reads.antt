-- What the machine says of reads.
use Rattle.std.specs.Prelude.{◌≡◌, ◌≢◌, ℕ, Bool, IsTrue, Option, Some, Result, IfOk, IfErr, IfSome}
use Rattle.std.specs.declared.sync.Arc.{Arc}
use Rattle.std.specs.declared.alloc.Global.{Global}
use Rattle.shamap_node.specs.declared.Node.{Node}
use Rattle.ledger_spec.specs.declared.Kind.{Kind}
use Rattle.ledger_spec.specs.Bytes.{Bytes, Hash, Half}
use Rattle.ledger_spec.specs.Forms.{hash_of}
use Rattle.run_io.specs.Bytes.{Rose}
use Rattle.shamap_node.specs.Nodes.{held}
use Rattle.path_proof.specs.Sources.{Gives}
use Rattle.path_proof.specs.declared.source.FetchFault.{FetchFault}
use Rattle.path_proof.specs.declared.source.FetchFault.TheVariants as faults
use Rattle.core_machine.specs.Desks.{Desk, OnlyReads}
use Rattle.ledger_spec.specs.Reads.{follow}
use Rattle.path_proof.specs.declared.answer.Answer.{Answer}
use Rattle.path_proof.specs.Paths.{held_nodes, outcome_by}
use Rattle.ledger_machine.specs.declared.commands.GetReply.{GetReply}
use Rattle.ledger_machine.specs.declared.commands.Reply.TheVariants as says
use Rattle.ledger_machine.specs.Reading.{IsLast, outcome_of}
use Rattle.ledger_machine.specs.State.{State, form_in}
use Rattle.ledger_machine.specs.Steps.{Gets, Pages, UsesNodes}
use Rattle.core_machine.specs.declared.views.Got.{Got}
use Rattle.core_machine.specs.declared.pages.Paged.{Paged}

-- the nodes of an answer's path say its outcome of the key
abbrev pub IsFollowed : Half → Kind → Hash → Hash → Answer → Type 0
IsFollowed half kind root key a =
    follow half kind root key (held_nodes a.used.items) ≡ Some (outcome_by (held_nodes a.used.items) a.outcome)

-- the reply says an answer's outcome, and its value is the last node of the path
abbrev pub Says : Answer → GetReply → Type 0
Says a reply = (outcome_of (says.Get reply) ≡ Some (outcome_by (held_nodes a.used.items) a.outcome))
    × IsLast (held_nodes a.used.items) (says.Get reply)

-- what a step of the machine gets at a key below a view's root, where the view is open
pub record IsGot (half : Half) (s : State) (kind : Kind) (key : Hash) (root : Option Hash) (s' : State) (got : Got) : Type 0 where
  pub gets : Gets half s kind key root (says.Get got.reply) (held_nodes got.used.items) s'
  pub uses : UsesNodes (says.Get got.reply) (held_nodes got.used.items)

-- what a step of the machine lists behind a key below a view's root, where the view is open
pub record IsListed (half : Half) (s : State) (kind : Kind) (key : Hash) (n : ℕ) (root : Option Hash) (s' : State) (paged : Paged)
    : Type 0 where
  pub pages : Pages half s kind key n root (says.Page paged.reply) (held_nodes paged.used.items) s'
  pub uses : UsesNodes (says.Page paged.reply) (held_nodes paged.used.items)

-- what is given for a hash is a node that has it, or none; where the store tells what it holds, the node of the bytes there
pub record IsNodeOf (half : Half) (tells : Bool) (there : Option Bytes) (h : Hash) (result : Result (Option (Arc Node Global)) FetchFault)
    : Type 0 where
  pub hash : IfOk result (λ o. IfSome o (λ node. hash_of half (held node.value) ≡ h))
  pub exact : IsTrue tells → Gives half there result

-- what is given for a hash are, where the store tells what it holds, the bytes there, which have it; no bytes are refused for what they say
pub record IsFormOf (half : Half) (tells : Bool) (there : Option Bytes) (h : Hash) (result : Result (Option Bytes) FetchFault)
    : Type 0 where
  pub exact : IsTrue tells → IfOk result (λ form. form ≡ there)
  pub own : IfOk result (λ o. IfSome o (λ form. IsTrue tells → half form ≡ h))
  pub unread : IfErr result (λ e. e ≢ faults.Foreign)

-- the node of a hash, as a store gives it that is only read
pub record GivesNode (half : Half) (tells : Bool) (d : Desk) (h : Hash) (result : Result (Option (Arc Node Global)) FetchFault) (d' : Desk)
    : Type 0 where
  pub node : IsNodeOf half tells (form_in d.state h) h result
  pub reads : OnlyReads tells d d'
  pub fault : IfErr result (λ e. e ≡ faults.Fault → Rose d.faults d'.faults)

-- the bytes of a hash, which have it where the store tells what it holds
pub record GivesForm (half : Half) (tells : Bool) (d : Desk) (h : Hash) (result : Result (Option Bytes) FetchFault) (d' : Desk)
    : Type 0 where
  pub form : IsFormOf half tells (form_in d.state h) h result
  pub reads : OnlyReads tells d d'
  pub fault : IfErr result (λ e. e ≡ faults.Fault → Rose d.faults d'.faults)
