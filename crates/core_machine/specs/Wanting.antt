-- The open acquisitions, and what is answered of them.
use Rattle.std.specs.Prelude.{◌≡◌, ◌<◌, ℕ, List, [], ◌∷◌, Option, None, Some, Result, Ok, Err}
use Rattle.std.specs.Option.{option_map_or}
use Rattle.std.specs.List.{All}
use Rattle.ledger_spec.specs.Bytes.{Hash}
use Rattle.ledger_spec.specs.Maps.{ForHash}
use Rattle.ledger_spec.specs.Peers.{most_ticks}
use Rattle.ledger_spec.specs.Acquiring.{Acquiring}
use Rattle.ledger_spec.specs.declared.replies.BaseReply.{BaseReply}
use Rattle.ledger_spec.specs.declared.replies.NodeReply.{NodeReply}
use Rattle.ledger_spec.specs.declared.replies.CheckReply.{CheckReply}
use Rattle.ledger_spec.specs.declared.replies.CheckReply.TheVariants as check
use Rattle.ledger_spec.specs.Replies.{check_said}
use Rattle.ledger_header.specs.declared.Header.{Header}
use Rattle.missing_walk.specs.declared.Found.{Found}
use Rattle.node_offer.specs.declared.fault.OfferFault.{OfferFault}
use Rattle.acquire_core.specs.Replies.{found_verdict}
use Rattle.ledger_machine.specs.declared.commands.Reply.{Reply}
use Rattle.ledger_machine.specs.declared.commands.Reply.TheVariants as says
use Rattle.ledger_machine.specs.State.{State, ended, listed_with}
use Rattle.core_machine.specs.Refusals.{refusal_of}

-- an open acquisition is of the ledger under whose hash it stands, and wasn't given up
pub record IsOpen (t : Hash) (a : Acquiring) : Type 0 where
  pub own : a.target ≡ t
  pub awaited : a.peers.ticks < most_ticks

abbrev pub AreOpen : ForHash Acquiring → Type 0
AreOpen wanted = All (λ e. IsOpen e.0 e.1) wanted

-- a base reply that isn't judged is answered by what stands in the way
abbrev pub base_answer : Result BaseReply OfferFault → Reply
base_answer (Ok r) = says.Base r
base_answer (Err fault) = refusal_of fault

abbrev pub node_answer : Result NodeReply OfferFault → Reply
node_answer (Ok r) = says.Node r
node_answer (Err fault) = refusal_of fault

-- what a check answers by what a search found
abbrev pub judged_by : Option Acquiring → ℕ → Found → CheckReply
judged_by None floor found = check.NotOpen
judged_by (Some a) floor found = check_said (found_verdict a floor found)

-- the sequence of the header that was found, 0 where none was
abbrev pub found_seq : Found → ℕ
found_seq found = option_map_or (λ (h : Header). h.seq) found.header 0

-- what the answer ends: a complete ledger is listed with this sequence, and one that isn't acceptable is wanted no more
abbrev pub settled : State → Hash → ℕ → CheckReply → State
settled s t seq check.Complete = ended (listed_with s t seq) t
settled s t seq (check.SeqDiffers asked found) = ended s t
settled s t seq check.ZeroState = ended s t
settled s t seq (check.BelowFloor floor) = ended s t
settled s t seq (check.Malformed place fault) = ended s t
settled s t seq _ = s

-- what the rotation under way is told then: a ledger that is listed
abbrev pub told_at : Hash → CheckReply → List Hash
told_at t check.Complete = t ∷ []
told_at t _ = []
