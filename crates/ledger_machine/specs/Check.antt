-- The row of `check`.
use Rattle.std.specs.Prelude.{ℕ, Option, None, Some}
use Rattle.std.specs.List.{filter_map}
use Rattle.std.specs.Option.{option_map}
use Rattle.ledger_spec.specs.Maps.{hash_cmp, get_in}
use Rattle.ledger_spec.specs.Bytes.{Bytes, Hash, Half}
use Rattle.ledger_spec.specs.Header.{seq_of, state_root_of}
use Rattle.ledger_spec.specs.Spots.{header_in}
use Rattle.ledger_spec.specs.Findings.{missing_of, first_broken, seen}
use Rattle.ledger_spec.specs.declared.peers.Ask.TheVariants as asks
use Rattle.ledger_spec.specs.Acquiring.{Acquiring, Verdict, incomplete, check_verdict, after_verdict}
use Rattle.ledger_spec.specs.Replies.{check_said}
use Rattle.ledger_spec.specs.declared.replies.CheckReply.{CheckReply}
use Rattle.ledger_spec.specs.declared.replies.CheckReply.TheVariants.{Complete, Need, Waiting, NoPeer, SeqDiffers, ZeroState}
use Rattle.ledger_spec.specs.declared.replies.CheckReply.TheVariants.{BelowFloor, Malformed, NotOpen}
use Rattle.ledger_machine.specs.State.{State, form_in, with_wanted, ended, listed_with}

-- what a header tells of its ledger: the sequence and the state root
abbrev pub told_by : Bytes → ℕ × Hash
told_by h = (seq_of h, state_root_of h)

-- what an acquisition comes to, by the header that is stored under the target and by what is missing or broken
abbrev pub verdict_of : Half → State → Hash → Acquiring → Verdict
verdict_of half s t a =
    let found = seen half (form_in s) t in
    check_verdict a s.floor (option_map told_by (header_in (form_in s) t)) (first_broken found) (filter_map missing_of found)

abbrev pub check_given : Half → State → Hash → Option Acquiring → CheckReply
check_given half s t None = NotOpen
check_given half s t (Some a) = check_said (verdict_of half s t a)

abbrev pub check_reply : Half → State → Hash → CheckReply
check_reply half s t = check_given half s t (get_in hash_cmp s.wanted t)

-- a complete ledger is listed with this sequence; its acquisition ends, and so does one whose ledger isn't acceptable; the peer that is
-- asked has moved to the end
abbrev pub after_check : State → Hash → ℕ → CheckReply → State
after_check s t seq Complete = ended (listed_with s t seq) t
after_check s t seq (Need p places) = with_wanted s t (λ a. after_verdict a (incomplete (asks.Send p places)))
after_check s t seq (SeqDiffers asked found) = ended s t
after_check s t seq ZeroState = ended s t
after_check s t seq (BelowFloor f) = ended s t
after_check s t seq (Malformed place rule) = ended s t
after_check s t seq _ = s
