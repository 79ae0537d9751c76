-- The line that an audit prints.
use Rattle.std.specs.Prelude.{ℕ, ◌++◌, ◌∷◌, [], codes, Option, None, Some}
use Rattle.std.specs.Fmt.{decimal}
use Rattle.hex.specs.Hex.{encode_upper}
use Rattle.ledger_spec.specs.Bytes.{Bytes}
use Rattle.audit_core.specs.declared.cause.Cause.{Cause}
use Rattle.audit_core.specs.declared.cause.Cause.TheVariants as causes
use Rattle.audit_core.specs.declared.answer.Answer.{Answer}
use Rattle.audit_core.specs.declared.answer.Answer.TheVariants.{Whole, OtherHash, OtherState, OtherTx, Refused}
use Rattle.path_audit.specs.declared.answer.PathAnswer.{PathAnswer}
use Rattle.path_audit.specs.declared.answer.PathAnswer.TheVariants as paths
use Rattle.ledger_audit.specs.declared.text.Said.{Said}
use Rattle.ledger_audit.specs.declared.text.Said.TheVariants.{OfLedger, OfPath}

-- the line that other words are answered with
abbrev pub usage_text : Bytes
usage_text = codes "usage: ledger_audit [--plain] [--expect HASH] | --path ROOT KEY" ++ 10 ∷ []

-- two hashes behind words
abbrev pub two_text : Bytes → Bytes → Bytes → Bytes
two_text words a b = words ++ encode_upper a ++ codes " " ++ encode_upper b

-- why a line is refused
abbrev pub cause_text : Cause → Bytes
cause_text causes.TooLong = codes "toolong"
cause_text causes.Unended = codes "unended"
cause_text causes.NoHeader = codes "noheader"
cause_text causes.Header = codes "header"
cause_text causes.Form = codes "form"
cause_text causes.Key = codes "key"
cause_text causes.Data = codes "data"
cause_text causes.ZeroKey = codes "zerokey"
cause_text causes.TooMuch = codes "toomuch"
cause_text causes.Late = codes "late"
cause_text causes.NoJson = codes "nojson"
cause_text causes.Hash = codes "hash"
cause_text causes.Index = codes "index"
cause_text causes.OtherLedger = codes "otherledger"
cause_text causes.State = codes "state"
cause_text causes.Item = codes "item"
cause_text causes.Extra = codes "extra"
cause_text causes.Unfinished = codes "unfinished"
cause_text (causes.NotBehind before key) = two_text (codes "notbehind ") before key

-- the ledger's hash and number
abbrev pub header_text : Bytes → ℕ → Bytes
header_text hash seq = codes "whole " ++ encode_upper hash ++ codes " seq " ++ decimal seq

-- how many items its state has, and the state's root
abbrev pub state_text : ℕ → Bytes → Bytes
state_text objects root = codes " objects " ++ decimal objects ++ codes " root " ++ encode_upper root

-- how many transactions there are, or that they weren't given
abbrev pub txs_text : Option ℕ → Bytes
txs_text None = codes " transactions unchecked"
txs_text (Some n) = codes " transactions " ++ decimal n

-- a refused line and its cause
abbrev pub refused_text : ℕ → Cause → Bytes
refused_text line cause = codes "refused " ++ decimal line ++ codes " " ++ cause_text cause

-- the line of an answer
abbrev pub answer_text : Answer → Bytes
answer_text (Whole sum) = header_text sum.hash sum.seq ++ state_text sum.objects sum.root ++ txs_text sum.transactions
answer_text (OtherHash wanted found) = two_text (codes "differs hash ") wanted found
answer_text (OtherState named found) = two_text (codes "differs state ") named found
answer_text (OtherTx named found) = two_text (codes "differs transactions ") named found
answer_text (Refused line cause) = refused_text line cause

-- the line of a path's answer
abbrev pub path_text : PathAnswer → Bytes
path_text (paths.Value bytes) = codes "value " ++ encode_upper bytes
path_text paths.Nothing = codes "none"
path_text paths.NoPath = codes "no path"
path_text (paths.Refused line cause) = refused_text line cause

-- the line of either
abbrev pub said_text : Said → Bytes
said_text (OfLedger answer) = answer_text answer
said_text (OfPath answer) = path_text answer
