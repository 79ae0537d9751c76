-- One acquisition of a ledger from many peers: a bad outcome charges its peer, and a check says whom to ask for what is missing.
use Rattle.std.specs.Prelude.{ℕ, ◌==◌, ◌&&◌, not, nat_lt, Bool, true, false, if◌then◌else◌, List, [], ◌∷◌, Option, None, Some}
use Rattle.std.specs.Option.{option_map_or}
use Rattle.ledger_spec.specs.declared.Place.{Place}
use Rattle.ledger_spec.specs.declared.ShapeFault.{ShapeFault}
use Rattle.ledger_spec.specs.declared.outcomes.Offered.{Offered}
use Rattle.ledger_spec.specs.declared.outcomes.Offered.TheVariants as offered
use Rattle.ledger_spec.specs.declared.outcomes.HeadOffered.{HeadOffered}
use Rattle.ledger_spec.specs.declared.outcomes.HeadOffered.TheVariants as head
use Rattle.ledger_spec.specs.declared.peers.Ask.{Ask}
use Rattle.ledger_spec.specs.Bytes.{Hash, is_zero}
use Rattle.ledger_spec.specs.Bases.{Judged}
use Rattle.ledger_spec.specs.Peers.{Peers, no_peers, is_present, after_charging, ask_for, after_asking}

-- a wanted ledger: its hash, the sequence that was asked for, 0 where any will do, and the peers
pub record Acquiring : Type 0 where
  pub target : Hash
  pub seq : ℕ
  pub peers : Peers

-- an acquisition that begins
abbrev pub acquiring : Hash → ℕ → Acquiring
acquiring t seq = record { target = t; seq = seq; peers = no_peers }

-- a header is bad where its length or its hash is another one
abbrev pub is_bad_head : HeadOffered → Bool
is_bad_head (head.BadLength size) = true
is_bad_head (head.BadHash found) = true
is_bad_head _ = false

-- a node is bad where its bytes are no wire form, or its hash isn't the wanted one
abbrev pub is_bad : Offered → Bool
is_bad (offered.BadWire cause) = true
is_bad (offered.BadHash wanted found) = true
is_bad _ = false

-- and so is a root, where one was given
abbrev pub is_bad_root : Option Offered → Bool
is_bad_root o = option_map_or is_bad o false

-- a bad outcome charges its peer once, if that is present; no other outcome charges
abbrev pub after_outcome : ℕ → Bool → Peers → Peers
after_outcome p bad s = if bad && is_present s p then after_charging s p else s

-- each bad part of a base reply is one charge, in the order of the parts
abbrev pub after_judging : ℕ → Judged → Peers → Peers
after_judging p j s = after_outcome p (is_bad_root j.tx) (after_outcome p (is_bad_root j.state) (after_outcome p (is_bad_head j.header) s))

-- what a check comes to: the ledger is complete, places are missing and somebody is asked, or it is no ledger that is acceptable
pub data Verdict : Type 0 where
  complete : Verdict
  incomplete : Ask → Verdict
  seq_differs : ℕ → ℕ → Verdict
  zero_state : Verdict
  below_floor : ℕ → Verdict
  malformed : Place → ShapeFault → Verdict

-- by the missing places
abbrev pub missing_verdict : Peers → List Place → Verdict
missing_verdict s [] = complete
missing_verdict s (place ∷ rest) = incomplete (ask_for s (place ∷ rest))

-- a broken place comes before them
abbrev pub place_verdict : Peers → Option (Place × ShapeFault) → List Place → Verdict
place_verdict s (Some b) missing = malformed b.0 b.1
place_verdict s None missing = missing_verdict s missing

-- what a header of this sequence and state root decides, for the asked sequence and the floor; `rest` where it decides nothing
abbrev pub header_verdict : ℕ → ℕ → ℕ → Hash → Verdict → Verdict
header_verdict asked floor seq root rest =
    if not (asked == 0) && not (asked == seq) then seq_differs asked seq
    else if is_zero root then zero_state
    else if nat_lt seq floor then below_floor floor
    else rest

-- what was found decides: the stored header by its sequence and state root, then the broken place, then the missing ones
abbrev pub check_verdict : Acquiring → ℕ → Option (ℕ × Hash) → Option (Place × ShapeFault) → List Place → Verdict
check_verdict a floor header broken missing =
    let places = place_verdict a.peers broken missing in
    option_map_or (λ (h : ℕ × Hash). header_verdict a.seq floor h.0 h.1 places) header places

-- the peer that is asked has moved to the end, and the places are asked; nothing else changes
abbrev pub after_verdict : Acquiring → Verdict → Acquiring
after_verdict a (incomplete ask) = record a { peers = after_asking a.peers ask }
after_verdict a _ = a
