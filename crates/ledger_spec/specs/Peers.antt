-- The peer rule. Peers of an acquisition take turns in order of joining, no place is asked for twice between two ticks, the fourth charge
-- drops a peer for good, and the seventh tick gives up.
use Rattle.std.specs.Prelude.{ℕ, ◌+◌, ◌==◌, ◌&&◌, not, Bool, true, false, if◌then◌else◌, List, [], ◌∷◌, ◌++◌, length, take}
use Rattle.std.specs.List.{filter, list_any}
use Rattle.std.specs.Option.{unwrap_or}
use Rattle.std.specs.Ordering.{nat_cmp}
use Rattle.ledger_spec.specs.Maps.{ForPeer, get_in, has_in, insert_in, set_in}
use Rattle.ledger_spec.specs.declared.Place.{Place}
use Rattle.ledger_spec.specs.declared.Place.TheVariants.{Header, Node}
use Rattle.ledger_spec.specs.declared.peers.Added.{Added}
use Rattle.ledger_spec.specs.declared.peers.Added.TheVariants as adds
use Rattle.ledger_spec.specs.declared.peers.Charge.{Charge}
use Rattle.ledger_spec.specs.declared.peers.Charge.TheVariants.{Charged, Dropped}
use Rattle.ledger_spec.specs.declared.peers.Ask.{Ask}
use Rattle.ledger_spec.specs.declared.peers.Ask.TheVariants.{Send, Waiting, NoPeer}
use Rattle.ledger_spec.specs.declared.peers.Tick.{Tick}
use Rattle.ledger_spec.specs.declared.peers.Tick.TheVariants.{Timeout, GaveUp}
use Rattle.ledger_spec.specs.Bytes.{same_bytes}
use Rattle.ledger_spec.specs.Rules.{same_kind}

-- the peers of an acquisition: the present ones in order of turn, the charges of every peer that was ever added, the places asked since
-- the last tick, and the ticks
pub record Peers : Type 0 where
  pub present : List ℕ
  pub charges : ForPeer ℕ
  pub asked : List Place
  pub ticks : ℕ

-- no peers, nothing asked, no ticks
abbrev pub no_peers : Peers
no_peers = record { present = []; charges = []; asked = []; ticks = 0 }

-- it has a turn
abbrev pub is_present : Peers → ℕ → Bool
is_present s p = list_any (λ q. q == p) s.present

-- added before, perhaps dropped since
abbrev pub was_added : Peers → ℕ → Bool
was_added s p = has_in nat_cmp s.charges p

-- what a peer that joins is told
abbrev pub added : Peers → ℕ → Added
added s p = if was_added s p then adds.Known else adds.Added

-- a new peer is the last of the present ones, with no charge
abbrev pub after_adding : Peers → ℕ → Peers
after_adding s p =
    if was_added s p then s else record s { present = s.present ++ p ∷ []; charges = insert_in nat_cmp s.charges p 0 }

-- how many charges drop a peer
abbrev pub most_charges : ℕ
most_charges = 4

-- how often the peer was charged
abbrev pub charges_of : Peers → ℕ → ℕ
charges_of s p = unwrap_or (get_in nat_cmp s.charges p) 0

-- the next charge drops the peer
abbrev pub is_last_charge : Peers → ℕ → Bool
is_last_charge s p = charges_of s p + 1 == most_charges

-- what comes of a charge
abbrev pub charged : Peers → ℕ → Charge
charged s p = if is_last_charge s p then Dropped else Charged (charges_of s p + 1)

-- the others, in their order
abbrev pub without : ℕ → List ℕ → List ℕ
without p peers = filter (λ q. not (q == p)) peers

-- a present peer has one charge more, and with the last it is present no more
abbrev pub after_charging : Peers → ℕ → Peers
after_charging s p = record s {
  present = (if is_last_charge s p then without p s.present else s.present);
  charges = set_in nat_cmp s.charges p (charges_of s p + 1);
}

-- how many places are asked for at once
abbrev pub most_asked : ℕ
most_asked = 128

-- the two places are one
abbrev pub same_place : Place → Place → Bool
same_place Header Header = true
same_place (Node kind path) (Node other way) = same_kind kind other && same_bytes path way
same_place _ _ = false

-- the places that weren't asked since the last tick
abbrev pub unasked : List Place → List Place → List Place
unasked asked places = filter (λ p. not (list_any (same_place p) asked)) places

-- the first places that weren't asked go to the first peer; where all n were asked, it waits
abbrev pub send_or_wait : ℕ → ℕ → List Place → Ask
send_or_wait peer n [] = Waiting n
send_or_wait peer n (place ∷ rest) = Send peer (place ∷ rest)

-- nobody is asked where none is present
abbrev pub ask_first : List ℕ → List Place → List Place → Ask
ask_first [] asked places = NoPeer
ask_first (peer ∷ others) asked places = send_or_wait peer (length places) (take most_asked (unasked asked places))

-- who is asked for these missing places
abbrev pub ask_for : Peers → List Place → Ask
ask_for s places = ask_first s.present s.asked places

-- whose turn it was comes last
abbrev pub first_to_end : List ℕ → List ℕ
first_to_end [] = []
first_to_end (peer ∷ rest) = rest ++ peer ∷ []

-- the peer that is asked has moved to the end, and the places are asked
abbrev pub after_asking : Peers → Ask → Peers
after_asking s (Send peer places) = record s { present = first_to_end s.present; asked = s.asked ++ places }
after_asking s _ = s

-- how many ticks give an acquisition up
abbrev pub most_ticks : ℕ
most_ticks = 7

-- what comes of a tick
abbrev pub ticked : Peers → Tick
ticked s = if s.ticks + 1 == most_ticks then GaveUp most_ticks else Timeout (s.ticks + 1)

-- what was asked is forgotten
abbrev pub after_tick : Peers → Peers
after_tick s = record s { asked = []; ticks = s.ticks + 1 }
