-- What becomes of an acquisition that takes what a peer offers, and what a check of it comes to.
use Rattle.std.specs.Prelude.{◌≡◌, ℕ, Bool, true, false, List, [], ◌++◌, length, Option, IfSome, Result, Ok, Err}
use Rattle.std.specs.Option.{option_map}
use Rattle.ledger_spec.specs.declared.Kind.{Kind}
use Rattle.ledger_spec.specs.declared.Kind.TheVariants.{State, Tx}
use Rattle.ledger_spec.specs.declared.replies.BaseReply.{BaseReply}
use Rattle.ledger_spec.specs.declared.replies.BaseReply.TheVariants as base
use Rattle.ledger_spec.specs.declared.replies.NodeReply.{NodeReply}
use Rattle.ledger_spec.specs.declared.replies.NodeReply.TheVariants as node
use Rattle.ledger_spec.specs.Bytes.{Bytes, Hash, Half, Lookup}
use Rattle.ledger_spec.specs.Forms.{Held, hash_of, header_prefix}
use Rattle.ledger_spec.specs.Wire.{read_wire}
use Rattle.ledger_spec.specs.Spots.{spot_of, wanted}
use Rattle.ledger_spec.specs.Bases.{behind_header, behind_state}
use Rattle.ledger_spec.specs.Peers.{is_present}
use Rattle.ledger_spec.specs.Acquiring.{Acquiring, Verdict, check_verdict}
use Rattle.ledger_spec.specs.Replies as replies
use Rattle.ledger_header.specs.declared.Header.{Header}
use Rattle.missing_walk.specs.declared.Found.{Found}
use Rattle.node_offer.specs.declared.fault.OfferFault.{OfferFault}

-- the bad parts charge the peer; after a fault, a clash or want of memory nothing has changed
abbrev pub after_base : Acquiring → ℕ → Result BaseReply OfferFault → Acquiring
after_base a p (Ok reply) = record a { peers = replies.after_base p reply a.peers }
after_base a p (Err e) = a

abbrev pub IsBaseOf : Bool → Result BaseReply OfferFault → Type 0
IsBaseOf present (Ok (base.Parts header state tx)) = present ≡ true
IsBaseOf present (Ok base.Unasked) = present ≡ false
IsBaseOf present (Ok base.NotOpen) = ⊥
IsBaseOf present (Err e) = present ≡ true

-- what becomes of an acquisition that takes a base reply
pub record TakesBase (old : Acquiring) (p : ℕ) (result : Result BaseReply OfferFault) (new : Acquiring) : Type 0 where
  -- unasked is answered exactly where the peer isn't present, and that the acquisition isn't open never
  pub asked : IsBaseOf (is_present old.peers p) result
  pub after : new ≡ after_base old p result

-- a node, likewise

abbrev pub after_node : Acquiring → ℕ → Result NodeReply OfferFault → Acquiring
after_node a p (Ok reply) = record a { peers = replies.after_node p reply a.peers }
after_node a p (Err e) = a

abbrev pub IsNodeOf : Bool → Result NodeReply OfferFault → Type 0
IsNodeOf present (Ok (node.One o)) = present ≡ true
IsNodeOf present (Ok node.Unasked) = present ≡ false
IsNodeOf present (Ok node.NotOpen) = ⊥
IsNodeOf present (Err e) = present ≡ true

-- what becomes of an acquisition that takes a node
pub record TakesNode (old : Acquiring) (p : ℕ) (result : Result NodeReply OfferFault) (new : Acquiring) : Type 0 where
  -- unasked is answered exactly where the peer isn't present, and that the acquisition isn't open never
  pub asked : IsNodeOf (is_present old.peers p) result
  pub after : new ≡ after_node old p result

-- what a peer offers has the hash that is wanted

-- the bytes are the wire form of a node whose hash is the one that is wanted at the place
pub record IsWanted (half : Half) (nodes : Lookup) (t : Hash) (kind : Kind) (path : List ℕ) (blob : Bytes) : Type 0 where
  pub node : Held
  pub parent : Option (List Hash)
  pub read : read_wire half blob ≡ Ok node
  pub place : spot_of nodes t kind path ≡ wanted (hash_of half node) parent

-- the header's hash is the target, and each root that is given is wanted over what is stored behind the parts before it
pub record AreWanted (half : Half) (nodes : Lookup) (t : Hash) (header : Bytes) (state tx : Option Bytes) : Type 0 where
  pub size : length header ≡ 118
  pub own : half (header_prefix ++ header) ≡ t
  pub state_root : IfSome state (IsWanted half (behind_header half nodes t header state tx) t State [])
  pub tx_root : IfSome tx (IsWanted half (behind_state half nodes t header state tx) t Tx [])

-- a check, by what a search found

-- what a header tells of its ledger: the sequence and the state root
abbrev pub told_by : Header → ℕ × Hash
told_by h = (h.seq, h.state_root)

abbrev pub found_verdict : Acquiring → ℕ → Found → Verdict
found_verdict a floor f = check_verdict a floor (option_map told_by f.header) f.broken f.missing
