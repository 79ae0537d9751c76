-- What becomes of a header or a node that a peer offers.
use Rattle.std.specs.Prelude.{ℕ, ◌==◌, not, if◌then◌else◌, List, [], ◌∷◌, ◌++◌, length, Option, None, Some, Result, Ok, Err}
use Rattle.ledger_spec.specs.declared.Kind.{Kind}
use Rattle.ledger_spec.specs.declared.ShapeFault.{ShapeFault}
use Rattle.ledger_spec.specs.Bytes.{Bytes, Hash, Half, Lookup, same_bytes}
use Rattle.ledger_spec.specs.Forms.{Held, form_of, hash_of, header_prefix}
use Rattle.ledger_spec.specs.Wire.{read_wire}
use Rattle.ledger_spec.specs.Rules.{rule_number, fault_of}
use Rattle.ledger_spec.specs.Spots.{Spot, no_base, no_parent, empty_branch, under_leaf, wanted, spot_of}
use Rattle.ledger_spec.specs.declared.outcomes.Offered.{Offered}
use Rattle.ledger_spec.specs.declared.outcomes.Offered.TheVariants as offered
use Rattle.ledger_spec.specs.declared.outcomes.HeadOffered.{HeadOffered}
use Rattle.ledger_spec.specs.declared.outcomes.HeadOffered.TheVariants as head

-- a hash with two forms: one that is stored, and one that was to be
pub record Clash : Type 0 where
  pub hash : Hash
  pub old : Bytes
  pub new : Bytes

-- a header of the right length and hash, given what is stored under the target
abbrev pub head_given : Hash → Bytes → Option Bytes → Result HeadOffered Clash
head_given t form None = Ok head.Good
head_given t form (Some old) = if same_bytes old form then Ok head.Duplicate else Err (record { hash = t; old = old; new = form })

-- the first that applies: a bad length, a bad hash, a clash, a duplicate, good
abbrev pub head_outcome : Half → Lookup → Hash → Bytes → Result HeadOffered Clash
head_outcome half nodes t bytes =
    let form = header_prefix ++ bytes in
    if not (length bytes == 118) then Ok (head.BadLength (length bytes))
    else if not (same_bytes (half form) t) then Ok (head.BadHash (half form))
    else head_given t form (nodes t)

-- a node with the wanted hash, given the rule that it breaks and what is stored under its hash
abbrev pub node_given : Option ShapeFault → Hash → Bytes → Option Bytes → Result Offered Clash
node_given None h form None = Ok offered.Good
node_given (Some fault) h form None = Ok (offered.Malformed (rule_number fault))
node_given fault h form (Some old) = if same_bytes old form then Ok offered.Duplicate else Err (record { hash = h; old = old; new = form })

-- a node, given the way to its place
abbrev pub spot_outcome : Half → Lookup → Kind → List ℕ → Held → Spot → Result Offered Clash
spot_outcome half nodes kind path n no_base = Ok offered.NoBase
spot_outcome half nodes kind path n (no_parent p) = Ok (offered.NoParent p)
spot_outcome half nodes kind path n (empty_branch p) = Ok (offered.EmptyBranch p)
spot_outcome half nodes kind path n (under_leaf p) = Ok (offered.UnderLeaf p)
spot_outcome half nodes kind path n (wanted h parent) =
    if same_bytes (hash_of half n) h then node_given (fault_of n parent kind path) h (form_of n) (nodes h)
    else Ok (offered.BadHash h (hash_of half n))

abbrev pub wire_outcome : Half → Lookup → Hash → Kind → List ℕ → Result Held ℕ → Result Offered Clash
wire_outcome half nodes t kind path (Err cause) = Ok (offered.BadWire cause)
wire_outcome half nodes t kind path (Ok n) = spot_outcome half nodes kind path n (spot_of nodes t kind path)

-- the first that applies: a bad wire form, the refusals of the place, a bad hash, a clash, a duplicate, a broken rule, good
abbrev pub node_outcome : Half → Lookup → Hash → Kind → List ℕ → Bytes → Result Offered Clash
node_outcome half nodes t kind path blob = wire_outcome half nodes t kind path (read_wire half blob)

-- what an outcome stores: a node that is good, or that breaks a rule
abbrev pub stored_by : Result Held ℕ → Result Offered Clash → List Bytes
stored_by (Ok n) (Ok offered.Good) = form_of n ∷ []
stored_by (Ok n) (Ok (offered.Malformed rule)) = form_of n ∷ []
stored_by _ _ = []

-- what the outcome of an offered header stores: a header that is good
abbrev pub head_forms : Result HeadOffered Clash → Bytes → List Bytes
head_forms (Ok head.Good) bytes = (header_prefix ++ bytes) ∷ []
head_forms _ bytes = []
