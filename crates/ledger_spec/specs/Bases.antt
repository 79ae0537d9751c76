-- What a peer's base reply comes to: a header, and the root nodes of the ledger's two maps where they are given. The parts are judged
-- in this order, each over what is stored together with the forms of those before it.
use Rattle.std.specs.Prelude.{is_some, if◌then◌else◌, List, [], ◌∷◌, ◌++◌, Option, None, Some, Result, Ok, Err}
use Rattle.ledger_spec.specs.declared.Kind.{Kind}
use Rattle.ledger_spec.specs.declared.Kind.TheVariants.{State, Tx}
use Rattle.ledger_spec.specs.declared.outcomes.Offered.{Offered}
use Rattle.ledger_spec.specs.declared.outcomes.HeadOffered.{HeadOffered}
use Rattle.ledger_spec.specs.Bytes.{Bytes, Hash, Half, Lookup, same_bytes}
use Rattle.ledger_spec.specs.Wire.{read_wire}
use Rattle.ledger_spec.specs.Offers.{Clash, head_outcome, head_forms, node_outcome, stored_by}

-- what is stored, with a form more under its own hash; a form that is there is not written again
abbrev pub with_form : Half → Lookup → Bytes → Lookup
with_form half nodes form h =
    if is_some (nodes (half form)) then nodes h else if same_bytes h (half form) then Some form else nodes h

abbrev pub with_forms : Half → Lookup → List Bytes → Lookup
with_forms half nodes [] = nodes
with_forms half nodes (form ∷ forms) = with_forms half (with_form half nodes form) forms

abbrev pub given : Result Offered Clash → Result (Option Offered) Clash
given (Ok o) = Ok (Some o)
given (Err c) = Err c

-- what becomes of a root, where one is given
abbrev pub root_outcome : Half → Lookup → Hash → Kind → Option Bytes → Result (Option Offered) Clash
root_outcome half nodes t kind None = Ok None
root_outcome half nodes t kind (Some blob) = given (node_outcome half nodes t kind [] blob)

-- the forms that it stores
abbrev pub root_forms : Half → Lookup → Hash → Kind → Option Bytes → List Bytes
root_forms half nodes t kind None = []
root_forms half nodes t kind (Some blob) = stored_by (read_wire half blob) (node_outcome half nodes t kind [] blob)

-- what became of the parts
pub record Judged : Type 0 where
  pub header : HeadOffered
  pub state : Option Offered
  pub tx : Option Offered

-- a clash in one part is the outcome of the whole
abbrev pub joined : Result HeadOffered Clash → Result (Option Offered) Clash → Result (Option Offered) Clash → Result Judged Clash
joined (Err c) _ _ = Err c
joined (Ok h) (Err c) _ = Err c
joined (Ok h) (Ok a) (Err c) = Err c
joined (Ok h) (Ok a) (Ok b) = Ok (record { header = h; state = a; tx = b })

-- nothing is judged behind a clash
abbrev pub unless_clash : {X : Type 0} → Result X Clash → List Bytes → List Bytes
unless_clash (Ok x) forms = forms
unless_clash (Err c) forms = []

module _ (half : Half) (nodes : Lookup) (t : Hash) (header : Bytes) (state tx : Option Bytes) where
  -- what is stored behind the header, and behind the state root
  abbrev pub behind_header : Lookup
  behind_header = with_forms half nodes (head_forms (head_outcome half nodes t header) header)

  abbrev pub behind_state : Lookup
  behind_state = with_forms half behind_header (root_forms half behind_header t State state)

  -- what becomes of the parts, or the first clash
  abbrev pub base_outcome : Result Judged Clash
  base_outcome =
      joined (head_outcome half nodes t header) (root_outcome half behind_header t State state) (root_outcome half behind_state t Tx tx)

  -- the forms that the parts store
  abbrev pub base_forms : List Bytes
  base_forms =
      let roots = root_forms half behind_header t State state
      ++ unless_clash (root_outcome half behind_header t State state) (root_forms half behind_state t Tx tx)
      in
      head_forms (head_outcome half nodes t header) header ++ unless_clash (head_outcome half nodes t header) roots
