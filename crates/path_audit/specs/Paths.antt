-- What the nodes of lines say of a key.
use Rattle.std.specs.Prelude.{◌≡◌, ℕ, nat_lt, if◌then◌else◌, List, [], ◌∷◌, ◌++◌, length, Option, None, Some, Result, Ok, Err}
use Rattle.hex.specs.Hex.{decode_of}
use Rattle.ledger_spec.specs.declared.Kind.TheVariants.{State}
use Rattle.ledger_spec.specs.Bytes.{Bytes, Hash, Half, IsHalf}
use Rattle.ledger_spec.specs.Forms.{Held, inner, leaf, header, form_of}
use Rattle.ledger_spec.specs.Findings.{held_of}
use Rattle.ledger_spec.specs.Reads.{Outcome, nothing, value, follow, IsKey, AnswersOrShows}
use Rattle.audit_core.specs.declared.cause.Cause.{Cause}
use Rattle.audit_core.specs.declared.cause.Cause.TheVariants as causes
use Rattle.audit_core.specs.Said.{digits_of}
use Rattle.audit_core.specs.Runs.{SaysOf, joined}
use Rattle.path_audit.specs.declared.answer.PathAnswer.{PathAnswer}
use Rattle.path_audit.specs.declared.answer.PathAnswer.TheVariants.{Value, Nothing, NoPath, Refused}

-- the most bytes of a line: those of the longest leaf's form, two digits a byte
abbrev pub path_most : ℕ
path_most = 2097224

-- what is held, but for a header
abbrev pub node_held : Option Held → Result Held Cause
node_held None = Err causes.Form
node_held (Some (inner hashes)) = Ok (inner hashes)
node_held (Some (leaf kind key bytes)) = Ok (leaf kind key bytes)
node_held (Some (header bytes)) = Err causes.Form

-- the node whose form the bytes are
abbrev pub node_of : Half → Option Bytes → Result Held Cause
node_of half None = Err causes.Data
node_of half (Some form) = node_held (held_of half form)

abbrev pub behind : List Held → Result Held Cause → Result (List Held) Cause
behind used (Ok n) = Ok (used ++ n ∷ [])
behind used (Err cause) = Err cause

-- the nodes so far, and that of a line more; a path has at most 65
abbrev pub with_node : Half → List Held → Bytes → Result (List Held) Cause
with_node half used line = if nat_lt 64 (length used) then Err causes.Extra else behind used (node_of half (digits_of line))

-- the nodes so far, at first none
abbrev pub nodes_in : Option (List Held) → List Held
nodes_in None = []
nodes_in (Some used) = used

abbrev pub after_node : Half → Option (List Held) → Bytes → Result (List Held) Cause
after_node half used line = with_node half (nodes_in used) line

-- the answer by what the nodes say
abbrev pub PathSays : Option Outcome → PathAnswer → Type 0
PathSays None answer = answer ≡ NoPath
PathSays (Some nothing) answer = answer ≡ Nothing
PathSays (Some (value bytes)) answer = answer ≡ Value bytes

module _ (half : Half) (root key : Hash) where
  -- the end: what the nodes say
  abbrev pub Comes : ℕ → Option (List Held) → PathAnswer → Type 0
  Comes n used answer = PathSays (follow half State root key (nodes_in used)) answer

  -- the answer to a whole input
  abbrev pub IsPathAnswer : Bytes → PathAnswer → Type 0
  IsPathAnswer bytes answer = SaysOf Refused path_most (after_node half) Comes 1 None bytes answer

-- what an answer says of the key
abbrev pub Told : PathAnswer → Option Outcome
Told (Value bytes) = Some (value bytes)
Told Nothing = Some nothing
Told NoPath = None
Told (Refused line cause) = None

-- each line is the form of the node at its place, in hexadecimal
abbrev pub AreForms : List Bytes → List Held → Type 0
AreForms [] [] = Unit {0}
AreForms [] (n ∷ used) = ⊥
AreForms (line ∷ lines) [] = ⊥
AreForms (line ∷ lines) (n ∷ used) = (decode_of line ≡ Ok (form_of n)) × AreForms lines used

-- the bytes are the forms of these nodes, a line each
pub record IsPathText (bytes : Bytes) (used : List Held) : Type 0 where
  pub lines : List Bytes
  pub bytes_are : bytes ≡ joined lines
  pub each : AreForms lines used

-- the nodes of the input lead from the root to the outcome, which is the answer of each map with the root, or they show two nodes with one
-- hash, where the empty node has the zero hash
pub record Proves (half : Half) (root key : Hash) (bytes : Bytes) (outcome : Outcome) : Type 0 where
  pub used : List Held
  pub text : IsPathText bytes used
  pub leads : follow half State root key used ≡ Some outcome
  pub answers : AnswersOrShows half State root key used outcome

-- so it is with the nodes of each input that is answered by a value, or by nothing
abbrev pub PathProves : Type 0
PathProves = (half : Half) → IsHalf half → (root key : Hash) → IsKey key → (bytes : Bytes) (answer : PathAnswer)
    → IsPathAnswer half root key bytes answer → (outcome : Outcome) → Told answer ≡ Some outcome → Proves half root key bytes outcome
