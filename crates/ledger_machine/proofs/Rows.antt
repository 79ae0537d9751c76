-- A walk through the state's map, and what answers say was received, computed.
use Rattle.std.specs.Prelude.{◌≡◌, List, [], ◌∷◌, ◌++◌, refl, None}
use Rattle.std.specs.FinMap as map
use Rattle.std.specs.FinMap.{find as find_by}
use Rattle.std.proofs.Common.{ap, ◌∙◌, inl}
use Rattle.std.specs.Ordering.{nat_cmp}
use Rattle.std.specs.Cmp.Lexicographic.{slice_cmp}
use Rattle.half_hash.specs.Half.{byte_sum_half}
use Rattle.ledger_spec.specs.declared.Kind.TheVariants.{State}
use Rattle.ledger_spec.specs.declared.Place.TheVariants.{Node}
use Rattle.ledger_spec.specs.Bytes.{Bytes, Hash, Lookup}
use Rattle.ledger_spec.specs.Forms.{Held, header, form_of, inner_of, header_of, keyed_leaf_of, bare_leaf_of}
use Rattle.ledger_spec.specs.Findings.{walk, walk_map, walk_ledger, Finding, findings, lacks}
use Rattle.ledger_spec.specs.Wire.{read_wire}
use Rattle.ledger_machine.specs.declared.commands.Command.TheVariants as command
use Rattle.ledger_spec.specs.declared.outcomes.Offered.TheVariants as offered
use Rattle.ledger_spec.specs.declared.outcomes.HeadOffered.TheVariants as head
use Rattle.ledger_spec.specs.declared.replies.BaseReply.TheVariants as base
use Rattle.ledger_spec.specs.declared.replies.NodeReply.TheVariants as node
use Rattle.ledger_machine.specs.declared.commands.Reply.TheVariants as says
use Rattle.ledger_machine.specs.State.{form_in, opening}
use Rattle.ledger_machine.specs.Receipts.{Receives}
use Rattle.ledger_machine.proofs.RowValues.{at, leaf10, root10, bytes10}
use Rattle.ledger_machine.proofs.RowSteps.{lookup_of}

abbrev head10 : Held
head10 = header bytes10

abbrev with_root : List (Hash × Bytes)
with_root = (at 0xDD, form_of head10) ∷ (at 0xDE, form_of root10) ∷ []

abbrev whole10 : List (Hash × Bytes)
whole10 = (at 0xFA, form_of leaf10) ∷ with_root

abbrev missing_in : List (Hash × Bytes) → List Finding
missing_in es = findings byte_sum_half (λ h. find_by (slice_cmp nat_cmp) h es) (at 0xDD)

lacks_leaf : missing_in with_root ≡ lacks (Node State (1 ∷ [])) ∷ []
unfolding walk walk_map walk_ledger inner_of header_of keyed_leaf_of bare_leaf_of
lacks_leaf = refl

is_whole : missing_in whole10 ≡ []
unfolding walk walk_map walk_ledger inner_of header_of keyed_leaf_of bare_leaf_of
is_whole = refl

state_lacks_leaf : findings byte_sum_half (form_in (opening (map.from_entries with_root) 256)) (at 0xDD) ≡ lacks
    (Node State (1 ∷ [])) ∷ []
state_lacks_leaf = ap (λ (n : Lookup). findings byte_sum_half n (at 0xDD)) (lookup_of with_root) ∙ lacks_leaf

state_is_whole : findings byte_sum_half (form_in (opening (map.from_entries whole10) 256)) (at 0xDD) ≡ []
state_is_whole = ap (λ (n : Lookup). findings byte_sum_half n (at 0xDD)) (lookup_of whole10) ∙ is_whole

-- the header that a base reply brings, and the leaf that a node reply brings, are received
received_header : Receives byte_sum_half (at 0xDD) (command.Base 5 (at 0xDD) bytes10 None None)
    (says.Base (base.Parts head.Good None None)) head10
received_header = (refl, inl (tt, refl))

received_leaf : Receives byte_sum_half (at 0xDD) (command.Node 5 (at 0xDD) State (1 ∷ []) ((1 ∷ 2 ∷ []) ++ at 0x10 ++ 1 ∷ []))
    (says.Node (node.One offered.Good)) leaf10
unfolding read_wire
received_leaf = (refl, (tt, refl))
