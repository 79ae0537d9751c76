-- The law on paths, for the nodes that the code shares: a read's answer is that of every map with the root, or two nodes show one hash.
use Rattle.std.proofs.Common.{◌≡◌, ◌≢◌, List, Option, None, Some, IfSome, Result, Ok, Err, IfOk, sym}
use Rattle.std.proofs.Common.{◌≤◌, take, length, ap, ◌∙◌, ℕ}
use Rattle.std.specs.Option.{option_map}
use Rattle.std.specs.declared.sync.Arc.{Arc}
use Rattle.std.specs.declared.alloc.Global.{Global}
use Rattle.shamap_node.specs.declared.Node.{Node}
use Rattle.shamap_node.specs.Nodes.{held}
use Rattle.ledger_spec.specs.declared.Kind.{Kind}
use Rattle.ledger_spec.specs.declared.Kind.TheVariants.{Set}
use Rattle.ledger_spec.specs.Bytes.{Hash, Half}
use Rattle.ledger_spec.specs.Reads as spec
use Rattle.ledger_spec.specs.Reads.{IsKey, AreNodes, AnswersOrShows}
use Rattle.tree_laws.proofs.shared.Trees.{Sized}
use Rattle.tree_laws.proofs.shared.PathLaw.{answers_or_shows}
use Rattle.path_proof.specs.declared.Outcome.{Outcome}
use Rattle.path_proof.specs.declared.answer.Answer.{Answer}
use Rattle.path_proof.specs.declared.answer.ReadFault.{ReadFault}
use Rattle.nib_path.specs.Paths.{nibbles}
use Rattle.ledger_spec.specs.Rules.{fault_of}
use Rattle.path_proof.proofs.Steps.{above}
use Rattle.path_proof.specs.Paths.{held_nodes, outcome_by, IsAbove}
use Rattle.path_proof.proofs.shared.PathLaws.{nodes_are}

pub law_of : (half : Half) → Sized half → (kind : Kind) (root key : Hash) (used : List (Arc Node Global)) (result : Option Outcome)
    → IsKey key
    → option_map (outcome_by (held_nodes used)) result ≡ spec.follow half kind root key (held_nodes used)
    → IfSome result (λ o. AreNodes half kind (held_nodes used)
    → AnswersOrShows half kind root key (held_nodes used) (outcome_by (held_nodes used) o))
law_of half sized kind root key used None is_key exact = tt
law_of half sized kind root key used (Some o) is_key exact =
    λ nodes. answers_or_shows half sized kind root key (held_nodes used) (outcome_by (held_nodes used) o) is_key nodes (sym exact)

-- nodes of the code are such nodes, sets apart
pub law_but_sets : (half : Half) (kind : Kind) (root key : Hash) (used : List (Arc Node Global)) (result : Option Outcome)
    → IfSome result (λ o. AreNodes half kind (held_nodes used)
    → AnswersOrShows half kind root key (held_nodes used) (outcome_by (held_nodes used) o))
    → IfSome result (λ o. kind ≢ Set → AnswersOrShows half kind root key (held_nodes used) (outcome_by (held_nodes used) o))
law_but_sets half kind root key used None law = tt
law_but_sets half kind root key used (Some o) law = λ other. law (nodes_are half kind other used)

pub law_of_read : (half : Half) → Sized half → (kind : Kind) (root key : Hash) (result : Result Answer ReadFault) → IsKey key
    → IfOk result (λ a. spec.follow half kind root key (held_nodes a.used.items) ≡ Some (outcome_by (held_nodes a.used.items) a.outcome))
    → IfOk result (λ a. AreNodes half kind (held_nodes a.used.items)
    → AnswersOrShows half kind root key (held_nodes a.used.items) (outcome_by (held_nodes a.used.items) a.outcome))
law_of_read half sized kind root key (Ok a) is_key path =
    λ nodes. answers_or_shows half sized kind root key (held_nodes a.used.items) (outcome_by (held_nodes a.used.items) a.outcome) is_key
    nodes path
law_of_read half sized kind root key (Err _) is_key path = tt

pub read_but_sets : (half : Half) (kind : Kind) (root key : Hash) (result : Result Answer ReadFault)
    → IfOk result (λ a. AreNodes half kind (held_nodes a.used.items)
    → AnswersOrShows half kind root key (held_nodes a.used.items) (outcome_by (held_nodes a.used.items) a.outcome))
    → IfOk result (λ a. kind ≢ Set
    → AnswersOrShows half kind root key (held_nodes a.used.items) (outcome_by (held_nodes a.used.items) a.outcome))
read_but_sets half kind root key (Ok a) law = λ other. law (nodes_are half kind other a.used.items)
read_but_sets half kind root key (Err _) law = tt

-- a node that breaks no rule at a place on the way has levels below it, if it is an inner one
pub rules_above : (kind : Kind) (over : Option (List Hash)) (path : List ℕ) (key : Hash) (depth : ℕ)
    (result : Result (Arc Node Global) ReadFault) → depth ≤ 64 → length key ≡ 32
    → path ≡ take depth (nibbles key) → IfOk result (λ a. fault_of (held a.value) over kind path ≡ None)
    → IfOk result (λ a. IsAbove (held a.value) depth)
rules_above kind over path key depth (Ok a) within size is rules =
    above (held a.value) over kind key depth within size (sym (ap (fault_of (held a.value) over kind) is) ∙ rules)
rules_above kind over path key depth (Err _) within size is rules = tt

-- a fact that holds under a premise
pub under : {T E C : Type 0} (P : T → Type 0) (r : Result T E) → (C → IfOk r P) → IfOk r (λ a. C → P a)
under P (Ok a) each = each
under P (Err e) each = tt
