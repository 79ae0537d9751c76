-- What is held by bytes is what they are the form of.
use Rattle.std.proofs.Common.{◌≡◌, ◌≤◌, ◌+◌, ◌-◌, ◌&&◌, true, not, ◌++◌, length, drop, nat_eq, nat_le, IsTrue, Option, Some, None, Result}
use Rattle.std.proofs.Common.{Ok, Err, IfOk, IfErr, ◌≢◌, refl, ap, ◌∙◌, arith}
use Rattle.std.proofs.lemmas.Bool.{false≢true, leb-true}
use Rattle.std.specs.List.{starts_with}
use Rattle.half_hash.specs.declared.prefix.Prefix.TheVariants.{Txn, Snd, Mln, Min}
use Rattle.half_hash.specs.Prefix.{prefix_of}
use Rattle.half_hash.specs.Zero.{is_nonzero}
use Rattle.ledger_spec.specs.declared.Kind.TheVariants.{State, Tx, Set}
use Rattle.ledger_spec.specs.Bytes.{Bytes, Half}
use Rattle.ledger_spec.specs.Forms.{Held, inner, leaf, header, Form, leaf_prefix, data_limit, inner_of, header_of, keyed_leaf_of}
use Rattle.ledger_spec.specs.Forms.{bare_leaf_of}
use Rattle.ledger_spec.specs.Findings.{held_of}
use Rattle.shamap_node.specs.declared.Node.{Node}
use Rattle.shamap_node.specs.declared.forms.FormFault.{FormFault}
use Rattle.shamap_node.specs.declared.forms.FormFault.TheVariants.{Memory}
use Rattle.shamap_node.specs.Nodes.{held}
use Rattle.shamap_node.specs.Causes.{form_cause}
use Rattle.shamap_node.specs.Laws.{is_node, is_no_node}
use Rattle.ledger_spec.proofs.shared.Seeing.{starts_as}
use Rattle.ledger_spec.proofs.shared.Readings.{chose, Three, three_parts, form_behind, holds_inner, state_form, tx_form, holds_keyed}
use Rattle.ledger_spec.proofs.shared.Readings.{by_reader}
use Rattle.ledger_spec.proofs.shared.Seeing.{sees}
use Rattle.shamap_node.proofs.Reading.{no_cause, no_leaf_cause, cause_txn}

-- a node that is held leaves no cause
bare_no_cause : (half : Half) (b : Bytes) (n : Held) → bare_leaf_of half b ≡ Some n → form_cause half b ≡ None
unfolding bare_leaf_of
bare_no_cause half b n is =
    let q : ((starts_with nat_eq b (leaf_prefix Set) && nat_le (length b) (4 + data_limit) && is_nonzero (half b)) ≡ true)
    × (leaf Set (half b) (drop 4 b) ≡ n) = chose _ _ n is in
    let t : Three (starts_with nat_eq b (leaf_prefix Set)) (nat_le (length b) (4 + data_limit)) (is_nonzero (half b)) =
    three_parts _ _ _ q.0 in
    let short : length b ≤ 4 + data_limit = leb-true (length b) (4 + data_limit) t.second in
    let e : b ≡ prefix_of Txn ++ drop 4 b = form_behind b (leaf_prefix Set) (drop 4 b) refl t.first refl in
    let long : 4 ≤ length b = omega (arith, ap length e) in
    cause_txn half b long (starts_as b _ (prefix_of Min) e) (starts_as b _ (prefix_of Mln) e) (starts_as b _ (prefix_of Snd) e) t.first
    ∙ no_leaf_cause (length b - 4) (half b) (omega arith) t.third

-- a header, or no cause
abbrev Passes : Half → Bytes → Held → Type 0
Passes half b n = IsTrue (is_node n) → form_cause half b ≡ None

passes : (half : Half) (b : Bytes) (n : Held) → held_of half b ≡ Some n → Passes half b n
passes half b n is =
    by_reader (Passes half b) n (inner_of b) (header_of b) (keyed_leaf_of State b) (keyed_leaf_of Tx b) (bare_leaf_of half b)
    (λ hashes k node. no_cause half (inner hashes) b node (holds_inner half b hashes k)) (λ bytes k node. absurd (false≢true node))
    (λ m k node. no_cause half m b node (state_form half b m (holds_keyed State b m k)))
    (λ m k node. no_cause half m b node (tx_form half b m (holds_keyed Tx b m k)))
    (λ m k node. bare_no_cause half b m k) is

not_node : (half : Half) (b : Bytes) (fault : FormFault) → form_cause half b ≡ Some fault → (n : Held) → held_of half b ≡ Some n
    → IsTrue (not (is_node n))
not_node half b fault cause (inner hashes) is = let none : form_cause half b ≡ None = passes half b (inner hashes) is refl in cc
not_node half b fault cause (leaf kind key bytes) is =
    let none : form_cause half b ≡ None = passes half b (leaf kind key bytes) is refl in cc
not_node half b fault cause (header bytes) is = refl

none_is_node : (o : Option Held) → ((n : Held) → o ≡ Some n → IsTrue (not (is_node n))) → IsTrue (is_no_node o)
none_is_node None each = refl
none_is_node (Some n) each = each n refl

-- what is seen where a node is read, and where none is
pub reads_seen : (half : Half) (r : Result Node FormFault) (b : Bytes) → IfOk r (λ node. Form half (held node) b)
    → IfOk r (λ node. held_of half b ≡ Some (held node))
reads_seen half (Ok node) b form = sees half (held node) b form
reads_seen half (Err fault) b form = tt

pub reads_none : (half : Half) (r : Result Node FormFault) (b : Bytes) → IfErr r (λ fault. fault ≢ Memory → form_cause half b ≡ Some fault)
    → IfErr r (λ fault. fault ≢ Memory → IsTrue (is_no_node (held_of half b)))
reads_none half (Ok node) b cause = tt
reads_none half (Err fault) b cause = λ other. none_is_node (held_of half b) (not_node half b fault (cause other))
