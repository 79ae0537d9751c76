-- The forms of bare transactions, and the others, which don't depend on the half.
use Rattle.std.proofs.Common.{◌≡◌, ◌<◌, Bool, true, false, not, IsTrue, T, ◌&&◌, ◌==◌, ◌+◌, nat_eq, nat_le, Option, arith}
use Rattle.std.proofs.Common.{◌++◌, length, drop, None, refl, sym}
use Rattle.std.proofs.Common.{ap, subst, ◌∙◌}
use Rattle.std.proofs.lemmas.Bool.Decides.{nat_tests}
use Rattle.ledger_spec.proofs.shared.Readings.{starts_split}
use Rattle.std.specs.List.{starts_with}
use Rattle.std.specs.Option.{option_or, option_map}
use Rattle.ledger_spec.specs.declared.Kind.TheVariants.{State, Tx, Set}
use Rattle.ledger_spec.specs.Bytes.{Bytes, Half, is_zero, is_nonzero}
use Rattle.ledger_spec.specs.Findings.{held_of}
use Rattle.ledger_spec.specs.Forms.{Held, inner, header, leaf_prefix, data_limit}
use Rattle.ledger_spec.specs.Forms.{inner_of, header_of, bare_leaf_of, keyed_leaf_of}
use Rattle.shamap_node.specs.Laws.{is_no_node}
use Rattle.shamap_node.specs.declared.Node.{Node}
use Rattle.shamap_node.specs.declared.forms.FormFault.{FormFault}
use Rattle.std.proofs.Common.{Result, Ok, Err, IfErr}

no_false : IsTrue false → ⊥
no_false h = subst (λ b. T (not b)) h tt

-- bytes that begin otherwise are no bare transaction, by any half
no_bare : (half : Half) (b : Bytes) → starts_with nat_eq b (leaf_prefix Set) ≡ false → bare_leaf_of half b ≡ None
unfolding bare_leaf_of
no_bare half b other = rw other refl

pub any_half : (half half' : Half) (b : Bytes) → starts_with nat_eq b (leaf_prefix Set) ≡ false → held_of half b ≡ held_of half' b
any_half half half' b other =
    ap (λ (o : Option Held). option_or (option_map inner (inner_of b)) (option_or (option_map header (header_of b))
    (option_or (keyed_leaf_of State b) (option_or (keyed_leaf_of Tx b) o))))
    (no_bare half b other ∙ sym (no_bare half' b other))

and_false : (a : Bool) → (a && false) ≡ false
and_false true = refl
and_false false = refl

no_header : (bytes : Bytes) → header_of (leaf_prefix Set ++ bytes) ≡ None
unfolding header_of
no_header bytes = rw (and_false (length (leaf_prefix Set ++ bytes) == 122)) refl

-- what begins as a bare transaction and has a zero hash, or too many data, is nothing
none_behind : (half : Half) (bytes : Bytes)
    → (nat_le (length (leaf_prefix Set ++ bytes)) (4 + data_limit) && is_nonzero (half (leaf_prefix Set ++ bytes))) ≡ false
    → held_of half (leaf_prefix Set ++ bytes) ≡ None
unfolding bare_leaf_of keyed_leaf_of inner_of
none_behind half bytes unfit = rw (no_header bytes, unfit) refl

unfit_is_none : (half : Half) (b : Bytes) → starts_with nat_eq b (leaf_prefix Set) ≡ true
    → (nat_le (length b) (4 + data_limit) && is_nonzero (half b)) ≡ false → held_of half b ≡ None
unfit_is_none half b starts unfit =
    let split : b ≡ leaf_prefix Set ++ drop 4 b = starts_split b (leaf_prefix Set) starts in
    ap (held_of half) split ∙ none_behind half (drop 4 b)
    (ap (λ x. nat_le (length x) (4 + data_limit) && is_nonzero (half x)) (sym split) ∙ unfit)

is_none : (o : Option Held) → o ≡ None → IsTrue (is_no_node o)
is_none o none = rw none refl

pub zero_is_none : (half : Half) (b own : Bytes) → starts_with nat_eq b (leaf_prefix Set) ≡ true → half b ≡ own
    → IsTrue (is_zero own) → IsTrue (is_no_node (held_of half b))
zero_is_none half b own starts same zero =
    let unfit : is_nonzero (half b) ≡ false = ap is_nonzero same ∙ ap not zero in
    is_none _ (unfit_is_none half b starts (ap (λ x. nat_le (length b) (4 + data_limit) && x) unfit ∙ and_false _))

pub long_is_none : (half : Half) (b : Bytes) → starts_with nat_eq b (leaf_prefix Set) ≡ true
    → data_limit + 4 < length b → IsTrue (is_no_node (held_of half b))
long_is_none half b starts long =
    let unfit : nat_le (length b) (4 + data_limit) ≡ false = grind (arith, nat_tests) in
    is_none _ (unfit_is_none half b starts (ap (λ x. x && is_nonzero (half b)) unfit))

-- a form's half by which it isn't one changes nothing of what it holds
pub none_by_any : (half half' : Half) (b : Bytes) (P : FormFault → Type 0) (r : Result Node FormFault)
    → starts_with nat_eq b (leaf_prefix Set) ≡ false
    → IfErr r (λ why. P why → IsTrue (is_no_node (held_of half b))) → IfErr r (λ why. P why → IsTrue (is_no_node (held_of half' b)))
none_by_any half half' b P (Ok node) other none = tt
none_by_any half half' b P (Err why) other none = λ p. subst (λ o. IsTrue (is_no_node o)) (any_half half half' b other) (none p)
