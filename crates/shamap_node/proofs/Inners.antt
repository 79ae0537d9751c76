-- What reading an inner node's form answers.
use Rattle.std.proofs.Common.{◌≡◌, ◌≤◌, ◌==◌, ◌++◌, not, true, false, List, length, drop, nat_eq, IsTrue, Option, Some, None, MatchOption}
use Rattle.std.proofs.Common.{sym, ap, ◌∙◌, arith, length-drop}
use Rattle.std.specs.List.{starts_with, concat, list_all, list_any}
use Rattle.std.specs.Option.{option_map}
use Rattle.std.proofs.lemmas.Bool.{cond-true, cond-false, ne_eqb, eq-eqb}
use Rattle.half_hash.specs.Zero.{is_zero, is_nonzero}
use Rattle.ledger_spec.specs.Bytes.{Bytes, Hash, hashes_of}
use Rattle.ledger_spec.specs.Forms.{IsInner, inner_of, inner_prefix}
use Rattle.shamap_node.specs.declared.parts.Inner.{Inner}
use Rattle.shamap_node.specs.declared.forms.FormFault.TheVariants.{InnerLength, EmptyInner}
use Rattle.shamap_node.specs.Causes.{inner_cause}
use Rattle.ledger_spec.proofs.shared.Inners.{not_inner_empty, inner_of_is}
use Rattle.ledger_spec.proofs.shared.Hashes.{none_nonzero, some_not_all, concat-hashes_of, hashes_of-concat, length-concat}
use Rattle.std.proofs.lemmas.List.{take_all}

-- what is made of the hashes
pub made : (b body : Bytes) (hs : List Hash) (o : Option Inner) → starts_with nat_eq b inner_prefix ≡ true → length b ≡ 516
    → body ≡ drop 4 b → hs ≡ hashes_of 16 body
    → MatchOption o (IsTrue (list_all is_zero hs)) (λ i. (i.hashes ≡ hs) × IsTrue (list_any is_nonzero hs))
    → option_map (λ (i : Inner). i.hashes) o ≡ inner_of b
made b body hs None prefix size rest is all =
    let e : hs ≡ hashes_of 16 (drop 4 b) = is ∙ ap (hashes_of 16) rest in
    sym (not_inner_empty b (ap (list_any is_nonzero) (sym e) ∙ none_nonzero hs all))
made b body hs (Some i) prefix size rest is some =
    let e : hs ≡ hashes_of 16 (drop 4 b) = is ∙ ap (hashes_of 16) rest in
    ap Some (some.0 ∙ e) ∙ sym (inner_of_is b prefix size (ap (list_any is_nonzero) (sym e) ∙ some.1))

-- why bytes behind the prefix are no inner node
pub inner_length_cause : (b : Bytes) → (length b ≡ 516 → ⊥) → inner_cause b ≡ Some (InnerLength (length b))
unfolding inner_cause
inner_length_cause b other = cond-true (not (length b == 516)) _ _ (ap not (ne_eqb (length b) 516 other))

same_length : (b : Bytes) → length b ≡ 516 → not (length b == 516) ≡ false
same_length b size = ap not (eq-eqb (length b) 516 size)

pub inner_empty_cause : (b body : Bytes) (hs : List Hash) → length b ≡ 516 → body ≡ drop 4 b → hs ≡ hashes_of 16 body
    → IsTrue (list_all is_zero hs) → inner_cause b ≡ Some EmptyInner
unfolding inner_cause
inner_empty_cause b body hs size rest is all =
    cond-false (not (length b == 516)) _ _ (same_length b size)
    ∙ cond-true (list_all is_zero (hashes_of 16 (drop 4 b))) _ _
    (ap (λ x. list_all is_zero (hashes_of 16 x)) (sym rest) ∙ ap (list_all is_zero) (sym is) ∙ all)

-- what stands behind the prefix is the hashes, joined
pub inner_body : (b body : Bytes) (hs got : List Hash) → length b ≡ 516 → body ≡ drop 4 b → hs ≡ hashes_of 16 body → got ≡ hs
    → drop 4 b ≡ concat got
inner_body b body hs got size rest is same =
    let whole : length body ≤ 512 = omega (arith, ap length rest, length-drop 4 b) in
    sym rest ∙ sym (take_all 512 body whole) ∙ sym (concat-hashes_of 16 body) ∙ ap concat (sym is ∙ sym same)

-- a form has no cause
pub no_inner_cause : (b : Bytes) (hashes : List Hash) → IsInner hashes → b ≡ inner_prefix ++ concat hashes → inner_cause b ≡ None
unfolding inner_cause
no_inner_cause b hashes h e =
    let joined : length (concat hashes) ≡ 512 = omega (arith, length-concat hashes h.sizes, h.count) in
    let size : length b ≡ 516 = ap length e ∙ omega (arith, joined) in
    let same : hashes_of 16 (drop 4 b) ≡ hashes = ap (λ x. hashes_of 16 (drop 4 x)) e
    ∙ ap (λ n. hashes_of n (concat hashes)) (sym h.count) ∙ hashes_of-concat hashes h.sizes in
    cond-false (not (length b == 516)) _ _ (same_length b size)
    ∙ cond-false (list_all is_zero (hashes_of 16 (drop 4 b))) _ _ (ap (list_all is_zero) same ∙ some_not_all hashes h.some)
