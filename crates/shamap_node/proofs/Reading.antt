-- Each byte string is the prefix form of at most one node or header, and why others are none.
use Rattle.std.proofs.Common.{◌≡◌, ◌≢◌, ◌≤◌, ◌<◌, ◌+◌, ◌-◌, ℕ, true, false, ◌++◌, length, take, drop, nat_eq, nat_lt, IsTrue, Some, None}
use Rattle.std.proofs.Common.{Result, Ok, Err, IfOk, IfErr, OnOk, MatchResult, refl, sym, ap, ◌∙◌, subst, arith, length-append}
use Rattle.std.proofs.lemmas.Bool.{not-true, le-ltb, lt-ltb, false≢true, cond-true, cond-false}
use Rattle.std.specs.List.{starts_with, concat}
use Rattle.std.specs.Int.{w32, from_be_bytes}
use Rattle.half_hash.specs.declared.prefix.Prefix.TheVariants.{Txn, Snd, Mln, Min}
use Rattle.half_hash.specs.Prefix.{prefix_of}
use Rattle.half_hash.specs.Zero.{is_zero, is_nonzero}
use Rattle.ledger_spec.specs.declared.Kind.TheVariants.{State, Tx, Set}
use Rattle.ledger_spec.specs.Bytes.{Bytes, Hash, Half}
use Rattle.ledger_spec.specs.Forms.{Held, inner, leaf, header, Form, IsItem, data_limit}
use Rattle.shamap_node.specs.declared.forms.FormFault.{FormFault}
use Rattle.shamap_node.specs.declared.forms.FormFault.TheVariants.{Short, Prefix, InnerLength, EmptyInner, LeafShort, ZeroKey, TooLong}
use Rattle.shamap_node.specs.declared.forms.FormFault.TheVariants.{Memory}
use Rattle.shamap_node.specs.Causes.{leaf_cause, keyed_cause, inner_cause, form_cause}
use Rattle.shamap_node.specs.Laws.{is_node}
use Rattle.shamap_node.specs.declared.Node.{Node}
use Rattle.shamap_node.specs.declared.Node.TheVariants as variants
use Rattle.shamap_node.specs.Nodes.{held}
use Rattle.shamap_node.proofs.Inners.{no_inner_cause}
use Rattle.ledger_spec.proofs.shared.Seeing.{key_at, size_of}
use Rattle.ledger_spec.proofs.shared.Readings.{same_reading}

-- an item's parts are no cause
pub no_leaf_cause : (size : ℕ) (key : Hash) → size ≤ data_limit → IsTrue (is_nonzero key) → leaf_cause size key ≡ None
no_leaf_cause size key within nonzero =
    cond-false (nat_lt data_limit size) _ _ (le-ltb data_limit size within) ∙ cond-false (is_zero key) _ _ (not-true (is_zero key) nonzero)

no_keyed_cause : (p bytes key b : Bytes) → length p ≡ 4 → IsItem key bytes → b ≡ p ++ bytes ++ key → keyed_cause b ≡ None
no_keyed_cause p bytes key b front item e =
    let size : length b ≡ length bytes + 36 = ap length e ∙ size_of p bytes key front item.key_size in
    let at : drop (length b - 32) b ≡ key = ap (λ x. drop (length x - 32) x) e ∙ key_at p bytes key front item.key_size in
    let long : 36 ≤ length b = omega arith in
    let few : length b - 36 ≤ data_limit = omega (arith, item.data_size, size) in
    cond-false (nat_lt (length b) 36) _ _ (le-ltb (length b) 36 long)
    ∙ no_leaf_cause (length b - 36) (drop (length b - 32) b) few (subst (λ k. IsTrue (is_nonzero k)) (sym at) item.key_nonzero)

no_bare_cause : (key bytes b : Bytes) → IsItem key bytes → b ≡ prefix_of Txn ++ bytes → leaf_cause (length b - 4) key ≡ None
no_bare_cause key bytes b item e =
    let size : length b ≡ length (prefix_of Txn ++ bytes) = ap length e in
    let few : length b - 4 ≤ data_limit = omega (arith, item.data_size, size) in
    no_leaf_cause (length b - 4) key few item.key_nonzero

-- the cause by the prefix
long : (b : Bytes) → 4 ≤ length b → nat_lt (length b) 4 ≡ false
long b le = le-ltb (length b) 4 le

pub cause_short : (half : Half) (b : Bytes) → length b < 4 → form_cause half b ≡ Some (Short (length b))
unfolding form_cause
cause_short half b lt = cond-true (nat_lt (length b) 4) _ _ (lt-ltb (length b) 4 lt)

pub cause_min : (half : Half) (b : Bytes) → 4 ≤ length b → starts_with nat_eq b (prefix_of Min) ≡ true → form_cause half b ≡ inner_cause b
unfolding form_cause
cause_min half b le min = cond-false (nat_lt (length b) 4) _ _ (long b le) ∙ cond-true (starts_with nat_eq b (prefix_of Min)) _ _ min

pub cause_mln : (half : Half) (b : Bytes) → 4 ≤ length b → starts_with nat_eq b (prefix_of Min) ≡ false
    → starts_with nat_eq b (prefix_of Mln) ≡ true → form_cause half b ≡ keyed_cause b
unfolding form_cause
cause_mln half b le min mln =
    cond-false (nat_lt (length b) 4) _ _ (long b le) ∙ cond-false (starts_with nat_eq b (prefix_of Min)) _ _ min
    ∙ cond-true (starts_with nat_eq b (prefix_of Mln)) _ _ mln

pub cause_snd : (half : Half) (b : Bytes) → 4 ≤ length b → starts_with nat_eq b (prefix_of Min) ≡ false
    → starts_with nat_eq b (prefix_of Mln) ≡ false
    → starts_with nat_eq b (prefix_of Snd) ≡ true → form_cause half b ≡ keyed_cause b
unfolding form_cause
cause_snd half b le min mln snd =
    cond-false (nat_lt (length b) 4) _ _ (long b le) ∙ cond-false (starts_with nat_eq b (prefix_of Min)) _ _ min
    ∙ cond-false (starts_with nat_eq b (prefix_of Mln)) _ _ mln ∙ cond-true (starts_with nat_eq b (prefix_of Snd)) _ _ snd

pub cause_txn : (half : Half) (b : Bytes) → 4 ≤ length b → starts_with nat_eq b (prefix_of Min) ≡ false
    → starts_with nat_eq b (prefix_of Mln) ≡ false
    → starts_with nat_eq b (prefix_of Snd) ≡ false → starts_with nat_eq b (prefix_of Txn) ≡ true
    → form_cause half b ≡ leaf_cause (length b - 4) (half b)
unfolding form_cause
cause_txn half b le min mln snd txn =
    cond-false (nat_lt (length b) 4) _ _ (long b le) ∙ cond-false (starts_with nat_eq b (prefix_of Min)) _ _ min
    ∙ cond-false (starts_with nat_eq b (prefix_of Mln)) _ _ mln ∙ cond-false (starts_with nat_eq b (prefix_of Snd)) _ _ snd
    ∙ cond-true (starts_with nat_eq b (prefix_of Txn)) _ _ txn

pub cause_prefix : (half : Half) (b : Bytes) → 4 ≤ length b → starts_with nat_eq b (prefix_of Min) ≡ false
    → starts_with nat_eq b (prefix_of Mln) ≡ false
    → starts_with nat_eq b (prefix_of Snd) ≡ false → starts_with nat_eq b (prefix_of Txn) ≡ false
    → form_cause half b ≡ Some (Prefix (from_be_bytes w32 (take 4 b)))
unfolding form_cause
cause_prefix half b le min mln snd txn =
    cond-false (nat_lt (length b) 4) _ _ (long b le) ∙ cond-false (starts_with nat_eq b (prefix_of Min)) _ _ min
    ∙ cond-false (starts_with nat_eq b (prefix_of Mln)) _ _ mln ∙ cond-false (starts_with nat_eq b (prefix_of Snd)) _ _ snd
    ∙ cond-false (starts_with nat_eq b (prefix_of Txn)) _ _ txn

four : (p rest b : Bytes) → length p ≡ 4 → b ≡ p ++ rest → 4 ≤ length b
four p rest b size e = omega (arith, ap length e, length-append p rest)

starts_as : (b form p : Bytes) → b ≡ form → starts_with nat_eq b p ≡ starts_with nat_eq form p
starts_as b form p e = ap (λ x. starts_with nat_eq x p) e

-- a node's form has no cause
pub no_cause : (half : Half) (n : Held) (b : Bytes) → IsTrue (is_node n) → Form half n b → form_cause half b ≡ None
no_cause half (inner hashes) b node f =
    cause_min half b (four (prefix_of Min) (concat hashes) b refl f.1) (starts_as b (prefix_of Min ++ concat hashes) (prefix_of Min) f.1)
    ∙ no_inner_cause b hashes f.0 f.1
no_cause half (leaf State key bytes) b node f =
    let e : b ≡ prefix_of Mln ++ bytes ++ key = f.1 in
    cause_mln half b (four (prefix_of Mln) (bytes ++ key) b refl e) (starts_as b _ (prefix_of Min) e) (starts_as b _ (prefix_of Mln) e)
    ∙ no_keyed_cause (prefix_of Mln) bytes key b refl f.0 e
no_cause half (leaf Tx key bytes) b node f =
    let e : b ≡ prefix_of Snd ++ bytes ++ key = f.1 in
    cause_snd half b (four (prefix_of Snd) (bytes ++ key) b refl e) (starts_as b _ (prefix_of Min) e) (starts_as b _ (prefix_of Mln) e)
    (starts_as b _ (prefix_of Snd) e)
    ∙ no_keyed_cause (prefix_of Snd) bytes key b refl f.0 e
no_cause half (leaf Set key bytes) b node f =
    let e : b ≡ prefix_of Txn ++ bytes = f.1 in
    cause_txn half b (four (prefix_of Txn) bytes b refl e) (starts_as b _ (prefix_of Min) e) (starts_as b _ (prefix_of Mln) e)
    (starts_as b _ (prefix_of Snd) e) (starts_as b _ (prefix_of Txn) e)
    ∙ ap (leaf_cause (length b - 4)) (ap half e ∙ sym f.0.1) ∙ no_bare_cause key bytes b f.0.0 e
no_cause half (header bytes) b node f = absurd (false≢true node)

is_memory : (half : Half) (b : Bytes) (fault : FormFault) → form_cause half b ≡ None → (fault ≢ Memory → form_cause half b ≡ Some fault)
    → fault ≡ Memory
is_memory half b Memory none cause = refl
is_memory half b (Short n) none cause = let some : form_cause half b ≡ Some (Short n) = cause (λ e. cc) in cc
is_memory half b (Prefix n) none cause = let some : form_cause half b ≡ Some (Prefix n) = cause (λ e. cc) in cc
is_memory half b (InnerLength n) none cause = let some : form_cause half b ≡ Some (InnerLength n) = cause (λ e. cc) in cc
is_memory half b EmptyInner none cause = let some : form_cause half b ≡ Some EmptyInner = cause (λ e. cc) in cc
is_memory half b (LeafShort n) none cause = let some : form_cause half b ≡ Some (LeafShort n) = cause (λ e. cc) in cc
is_memory half b ZeroKey none cause = let some : form_cause half b ≡ Some ZeroKey = cause (λ e. cc) in cc
is_memory half b (TooLong n) none cause = let some : form_cause half b ≡ Some (TooLong n) = cause (λ e. cc) in cc

-- a node's form is read as that node, or there is no memory
pub reads_back : (half : Half) (r : Result Node FormFault) (b : Bytes) → IfOk r (λ node. Form half (held node) b)
    → IfErr r (λ fault. fault ≢ Memory → form_cause half b ≡ Some fault)
    → (n : Held) → IsTrue (is_node n) → Form half n b → MatchResult r (λ node. held node ≡ n) (λ fault. fault ≡ Memory)
reads_back half (Ok node) b form cause n is f = same_reading half (held node) n b form f
reads_back half (Err fault) b form cause n is f = is_memory half b fault (no_cause half n b is f) cause

held_is_node : (node : Node) → IsTrue (is_node (held node))
held_is_node (variants.Inner i) = refl
held_is_node (variants.Leaf l) = refl

-- what is read has no cause
pub reads_fit : (half : Half) (r : Result Node FormFault) (b : Bytes) → IfOk r (λ node. Form half (held node) b)
    → OnOk r (form_cause half b ≡ None)
reads_fit half (Ok node) b form = no_cause half (held node) b (held_is_node node) form
reads_fit half (Err fault) b form = tt
