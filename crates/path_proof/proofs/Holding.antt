-- What is held where bytes are no node's form.
use Rattle.std.proofs.Common.{◌≡◌, ◌≢◌, Bool, true, false, IsTrue, IfErr, IfOk, IfSome, is_some, if◌then◌else◌, List, Option}
use Rattle.std.proofs.Common.{Some, None, Ok, Err, refl, sym, ap, ◌∙◌}
use Rattle.std.proofs.lemmas.Bool.{false≢true}
use Rattle.std.specs.Option.{option_or, option_map}
use Rattle.std.specs.declared.alloc.Global.{Global}
use Rattle.std.specs.declared.sync.Arc.{Arc}
use Rattle.ledger_spec.specs.declared.Kind.{Kind}
use Rattle.ledger_spec.specs.declared.Kind.TheVariants.{State, Tx, Set}
use Rattle.ledger_spec.specs.Bytes.{Bytes, Hash, Half, same_bytes}
use Rattle.ledger_spec.specs.Findings.{held_of}
use Rattle.ledger_spec.specs.Forms.{Held, inner, leaf, header, Form, IsHeld, form_of, hash_of, header_of, keyed_leaf_of, bare_leaf_of}
use Rattle.ledger_spec.specs.Forms.{leaf_of}
use Rattle.ledger_spec.specs.Own.{own_form}
use Rattle.ledger_spec.proofs.shared.Owning.{same_self}
use Rattle.ledger_spec.proofs.shared.Seeing.{sees}
use Rattle.shamap_node.specs.Laws.{is_no_node}
use Rattle.shamap_node.specs.declared.Node.{Node}
use Rattle.path_proof.specs.declared.source.FetchFault.TheVariants.{Fault, Foreign, Memory}
use Rattle.path_proof.specs.Sources.{Fetched, Gives}

-- a leaf is a node
no_leaf : (t : Bool) (kind : Kind) (key bytes : Bytes) → IsTrue (is_no_node (if t then Some (leaf kind key bytes) else None))
    → (if t then Some (leaf kind key bytes) else None) ≡ None
no_leaf true kind key bytes other = absurd (false≢true other)
no_leaf false kind key bytes other = refl

no_keyed : (kind : Kind) (b : Bytes) → IsTrue (is_no_node (keyed_leaf_of kind b)) → keyed_leaf_of kind b ≡ None
unfolding keyed_leaf_of
no_keyed kind b other = no_leaf _ kind _ _ other

no_bare : (half : Half) (b : Bytes) → IsTrue (is_no_node (bare_leaf_of half b)) → bare_leaf_of half b ≡ None
unfolding bare_leaf_of
no_bare half b other = no_leaf _ Set _ _ other

-- the first of two that is there, where neither is a node
neither : (a b : Option Held) → (IsTrue (is_no_node a) → a ≡ None) → (IsTrue (is_no_node b) → b ≡ None)
    → IsTrue (is_no_node (option_or a b)) → option_or a b ≡ None
neither None b first second other = second other
neither (Some n) b first second other = first other

no_leaf_of : (half : Half) (b : Bytes) → IsTrue (is_no_node (leaf_of half b)) → leaf_of half b ≡ None
no_leaf_of half b other = neither (keyed_leaf_of State b) _ (no_keyed State b)
    (neither (keyed_leaf_of Tx b) (bare_leaf_of half b) (no_keyed Tx b) (no_bare half b)) other

-- bytes that hold no node and no header hold nothing
by_parts : (a : Option (List Hash)) (b : Option Bytes) (c : Option Held) → b ≡ None → (IsTrue (is_no_node c) → c ≡ None)
    → IsTrue (is_no_node (option_or (option_map inner a) (option_or (option_map header b) c)))
    → option_or (option_map inner a) (option_or (option_map header b) c) ≡ None
by_parts (Some hashes) b c none leaves other = absurd (false≢true other)
by_parts None (Some bytes) c none leaves other = cc
by_parts None None c none leaves other = leaves other

nothing_held : (half : Half) (form : Bytes) → header_of form ≡ None → IsTrue (is_no_node (held_of half form))
    → held_of half form ≡ None
nothing_held half form none other = by_parts _ (header_of form) (leaf_of half form) none (no_leaf_of half form) other

-- a header is held
some_header : (a : Option (List Hash)) (b : Option Bytes) (c : Option Held) → IsTrue (is_some b)
    → is_some (option_or (option_map inner a) (option_or (option_map header b) c)) ≡ true
some_header (Some hashes) b c there = refl
some_header None (Some bytes) c there = refl
some_header None None c there = absurd (false≢true there)

header_held : (half : Half) (form : Bytes) → IsTrue (is_some (header_of form)) → is_some (held_of half form) ≡ true
header_held half form there = some_header _ (header_of form) (leaf_of half form) there

-- what is given for bytes that are no node's form, where they have the hash
module _ (half : Half) (h : Hash) (form : Bytes) (same : half form ≡ h) (other : IsTrue (is_no_node (held_of half form))) where
  own : same_bytes (half form) h ≡ true
  own = ap (same_bytes (half form)) (sym same) ∙ same_self (half form)

  foreign : IsTrue (is_some (header_of form)) → Gives half (own_form half h (Some form)) (Err Foreign)
  foreign there = (form, rw (own, header_held half form there) refl, other)

  none : header_of form ≡ None → own_form half h (Some form) ≡ None
  none no_header = rw (own, ap is_some (nothing_held half form no_header other)) refl

  pub given : (answer : Fetched) → IfErr answer (λ fault. (fault ≡ Foreign) × IsTrue (is_some (header_of form)))
      → IfOk answer (λ o. (o ≡ None) × (header_of form ≡ None)) → Gives half (own_form half h (Some form)) answer
  given (Ok (Some node)) foreign_if none_if = cc
  given (Ok None) foreign_if none_if = none none_if.1
  given (Err Foreign) foreign_if none_if = foreign foreign_if.1
  given (Err Fault) foreign_if none_if = tt
  given (Err Memory) foreign_if none_if = tt

-- and no node, and no fault
pub no_node : (P : Arc Node Global → Type 0) (Q : Type 0) (answer : Fetched) → IfOk answer (λ o. (o ≡ None) × Q)
    → IfOk answer (λ o. IfSome o P)
no_node P Q (Ok (Some node)) none_if = cc
no_node P Q (Ok None) none_if = tt
no_node P Q (Err _) none_if = tt

pub no_fault : (Q : Type 0) (answer : Fetched) → IfErr answer (λ why. (why ≡ Foreign) × Q) → IfErr answer (λ why. why ≢ Fault)
no_fault Q (Ok o) foreign_if = tt
no_fault Q (Err why) foreign_if = λ is. let e : Foreign ≡ Fault = sym foreign_if.0 ∙ is in cc

-- a node is given for its form, where that has the hash
pub node_given : (half : Half) (h form : Bytes) (n : Held) → half form ≡ h → Form half n form
    → (own_form half h (Some form) ≡ Some (form_of n)) × IsHeld half n
node_given half h form n same f =
    let own : same_bytes (half form) h ≡ true = ap (same_bytes (half form)) (sym same) ∙ same_self (half form) in
    let there : is_some (held_of half form) ≡ true = ap is_some (sees half n form f) in
    (rw (own, there) (ap Some f.1), f.0)

pub node_hashed : (half : Half) (h form : Bytes) (n : Held) → half form ≡ h → Form half n form → hash_of half n ≡ h
node_hashed half h form n same f = ap half (sym f.1) ∙ same
