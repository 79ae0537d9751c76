-- Places with one key are one.
use Rattle.std.proofs.Common.{◌≡◌, ◌∙◌, ℕ, List, [], ◌∷◌, take, drop, true, refl, sym, ap, subst, arith}
use Rattle.std.specs.Cmp.{IsEquivalence}
use Rattle.std.proofs.lemmas.Bool.{and_parts, and_from}
use Rattle.std.proofs.lemmas.Bool.Decides.{same_from_decides}
use Rattle.std.proofs.lemmas.List.{take_at, drop_at}
use Rattle.std.proofs.lemmas.Slice.Eq.{bytes_eq-Decides}
use Rattle.nib_path.specs.Paths.{IsPath, id_wire}
use Rattle.nib_path.specs.Wire.{read_wire_id}
use Rattle.nib_path.proofs.shared.Reading.{length-id_wire, read_wire_id-id_wire}
use Rattle.ledger_spec.specs.declared.Kind.{Kind}
use Rattle.ledger_spec.specs.declared.Kind.TheVariants.{State, Tx, Set}
use Rattle.ledger_spec.specs.declared.Place.{Place}
use Rattle.ledger_spec.specs.declared.Place.TheVariants.{Header, Node}
use Rattle.ledger_spec.specs.Bytes.{same_bytes}
use Rattle.ledger_spec.specs.Rules.{same_kind}
use Rattle.ledger_spec.specs.Peers.{same_place}
use Rattle.peer_set.specs.Keys.{kind_number, key_of, IsPlace}

-- ---- the test for one place
kind_exact : (k o : Kind) → same_kind k o ≡ true → k ≡ o
kind_exact State State e = refl
kind_exact Tx Tx e = refl
kind_exact Set Set e = refl
kind_exact State Tx e = absurd (cc)
kind_exact State Set e = absurd (cc)
kind_exact Tx State e = absurd (cc)
kind_exact Tx Set e = absurd (cc)
kind_exact Set State e = absurd (cc)
kind_exact Set Tx e = absurd (cc)

kind_refl : (k : Kind) → same_kind k k ≡ true
kind_refl State = refl
kind_refl Tx = refl
kind_refl Set = refl

pub place_exact : (p q : Place) → same_place p q ≡ true → p ≡ q
place_exact Header Header e = refl
place_exact Header (Node o w) e = absurd (cc)
place_exact (Node k p) Header e = absurd (cc)
place_exact (Node k p) (Node o w) e =
    let parts = and_parts (same_kind k o) (same_bytes p w) e in
    let kinds : k ≡ o = kind_exact k o parts.0 in
    let paths : p ≡ w = (bytes_eq-Decides p w).0 parts.1 in
    cc

pub place_refl : (p : Place) → same_place p p ≡ true
place_refl Header = refl
place_refl (Node k p) = and_from (same_kind k k) (same_bytes p p) (kind_refl k) ((bytes_eq-Decides p p).1 refl)

pub places_equiv : IsEquivalence same_place
places_equiv = record {
  refl = place_refl;
  symm = λ p q. same_from_decides (same_place p q) (same_place q p)
      (place_exact p q, λ e. subst (λ (r : Place). same_place p r ≡ true) e (place_refl p))
      (λ e. sym (place_exact q p e), λ e. subst (λ (r : Place). same_place q r ≡ true) (sym e) (place_refl q));
  congr = λ p q r e. subst (λ (s : Place). same_place p r ≡ same_place s r) (place_exact p q e) refl;
}

-- ---- keys
last_of : (kind : Kind) (path : List ℕ) → IsPath path → drop 33 (key_of (Node kind path)) ≡ kind_number kind ∷ []
last_of kind path is = drop_at (id_wire path) (kind_number kind ∷ []) 33 (length-id_wire path is)

wire_in : (kind : Kind) (path : List ℕ) → IsPath path → take 33 (key_of (Node kind path)) ≡ id_wire path
wire_in kind path is = take_at (id_wire path) (kind_number kind ∷ []) 33 (length-id_wire path is)

no_header : (kind : Kind) (z : ℕ) → z ≡ 0 → z ≡ kind_number kind → ⊥
no_header State z n e = omega (arith, n, e)
no_header Tx z n e = omega (arith, n, e)
no_header Set z n e = omega (arith, n, e)

number_exact : (k o : Kind) → kind_number k ≡ kind_number o → k ≡ o
number_exact State State e = refl
number_exact Tx Tx e = refl
number_exact Set Set e = refl
number_exact State Tx e = absurd (omega (arith, e))
number_exact State Set e = absurd (omega (arith, e))
number_exact Tx State e = absurd (omega (arith, e))
number_exact Tx Set e = absurd (omega (arith, e))
number_exact Set State e = absurd (omega (arith, e))
number_exact Set Tx e = absurd (omega (arith, e))

wire_exact : (p q : List ℕ) → IsPath p → IsPath q → id_wire p ≡ id_wire q → p ≡ q
wire_exact p q h k e =
    let read = sym (read_wire_id-id_wire p h) ∙ ap read_wire_id e ∙ read_wire_id-id_wire q k in
    cc

pub key_exact : (p q : Place) → IsPlace p → IsPlace q → key_of p ≡ key_of q → p ≡ q
key_exact Header Header h k e = refl
key_exact Header (Node o w) h k e =
    let last : 0 ∷ [] ≡ kind_number o ∷ [] = ap (drop 33) e ∙ last_of o w k in
    absurd (no_header o 0 refl (cc))
key_exact (Node k p) Header h i e =
    let last : 0 ∷ [] ≡ kind_number k ∷ [] = ap (drop 33) (sym e) ∙ last_of k p h in
    absurd (no_header k 0 refl (cc))
key_exact (Node k p) (Node o w) h i e =
    let numbers : kind_number k ∷ [] ≡ kind_number o ∷ [] = sym (last_of k p h) ∙ ap (drop 33) e ∙ last_of o w i in
    let kinds : k ≡ o = number_exact k o (cc) in
    let paths : p ≡ w = wire_exact p w h i (sym (wire_in k p h) ∙ ap (take 33) e ∙ wire_in o w i) in
    cc
