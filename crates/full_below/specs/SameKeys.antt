-- The test whether two keys of marks are one is exact, and so an equality.
use Rattle.std.specs.Prelude.{◌≡◌, ◌&&◌, Bool, true, false, IsTrue, refl}
use Rattle.std.proofs.Common.{sym, ap, ◌∙◌}
use Rattle.std.specs.Cmp.{IsEquivalence}
use Rattle.std.specs.Cmp.Lexicographic.{bytes_decides}
use Rattle.ledger_spec.specs.declared.Kind.{Kind}
use Rattle.ledger_spec.specs.declared.Kind.TheVariants.{State, Tx, Set}
use Rattle.ledger_spec.specs.Bytes.{same_bytes}
use Rattle.ledger_spec.specs.Rules.{same_kind}
use Rattle.full_below.specs.declared.key.MarkKey.{MarkKey}
use Rattle.full_below.specs.Keys.{same_mark, fed_mark}

kind_exact : (a b : Kind) → same_kind a b ≡ true → a ≡ b
kind_exact State State e = refl
kind_exact Tx Tx e = refl
kind_exact Set Set e = refl
kind_exact State Tx e = cc
kind_exact State Set e = cc
kind_exact Tx State e = cc
kind_exact Tx Set e = cc
kind_exact Set State e = cc
kind_exact Set Tx e = cc

own_kind : (a : Kind) → same_kind a a ≡ true
own_kind State = refl
own_kind Tx = refl
own_kind Set = refl

all_three : (x y z : Bool) → (x && y && z) ≡ true → (x ≡ true) × (y ≡ true) × (z ≡ true)
all_three true true true e = (refl, refl, refl)
all_three true true false e = cc
all_three true false z e = cc
all_three false y z e = cc

-- the test is exact
pub mark_exact : (a b : MarkKey) → same_mark a b ≡ true → a ≡ b
mark_exact a b e =
    let parts = all_three (same_bytes a.hash b.hash) (same_kind a.kind b.kind) (same_bytes a.id b.id) e in
    let hash : a.hash ≡ b.hash = (bytes_decides a.hash b.hash).0 parts.0 in
    let kind : a.kind ≡ b.kind = kind_exact a.kind b.kind parts.1 in
    let id : a.id ≡ b.id = (bytes_decides a.id b.id).0 parts.2 in
    λ i. record { hash = hash i; kind = kind i; id = id i }

pub mark_own : (a : MarkKey) → same_mark a a ≡ true
mark_own a =
    rw ((bytes_decides a.hash a.hash).1 refl, own_kind a.kind, (bytes_decides a.id a.id).1 refl) refl

one_way : (x y : Bool) → (x ≡ true → y ≡ true) → (y ≡ true → x ≡ true) → x ≡ y
one_way true true f g = refl
one_way false false f g = refl
one_way true false f g = sym (f refl)
one_way false true f g = g refl

-- as equality
pub marks_alike : IsEquivalence same_mark
marks_alike = record {
  refl = mark_own;
  symm = λ a b. one_way (same_mark a b) (same_mark b a)
      (λ e. ap (λ c. same_mark c a) (sym (mark_exact a b e)) ∙ mark_own a)
      (λ e. ap (λ c. same_mark c b) (sym (mark_exact b a e)) ∙ mark_own b);
  congr = λ a b c e. ap (λ d. same_mark d c) (mark_exact a b e);
}

pub marks_fed_alike : (a b : MarkKey) → IsTrue (same_mark a b) → fed_mark a ≡ fed_mark b
marks_fed_alike a b e = ap fed_mark (mark_exact a b e)
