-- The words behind the actor: whether `after` stands there, and which earlier line it names.
use Rattle.std.proofs.Common.{◌≡◌, ◌≢◌, inl, inr, ℕ, ◌≤◌, List, [], ◌∷◌, length, map, get_or, Bor, Bool, true, false, Option, None, Some}
use Rattle.std.proofs.Common.{refl, sym, arith}
use Rattle.std.specs.Prelude.{codes, MatchBool, MatchOption}
use Rattle.std.proofs.lemmas.Slice.Eq.{bytes_eq-Decides}
use Rattle.ledger_spec.specs.Bytes.{Bytes, same_bytes}
use Rattle.script_form.specs.Records.{is_store}
use Rattle.script_form.specs.Causes.{waits, IsEarlier}
use Rattle.script_form.specs.Grammar.{SaysAfter}

tells : (word text : Bytes) (b : Bool) → MatchBool b (word ≡ text) (word ≢ text) → b ≡ same_bytes word text
tells word text true is = sym ((bytes_eq-Decides word text).1 is)
tells word text false other = at (same_bytes word text) refl
  where
    at : (t : Bool) → same_bytes word text ≡ t → false ≡ same_bytes word text
    at true e = absurd (other ((bytes_eq-Decides word text).0 e))
    at false e = sym e

pub first_waits : (words : List (Bor Bytes)) (d : Bor Bytes) (b : Bool) → 1 ≤ length words
    → MatchBool b ((get_or words 0 d).now ≡ codes "after") ((get_or words 0 d).now ≢ codes "after")
    → b ≡ waits (map (λ w. w.now) words)
first_waits [] d b le is = absurd (omega arith)
first_waits (w ∷ words) d b le is = tells w.now (codes "after") b is

pub first_store : (words : List (Bor Bytes)) (d : Bor Bytes) (b : Bool) → 1 ≤ length words
    → MatchBool b ((get_or words 0 d).now ≡ codes "store") ((get_or words 0 d).now ≢ codes "store")
    → b ≡ is_store (map (λ w. w.now) words)
first_store [] d b le is = absurd (omega arith)
first_store (w ∷ words) d b le is = tells w.now (codes "store") b is

pub named : (earlier : List ℕ) (words : List Bytes) (r : Option ℕ) → waits words ≡ true
    → MatchOption r ((n : ℕ) → IsEarlier earlier words n → ⊥) (IsEarlier earlier words)
    → MatchOption r ((n : ℕ) → SaysAfter earlier words n → ⊥) (SaysAfter earlier words)
named earlier words (Some n) e is = inr (e, is)
named earlier words None e none = λ n says. elim says [ inl free ↦ (let no : waits words ≡ false = free.0 in cc) | inr is ↦ none n is.1 ]
