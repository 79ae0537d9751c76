-- Lines that are joined are cut again, each of them one line. For proofs of other crates.
use Rattle.std.proofs.Common.{◌≡◌, ◌≢◌, ℕ, ◌==◌, Bool, true, false, List, [], ◌∷◌, ◌++◌, length, append_assoc}
use Rattle.std.proofs.Common.{refl, sym, ap, ◌∙◌, arith}
use Rattle.std.specs.Prelude.{if◌then◌else◌}
use Rattle.std.proofs.lemmas.Bool.{eqb-true, eqb-false}
use Rattle.line_feed.specs.Lines.{cut, onto, IsOneLine}
use Rattle.ledger_spec.specs.Bytes.{Bytes}
use Rattle.audit_core.specs.Runs.{joined}
use Rattle.audit_core.proofs.Cuts.{cut_line, all_of, onto_all}

pub none_left : (xs : List ℕ) → length xs ≡ 0 → xs ≡ []
none_left [] h = refl
none_left (x ∷ xs) h = absurd (omega arith)

pub cut_all : (bytes : Bytes) → all_of (cut bytes) ≡ bytes
unfolding cut
cut_all [] = refl
cut_all (x ∷ bytes) = by (x == 10) refl (cut_all bytes)
  where
    by : (b : Bool) → (x == 10) ≡ b → all_of (cut bytes) ≡ bytes
        → all_of (if b then ([] ∷ (cut bytes).0, (cut bytes).1) else onto x (cut bytes)) ≡ x ∷ bytes
    by true is rest = let newline : 10 ≡ x = sym (eqb-true x 10 is) in ap (λ (b : Bytes). 10 ∷ b) rest ∙ ap (λ y. y ∷ bytes) newline
    by false is rest = onto_all x (cut bytes) ∙ ap (λ (b : Bytes). x ∷ b) rest

-- each line is one
abbrev pub AreOne : List Bytes → Type 0
AreOne [] = Unit {0}
AreOne (line ∷ lines) = IsOneLine line × AreOne lines

pub one_append : (a b : List Bytes) → AreOne a → AreOne b → AreOne (a ++ b)
one_append [] b one more = more
one_append (line ∷ a) b one more = (one.0, one_append a b one.1 more)

-- lines that are joined are cut again
pub cut_joined : (lines : List Bytes) → AreOne lines → cut (joined lines) ≡ (lines, [])
unfolding cut
cut_joined [] one = refl
cut_joined (line ∷ lines) one =
    ap cut (append_assoc line (10 ∷ []) (joined lines)) ∙ cut_line line (joined lines) one.0
    ∙ ap (λ (p : List Bytes × Bytes). (line ∷ p.0, p.1)) (cut_joined lines one.1)

-- the lines that are cut are one line each
pub cut_one : (bytes : Bytes) → AreOne (cut bytes).0
unfolding cut
cut_one [] = tt
cut_one (x ∷ bytes) = by (x == 10) refl (cut bytes) (cut_one bytes)
  where
    head_one : (p : List (List ℕ) × List ℕ) → x ≢ 10 → AreOne p.0 → AreOne (onto x p).0
    head_one ([], rest) differ one = tt
    head_one (line ∷ lines, rest) differ one = ((differ, one.0), one.1)

    by : (b : Bool) → (x == 10) ≡ b → (p : List (List ℕ) × List ℕ) → AreOne p.0 → AreOne (if b then ([] ∷ p.0, p.1) else onto x p).0
    by true is p one = (tt, one)
    by false is p one = head_one p (eqb-false x 10 is) one
