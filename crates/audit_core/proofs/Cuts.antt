-- How bytes are cut into lines.
use Rattle.std.proofs.Common.{◌≡◌, ℕ, ◌+◌, ◌<◌, ◌≤◌, ◌==◌, List, [], ◌∷◌, ◌++◌, length, nat_lt}
use Rattle.std.proofs.Common.{Option, Some, Result, Ok, Err, refl, sym, ap, ◌∙◌, subst, arith, length-append}
use Rattle.std.proofs.lemmas.Bool.{cond-true, cond-false, ne_eqb, le-ltb, lt-ltb}
use Rattle.line_feed.specs.Lines.{cut, onto, IsOneLine}
use Rattle.ledger_spec.specs.Bytes.{Bytes}
use Rattle.audit_core.specs.declared.cause.Cause.{Cause}
use Rattle.audit_core.specs.declared.cause.Cause.TheVariants as causes
use Rattle.audit_core.specs.Runs.{step, Ends, Goes, Says, SaysOf, joined}

pub cut_line : (line rest : List ℕ) → IsOneLine line → cut (line ++ 10 ∷ rest) ≡ (line ∷ (cut rest).0, (cut rest).1)
unfolding cut
cut_line [] rest one = refl
cut_line (x ∷ line) rest one = cond-false (x == 10) _ _ (ne_eqb x 10 one.0) ∙ ap (onto x) (cut_line line rest one.1)

pub cut_rest : (rest : List ℕ) → IsOneLine rest → cut rest ≡ ([], rest)
unfolding cut
cut_rest [] one = refl
cut_rest (x ∷ rest) one = cond-false (x == 10) _ _ (ne_eqb x 10 one.0) ∙ ap (onto x) (cut_rest rest one.1)

-- the first line, or the rest where there is none, begins with the bytes
abbrev pub BeginsWith : List ℕ → List (List ℕ) × List ℕ → Type 0
BeginsWith front ([], rest) = (more : List ℕ) × (rest ≡ front ++ more)
BeginsWith front (line ∷ lines, rest) = (more : List ℕ) × (line ≡ front ++ more)

begins_onto : (x : ℕ) (front : List ℕ) (p : List (List ℕ) × List ℕ) → BeginsWith front p → BeginsWith (x ∷ front) (onto x p)
begins_onto x front ([], rest) begins = (begins.0, ap (λ (l : List ℕ). x ∷ l) begins.1)
begins_onto x front (line ∷ lines, rest) begins = (begins.0, ap (λ (l : List ℕ). x ∷ l) begins.1)

begins_any : (p : List (List ℕ) × List ℕ) → BeginsWith [] p
begins_any ([], rest) = (rest, refl)
begins_any (line ∷ lines, rest) = (line, refl)

pub cut_front : (front more : List ℕ) → IsOneLine front → BeginsWith front (cut (front ++ more))
unfolding cut
cut_front [] more one = begins_any (cut more)
cut_front (x ∷ front) more one =
    subst (BeginsWith (x ∷ front)) (sym (cond-false (x == 10) _ _ (ne_eqb x 10 one.0)))
    (begins_onto x front (cut (front ++ more)) (cut_front front more one.1))

module _ {P R : Type 0} (refuse : ℕ → Cause → R) (most : ℕ) (after : Option P → Bytes → Result P Cause)
    (Comes : ℕ → Option P → R → Type 0) where
  -- a line that isn't too long goes by what it says
  pub step_short : (s : Option P) (line : Bytes) → length line ≤ most → step most after s line ≡ after s line
  step_short s line short = cond-false (nat_lt most (length line)) _ _ (le-ltb most (length line) short)

  step_long : (s : Option P) (line : Bytes) → most < length line → step most after s line ≡ Err causes.TooLong
  step_long s line long = cond-true (nat_lt most (length line)) _ _ (lt-ltb most (length line) long)

  module _ (n : ℕ) (s : Option P) where
    pub says_line : (line text : Bytes) (t : P) (answer : R) → IsOneLine line → length line ≤ most → after s line ≡ Ok t
        → SaysOf refuse most after Comes (n + 1) (Some t) text answer → SaysOf refuse most after Comes n s (line ++ 10 ∷ text) answer
    says_line line text t answer one short is says =
        subst (λ (p : List (List ℕ) × List ℕ). Says refuse most after Comes n s p.0 p.1 answer) (sym (cut_line line text one))
        (subst (λ (r : Result P Cause). Goes refuse most after Comes n answer r
        (λ u. Says refuse most after Comes (n + 1) (Some u) (cut text).0 (cut text).1 answer))
        (sym (step_short s line short ∙ is)) says)

    pub says_refused : (line text : Bytes) (cause : Cause) → IsOneLine line → length line ≤ most → after s line ≡ Err cause
        → SaysOf refuse most after Comes n s (line ++ 10 ∷ text) (refuse n cause)
    says_refused line text cause one short is =
        subst (λ (p : List (List ℕ) × List ℕ). Says refuse most after Comes n s p.0 p.1 (refuse n cause)) (sym (cut_line line text one))
        (subst (λ (r : Result P Cause). Goes refuse most after Comes n (refuse n cause) r
        (λ u. Says refuse most after Comes (n + 1) (Some u) (cut text).0 (cut text).1 (refuse n cause)))
        (sym (step_short s line short ∙ is)) refl)

    pub says_ended : (rest : Bytes) (answer : R) → IsOneLine rest → Ends refuse most after Comes n s rest answer
        → SaysOf refuse most after Comes n s rest answer
    says_ended rest answer one ends =
        subst (λ (p : List (List ℕ) × List ℕ). Says refuse most after Comes n s p.0 p.1 answer) (sym (cut_rest rest one)) ends

    too_long : (p : List (List ℕ) × List ℕ) (front : Bytes) → most < length front → BeginsWith front p
        → Says refuse most after Comes n s p.0 p.1 (refuse n causes.TooLong)
    too_long ([], []) front long begins =
        let size : length {A = ℕ} [] ≡ length (front ++ begins.0) = ap length begins.1 in
        absurd (omega (arith, size, long, length-append front begins.0))
    too_long ([], x ∷ rest) front long begins =
        let size : length (x ∷ rest) ≡ length (front ++ begins.0) = ap length begins.1 in
        let much : most < length (x ∷ rest) = omega (arith, size, long, length-append front begins.0) in
        ap (refuse n) (sym (cond-true (nat_lt most (length (x ∷ rest))) causes.TooLong causes.Unended
        (lt-ltb most (length (x ∷ rest)) much)))
    too_long (line ∷ lines, rest) front long begins =
        let size : length line ≡ length (front ++ begins.0) = ap length begins.1 in
        let much : most < length line = omega (arith, size, long, length-append front begins.0) in
        subst (λ (r : Result P Cause). Goes refuse most after Comes n (refuse n causes.TooLong) r
        (λ u. Says refuse most after Comes (n + 1) (Some u) lines rest (refuse n causes.TooLong)))
        (sym (step_long s line much)) refl

    pub says_too_long : (front more : Bytes) → IsOneLine front → most < length front
        → SaysOf refuse most after Comes n s (front ++ more) (refuse n causes.TooLong)
    says_too_long front more one long = too_long (cut (front ++ more)) front long (cut_front front more one)

-- the lines with their newlines, and the rest, are the bytes
abbrev pub all_of : List Bytes × Bytes → Bytes
all_of p = joined p.0 ++ p.1

pub onto_all : (x : ℕ) (p : List Bytes × Bytes) → all_of (onto x p) ≡ x ∷ all_of p
onto_all x ([], rest) = refl
onto_all x (line ∷ lines, rest) = refl
