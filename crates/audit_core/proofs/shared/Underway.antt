-- A run under way: its answer to what is left is the answer to all. For proofs of other crates.
use Rattle.std.proofs.Common.{◌≡◌, ℕ, ◌+◌, ◌≤◌, [], ◌++◌, length, Option, None, Some, Result, Ok, Err}
use Rattle.std.proofs.Common.{refl, sym, subst}
use Rattle.std.specs.Option.{IfSome}
use Rattle.line_feed.specs.Feeding.{TakesLine, TakesRest, TakesFront}
use Rattle.ledger_spec.specs.Bytes.{Bytes}
use Rattle.audit_core.specs.declared.cause.Cause.{Cause}
use Rattle.audit_core.specs.declared.cause.Cause.TheVariants as causes
use Rattle.audit_core.specs.Runs.{Ends, SaysOf, Both}
use Rattle.audit_core.proofs.Cuts.{says_line, says_refused, says_ended, says_too_long}

module _ {A P R : Type 0} (Keeps : A → P → Type 0) (refuse : ℕ → Cause → R) (most : ℕ) (after : Option P → Bytes → Result P Cause)
    (Comes : ℕ → Option P → R → Type 0) where
  pub record Underway (bytes waiting : Bytes) (left : Option Bytes) (audit : Option A) (n : ℕ) : Type 0 where
    pub rest : Bytes
    pub left_is : left ≡ Some rest
    pub said : Option P
    pub keeps : Both Keeps audit said
    pub on : (answer : R) → SaysOf refuse most after Comes n said (waiting ++ rest) answer
        → SaysOf refuse most after Comes 1 None bytes answer

  pub begins : (input : Option Bytes) (waiting : Bytes) → waiting ≡ []
      → IfSome input (λ bytes. Underway bytes waiting input None 1)
  begins None waiting none = tt
  begins (Some bytes) waiting none = record {
    rest = bytes;
    left_is = refl;
    said = None;
    keeps = tt;
    on = λ answer says. subst (λ (w : Bytes). SaysOf refuse most after Comes 1 None (w ++ bytes) answer) none says;
  }

  pub goes_on : (input mid new : Option Bytes) (waiting line behind : Bytes) (audit next : Option A) (n : ℕ)
      → IfSome input (λ bytes. Underway bytes waiting mid audit n)
      → IfSome mid (λ left. TakesLine most (waiting ++ left) line behind new)
      → ((s : Option P) → Both Keeps audit s → (t : P) × (after s line ≡ Ok t) × Both Keeps next (Some t))
      → IfSome input (λ bytes. Underway bytes behind new next (n + 1))
  goes_on None mid new waiting line behind audit next n way takes told = tt
  goes_on (Some bytes) mid new waiting line behind audit next n way takes told =
      let t : TakesLine most (waiting ++ way.rest) line behind new =
      subst (λ (m : Option Bytes). IfSome m (λ left. TakesLine most (waiting ++ left) line behind new)) way.left_is takes in
      let said = told way.said way.keeps in
      record {
        rest = t.rest;
        left_is = t.left_is;
        said = Some said.0;
        keeps = said.2;
        on = λ answer says. way.on answer (subst (λ (w : Bytes). SaysOf refuse most after Comes n way.said w answer) (sym t.text_is)
            (says_line refuse most after Comes n way.said line (behind ++ t.rest) said.0 answer t.one t.short said.1 says));
      }

  pub refuses : (input mid new : Option Bytes) (waiting line behind : Bytes) (audit : Option A) (cause : Cause) (n : ℕ)
      → IfSome input (λ bytes. Underway bytes waiting mid audit n)
      → IfSome mid (λ left. TakesLine most (waiting ++ left) line behind new)
      → ((s : Option P) → Both Keeps audit s → after s line ≡ Err cause)
      → IfSome input (λ bytes. SaysOf refuse most after Comes 1 None bytes (refuse n cause))
  refuses None mid new waiting line behind audit cause n way takes told = tt
  refuses (Some bytes) mid new waiting line behind audit cause n way takes told =
      let t : TakesLine most (waiting ++ way.rest) line behind new =
      subst (λ (m : Option Bytes). IfSome m (λ left. TakesLine most (waiting ++ left) line behind new)) way.left_is takes in
      way.on (refuse n cause) (subst (λ (w : Bytes). SaysOf refuse most after Comes n way.said w (refuse n cause)) (sym t.text_is)
      (says_refused refuse most after Comes n way.said line (behind ++ t.rest) cause t.one t.short (told way.said way.keeps)))

  pub ends : (input mid : Option Bytes) (waiting line : Bytes) (audit : Option A) (answer : R) (n : ℕ)
      → IfSome input (λ bytes. Underway bytes waiting mid audit n)
      → IfSome mid (λ left. TakesRest most (waiting ++ left) line)
      → (length line ≤ most → (s : Option P) → Both Keeps audit s → Ends refuse most after Comes n s line answer)
      → IfSome input (λ bytes. SaysOf refuse most after Comes 1 None bytes answer)
  ends None mid waiting line audit answer n way takes told = tt
  ends (Some bytes) mid waiting line audit answer n way takes told =
      let t : TakesRest most (waiting ++ way.rest) line =
      subst (λ (m : Option Bytes). IfSome m (λ left. TakesRest most (waiting ++ left) line)) way.left_is takes in
      way.on answer (subst (λ (w : Bytes). SaysOf refuse most after Comes n way.said w answer) (sym t.text_is)
      (says_ended refuse most after Comes n way.said line answer t.one (told t.short way.said way.keeps)))

  pub too_long : (input mid : Option Bytes) (waiting front : Bytes) (audit : Option A) (n : ℕ)
      → IfSome input (λ bytes. Underway bytes waiting mid audit n)
      → IfSome mid (λ left. TakesFront most (waiting ++ left) front)
      → IfSome input (λ bytes. SaysOf refuse most after Comes 1 None bytes (refuse n causes.TooLong))
  too_long None mid waiting front audit n way takes = tt
  too_long (Some bytes) mid waiting front audit n way takes =
      let t : TakesFront most (waiting ++ way.rest) front =
      subst (λ (m : Option Bytes). IfSome m (λ left. TakesFront most (waiting ++ left) front)) way.left_is takes in
      way.on (refuse n causes.TooLong) (subst (λ (w : Bytes). SaysOf refuse most after Comes n way.said w (refuse n causes.TooLong))
      (sym t.text_is) (says_too_long refuse most after Comes n way.said front t.rest t.one t.long))

module _ {A P : Type 0} (Keeps : A → P → Type 0) where
  -- what is said is kept by the audit, where there is one
  pub kept_some : (audit : Option A) (a : A) (Q : Option P → Type 0) → audit ≡ Some a
      → ((s : P) → Keeps a s → Q (Some s)) → (s : Option P) → Both Keeps audit s → Q s
  kept_some audit a Q is each None keeps = absurd (subst (λ (o : Option A). Both Keeps o None) is keeps)
  kept_some audit a Q is each (Some s) keeps = each s (subst (λ (o : Option A). Both Keeps o (Some s)) is keeps)

  pub kept_none : (audit : Option A) (Q : Option P → Type 0) → audit ≡ None → Q None
      → (s : Option P) → Both Keeps audit s → Q s
  kept_none audit Q is here None keeps = here
  kept_none audit Q is here (Some s) keeps = absurd (subst (λ (o : Option A). Both Keeps o (Some s)) is keeps)
