-- The answer to an input of lines, by what each of them says and by what the end comes to.
use Rattle.std.specs.Prelude.{◌≡◌, ℕ, ◌+◌, nat_lt, if◌then◌else◌, List, [], ◌∷◌, ◌++◌, length, Option, None, Some, Result, Ok, Err}
use Rattle.std.specs.List.{flat_map}
use Rattle.line_feed.specs.Lines.{cut}
use Rattle.ledger_spec.specs.Bytes.{Bytes}
use Rattle.audit_core.specs.declared.cause.Cause.{Cause}
use Rattle.audit_core.specs.declared.cause.Cause.TheVariants as causes

-- what is wrong with bytes that no newline ends, where a line has at most so many bytes
abbrev pub unended : ℕ → Bytes → Cause
unended most rest = if nat_lt most (length rest) then causes.TooLong else causes.Unended

-- what is said after one line more, or what is wrong with it; P is what is said so far, at first nothing
abbrev pub step : {P : Type 0} → ℕ → (Option P → Bytes → Result P Cause) → Option P → Bytes → Result P Cause
step most after s line = if nat_lt most (length line) then Err causes.TooLong else after s line

-- `refuse` is the answer that refuses a line, and `Comes` says what the end comes to before line n
module _ {P R : Type 0} (refuse : ℕ → Cause → R) (most : ℕ) (after : Option P → Bytes → Result P Cause)
    (Comes : ℕ → Option P → R → Type 0) where
  -- no line is left
  abbrev pub Ends : ℕ → Option P → Bytes → R → Type 0
  Ends n s (x ∷ rest) answer = answer ≡ refuse n (unended most (x ∷ rest))
  Ends n s [] answer = Comes n s answer

  -- a line that is refused is the answer, and another one is gone on from
  abbrev pub Goes : ℕ → R → Result P Cause → (P → Type 0) → Type 0
  Goes n answer (Ok s) on = on s
  Goes n answer (Err cause) on = answer ≡ refuse n cause

  -- the answer to lines whose numbers begin at n, and to what stands behind them
  abbrev pub Says : ℕ → Option P → List Bytes → Bytes → R → Type 0
  Says n s [] rest answer = Ends n s rest answer
  Says n s (line ∷ lines) rest answer = Goes n answer (step most after s line) (λ t. Says (n + 1) (Some t) lines rest answer)

  -- the same of bytes
  abbrev pub SaysOf : ℕ → Option P → Bytes → R → Type 0
  SaysOf n s bytes answer = Says n s (cut bytes).0 (cut bytes).1 answer

-- both are there and one is kept by the other, or neither is there
abbrev pub Both : {A P : Type 0} → (A → P → Type 0) → Option A → Option P → Type 0
Both Keeps None None = Unit {0}
Both Keeps (Some a) (Some s) = Keeps a s
Both Keeps _ _ = ⊥

-- the lines with their newlines
abbrev pub joined : List Bytes → Bytes
joined lines = flat_map (λ (line : Bytes). line ++ 10 ∷ []) lines
