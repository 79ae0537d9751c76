-- The three images of a disk in memory are among what a stop may leave of it.
use Rattle.std.proofs.Common.{◌≡◌, sym, refl, subst, ℕ, ◌+◌, ◌≤◌, Bool, true, false, ◌&&◌, nat_le, IsTrue, List, [], ◌∷◌}
use Rattle.std.proofs.Common.{length, arith}
use Rattle.std.specs.Prelude.{replicate, Vec, Result, Ok, Err, IfOk}
use Rattle.std.specs.declared.alloc.Global.{Global}
use Rattle.std.specs.List.{list_all}
use Rattle.std.proofs.lemmas.List.{length-replicate}
use Rattle.std.proofs.lemmas.Bool.{le-leb}
use Rattle.log_shelf.specs.declared.span.Span.{Span}
use Rattle.log_shelf.specs.Disks.{Torn, overwritten}
use Rattle.log_shelf.specs.MemDisks.{applied, IsOutcome}
use Rattle.log_shelf.specs.Images.{filled}
use Rattle.log_shelf.specs.Outcomes.{length-overwritten, torn-overwritten}
use Rattle.log_shelf.proofs.Ranges.{torn-same}

-- whether all of these writes end by a place
abbrev pub end_below : ℕ → List Span → Bool
end_below n spans = list_all (λ span. nat_le (span.at + length span.bytes.items) n) spans

-- writes make a file no shorter
longer : (spans : List Span) (file : List ℕ) → length file ≤ length (applied spans file)
longer [] file = omega arith
longer (s ∷ spans) file =
    omega (arith, length-overwritten file s.at s.bytes.items, longer spans (overwritten file s.at s.bytes.items))

both : (a b : Bool) → IsTrue a → IsTrue b → IsTrue (a && b)
both true b p q = q
both false b p q = absurd (cc)

le_true : (a b : ℕ) → a ≤ b → IsTrue (nat_le a b)
le_true a b h = le-leb a b h

-- each write ends within the file that they make
pub applied-fits : (spans : List Span) (file : List ℕ) → IsTrue (end_below (length (applied spans file)) spans)
applied-fits [] file = refl
applied-fits (s ∷ spans) file =
    let rest = longer spans (overwritten file s.at s.bytes.items) in
    both (nat_le (s.at + length s.bytes.items) (length (applied (s ∷ spans) file))) (end_below (length (applied (s ∷ spans) file)) spans)
    (le_true (s.at + length s.bytes.items) (length (applied (s ∷ spans) file))
    (omega (arith, length-overwritten file s.at s.bytes.items, rest)))
    (applied-fits spans (overwritten file s.at s.bytes.items))

-- without the pending writes
pub outcome-synced : (spans : List Span) (file : List ℕ) → IsOutcome spans file file
outcome-synced [] file = refl
outcome-synced (s ∷ spans) file = (file, torn-same s.at (length s.bytes.items) file, outcome-synced spans file)

-- with their ranges filled
pub outcome-filled : (spans : List Span) (file : List ℕ) → IsOutcome spans file (filled spans file)
outcome-filled [] file = refl
outcome-filled (s ∷ spans) file =
    let bytes = replicate (length s.bytes.items) 255 in (
      overwritten file s.at bytes,
      subst (λ (n : ℕ). Torn s.at n file (overwritten file s.at bytes)) (length-replicate {A = ℕ} (length s.bytes.items) 255)
          (torn-overwritten file s.at bytes),
      outcome-filled spans (overwritten file s.at bytes),
    )

-- a file that is one of them
pub image-left : {E : Type 0} (r : Result (Vec ℕ Global) E) (spans : List Span) (synced file : List ℕ)
    → IfOk r (λ found. found.items ≡ file) → IsOutcome spans synced file → IfOk r (λ found. IsOutcome spans synced found.items)
image-left (Ok found) spans synced file is left = subst (λ (x : List ℕ). IsOutcome spans synced x) (sym is) left
image-left (Err e) spans synced file is left = tt
