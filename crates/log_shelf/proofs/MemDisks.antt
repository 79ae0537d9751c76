-- What a disk in memory shows, and what a stop may leave of it.
use Rattle.std.proofs.Common.{◌≡◌, sym, ap, refl, subst, ℕ, List, [], ◌∷◌, ◌++◌, length, Result, Ok, Err, OnOk, OnErr}
use Rattle.log_shelf.specs.Disks.{Torn, overwritten}
use Rattle.log_shelf.specs.declared.span.Span.{Span}
use Rattle.log_shelf.specs.MemDisks.{applied, IsOutcome}
use Rattle.log_shelf.proofs.Ranges.{torn-same}

-- one write more
pub applied-more : (spans : List Span) (span : Span) (file : List ℕ)
    → applied (spans ++ span ∷ []) file ≡ overwritten (applied spans file) span.at span.bytes.items
applied-more [] span file = refl
applied-more (s ∷ spans) span file = applied-more spans span (overwritten file s.at s.bytes.items)

pub outcome-more : (spans : List Span) (span : Span) (file left : List ℕ) → IsOutcome (spans ++ span ∷ []) file left
    → (mid : List ℕ) × IsOutcome spans file mid × Torn span.at (length span.bytes.items) mid left
outcome-more [] span file left h = (file, refl, subst (λ (x : List ℕ). Torn span.at (length span.bytes.items) file x) (sym h.2) h.1)
outcome-more (s ∷ spans) span file left h =
    let rest = outcome-more spans span h.0 left h.2 in
    (rest.0, (h.0, h.1, rest.1), rest.2)

-- after a sync only one outcome is left
pub outcome-settled : (spans : List Span) (file left : List ℕ) → spans ≡ [] → IsOutcome spans file left → left ≡ file
outcome-settled spans file left none h = subst (λ (x : List Span). IsOutcome x file left) none h

-- a write was kept as the last one
pub outcome-kept : (spans more : List Span) (span : Span) (file synced left : List ℕ) (at n : ℕ) → more ≡ spans ++ span ∷ []
    → synced ≡ file → span.at ≡ at → length span.bytes.items ≡ n
    → IsOutcome more synced left → (mid : List ℕ) × IsOutcome spans file mid × Torn at n mid left
outcome-kept spans more span file synced left at n pushed same place size h =
    let found = outcome-more spans span file left (subst (λ (x : List Span). IsOutcome x file left) pushed (subst (λ (x : List ℕ).
    IsOutcome more x left) same h)) in (
      found.0,
      found.1,
      subst (λ (k : ℕ). Torn at k found.0 left) size (subst (λ (k : ℕ). Torn k (length span.bytes.items) found.0 left)
          place found.2),
    )

-- a write was not kept
pub outcome-left : (spans more : List Span) (file synced left : List ℕ) (at n : ℕ) → more ≡ spans → synced ≡ file
    → IsOutcome more synced left
    → (mid : List ℕ) × IsOutcome spans file mid × Torn at n mid left
outcome-left spans more file synced left at n pushed same h = (
  left,
  subst (λ (x : List Span). IsOutcome x file left) pushed (subst (λ (x : List ℕ). IsOutcome more x left) same h),
  torn-same at
      n left,
)

-- whether it was or not
pub outcome-write : {E : Type 0} (N : Type 0) (r : Result (Unit {0}) E) (spans more : List Span) (file synced left : List ℕ) (at : ℕ)
    (bytes : List ℕ)
    → OnOk r ((span : Span) × (span.at ≡ at) × (span.bytes.items ≡ bytes) × (more ≡ spans ++ span ∷ [])) → OnErr r (N
    × (more ≡ spans)) → synced ≡ file
    → IsOutcome more synced left → (mid : List ℕ) × IsOutcome spans file mid × Torn at (length bytes) mid left
outcome-write N (Ok x) spans more file synced left at bytes kept lost same h = outcome-kept spans more kept.0 file synced left at
    (length bytes) kept.3 same kept.1 (ap length kept.2) h
outcome-write N (Err e) spans more file synced left at bytes kept lost same h = outcome-left spans more file synced left at (length
    bytes) lost.1 same h
