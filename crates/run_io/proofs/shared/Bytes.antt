-- What was written, front by front, and what was taken. For proofs of other crates.
use Rattle.std.proofs.Common.{inl, inr, ℕ, ◌≤◌, List, [], ◌++◌, Option, Some, None}
use Rattle.std.proofs.Common.{sym, ◌∙◌, ap, subst, arith, append_assoc}
use Rattle.std.proofs.lemmas.List.{append-nil}
use mathlib.Core.List.{IsPrefix}
use Rattle.run_io.specs.Bytes.{Rose, Took, TookPart, Wrote, WrotePart}

pub rose_later : (a b c : ℕ) → a ≤ b → Rose b c → Rose a c
rose_later a b c le (inl lt) = inl (omega arith)
rose_later a b c le (inr last) = inr last

pub wrote_nothing : (old : Option (List ℕ)) → Wrote old old []
wrote_nothing None = tt
wrote_nothing (Some held) = ap Some (sym (append-nil held))

pub wrote_more : (old mid new : Option (List ℕ)) (a b : List ℕ) → Wrote old mid a → Wrote mid new b → Wrote old new (a ++ b)
wrote_more None mid new a b x y = tt
wrote_more (Some held) mid new a b x y =
    let P : Option (List ℕ) → Type 0 = λ m. Wrote m new b in subst P x y ∙ ap Some (append_assoc held a b)

-- a front of the text was written, and then a part of what follows
pub wrote_part : (old mid new : Option (List ℕ)) (a b text : List ℕ) → Wrote old mid a → WrotePart mid new b → IsPrefix (a ++ b) text
    → WrotePart old new text
wrote_part None mid new a b text x y whole = tt
wrote_part (Some held) mid new a b text x y whole =
    let P : Option (List ℕ) → Type 0 = λ m. WrotePart m new b in
    let p : WrotePart (Some (held ++ a)) new b = subst P x y in (
      a ++ p.0,
      (
        p.1.0 ++ whole.0,
        append_assoc a p.0 (p.1.0 ++ whole.0)
            ∙ ap (λ (l : List ℕ). a ++ l) (sym (append_assoc p.0 p.1.0 whole.0) ∙ ap (λ (l : List ℕ). l ++ whole.0) p.1.1)
            ∙ sym (append_assoc a b whole.0) ∙ whole.1,
      ),
      p.2 ∙ ap Some (append_assoc held a p.0),
    )

pub wrote_front : (old new : Option (List ℕ)) (a text : List ℕ) → Wrote old new a → IsPrefix a text → WrotePart old new text
wrote_front None new a text x whole = tt
wrote_front (Some held) new a text x whole = (a, whole, x)

-- so many bytes are at most so many
pub took_at_most : (old new : Option (List ℕ)) (n : ℕ) → Took old new n → TookPart old new n
took_at_most None new n took = tt
took_at_most (Some bytes) new n took = (n, omega arith, took)
