-- How reading and writing go on.
use Rattle.std.proofs.Common.{◌≡◌, ℕ, ◌+◌, ◌<◌, ◌≤◌, List, [], ◌∷◌, ◌++◌, length, take, drop, take_all, Option, Some, None}
use Rattle.std.proofs.Common.{refl, sym, ◌∙◌, ap, subst, arith, append_assoc, length-append, length-drop}
use Rattle.std.specs.Option.{IfSome}
use Rattle.std.proofs.lemmas.List.{append-nil, take-append-drop, length-take-le, drop-drop, drop_all}
use Rattle.std.proofs.Math.Seq.{take-add}
use Rattle.std.specs.Io.KnownBytes.{Appends, Keeps}
use Rattle.run_io.specs.Bytes.{Takes, Took, TookPart, Wrote, WrotePart}

-- of the bytes, the rest is still to be written
abbrev pub Writing : Option (List ℕ) → Option (List ℕ) → List ℕ → List ℕ → Type 0
Writing old now rest bytes = IfSome old (λ held. (front : List ℕ) × (front ++ rest ≡ bytes) × (now ≡ Some (held ++ front)))

pub writing_start : (old : Option (List ℕ)) (bytes : List ℕ) → Writing old old bytes bytes
writing_start None bytes = tt
writing_start (Some held) bytes = ([], refl, ap Some (sym (append-nil held)))

pub writing_step : (old mid new : Option (List ℕ)) (rest bytes : List ℕ) (n : ℕ) → Writing old mid rest bytes → Wrote mid new (take n rest)
    → Writing old new (drop n rest) bytes
writing_step None mid new rest bytes n w more = tt
writing_step (Some held) mid new rest bytes n w more =
    let P : Option (List ℕ) → Type 0 = λ m. Wrote m new (take n rest) in (
      w.0 ++ take n rest,
      append_assoc w.0 (take n rest) (drop n rest) ∙ ap (λ (l : List ℕ). w.0 ++ l) (take-append-drop n rest) ∙ w.1,
      subst P w.2 more ∙ ap Some (append_assoc held w.0 (take n rest)),
    )

pub writing_part : (old mid new : Option (List ℕ)) (rest bytes : List ℕ) → Writing old mid rest bytes → WrotePart mid new rest
    → WrotePart old new bytes
writing_part None mid new rest bytes w part = tt
writing_part (Some held) mid new rest bytes w part =
    let P : Option (List ℕ) → Type 0 = λ m. WrotePart m new rest in
    let p : WrotePart (Some (held ++ w.0)) new rest = subst P w.2 part in (
      w.0 ++ p.0,
      (p.1.0, append_assoc w.0 p.0 p.1.0 ∙ ap (λ (l : List ℕ). w.0 ++ l) p.1.1 ∙ w.1),
      p.2 ∙ ap Some (append_assoc held w.0 p.0),
    )

pub writing_end : (old new : Option (List ℕ)) (rest bytes : List ℕ) → length rest ≡ 0 → Writing old new rest bytes → Wrote old new bytes
writing_end None new rest bytes none w = tt
writing_end (Some held) new [] bytes none w = w.2 ∙ ap Some (ap (λ (l : List ℕ). held ++ l) (sym (append-nil w.0) ∙ w.1))
writing_end (Some held) new (x ∷ rest) bytes none w = absurd (omega arith)

-- what was read so far is the front of the input
abbrev pub Reading : Option (List ℕ) → List ℕ → Option (List ℕ) → Type 0
Reading input held now = IfSome input (λ bytes. (held ≡ take (length held) bytes) × (now ≡ Some (drop (length held) bytes)))

pub reading_start : (input : Option (List ℕ)) → Reading input [] input
reading_start None = tt
reading_start (Some bytes) = (refl, refl)

pub reading_step : (input mid new : Option (List ℕ)) (held buf : List ℕ) (n room : ℕ) → Reading input held mid
    → IfSome mid (λ bytes. Takes bytes n buf room new) → Reading input (held ++ take n buf) new
reading_step None mid new held buf n room r t = tt
reading_step (Some bytes) mid new held buf n room r t =
    let P : Option (List ℕ) → Type 0 = λ m. IfSome m (λ b. Takes b n buf room new) in
    let k : Takes (drop (length held) bytes) n buf room new = subst P r.1 t in
    let size : length (held ++ take n buf) ≡ length held + n = length-append held (take n buf)
    ∙ ap (λ (i : ℕ). length held + i) (ap length k.front ∙ length-take-le n (drop (length held) bytes) k.few) in (
      ap (λ (l : List ℕ). held ++ l) k.front ∙ ap (λ (l : List ℕ). l ++ take n (drop (length held) bytes)) r.0
          ∙ sym (take-add (length held) n bytes) ∙ ap (λ (i : ℕ). take i bytes) (sym size),
      k.left ∙ ap Some (drop-drop n (length held) bytes ∙ ap (λ (i : ℕ). drop i bytes) (sym size)),
    )

-- all that is wanted was read
pub reading_full : (input now : Option (List ℕ)) (held : List ℕ) (most : ℕ) → length held ≡ most → Reading input held now
    → IfSome input (λ bytes. held ≡ take most bytes)
reading_full None now held most is r = tt
reading_full (Some bytes) now held most is r = r.0 ∙ ap (λ (i : ℕ). take i bytes) is

-- the input ended
pub reading_ended : (input mid new : Option (List ℕ)) (held buf : List ℕ) (n room most : ℕ) → Reading input held mid
    → IfSome mid (λ bytes. Takes bytes n buf room new) → n ≡ 0 → 0 < room → length held ≤ most
    → IfSome input (λ bytes. held ≡ take most bytes)
reading_ended None mid new held buf n room most r t none some le = tt
reading_ended (Some bytes) mid new held buf n room most r t none some le =
    let P : Option (List ℕ) → Type 0 = λ m. IfSome m (λ b. Takes b n buf room new) in
    let k : Takes (drop (length held) bytes) n buf room new = subst P r.1 t in
    let short : length bytes ≤ length held = omega (arith, k.ended none some, length-drop (length held) bytes) in
    r.0 ∙ take_all (length held) bytes short ∙ sym (take_all most bytes (omega arith))

-- the input is gone as far as it was wanted
pub took_full : (input now : Option (List ℕ)) (held : List ℕ) (most : ℕ) → length held ≡ most → Reading input held now → Took input now most
took_full None now held most is r = tt
took_full (Some bytes) now held most is r = r.1 ∙ ap Some (ap (λ (i : ℕ). drop i bytes) is)

-- nothing is left where the input ended
pub took_ended : (input mid new : Option (List ℕ)) (held buf : List ℕ) (n room most : ℕ) → Reading input held mid
    → IfSome mid (λ bytes. Takes bytes n buf room new) → n ≡ 0 → 0 < room → length held ≤ most → Took input new most
took_ended None mid new held buf n room most r t none some le = tt
took_ended (Some bytes) mid new held buf n room most r t none some le =
    let P : Option (List ℕ) → Type 0 = λ m. IfSome m (λ b. Takes b n buf room new) in
    let k : Takes (drop (length held) bytes) n buf room new = subst P r.1 t in
    let short : length bytes ≤ length held = omega (arith, k.ended none some, length-drop (length held) bytes) in
    let gone : drop (length held + n) bytes ≡ drop most bytes = drop_all (length held + n) bytes (omega arith)
    ∙ sym (drop_all most bytes (omega arith)) in
    k.left ∙ ap Some (drop-drop n (length held) bytes ∙ gone)

-- a read that fails takes a front of what is left
pub took_part : (input mid new : Option (List ℕ)) (held : List ℕ) (room most : ℕ) → Reading input held mid → TookPart mid new room
    → length held + room ≤ most → TookPart input new most
took_part None mid new held room most r t le = tt
took_part (Some bytes) mid new held room most r t le =
    let P : Option (List ℕ) → Type 0 = λ m. TookPart m new room in
    let k : TookPart (Some (drop (length held) bytes)) new room = subst P r.1 t in
    let few : k.0 ≤ room = k.1 in
    (length held + k.0, omega arith, k.2 ∙ ap Some (drop-drop k.0 (length held) bytes))

-- what was taken is held, though the flush after it failed
pub wrote_unflushed : (old mid new : Option (List ℕ)) (n : ℕ) (piece : List ℕ) → Appends old mid (take n piece) → Keeps mid new
    → WrotePart old new piece
wrote_unflushed None mid new n piece more same = tt
wrote_unflushed (Some held) None new n piece more same = absurd more
wrote_unflushed (Some held) (Some wrote) None n piece more same = absurd same
wrote_unflushed (Some held) (Some wrote) (Some kept) n piece more same =
    (take n piece, (drop n piece, take-append-drop n piece), ap Some (same ∙ more))

-- none is a front
pub took_none : (old : Option (List ℕ)) (most : ℕ) → TookPart old old most
took_none None most = tt
took_none (Some bytes) most = (0, omega arith, refl)
