-- What the sight of a place says, where nothing is found there. For proofs of other crates.
use Rattle.std.proofs.Common.{◌≡◌, Option, None, Some, refl, sym, ap, ◌∙◌}
use Rattle.ledger_spec.specs.declared.ShapeFault.{ShapeFault}
use Rattle.ledger_spec.specs.declared.ShapeFault.TheVariants.{Foreign}
use Rattle.ledger_spec.specs.Bytes.{Bytes, Half}
use Rattle.ledger_spec.specs.Forms.{Held}
use Rattle.ledger_spec.specs.Findings.{missing, broken, sound, sight_of, judged, seen_as, held_of}

-- what is stored there, as a node that fits
pub record Sees (half : Half) (rules : Held → Option ShapeFault) (there : Option Bytes) (n : Held) : Type 0 where
  pub form : Bytes
  pub stored : there ≡ Some form
  pub holds : held_of half form ≡ Some n
  pub fits : rules n ≡ None

pub sees_sound : (half : Half) (rules : Held → Option ShapeFault) (there : Option Bytes) (n : Held) → sight_of half rules there ≡ sound n
    → Sees half rules there n
sees_sound half rules None n e = let no : missing ≡ sound n = e in cc
sees_sound half rules (Some form) n e = by_held (held_of half form) refl e
  where
    by_fault : (m : Held) (o : Option ShapeFault) → held_of half form ≡ Some m → rules m ≡ o → seen_as m o ≡ sound n
        → Sees half rules (Some form) n
    by_fault m None is fits e =
        let same : m ≡ n = cc in record { form = form; stored = refl; holds = is ∙ ap Some same; fits = sym (ap rules same) ∙ fits }
    by_fault m (Some fault) is fits e = let no : broken fault ≡ sound n = e in cc

    by_held : (o : Option Held) → held_of half form ≡ o → judged rules o ≡ sound n → Sees half rules (Some form) n
    by_held None is e = let no : broken Foreign ≡ sound n = e in cc
    by_held (Some m) is e = by_fault m (rules m) is refl e
