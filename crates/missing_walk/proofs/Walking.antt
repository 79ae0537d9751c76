-- What is seen at one place, by the definitions.
use Rattle.std.proofs.Common.{◌≡◌, ℕ, ◌<◌, ◌≤◌, ◌==◌, Bool, true, false, if◌then◌else◌, List, [], length}
use Rattle.std.proofs.Common.{Option, None, Some, refl, arith}
use Rattle.std.specs.List.{cons_option}
use Rattle.ledger_spec.specs.declared.Kind.{Kind}
use Rattle.ledger_spec.specs.declared.ShapeFault.{ShapeFault}
use Rattle.ledger_spec.specs.declared.ShapeFault.TheVariants.{InnerAtBottom}
use Rattle.ledger_spec.specs.Bytes.{Bytes, Hash, Half}
use Rattle.ledger_spec.specs.Forms.{Held, inner, leaf, header}
use Rattle.ledger_spec.specs.Findings.{Sight, missing, broken, sound, Met, sight_of, judged, seen_as, held_of, branches_of}
use Rattle.ledger_spec.specs.Findings.{finding_at}
use Rattle.std.proofs.lemmas.Bool.Decides.{nat_tests}
use Rattle.ledger_spec.specs.Rules.{fault_of}
use Rattle.missing_walk.specs.Sees.{is_sound_leaf}
use Rattle.missing_walk.specs.Views.{ShowsAs, HasLevels}
use Rattle.missing_walk.specs.declared.sight.View.{View}
use Rattle.missing_walk.specs.declared.sight.View.TheVariants as view

pub leaf_end : (sight : Sight) (place : Rattle.ledger_spec.specs.declared.Place.Place) → is_sound_leaf sight ≡ true
    → cons_option (finding_at place sight) [] ≡ []
leaf_end (sound (leaf kind key bytes)) place e = refl
leaf_end (sound (inner hashes)) place e = cc
leaf_end (sound (header bytes)) place e = cc
leaf_end missing place e = cc
leaf_end (broken fault) place e = cc

pub leaf_bare : (sight : Sight) → is_sound_leaf sight ≡ true → (each : List Hash → List Met) → branches_of sight each ≡ []
leaf_bare (sound (leaf kind key bytes)) e each = refl
leaf_bare (sound (inner hashes)) e each = cc
leaf_bare (sound (header bytes)) e each = refl
leaf_bare missing e each = refl
leaf_bare (broken fault) e each = refl

seen_through : (n held : Held) (fault : Option ShapeFault) → seen_as held fault ≡ sound n → (held ≡ n) × (fault ≡ None)
seen_through n held None e = (cc, refl)
seen_through n held (Some fault) e = cc

rules_pass : (rules : Held → Option ShapeFault) (held : Option Held) (n : Held) → judged rules held ≡ sound n → rules n ≡ None
rules_pass rules None n e = cc
rules_pass rules (Some held) n e = let both = seen_through n held (rules held) e in rw (← both.0) both.1

sight_pass : (half : Half) (rules : Held → Option ShapeFault) (form : Option Bytes) (n : Held) → sight_of half rules form ≡ sound n
    → rules n ≡ None
sight_pass half rules None n e = cc
sight_pass half rules (Some form) n e = rules_pass rules (held_of half form) n e

pub no_fault : (t : Bool) (fault : ShapeFault) → (if t then Some fault else None) ≡ None → t ≡ false
no_fault true fault e = cc
no_fault false fault e = refl

-- an inner node that belongs there has levels below it
pub has_levels : (half : Half) (kind : Kind) (parent : Option (List Hash)) (path : List ℕ) (form : Option Bytes) (seen : View)
    → ShowsAs seen (sight_of half (λ n. fault_of n parent kind path) form) → HasLevels (length path) seen
has_levels half kind parent path form view.Missing shown = tt
has_levels half kind parent path form (view.Broken fault) shown = tt
has_levels half kind parent path form (view.Below node) shown =
    no_fault (length path == 64) InnerAtBottom (sight_pass half (λ n. fault_of n parent kind path) form (inner shown.hashes) shown.seen)
has_levels half kind parent path form view.Nothing shown = tt

pub above_bottom : (n : ℕ) → n ≤ 64 → (n == 64) ≡ false → n < 64
above_bottom n h e = grind (arith, nat_tests)
