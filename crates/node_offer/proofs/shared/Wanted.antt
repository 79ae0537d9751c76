-- A node with the wanted hash is no bad one. For proofs of other crates.
use Rattle.std.proofs.Common.{◌≡◌, ℕ, Bool, true, false, if◌then◌else◌, List, Option, Some, None, Result, Ok, Err, IfOk, refl, sym, ap, ◌∙◌}
use Rattle.std.proofs.Common.{subst}
use Rattle.ledger_spec.specs.declared.Kind.{Kind}
use Rattle.ledger_spec.specs.declared.ShapeFault.{ShapeFault}
use Rattle.ledger_spec.specs.declared.outcomes.Offered.{Offered}
use Rattle.ledger_spec.specs.declared.outcomes.Offered.TheVariants as offered
use Rattle.ledger_spec.specs.Bytes.{Bytes, Hash, Half, Lookup, same_bytes}
use Rattle.ledger_spec.specs.Forms.{Held, form_of, hash_of}
use Rattle.ledger_spec.specs.Rules.{fault_of}
use Rattle.ledger_spec.specs.Spots.{spot_of, wanted}
use Rattle.ledger_spec.specs.Wire.{read_wire}
use Rattle.ledger_spec.specs.Offers.{Clash, node_given, spot_outcome, node_outcome, wire_outcome}
use Rattle.ledger_spec.proofs.shared.Owning.{same_self}
use Rattle.ledger_spec.specs.Acquiring.{is_bad}

abbrev NotBad : Result Offered Clash → Type 0
NotBad r = IfOk r (λ o. is_bad o ≡ false)

duplicate_or : (same : Bool) (c : Clash) → NotBad (if same then Ok offered.Duplicate else Err c)
duplicate_or true c = refl
duplicate_or false c = tt

given_not_bad : (fault : Option ShapeFault) (h : Hash) (form : Bytes) (stored : Option Bytes) → NotBad (node_given fault h form stored)
given_not_bad None h form None = refl
given_not_bad (Some fault) h form None = refl
given_not_bad None h form (Some old) = duplicate_or (same_bytes old form) (record { hash = h; old = old; new = form })
given_not_bad (Some fault) h form (Some old) = duplicate_or (same_bytes old form) (record { hash = h; old = old; new = form })

pub never_bad : (half : Half) (nodes : Lookup) (t : Hash) (kind : Kind) (path : List ℕ) (blob : Bytes) (n : Held) (h : Hash)
    (parent : Option (List Hash))
    → read_wire half blob ≡ Ok n → spot_of nodes t kind path ≡ wanted h parent → hash_of half n ≡ h
    → NotBad (node_outcome half nodes t kind path blob)
never_bad half nodes t kind path blob n h parent read at own =
    let same : same_bytes (hash_of half n) h ≡ true = ap (λ x. same_bytes x h) own ∙ same_self h in
    let there : spot_outcome half nodes kind path n (wanted h parent) ≡ node_given (fault_of n parent kind path) h (form_of n) (nodes h) =
    rw same refl in
    let outcome : node_outcome half nodes t kind path blob ≡ node_given (fault_of n parent kind path) h (form_of n) (nodes h) =
    ap (wire_outcome half nodes t kind path) read ∙ ap (spot_outcome half nodes kind path n) at ∙ there in
    subst NotBad (sym outcome) (given_not_bad (fault_of n parent kind path) h (form_of n) (nodes h))
