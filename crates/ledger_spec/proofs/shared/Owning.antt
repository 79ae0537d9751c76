-- Where all that is stored are forms under their own hashes, all of it is held. For proofs of other crates.
use Rattle.std.proofs.Common.{◌≡◌, ℕ, Bool, true, false, is_some, if◌then◌else◌, nat_eq, List, [], ◌∷◌, Option, Some, None, refl, sym, ap}
use Rattle.std.proofs.Common.{◌∙◌, arith}
use Rattle.std.proofs.lemmas.Bool.Decides.{nat_tests}
use mathlib.Core.Path.{fun_ext}
use Rattle.ledger_spec.specs.Bytes.{Bytes, Hash, Half, Lookup, same_bytes}
use Rattle.ledger_spec.specs.Findings.{held_of}
use Rattle.ledger_spec.specs.Own.{IsStoredAt, AreStored, is_own, own_form, own_forms}
use Rattle.ledger_spec.proofs.shared.Seeing.{sees}

same_number : (n : ℕ) → nat_eq n n ≡ true
same_number n = grind (arith, nat_tests)

pub same_self : (h : Bytes) → same_bytes h h ≡ true
same_self [] = refl
same_self (x ∷ xs) = rw (same_number x, same_self xs) refl

pub own_is : (half : Half) (h : Hash) (form : Bytes) → IsStoredAt half h form → is_own half h form ≡ true
own_is half h form stored =
    let hash : same_bytes (half form) h ≡ true = ap (same_bytes (half form)) stored.own ∙ same_self (half form) in
    let held : is_some (held_of half form) ≡ true = ap is_some (sees half stored.held.0 form stored.held.1) in
    rw (hash, held) refl

own_at : (half : Half) (h : Hash) (o : Option Bytes) → ((form : Bytes) → o ≡ Some form → IsStoredAt half h form) → own_form half h o ≡ o
own_at half h None all = refl
own_at half h (Some form) all = rw (own_is half h form (all form refl)) refl

pub all_own : (half : Half) (nodes : Lookup) → AreStored half nodes → own_forms half nodes ≡ nodes
all_own half nodes all = fun_ext (λ h. own_at half h (nodes h) (all h))
