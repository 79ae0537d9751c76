-- What a store gives as a source of nodes.
use Rattle.std.proofs.Common.{◌≡◌, Bool, IsTrue, true, false, cond, is_some, if◌then◌else◌, Option, Some, None, refl, sym, ap, ◌∙◌}
use Rattle.std.specs.FinMap as finite
use Rattle.ledger_spec.specs.Bytes.{Bytes, Hash, Half}
use Rattle.ledger_spec.specs.Own.{is_own, own_form}
use Rattle.rotating_store.specs.Stores.{Store, nodes_of}
use Rattle.rotating_store.specs.Sources.{AreFiled}

kept : (t : Bool) (form : Bytes) → cond (is_some (if t then Some form else None)) (Some form) None ≡ (if t then Some form else None)
kept true form = refl
kept false form = refl

pub own_or_none : (half : Half) (h : Hash) (o : Option Bytes) → cond (is_some (own_form half h o)) o None ≡ own_form half h o
own_or_none half h None = refl
own_or_none half h (Some form) = kept (is_own half h form) form

-- a form that is stored where all that is told is filed has the hash that it stands under
pub filed_hash : (half : Half) (tells : Bool) (s : Store) (h : Hash) (form bytes : Bytes) → AreFiled half tells s → IsTrue tells
    → Some form ≡ finite.get (nodes_of s) h → bytes ≡ form → half bytes ≡ h
filed_hash half tells s h form bytes filed told is same = ap half same ∙ sym (filed told h form (sym is))
