-- What is held of what is stored: the forms that stand under their own hashes.
use Rattle.std.specs.Prelude.{◌≡◌, ◌&&◌, Bool, is_some, if◌then◌else◌, IsTrue, Option, None, Some}
use Rattle.ledger_spec.specs.Bytes.{Bytes, Hash, Half, Lookup, is_nonzero, are_bytes, same_bytes}
use Rattle.ledger_spec.specs.Forms.{Held, Form}
use Rattle.ledger_spec.specs.Findings.{held_of}

-- a form of bytes stands under its own hash, which isn't zero
pub record IsStoredAt (half : Half) (h : Hash) (form : Bytes) : Type 0 where
  pub own : h ≡ half form
  pub nonzero : IsTrue (is_nonzero h)
  pub held : (n : Held) × Form half n form
  pub bytes : IsTrue (are_bytes form)

-- all that is stored are such forms
abbrev pub AreStored : Half → Lookup → Type 0
AreStored half nodes = (h : Hash) (form : Bytes) → nodes h ≡ Some form → IsStoredAt half h form

-- whether the bytes have this hash, and are the form of a node or a header
abbrev pub is_own : Half → Hash → Bytes → Bool
is_own half h form = same_bytes (half form) h && is_some (held_of half form)

-- what is held under the hash, given what is stored there: other bytes are read as not held
abbrev pub own_form : Half → Hash → Option Bytes → Option Bytes
own_form half h None = None
own_form half h (Some form) = if is_own half h form then Some form else None

-- what is held of what is stored
abbrev pub own_forms : Half → Lookup → Lookup
own_forms half nodes h = own_form half h (nodes h)
