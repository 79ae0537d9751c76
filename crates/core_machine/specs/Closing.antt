-- What a close does to the store.
use Rattle.std.specs.Prelude.{◌≡◌, ◌≢◌, ◌⊎◌, ◌==◌, ◌++◌, ℕ, Bool, false, nat_lt, IsTrue, List, map, length, None, Some, Result, Ok, Err}
use Rattle.std.specs.Prelude.{IfErr}
use Rattle.std.specs.List.{Contains, find}
use Rattle.ledger_spec.specs.Bytes.{Bytes, Hash, Half, is_zero}
use Rattle.ledger_spec.specs.Forms.{header_prefix}
use Rattle.ledger_spec.specs.Header.{seq_of}
use Rattle.ledger_spec.specs.Maps.{numbered_cmp, get_in}
use Rattle.cow_map.specs.declared.fault.MapFault.{MapFault}
use Rattle.cow_map.specs.declared.fault.MapFault.TheVariants as maps
use Rattle.edit_session.specs.declared.close.Closed.{Closed}
use Rattle.edit_session.specs.declared.close.Fields.{Fields}
use Rattle.ledger_machine.specs.declared.commands.CloseReply.TheVariants as close
use Rattle.ledger_machine.specs.declared.commands.Reply.{Reply}
use Rattle.ledger_machine.specs.declared.commands.Reply.TheVariants as says
use Rattle.ledger_machine.specs.Scripts.{drops_in, close_in, resolution_in, flags_in}
use Rattle.node_offer.specs.declared.fault.OfferFault.{OfferFault}
use Rattle.node_offer.specs.declared.fault.OfferFault.TheVariants as faults
use Rattle.rotating_store.specs.declared.outcome.Put.{Put}
use Rattle.rotating_store.specs.declared.outcome.StoreFault.{StoreFault}
use Rattle.rotating_store.specs.declared.outcome.StoreFault.TheVariants as causes
use Rattle.ledger_machine.specs.Closing.{clash_under, first_clash, new_header, closing_forms, close_reply}
use Rattle.ledger_machine.specs.State.{State, Session, form_in, with_form, with_forms}
use Rattle.ledger_machine.specs.Steps.{IsAfter}
use Rattle.run_io.specs.Bytes.{Rose}
use Rattle.core_machine.specs.Desks.{Desk, KeepsRest, Stays}
use Rattle.core_machine.specs.Telling.{Hears}

-- But for what a rotation was told: the form is stored, unless another one is there, which is named; after a fault, or for want of memory,
-- it may be stored.
abbrev pub MayKeep : {X : Type 0} → Half → State → Bytes → Result X OfferFault → State → Type 0
MayKeep half s form (Ok x) s' = (clash_under (half form) form (form_in s (half form)) ≡ None) × IsAfter (with_form half s form) s'
MayKeep half s form (Err (faults.Clash h old new)) s' =
    (clash_under (half form) form (form_in s (half form)) ≡ Some (record { hash = h; old = old; new = new })) × IsAfter s s'
MayKeep half s form (Err faults.Fault) s' = IsAfter s s' ⊎ IsAfter (with_form half s form) s'
MayKeep half s form (Err faults.Memory) s' = IsAfter s s' ⊎ IsAfter (with_form half s form) s'

-- some of the forms are stored, from the first on
pub record KeptSome (half : Half) (s : State) (forms : List Bytes) (s' : State) : Type 0 where
  pub kept : List Bytes
  pub rest : List Bytes
  pub whole : forms ≡ kept ++ rest
  pub state : IsAfter (with_forms half s kept) s'

-- all are stored, or the first clash is named, or the store failed: then some are
abbrev pub MayKeepAll : {X : Type 0} → Half → State → List Bytes → Result X OfferFault → State → Type 0
MayKeepAll half s forms (Ok x) s' = (first_clash half s forms ≡ None) × IsAfter (with_forms half s forms) s'
MayKeepAll half s forms (Err (faults.Clash h old new)) s' =
    (first_clash half s forms ≡ Some (record { hash = h; old = old; new = new })) × KeptSome half s forms s'
MayKeepAll half s forms (Err faults.Fault) s' = KeptSome half s forms s'
MayKeepAll half s forms (Err faults.Memory) s' = KeptSome half s forms s'

-- Forms are stored where a rotation under way was told these hashes: all of them, or some. Nothing else changes.
pub record KeepsForms {X : Type 0} (half : Half) (tells : Bool) (d : Desk) (named : List Hash) (forms : List Bytes)
    (result : Result X OfferFault) (d' : Desk) : Type 0 where
  pub keeps : IsTrue tells → MayKeepAll half d.state forms result d'.state
  pub hears : Hears d.state.shaded named d'.state.shaded
  pub rest : KeepsRest d.state d'.state
  pub stays : Stays tells d d'
  pub fault : IfErr result (λ e. e ≡ faults.Fault → Rose d.faults d'.faults)

-- why a form isn't stored under its own hash: no other one is found
abbrev pub IsUnderOwn : StoreFault → Type 0
IsUnderOwn (causes.WrongHash h found) = ⊥
IsUnderOwn _ = Unit {0}

-- why a form isn't stored that was put under its own hash
abbrev pub unkept_by : StoreFault → OfferFault
unkept_by (causes.Clash h old new) = faults.Clash h old new
unkept_by causes.Fault = faults.Fault
unkept_by _ = faults.Memory

-- what a put of a form under its own hash says
abbrev pub kept_by : Result Put StoreFault → Result (Unit {0}) OfferFault
kept_by (Ok p) = Ok tt
kept_by (Err why) = Err (unkept_by why)

-- the fields of a close, by name
abbrev pub fields_of : List ℕ → Fields
fields_of given = record {
  drops = drops_in given;
  close = close_in given;
  resolution = resolution_in given;
  flags = flags_in given;
}

-- The ledger that an open session closes into, where it may be stored: its account state isn't empty, its sequence not below the floor, and
-- no form of it has the zero hash. The forms that were made of it are some of all, and storing them comes to what storing all does.
pub record IsMade (half : Half) (s : State) (x : ℕ × ℕ) (given : List ℕ) (c : Closed) : Type 0 where
  pub session : Session
  pub is_open : get_in numbered_cmp s.sessions x ≡ Some session
  pub occupied : (length session.accounts == 0) ≡ false
  pub high : nat_lt (seq_of (new_header half s session given)) s.floor ≡ false
  pub nonzero : find (λ form. is_zero (half form)) (closing_forms half session (new_header half s session given)) ≡ None
  pub hash : c.hash ≡ half (header_prefix ++ new_header half s session given)
  pub seq : c.header.seq ≡ seq_of (new_header half s session given)
  pub some : (form : Bytes) → Contains (map (λ f. f.form) c.forms.items) form
      → Contains (closing_forms half session (new_header half s session given)) form
  pub clash : first_clash half s (closing_forms half session (new_header half s session given))
      ≡ first_clash half s (map (λ f. f.form) c.forms.items)
  pub stored : with_forms half s (closing_forms half session (new_header half s session given))
      ≡ with_forms half s (map (λ f. f.form) c.forms.items)

-- the row's reply where it is one of a close that makes no ledger; memory may be wanted instead
abbrev pub IsUnclosed : Reply → Reply → Type 0
IsUnclosed row (says.Close close.NoSession) = says.Close close.NoSession ≡ row
IsUnclosed row (says.Close close.ZeroState) = says.Close close.ZeroState ≡ row
IsUnclosed row (says.Close (close.BelowFloor floor)) = says.Close (close.BelowFloor floor) ≡ row
IsUnclosed row (says.ZeroHash form) = says.ZeroHash form ≡ row
IsUnclosed row reply = reply ≡ says.Memory

-- the same of a session's close; a store that doesn't tell what it holds may have led to any such reply
pub record IsUnmade (half : Half) (tells : Bool) (s : State) (x : ℕ × ℕ) (given : List ℕ) (reply : Reply) : Type 0 where
  pub row : IsTrue tells → IsUnclosed (close_reply half s x given) reply
  pub free : reply ≢ says.Fault

-- the reply where a ledger wasn't made
abbrev pub unsealed_by : MapFault → Reply
unsealed_by (maps.ZeroHash form) = says.ZeroHash form
unsealed_by _ = says.Memory
