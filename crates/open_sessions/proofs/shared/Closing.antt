-- What a draft closes into is what the machine's session does, and of its forms only those that were made here have to be put. For proofs
-- of other crates.
use Rattle.std.proofs.Common.{◌≡◌, inl, inr, ⊎_elim, ℕ, ◌+◌, Bool, is_some}
use Rattle.std.proofs.Common.{if◌then◌else◌, List, [], ◌∷◌, Option, None, Some}
use Rattle.std.proofs.Common.{sym, ap, ◌∙◌}
use Rattle.std.specs.Option.{option_or, unwrap_or}
use Rattle.std.specs.FinMap as finite
use Rattle.std.specs.FinSet as set
use Rattle.ledger_spec.specs.declared.Kind.TheVariants as kinds
use Rattle.ledger_spec.specs.Bytes.{Bytes, Half, Lookup}
use Rattle.ledger_spec.specs.Header.{header_bytes}
use Rattle.ledger_spec.specs.Tree.{root_of}
use Rattle.ledger_spec.proofs.shared.Owning.{same_self}
use Rattle.ledger_spec.proofs.shared.ReachLaws.{Grows}
use Rattle.ledger_laws.proofs.shared.SoundForms.{with_form_grows}
use Rattle.ledger_header.specs.Fields.{fields}
use Rattle.cow_map.specs.Seals.{Picks}
use Rattle.edit_session.specs.declared.close.Fields.{Fields}
use Rattle.edit_session.specs.Drafts.{Draft}
use Rattle.edit_session.specs.Closing as draft
use Rattle.ledger_machine.specs.State.{State, form_in, with_form, with_forms}
use Rattle.ledger_machine.specs.Scripts.{drops_in, close_in, resolution_in, flags_in}
use Rattle.ledger_machine.specs.Closing.{closing_header, new_header, closing_forms, clash_under, first_clash}
use Rattle.open_sessions.specs.Edited.{IsKept, items_in, session_in}

-- what was picked over a store is picked over a larger one
picks_grow : (half : Half) (m n : Lookup) (made forms : List Bytes) → Grows m n → Picks half m made forms → Picks half n made forms
picks_grow half m n made [] up p = p
picks_grow half m n made (form ∷ forms) up p =
    ⊎_elim (λ own. inl (own.0, own.1, picks_grow half m n own.0 forms up own.2))
    (λ old. inr (up (half form) form old.0, picks_grow half m n made forms up old.1)) p

-- a form that is stored doesn't clash, and isn't written again
held_clash : (half : Half) (s : State) (form : Bytes) → form_in s (half form) ≡ Some form
    → clash_under (half form) form (form_in s (half form)) ≡ None
held_clash half s form held =
    ap (clash_under (half form) form) held
    ∙ ap (λ (t : Bool). if t then None else Some (record { hash = half form; old = form; new = form })) (same_self form)

held_same : (half : Half) (s : State) (form : Bytes) → form_in s (half form) ≡ Some form → with_form half s form ≡ s
held_same half s form held =
    ap (λ (o : Option Bytes). if is_some o then s else record s
    { nodes = finite.insert s.nodes (half form) form; born = set.insert s.born (half form) }) held

-- the forms that were made here clash as all do, and leave what all leave
pub picks_same : (half : Half) (s : State) (made forms : List Bytes) → Picks half (form_in s) made forms
    → (first_clash half s forms ≡ first_clash half s made) × (with_forms half s forms ≡ with_forms half s made)
picks_same half s made [] p = (ap (first_clash half s) (sym p), ap (with_forms half s) (sym p))
picks_same half s made (form ∷ forms) p =
    ⊎_elim
    (λ own. let next : State = with_form half s form in
    let rest = picks_same half next own.0 forms
    (picks_grow half (form_in s) (form_in next) own.0 forms (with_form_grows half s form) own.2) in (
      ap (option_or (clash_under (half form) form (form_in s (half form)))) rest.0 ∙ ap (first_clash half s) (sym own.1),
      rest.1 ∙ ap (with_forms half s) (sym own.1),
    ))
    (λ old. let rest = picks_same half s made forms old.1 in (
      (λ i. option_or (held_clash half s form old.0 i) (first_clash half (held_same half s form old.0 i) forms)) ∙ rest.0,
      ap (λ (x : State). with_forms half x forms) (held_same half s form old.0) ∙ rest.1,
    )) p

-- the fields of a close
abbrev pub fields_of : List ℕ → Fields
fields_of given = record {
  drops = drops_in given;
  close = close_in given;
  resolution = resolution_in given;
  flags = flags_in given;
}

-- the header of the next ledger
pub header_same : (half : Half) (s : State) (d : Draft) (given : List ℕ) → IsKept half (form_in s) d
    → new_header half s (session_in half (form_in s) d) given
    ≡ header_bytes (fields
    (draft.closing_header half d (fields_of given) (items_in half (form_in s) d.state) (items_in half (form_in s) d.txs)))
header_same half s d given k =
    ap (λ (o : Option Bytes). closing_header half (session_in half (form_in s) d) (unwrap_or o []) given)
    k.header
    ∙ (λ i. header_bytes record {
      seq = k.reads.seq i + 1;
      drops = drops_in given;
      parent = d.base;
      tx_root = root_of half kinds.Tx (items_in half (form_in s) d.txs);
      state_root = root_of half kinds.State (items_in half (form_in s) d.state);
      parent_close = k.reads.close i;
      close = close_in given;
      resolution = resolution_in given;
      flags = flags_in given;
    })

-- and its forms
pub forms_same : (half : Half) (s : State) (d : Draft) (given : List ℕ) → IsKept half (form_in s) d
    → closing_forms half (session_in half (form_in s) d) (new_header half s (session_in half (form_in s) d) given)
    ≡ draft.closing_forms half (items_in half (form_in s) d.state) (items_in half (form_in s) d.txs)
    (draft.closing_header half d (fields_of given) (items_in half (form_in s) d.state) (items_in half (form_in s) d.txs))
forms_same half s d given k =
    ap (closing_forms half (session_in half (form_in s) d)) (header_same half s d given k)
