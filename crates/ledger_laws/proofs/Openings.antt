-- What a store that began with records holds.
use Rattle.std.proofs.Common.{◌≡◌, ⊎_elim, List, [], ◌∷◌, ◌∙◌, Some, All, Contains, sym, subst}
use Rattle.std.specs.FinMap as finite
use Rattle.std.proofs.lemmas.List.Elements.{All-nil, All-cons, All-head, All-tail, All-weaker}
use Rattle.std.proofs.lemmas.Option.{none-some}
use Rattle.ledger_spec.specs.Maps.{hash_cmp}
use Rattle.ledger_spec.specs.Bytes.{Bytes, Hash, Nodes}
use Rattle.ledger_machine.specs.declared.commands.Record.{Record}
use Rattle.ledger_machine.specs.Records.{forms_of, with_records}
use Rattle.ledger_laws.proofs.shared.SoundForms.{new_or_old, in_head, in_tail}

-- what holds of each stored form and of each record holds of each form that is stored with the records
pub stored_all : (P : Hash → Bytes → Type 0) (nodes : Nodes) (records : List Record)
    → ((h : Hash) (form : Bytes) → finite.get nodes h ≡ Some form → P h form) → All (λ r. P r.hash r.form) records
    → (h : Hash) (form : Bytes) → finite.get (with_records nodes records) h ≡ Some form → P h form
stored_all P nodes [] each all h form e = each h form e
stored_all P nodes (r ∷ records) each all h form e =
    stored_all P (finite.insert nodes r.hash r.form) records
    (λ k now at. ⊎_elim (λ old. each k now old)
    (λ new. subst (λ (x : Hash). P x now) (sym new.0) (subst (P r.hash) (sym new.1) (All-head (λ x. P x.hash x.form) r records all)))
    (new_or_old nodes r.hash r.form k now at))
    (All-tail (λ x. P x.hash x.form) r records all) h form e

-- nothing is in the empty map
pub none_in_empty : (P : Hash → Bytes → Type 0) (h : Hash) (form : Bytes) → finite.get {R = hash_cmp} finite.empty h ≡ Some form → P h form
none_in_empty P h form e = absurd (none-some _ (sym (finite.get-empty hash_cmp h) ∙ e))

-- each record's form is among those of the records
pub forms_among : (records : List Record) → All (λ r. Contains (forms_of records) r.form) records
forms_among [] = All-nil (λ r. Contains (forms_of []) r.form)
forms_among (r ∷ records) =
    All-cons (λ x. Contains (forms_of (r ∷ records)) x.form) r records (in_head r.form (forms_of records))
    (All-weaker (λ x. Contains (forms_of records) x.form) (λ x. Contains (forms_of (r ∷ records)) x.form)
    (λ x c. in_tail r.form x.form (forms_of records) c) records (forms_among records))
