-- What an offer does to what is stored and to what is born, for any state that keeps these two.
use Rattle.std.proofs.Common.{◌≡◌, is_some, if◌then◌else◌, List, [], ◌∷◌, Option, Some, None, refl, sym, ap, ◌∙◌}
use Rattle.std.specs.FinMap as map
use Rattle.std.specs.FinSet as set
use Rattle.ledger_spec.specs.Maps.{SetOf}
use Rattle.ledger_spec.specs.Bytes.{Bytes, Half, Nodes}
use Rattle.rotating_store.specs.Stores.{Store, nodes_of, born_of, with_pair}
use Rattle.rotating_store.proofs.shared.Merging.{merged-insert, born_put}
use Rattle.node_offer.specs.Stored.{with_form, with_forms, HasForms}

-- a state, by what is stored and what is born
module _ {S : Type 0} (state : Nodes → SetOf → S) where
  abbrev of_store : Store → S
  of_store s = state (nodes_of s) (born_of s)

  -- a new form is put into the one, and its hash into the other
  new_form : (half : Half) (s : Store) (form : Bytes) (o : Option Bytes) → map.get (nodes_of s) (half form) ≡ o
      → of_store (if is_some o then s else with_pair s (half form) form)
      ≡ (if is_some o then of_store s else state (map.insert (nodes_of s) (half form) form) (set.insert (born_of s) (half form)))
  new_form half s form (Some old) e = refl
  new_form half s form None e =
      ap (λ n. state n (born_of (with_pair s (half form) form))) (merged-insert s.writable s.archive (half form) form)
      ∙ ap (state (map.insert (nodes_of s) (half form) form)) (born_put s.writable s.archive (half form) form e)

  -- with one form more
  pub with_one : (half : Half) (s : Store) (form : Bytes)
      → of_store (with_form half s form)
      ≡ (if is_some (map.get (nodes_of s) (half form)) then of_store s else state (map.insert (nodes_of s) (half form) form)
      (set.insert (born_of s) (half form)))
  with_one half s form = new_form half s form (map.get (nodes_of s) (half form)) refl

  -- with forms more, by the state's own words for that, which read as those of a store
  pub with_all : (half : Half) (one : S → Bytes → S) (all : S → List Bytes → S)
      → ((n : Nodes) (b : SetOf) (form : Bytes) → one (state n b) form
      ≡ (if is_some (map.get n (half form)) then state n b else state (map.insert n (half form) form) (set.insert b (half form))))
      → ((x : S) → all x [] ≡ x) → ((x : S) (form : Bytes) (forms : List Bytes) → all x (form ∷ forms) ≡ all (one x form) forms)
      → (forms : List Bytes) (s : Store) → of_store (with_forms half s forms) ≡ all (of_store s) forms
  with_all half one all step none more [] s = sym (none (of_store s))
  with_all half one all step none more (form ∷ forms) s =
      with_all half one all step none more forms (with_form half s form)
      ∙ ap (λ x. all x forms) (with_one half s form ∙ sym (step (nodes_of s) (born_of s) form))
      ∙ sym (more (of_store s) form forms)

  -- the state of a store that has these forms more
  pub has_forms : (half : Half) (one : S → Bytes → S) (all : S → List Bytes → S)
      → ((n : Nodes) (b : SetOf) (form : Bytes) → one (state n b) form
      ≡ (if is_some (map.get n (half form)) then state n b else state (map.insert n (half form) form) (set.insert b (half form))))
      → ((x : S) → all x [] ≡ x) → ((x : S) (form : Bytes) (forms : List Bytes) → all x (form ∷ forms) ≡ all (one x form) forms)
      → (forms : List Bytes) (s s' : Store) → HasForms half forms s s' → of_store s' ≡ all (of_store s) forms
  has_forms half one all step none more forms s s' has = ap of_store has ∙ with_all half one all step none more forms s
