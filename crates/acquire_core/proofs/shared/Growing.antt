-- What a store holds when forms were put into it, and what is put one after the other. For proofs of other crates.
use Rattle.std.proofs.Common.{◌≡◌, is_some, cond, if◌then◌else◌, List, [], ◌∷◌, ◌++◌, append_assoc, Option, Some, None, refl, sym}
use Rattle.std.proofs.Common.{ap, ◌∙◌, subst}
use Rattle.std.specs.FinMap as map
use Rattle.std.specs.FinMap.{get-insert}
use Rattle.std.specs.Cmp.Lexicographic.{nat_list_cmp_total}
use Rattle.std.proofs.lemmas.Map.Text.{is_eq-slice_cmp}
use Rattle.ledger_spec.specs.Bytes.{Bytes, Hash, Half, Nodes, same_bytes}
use Rattle.ledger_spec.specs.Bases.{with_form, with_forms}
use Rattle.rotating_store.specs.Stores.{Store, nodes_of, with_pair, Counted}
use Rattle.rotating_store.proofs.shared.Merging.{merged-insert}
use Rattle.node_offer.specs.Stored as store
use Rattle.node_offer.specs.Stored.{HasForms}
use Rattle.node_offer.proofs.shared.Storing.{counted_forms}
use Rattle.acquire_core.specs.Answers.{forms_in, HasFront}

module _ (half : Half) where
  one_more : (s : Store) (form : Bytes) (o : Option Bytes) (h : Hash)
      → map.get (nodes_of (if is_some o then s else with_pair s (half form) form)) h
      ≡ (if is_some o then forms_in s h else if same_bytes h (half form) then Some form else forms_in s h)
  one_more s form (Some old) h = refl
  one_more s form None h =
      ap (λ (n : Nodes). map.get n h) (merged-insert s.writable s.archive (half form) form)
      ∙ get-insert nat_list_cmp_total (nodes_of s) (half form) form h
      ∙ ap (λ b. cond b (Some form) (map.get (nodes_of s) h)) (is_eq-slice_cmp h (half form))

  with_one : (s : Store) (form : Bytes) → forms_in (store.with_form half s form) ≡ with_form half (forms_in s) form
  with_one s form = λ i h. one_more s form (map.get (nodes_of s) (half form)) h i

  with_all : (s : Store) (forms : List Bytes) → forms_in (store.with_forms half s forms) ≡ with_forms half (forms_in s) forms
  with_all s [] = refl
  with_all s (form ∷ forms) = with_all (store.with_form half s form) forms ∙ ap (λ n. with_forms half n forms) (with_one s form)

  -- what a store holds that has these forms more
  pub holds : (forms : List Bytes) (s s' : Store) → HasForms half forms s s' → forms_in s' ≡ with_forms half (forms_in s) forms
  holds forms s s' has = ap forms_in has ∙ with_all s forms

  with_both : (s : Store) (xs ys : List Bytes) → store.with_forms half s (xs ++ ys) ≡ store.with_forms half (store.with_forms half s xs) ys
  with_both s [] ys = refl
  with_both s (x ∷ xs) ys = with_both (store.with_form half s x) xs ys

  -- some forms and then others
  pub has_more : (xs ys : List Bytes) (s m t : Store) → HasForms half xs s m → HasForms half ys m t → HasForms half (xs ++ ys) s t
  has_more xs ys s m t first second =
      subst (λ (x : Store). Counted x t) (sym (with_both s xs ys)) (counted_forms half (store.with_forms half s xs) m t ys first second)

  -- some forms, and then the front of others
  pub front_more : (xs ys : List Bytes) (s m t : Store) → HasForms half xs s m → HasFront half ys m t → HasFront half (xs ++ ys) s t
  front_more xs ys s m t first f = record {
    front = xs ++ f.front;
    rest = f.rest;
    parts = ap (λ l. xs ++ l) f.parts ∙ sym (append_assoc xs f.front f.rest);
    stored = has_more xs f.front s m t first f.stored;
  }

  -- a front of some forms is one of more
  pub front_of : (xs ys : List Bytes) (s t : Store) → HasFront half xs s t → HasFront half (xs ++ ys) s t
  front_of xs ys s t f = record {
    front = f.front;
    rest = f.rest ++ ys;
    parts = ap (λ l. l ++ ys) f.parts ∙ append_assoc f.front f.rest ys;
    stored = f.stored;
  }
