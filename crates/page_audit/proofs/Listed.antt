-- The items of a document's list, one element after the other: taken, or refused for a cause.
use Rattle.std.proofs.Common.{◌≡◌, ℕ, ◌+◌, ◌<◌, List, ◌∷◌, length, get_or, drop, Result, Ok, Err, ap, ◌∙◌, add-one}
use Rattle.std.proofs.Math.Seq.{drop-cons}
use Rattle.json.specs.Value.{value_view as view, items_view}
use Rattle.json.specs.declared.value.Value.{Value}
use Rattle.std.specs.declared.alloc.Global.{Global}
use Rattle.audit_core.specs.declared.cause.Cause.{Cause}
use Rattle.audit_core.specs.Said.{Said, with_state}
use Rattle.page_audit.specs.Documents.{item_in}
use Rattle.page_audit.specs.Pages.{onward, with_items}

module _ (s : Said) (list : List (Value Global)) (i : ℕ) (here : Value Global) (below : i < length list) where
  -- by the element at its place
  pub by_element : with_items s (items_view (drop i list))
      ≡ onward (with_state s (item_in (view (get_or list i here)))) (λ t. with_items t (items_view (drop (i + 1) list)))
  by_element =
      let e : drop i list ≡ get_or list i here ∷ drop (i + 1) list = rw add-one (drop-cons list i here below) in
      ap (λ (vs : List (Value Global)). with_items s (items_view vs)) e

  pub taken_element : (t : Said) → with_state s (item_in (view (get_or list i here))) ≡ Ok t
      → with_items s (items_view (drop i list)) ≡ with_items t (items_view (drop (i + 1) list))
  taken_element t is =
      by_element ∙ ap (λ (r : Result Said Cause). onward r (λ u. with_items u (items_view (drop (i + 1) list)))) is

  pub refused_element : (cause : Cause) → with_state s (item_in (view (get_or list i here))) ≡ Err cause
      → with_items s (items_view (drop i list)) ≡ Err cause
  refused_element cause is =
      by_element ∙ ap (λ (r : Result Said Cause). onward r (λ u. with_items u (items_view (drop (i + 1) list)))) is
