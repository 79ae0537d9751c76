-- Both maps of a whole ledger are whole, and so those of an open view. For proofs of other crates.
use Rattle.std.proofs.Common.{◌≡◌, ℕ, List, [], ◌∷◌, ◌++◌, Option, Some, None, refl, sym, ◌∙◌, subst, filter_map}
use Rattle.std.specs.Option.{option_map, option_and_then}
use Rattle.std.proofs.lemmas.List.Elements.{filter_map-append}
use Rattle.ledger_spec.specs.declared.Kind.{Kind}
use Rattle.ledger_spec.specs.declared.Kind.TheVariants.{State, Tx, Set}
use Rattle.ledger_spec.specs.declared.Place.TheVariants.{Header}
use Rattle.ledger_spec.specs.Bytes.{Bytes, Hash, Half, Lookup}
use Rattle.ledger_spec.specs.Commits.{IsWholeMap}
use Rattle.ledger_spec.specs.Findings.{Whole, header_sight, header_or_foreign, maps_of, walk_map, walk_ledger}
use Rattle.ledger_spec.specs.Forms.{header_of}
use Rattle.ledger_spec.specs.Header.{state_root_of, tx_root_of}
use Rattle.ledger_spec.specs.Spots.{header_in, header_root}
use Rattle.ledger_spec.specs.Maps.{numbered_cmp, get_in}
use Rattle.ledger_spec.proofs.shared.Growth.{found, met}
use Rattle.ledger_machine.specs.State.{State as MachineState, form_in}
use Rattle.ledger_machine.specs.Scripts.{IsLedgerMap}
use Rattle.ledger_machine.specs.Reading.{view_root}
use Rattle.ledger_machine.specs.Sound.{Sound, IsWholeLedger}
use Rattle.ledger_laws.proofs.shared.SoundTables.{all_found}
use Rattle.ledger_laws.proofs.SoundViews.{views_whole}

-- two lists that are nothing together
first_nil : {A : Type 0} (xs ys : List A) → xs ++ ys ≡ [] → xs ≡ []
first_nil [] ys e = refl
first_nil (x ∷ xs) ys e = cc

second_nil : {A : Type 0} (xs ys : List A) → xs ++ ys ≡ [] → ys ≡ []
second_nil [] ys e = e
second_nil (x ∷ xs) ys e = cc

abbrev Both : Half → Lookup → Bytes → Type 0
Both half nodes bytes = IsWholeMap half nodes State (state_root_of bytes) × IsWholeMap half nodes Tx (tx_root_of bytes)

module _ (half : Half) (nodes : Lookup) (target : Hash) (bytes : Bytes) where
  by_header : (o : Option Bytes) → o ≡ Some bytes
      → filter_map found (met Header target None (header_or_foreign o) ∷ maps_of half nodes (header_or_foreign o)) ≡ []
      → Both half nodes bytes
  by_header None e clean = let none : None ≡ Some bytes = e in cc
  by_header (Some b) e clean =
      let same : b ≡ bytes = cc in
      let parts =
      sym (filter_map-append found (walk_map half nodes State (state_root_of b)) (walk_map half nodes Tx (tx_root_of b))) ∙ clean
      in subst (Both half nodes) same (first_nil _ _ parts, second_nil _ _ parts)

  by_form : (o : Option Bytes) → option_and_then header_of o ≡ Some bytes
      → filter_map found (met Header target None (header_sight o) ∷ maps_of half nodes (header_sight o)) ≡ []
      → Both half nodes bytes
  by_form None e clean = let none : None ≡ Some bytes = e in cc
  by_form (Some form) e clean = by_header (header_of form) e clean

  pub both_whole : header_in nodes target ≡ Some bytes → Whole half nodes target → Both half nodes bytes
  unfolding walk_ledger
  both_whole stored whole = by_form (nodes target) stored whole

-- the map of a kind is one of them
of_kind : (half : Half) (nodes : Lookup) (bytes : Bytes) (kind : Kind) → IsLedgerMap kind → Both half nodes bytes
    → IsWholeMap half nodes kind (header_root kind bytes)
of_kind half nodes bytes State is both = both.0
of_kind half nodes bytes Tx is both = both.1
of_kind half nodes bytes Set is both = absurd is

module _ (half : Half) (s : MachineState) (kind : Kind) (root : Hash) (is_map : IsLedgerMap kind) where
  by_head : (t : Hash) (o : Option Bytes) → header_in (form_in s) t ≡ o → option_map (header_root kind) o ≡ Some root
      → Whole half (form_in s) t → IsWholeMap half (form_in s) kind root
  by_head t None at e whole = let none : None ≡ Some root = e in cc
  by_head t (Some bytes) at e whole =
      let same : header_root kind bytes ≡ root = cc in
      subst (IsWholeMap half (form_in s) kind) same (of_kind half (form_in s) bytes kind is_map (both_whole half
      (form_in s) t bytes at whole))

  by_view : (o : Option Hash) → ((t : Hash) → o ≡ Some t → Whole half (form_in s) t)
      → option_and_then (λ t. option_map (header_root kind) (header_in (form_in s) t)) o ≡ Some root
      → IsWholeMap half (form_in s) kind root
  by_view None whole e = let none : None ≡ Some root = e in cc
  by_view (Some t) whole e = by_head t (header_in (form_in s) t) refl e (whole t refl)

  -- the map of a view's ledger, which is retained
  pub view_map_whole : (v : ℕ × ℕ) → Sound half s → view_root s kind v ≡ Some root → IsWholeMap half (form_in s) kind root
  view_map_whole v sound e = by_view (get_in numbered_cmp s.views v)
      (λ t at. (all_found (IsWholeLedger half (form_in s)) _ s.views t (views_whole half s sound) at).whole) e
