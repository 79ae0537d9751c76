-- What uses of marks leave. For proofs of other crates.
use Rattle.std.proofs.Common.{◌≡◌, ℕ, true, is_some, Option, None, Some, inl, inr, refl, sym, subst}
use Rattle.std.specs.Map.{lookup}
use Rattle.lru.proofs.CallerLemmas.{Contains-lookup, Contains-promoted, Contains-put_entries}
use Rattle.full_below.specs.declared.key.MarkKey.{MarkKey}
use Rattle.full_below.specs.declared.marks.Marks.{Marks}
use Rattle.full_below.specs.Keys.{same_mark}
use Rattle.full_below.specs.SameKeys.{mark_exact}
use Rattle.full_below.specs.Marking.{is_marked, after_use, after_mark, AreMarked}

module _ (P : MarkKey → Type 0) (m : Marks) (key : MarkKey) (all : AreMarked P m) where
  by_value : (o : Option ℕ) → lookup (same_mark key) m.entries.entries ≡ o → is_some o ≡ true → P key
  by_value None e is = cc
  by_value (Some v) e is =
      let at = Contains-lookup (same_mark key) m.entries.entries v e in
      subst P (sym (mark_exact key at.0 at.2)) (all (at.0, v) at.1)

  -- a marked key is so
  pub marked_is : is_marked m key ≡ true → P key
  marked_is is = by_value (lookup (same_mark key) m.entries.entries) refl is

  -- use marks no key
  pub still_marked : AreMarked P (after_use m key)
  still_marked e there = all e (Contains-promoted (same_mark key) m.entries.entries e there)

  -- a mark marks its key alone
  pub marked_more : P key → AreMarked P (after_mark m key)
  marked_more is e there = elim (Contains-put_entries same_mark m.entries key m.generation e there) [
    | inl before ↦ all e before
    | inr put ↦ elim put.1 [
      | inl same ↦ subst P (sym same) is
      | inr other ↦ all (e.0, other.0) other.1
    ]
  ]
