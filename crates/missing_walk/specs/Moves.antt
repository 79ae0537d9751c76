-- How a search goes on at one place.
use Rattle.std.specs.Prelude.{◌≡◌, ◌<◌, ◌||◌, Bool, is_some, nat_le, length, reverse, map, None, IfSome}
use Rattle.std.specs.Prelude.{◌==◌, ◌++◌}
use Rattle.ledger_spec.specs.Bytes.{Half, Lookup}
use Rattle.ledger_spec.specs.Findings.{lacks}
use Rattle.missing_walk.specs.declared.search.Search.{Search}
use Rattle.missing_walk.specs.Sees.{most_missing}
use Rattle.missing_walk.specs.Pending.{stacked, noted_places, found_all, Covers, Within, Around}
use Rattle.missing_walk.specs.Searching.{BreaksOnTop, place_of}

-- a broken place, as many missing ones as are noted, or no place left
abbrev pub has_ended : Search → Bool
has_ended s = (is_some s.broken || nat_le most_missing (length s.missing.items)) || length s.stack.items == 0

-- what a slice keeps of the places
pub record Inside (half : Half) (nodes : Lookup) (s : Search) : Type 0 where
  pub covers : Covers half nodes s.target (noted_places s.missing.items ++ stacked s.stack.items)
  pub tested : found_all half nodes (noted_places s.missing.items) ≡ map lacks (map place_of s.missing.items)
  pub broke : IfSome s.broken (λ b. BreaksOnTop half nodes s.stack.items s.missing.items b.0 b.1)

-- what is kept of the places still is, where nothing has ended the search
pub record Heeds (half : Half) (nodes : Lookup) (s s' : Search) : Type 0 where
  pub inside : s.broken ≡ None → length s.missing.items < 256 → Inside half nodes s → Inside half nodes s'
  pub around : Within half nodes (reverse s.opened.items) (stacked s.stack.items)
      → Around half nodes (reverse s'.opened.items) (stacked s'.stack.items)
