-- How many places a search has left to look at.
use Rattle.std.specs.Prelude.{◌≡◌, ℕ, zero, suc, ◌+◌, ◌-◌, ◌*◌, ◌<◌, ◌≤◌, ◌&&◌, Bool, is_some, if◌then◌else◌}
use Rattle.std.specs.Prelude.{List, [], ◌∷◌, length, None}
use Rattle.std.specs.Bool.{⊤}
use Rattle.ledger_spec.specs.Bytes.{Half, Lookup}
use Rattle.ledger_spec.specs.Findings.{walk, walk_ledger}
use Rattle.missing_walk.specs.declared.sight.View.{View}
use Rattle.missing_walk.specs.declared.sight.View.TheVariants as view
use Rattle.missing_walk.specs.declared.search.Search.{Search}
use Rattle.missing_walk.specs.Pending.{Pending, stacked, noted_places, kids_of}

-- the number of places that the walk meets from this one on
abbrev pub weight : Half → Lookup → Pending → ℕ
weight half nodes p = length (walk half nodes p.kind (64 - length p.path) p.parent p.path p.hash)

-- a noted place counts where its hash is stored now
abbrev pub stored_weight : Half → Lookup → Pending → ℕ
stored_weight half nodes p = if is_some (nodes p.hash) then weight half nodes p else 0

-- the most places that there can be from one on which has so many levels below it
unfoldable pub most_below : ℕ → ℕ
most_below zero = 1
most_below (suc left) = suc (16 * most_below left)

abbrev pub most_from : Pending → ℕ
most_from p = most_below (64 - length p.path)

-- a noted place was looked at itself
abbrev pub most_again : Pending → ℕ
most_again p = most_from p - 1

-- all together
abbrev pub load : (Pending → ℕ) → List Pending → ℕ
load f [] = 0
load f (p ∷ ps) = f p + load f ps

-- the places of the stack and the noted ones, which count otherwise
abbrev pub left_in : (Pending → ℕ) → (Pending → ℕ) → Search → ℕ
left_in f g s = load f (stacked s.stack.items) + load g (noted_places s.missing.items)

-- the rest below a header that was read, or from the header on
abbrev pub rest_by : Bool → Half → Lookup → Search → ℕ
rest_by begun half nodes s =
    if begun then left_in (weight half nodes) (stored_weight half nodes) s else length (walk_ledger half nodes s.target)

-- the rest of a search: as many places as the walk meets from those of the stack and from the noted ones that are stored now; of one that
-- is yet to begin, from the header
abbrev pub rest : Half → Lookup → Search → ℕ
rest half nodes s = rest_by (is_some s.generation && is_some s.header) half nodes s

-- the most that can be left, whatever the store holds
abbrev pub bound_by : Bool → Search → ℕ
bound_by begun s = if begun then left_in most_from most_again s else most_below 64 + most_below 64

abbrev pub bound : Search → ℕ
bound s = bound_by (is_some s.generation && is_some s.header) s

-- what is seen at a place leaves fewer: the places below it, or itself as a noted one
abbrev pub Weighs : (Pending → ℕ) → (Pending → ℕ) → Pending → View → Type 0
Weighs f g p view.Missing = g p + 1 ≤ f p
Weighs f g p (view.Broken fault) = ⊤
Weighs f g p (view.Below node) = load f (kids_of p.kind p.path node.value) + 1 ≤ f p
Weighs f g p view.Nothing = 1 ≤ f p

-- at least so many fewer are left, unless a place is broken
pub record Lighter (f g : Pending → ℕ) (n : ℕ) (s s' : Search) : Type 0 where
  pub fewer : s'.broken ≡ None → left_in f g s' + n ≤ left_in f g s

-- a slice of n places left the search for another one: places are left, and at least n fewer
pub record GoesOn (half : Half) (nodes : Lookup) (n : ℕ) (s s' : Search) : Type 0 where
  pub fewer : rest half nodes s' + n ≤ rest half nodes s
  pub some : 0 < rest half nodes s'
