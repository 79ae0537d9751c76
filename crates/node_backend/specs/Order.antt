-- The order of the hashes that are held.
use Rattle.std.specs.Prelude.{◌≡◌, Option, None, Some}
use Rattle.std.specs.Option.{IsSome}
use Rattle.std.specs.FinMap as map
use Rattle.std.specs.BTreeMap.Range.{IsLeBy, IsLtBy}
use Rattle.ledger_spec.specs.Maps.{MapOf, hash_cmp}
use Rattle.ledger_spec.specs.Bytes.{Hash}

-- a hash comes after another one, where there is one
abbrev pub IsAfter : Option Hash → Hash → Type 0
IsAfter None h = Unit {0}
IsAfter (Some last) h = IsLtBy hash_cmp last h

-- the least key that comes after, or that there is none
abbrev pub IsNext : {X : Type 0} → MapOf X → Option Hash → Option Hash → Type 0
IsNext m after None = (h : Hash) → IsAfter after h → map.get m h ≡ None
IsNext m after (Some next) = IsAfter after next × IsSome (map.get m next)
    × ((h : Hash) → IsAfter after h → IsSome (map.get m h) → IsLeBy hash_cmp next h)
