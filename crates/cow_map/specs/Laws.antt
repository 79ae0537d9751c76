-- The laws of maps, which laws.rt hands to proofs above: the root of a sealed map, its forms, its order, and when nothing stops a call.
use Rattle.std.specs.Prelude.{◌≡◌, ◌≢◌, length, None}
use Rattle.std.specs.List.{AllByRecursion}
use Rattle.ledger_spec.specs.declared.Kind.TheVariants.{Set}
use Rattle.ledger_spec.specs.Bytes.{Bytes, Hash, Half, Lookup, Items}
use Rattle.ledger_spec.specs.Commits.{AreOwn}
use Rattle.ledger_spec.specs.Forms.{IsItem}
use Rattle.ledger_spec.specs.Maps.{IsMap, hash_cmp}
use Rattle.ledger_spec.specs.Tree.{root_of, forms_of, AreItems, IsByteEntry}
use Rattle.cow_map.specs.Bodies.{CowTree}
use Rattle.cow_map.specs.Trees.{StandsFor}
use Rattle.cow_map.specs.Ways.{stop_of, removal_stop_of}
use Rattle.cow_map.specs.Seals.{hash_at, Picks}
use Rattle.cow_map.specs.Sealing.{made_of_map}

-- a hash has 32 bytes
abbrev pub IsSized : Half → Type 0
IsSized half = (x : Bytes) → length (half x) ≡ 32

-- the hash of a map's top is the root hash of the map that it stands for
abbrev pub TopIsRoot : Type 0
TopIsRoot =
    (half : Half) → IsSized half → (stored : Lookup) → AreOwn half stored → (m : CowTree) (items : Items) → StandsFor half stored m items
    → hash_at half m.kind m.nodes 64 m.top ≡ root_of half m.kind items

-- the forms that a map has made are those of the tree of the map that it stands for, in their order, but for some that the source holds
abbrev pub MadeAreOfTree : Type 0
MadeAreOfTree =
    (half : Half) → IsSized half → (stored : Lookup) → AreOwn half stored → (m : CowTree) (items : Items) → StandsFor half stored m items
    → Picks half stored (made_of_map half m) (forms_of half m.kind items)

-- items of which none has another's key: keys rise
pub record AreRising (items : Items) : Type 0 where
  pub rising : IsMap hash_cmp items
  pub each : AllByRecursion (λ e. IsItem e.0 e.1) items

-- What a map stands for is a finite map of items, and where keys and data are bytes and it isn't one of bare transactions, whose keys are
-- their hashes, a finite map of its kind's.
abbrev pub IsFiniteMap : Type 0
IsFiniteMap =
    (half : Half) (stored : Lookup) (m : CowTree) (items : Items) → StandsFor half stored m items
    → AreRising items × (m.kind ≢ Set → AllByRecursion IsByteEntry items → AreItems half m.kind items)

-- nothing stops one on the way of a key through a map that stands for something, nor beside the key's leaf
abbrev pub IsFree : Type 0
IsFree =
    (half : Half) (stored : Lookup) (m : CowTree) (items : Items) (key : Hash) → StandsFor half stored m items
    → (stop_of half stored m key ≡ None) × (removal_stop_of half stored m key ≡ None)
