-- Byte strings, hashes and the finite maps between them. A byte is a number; those of the code are below 256 by their type.
use Rattle.std.specs.Prelude.{ℕ, zero, suc, nat_eq, Bool, List, [], ◌∷◌, take, drop, Option}
use Rattle.std.specs.List.{range_with_len}
use lib.Pointwise.{pointwise}
use Rattle.ledger_spec.specs.Maps.{ForHash, MapOf}
pub use Rattle.half_hash.specs.Half.{are_bytes, IsHalf}
pub use Rattle.half_hash.specs.Zero.{zero_hash, is_zero, is_nonzero}

abbrev pub Bytes : Type 0
Bytes = List ℕ

-- 32 bytes
abbrev pub Hash : Type 0
Hash = List ℕ

-- the half: SHA-512Half, or another function of bytes in its place
abbrev pub Half : Type 0
Half = Bytes → Hash

-- what is stored under a hash
abbrev pub Lookup : Type 0
Lookup = Hash → Option Bytes

-- what is stored, as a value; walks read it by `get`
abbrev pub Nodes : Type 0
Nodes = MapOf Bytes

-- data under keys, keys rising
abbrev pub Items : Type 0
Items = ForHash Bytes

-- the two byte strings are one
abbrev pub same_bytes : Bytes → Bytes → Bool
same_bytes = pointwise nat_eq

-- the numbers of the branches
abbrev pub branches : List ℕ
branches = range_with_len 0 16

-- the first n pieces of 32 bytes
abbrev pub hashes_of : ℕ → Bytes → List Hash
hashes_of zero bytes = []
hashes_of (suc n) bytes = take 32 bytes ∷ hashes_of n (drop 32 bytes)
