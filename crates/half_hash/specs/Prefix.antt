-- The four bytes that stand before what is hashed, one prefix for each kind of object.
use Rattle.std.specs.Prelude.{ℕ, List, [], ◌∷◌}
use Rattle.half_hash.specs.declared.prefix.Prefix.{Prefix}
use Rattle.half_hash.specs.declared.prefix.Prefix.TheVariants.{Txn, Snd, Mln, Min, Lwr}

abbrev pub prefix_of : Prefix → List ℕ
prefix_of Txn = 0x54 ∷ 0x58 ∷ 0x4E ∷ 0 ∷ []
prefix_of Snd = 0x53 ∷ 0x4E ∷ 0x44 ∷ 0 ∷ []
prefix_of Mln = 0x4D ∷ 0x4C ∷ 0x4E ∷ 0 ∷ []
prefix_of Min = 0x4D ∷ 0x49 ∷ 0x4E ∷ 0 ∷ []
prefix_of Lwr = 0x4C ∷ 0x57 ∷ 0x52 ∷ 0 ∷ []
