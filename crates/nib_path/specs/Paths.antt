-- Paths of nibbles from the root of a map.
use Rattle.std.specs.Prelude.{◌≡◌, ℕ, ◌+◌, ◌-◌, ◌*◌, ◌/◌, ◌%◌, ◌≤◌, List, [], ◌∷◌, ◌++◌, length, take, drop, replicate, Bool, nat_eq}
use Rattle.std.specs.Prelude.{nat_lt, slice_index, Option, IsTrue, refl}
use Rattle.std.specs.List.{starts_with, list_all, position_from}
use Rattle.std.proofs.Common.{sym, ap, ◌∙◌, arith, length-take}
use Rattle.std.proofs.lemmas.List.{take-append-drop}
use Rattle.nib_path.specs.declared.NodeId.TheInside.{Inside}

-- two nibbles for each byte, the high one first
abbrev pub nibbles : List ℕ → List ℕ
nibbles [] = []
nibbles (b ∷ bs) = (b / 16) ∷ (b % 16) ∷ nibbles bs

-- the bytes of the nibbles
abbrev pub packed : List ℕ → List ℕ
packed [] = []
packed (n ∷ []) = (n * 16) ∷ []
packed (n ∷ m ∷ ns) = (n * 16 + m) ∷ packed ns

-- nibble i of a key
abbrev pub nibble_of : List ℕ → ℕ → ℕ
nibble_of key i = slice_index (nibbles key) i

-- the key's first nibbles are the path
abbrev pub lies_under : List ℕ → List ℕ → Bool
lies_under path key = starts_with nat_eq (nibbles key) path

-- the path, and zero nibbles up to 64, as 32 bytes
abbrev pub id_of : List ℕ → List ℕ
id_of path = packed (path ++ replicate (64 - length path) 0)

-- the wire form of a path: its ID, and then its length
abbrev pub id_wire : List ℕ → List ℕ
id_wire path = id_of path ++ length path ∷ []

-- the place of the first nibble that isn't zero, from a depth on
abbrev pub first_set_from : ℕ → List ℕ → Option ℕ
first_set_from depth ns = position_from (λ n. nat_lt 0 n) depth (drop depth ns)

-- a path in a map of 256-bit keys: at most 64 nibbles, each below 16
pub record IsPath (path : List ℕ) : Type 0 where
  pub short : length path ≤ 64
  pub nibbles_below : IsTrue (list_all (λ n. nat_lt n 16) path)

-- the path of an ID
abbrev pub path_of : Inside → List ℕ
path_of a = take a.depth (nibbles a.id)

-- a depth, and 32 bytes whose nibbles from the depth on are zero
pub record IsNodeId (a : Inside) : Type 0 where
  pub shallow : a.depth ≤ 64
  pub whole : length a.id ≡ 32
  pub rest : drop a.depth (nibbles a.id) ≡ replicate (64 - a.depth) 0

abbrev pub inside_of : List ℕ → Inside
inside_of path = record { depth = length path; id = id_of path }

pub packed-nibbles : (bs : List ℕ) → packed (nibbles bs) ≡ bs
packed-nibbles [] = refl
packed-nibbles (b ∷ bs) = let e : b / 16 * 16 + b % 16 ≡ b = omega arith in λ i. e i ∷ packed-nibbles bs i

pub length-nibbles : (bs : List ℕ) → length (nibbles bs) ≡ 2 * length bs
length-nibbles [] = refl
length-nibbles (b ∷ bs) = omega (arith, length-nibbles bs)

pub length-path_of : (a : Inside) → IsNodeId a → length (path_of a) ≡ a.depth
length-path_of a h = omega (arith, length-take a.depth (nibbles a.id), length-nibbles a.id, h.shallow, h.whole)

pub id_of-path_of : (a : Inside) → IsNodeId a → id_of (path_of a) ≡ a.id
id_of-path_of a h =
    ap (λ n. packed (path_of a ++ replicate (64 - n) 0)) (length-path_of a h)
    ∙ ap (λ zeros. packed (path_of a ++ zeros)) (sym h.rest)
    ∙ ap packed (take-append-drop a.depth (nibbles a.id))
    ∙ packed-nibbles a.id

-- an ID's fields, from its path
pub inside_of-path_of : (a : Inside) → IsNodeId a → inside_of (path_of a) ≡ a
inside_of-path_of a h = λ i. record { depth = length-path_of a h i; id = id_of-path_of a h i }

-- an ID's fields, from the path that it is seen as
pub length_of_view : (a : Inside) (path : List ℕ) → IsNodeId a → path_of a ≡ path → length path ≡ a.depth
length_of_view a path h e = ap length (sym e) ∙ length-path_of a h

pub id_of_view : (a : Inside) (path : List ℕ) → IsNodeId a → path_of a ≡ path → id_of path ≡ a.id
id_of_view a path h e = ap id_of (sym e) ∙ id_of-path_of a h
