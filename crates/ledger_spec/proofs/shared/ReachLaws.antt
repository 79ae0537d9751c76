-- What is reached grows with what is stored. For proofs of other crates.
use Rattle.std.proofs.Common.{◌≡◌, List, Some, Contains}
use Rattle.ledger_spec.specs.Bytes.{Bytes, Hash, Lookup}
use Rattle.ledger_spec.specs.Reach.{Reach, root, kid, Stored}

-- what m stores, n stores too
abbrev pub Grows : Lookup → Lookup → Type 0
Grows m n = (h : Hash) (form : Bytes) → m h ≡ Some form → n h ≡ Some form

pub reach_grows : {m n : Lookup} {roots : List Hash} {h : Hash} → Grows m n → Reach m roots h → Reach n roots h
reach_grows {h = h} up (root named stored) = root named (stored.0, up h stored.0 stored.1)
reach_grows {h = h} up (kid reached form named stored) = kid (reach_grows up reached) (up _ _ form) named (stored.0, up h stored.0 stored.1)

-- what is reached from what is reached is reached
pub reach_joins : {m : Lookup} {roots more : List Hash} {h : Hash} → ((r : Hash) → Contains more r → Stored m r → Reach m roots r)
    → Reach m more h → Reach m roots h
reach_joins all (root named stored) = all _ named stored
reach_joins all (kid reached form named stored) = kid (reach_joins all reached) form named stored
