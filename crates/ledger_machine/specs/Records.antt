-- The records of a script: what its store begins with.
use Rattle.std.specs.Prelude.{List, [], ◌∷◌, map}
use Rattle.std.specs.List.{All, Contains}
use Rattle.std.specs.FinMap as finite
use Rattle.ledger_spec.specs.Bytes.{Bytes, Hash, Half, Nodes}
use Rattle.ledger_spec.specs.Own.{IsStoredAt}
use Rattle.ledger_machine.specs.declared.commands.Record.{Record}

-- the records' forms, and their hashes
abbrev pub forms_of : List Record → List Bytes
forms_of records = map (λ r. r.form) records

abbrev pub hashes_of : List Record → List Hash
hashes_of records = map (λ r. r.hash) records

-- no hash stands twice
abbrev pub AreDistinct : List Hash → Type 0
AreDistinct [] = Unit {0}
AreDistinct (h ∷ hashes) = (Contains hashes h → ⊥) × AreDistinct hashes

-- what a store may begin with: forms of nodes and headers, each under its own hash, which isn't zero, and no two under one hash
pub record AreRecords (half : Half) (records : List Record) : Type 0 where
  pub own : All (λ r. IsStoredAt half r.hash r.form) records
  pub distinct : AreDistinct (hashes_of records)

-- what is stored, with the records
abbrev pub with_records : Nodes → List Record → Nodes
with_records nodes [] = nodes
with_records nodes (r ∷ records) = with_records (finite.insert nodes r.hash r.form) records
