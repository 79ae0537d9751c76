-- How a key compares to those of entries. For proofs of other crates.
use Rattle.std.proofs.Common.{◌≡◌, List}
use Rattle.std.specs.declared.cmp.Ordering.{Ordering}
use Rattle.std.specs.List.{AllByRecursion}
use Rattle.ledger_spec.specs.Bytes.{Hash}
use Rattle.ledger_spec.specs.Maps.{hash_cmp}
use Rattle.ledger_spec.specs.Tree.{Entry}

-- the key compares so to each of the entries' keys
abbrev pub AllCompare : Ordering → Hash → List Entry → Type 0
AllCompare o key items = AllByRecursion (λ (e : Entry). hash_cmp key e.0 ≡ o) items
