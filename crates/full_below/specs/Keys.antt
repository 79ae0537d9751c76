-- When two keys of marks are one.
use Rattle.std.specs.Prelude.{◌&&◌, Bool, [], ◌∷◌, take}
use Rattle.std.specs.Hash.{HashWrites}
use Rattle.ledger_spec.specs.Bytes.{same_bytes}
use Rattle.ledger_spec.specs.Rules.{same_kind}
use Rattle.full_below.specs.declared.key.MarkKey.{MarkKey}

-- the same hash, kind and path
abbrev pub same_mark : MarkKey → MarkKey → Bool
same_mark a b = same_bytes a.hash b.hash && same_kind a.kind b.kind && same_bytes a.id b.id

-- what a key feeds a hasher: the first bytes of its hash
abbrev pub fed_mark : MarkKey → HashWrites
fed_mark key = take 8 key.hash ∷ []
