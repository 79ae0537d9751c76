-- What words ask for.
use Rattle.std.specs.Prelude.{◌≡◌, List, [], ◌∷◌, codes, None, Some}
use Rattle.half_hash.specs.Hex.{IsHexOf}
use Rattle.ledger_spec.specs.Bytes.{Bytes}
use Rattle.ledger_audit.specs.declared.words.Asked.{Asked}
use Rattle.ledger_audit.specs.declared.words.Asked.TheVariants.{Pages, Plain, Path}

-- the words ask for an audit of pages, or of plain lines, perhaps of the ledger with a hash, or for a path
abbrev pub Asks : List Bytes → Asked → Type 0
Asks words (Pages None) = words ≡ []
Asks words (Pages (Some hash)) = (text : Bytes) × (words ≡ codes "--expect" ∷ text ∷ []) × IsHexOf text hash
Asks words (Plain None) = words ≡ codes "--plain" ∷ []
Asks words (Plain (Some hash)) = (text : Bytes) × (words ≡ codes "--plain" ∷ codes "--expect" ∷ text ∷ []) × IsHexOf text hash
Asks words (Path root key) =
    (r : Bytes) × (k : Bytes) × (words ≡ codes "--path" ∷ r ∷ k ∷ []) × IsHexOf r root × IsHexOf k key

-- they ask for something
pub record AreCommand (words : List Bytes) : Type 0 where
  pub asked : Asked
  pub asks : Asks words asked
