-- Paths of node IDs, compared.
use Rattle.std.proofs.Common.{◌≡◌, ℕ, List, length}
use Rattle.std.specs.Prelude.{nat_eq, ◌&&◌}
use Rattle.std.specs.Str.{bytes_eq}
use Rattle.std.proofs.lemmas.Slice.Eq.{bytes_eq-Decides}
use Rattle.std.proofs.lemmas.Bool.Decides.{same_from_decides}
use Rattle.ledger_spec.specs.Bytes.{same_bytes}
use Rattle.nib_path.specs.Paths.{IsPath, id_of}
use Rattle.nib_path.proofs.shared.Reading.{same_path-Decides}

-- paths are one where the fields of their IDs are
pub same_ids : (p q : List ℕ) → IsPath p → IsPath q → (nat_eq (length p) (length q) && bytes_eq (id_of p) (id_of q)) ≡ same_bytes p q
same_ids p q h k =
    same_from_decides (nat_eq (length p) (length q) && bytes_eq (id_of p) (id_of q)) (same_bytes p q)
    (same_path-Decides p q h k) (bytes_eq-Decides p q)
