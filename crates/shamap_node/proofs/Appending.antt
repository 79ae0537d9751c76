-- An inner node's form, hash by hash.
use Rattle.std.proofs.Common.{◌≡◌, ◌+◌, ◌<◌, ℕ, List, ◌++◌, length, take, sym, ap, ◌∙◌, get_or, append_assoc}
use Rattle.std.specs.List.{concat}
use Rattle.ledger_spec.specs.Bytes.{Bytes, Hash}
use Rattle.ledger_spec.specs.Forms.{inner_prefix}
use Rattle.ledger_spec.proofs.shared.Hashes.{concat_more}

-- the next hash stands in the form
pub form_more : (hashes : List Hash) (i : ℕ) (d before after : Bytes) → i < length hashes
    → before ≡ inner_prefix ++ concat (take i hashes) → after ≡ before ++ get_or hashes i d
    → after ≡ inner_prefix ++ concat (take (i + 1) hashes)
form_more hashes i d before after low so_far next =
    next ∙ ap (λ (x : Bytes). x ++ get_or hashes i d) so_far
    ∙ append_assoc inner_prefix (concat (take i hashes)) (get_or hashes i d)
    ∙ ap (λ (x : Bytes). inner_prefix ++ x) (sym (concat_more hashes i d low))
