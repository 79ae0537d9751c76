use Rattle.std.proofs.Common.{ap, ◌∙◌, ◌++◌, [], ◌∷◌, ℕ, List, length, append_assoc}
use Rattle.std.specs.Int.{w64, to_be_bytes}
use Rattle.log_shelf.specs.Entries.{number_bytes}
use Rattle.log_shelf.proofs.log.body_bytes.Goals as goal

pub returns : goal.returns
unfolding number_bytes
returns c =
    c.in_ok-push.ensures.items
    ∙ (ap (λ (x : List ℕ). x ++ 0 ∷ []) (c.in_ok-extend_from_slice.ensures.items
    ∙ ap (λ (x : List ℕ). x ++ c.args.entry.now) (c.in_ok-body.ensures.items ∙ c.to_be_bytes.ensures))
    ∙ append_assoc (to_be_bytes w64 (length c.args.entry.now)) c.args.entry.now (0 ∷ []))
