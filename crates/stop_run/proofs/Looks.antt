-- The lines of one ledger more.
use Rattle.std.proofs.Common.{arith, ◌≡◌, ◌+◌, ◌<◌, ℕ, suc, List, [], ◌∷◌, ◌++◌, length, drop, get_or, sym, ap, ◌∙◌}
use Rattle.std.proofs.lemmas.List.{append_assoc}
use Rattle.std.proofs.Math.Seq.{drop-cons}
use Rattle.ledger_spec.specs.Bytes.{Hash}
use Rattle.ledger_machine.specs.declared.commands.Command.TheVariants as command
use Rattle.ledger_machine.specs.declared.commands.Line.{Line}
use Rattle.stop_run.specs.Looking.{line_with, lines_behind, lines_for}

next_hash : (ts : List Hash) (i : ℕ) (d : Hash) → i < length ts → drop i ts ≡ get_or ts i d ∷ drop (i + 1) ts
next_hash ts i d lt =
    let up : suc i ≡ i + 1 = omega arith in
    drop-cons ts i d lt ∙ ap (λ (n : ℕ). get_or ts i d ∷ drop n ts) up

-- the lines so far, with those of this ledger
pub lines_more : (ts : List Hash) (i n : ℕ) (t : Hash) (lines : List Line) (want check : Line) → i < length ts → t ≡ get_or ts i t
    → want ≡ line_with (n + 1) (command.Want t 0) → check ≡ line_with (n + 2) (command.Check t)
    → lines ++ lines_behind n (drop i ts) ≡ lines_for ts
    → ((lines ++ want ∷ []) ++ check ∷ []) ++ lines_behind (n + 2) (drop (i + 1) ts) ≡ lines_for ts
lines_more ts i n t lines want check lt at want_is check_is so_far =
    let rest : List Line = lines_behind (n + 2) (drop (i + 1) ts) in
    let here : drop i ts ≡ t ∷ drop (i + 1) ts = next_hash ts i t lt ∙ ap (λ (x : Hash). x ∷ drop (i + 1) ts) (sym at) in
    append_assoc (lines ++ want ∷ []) (check ∷ []) rest ∙ append_assoc lines (want ∷ []) (check ∷ rest)
    ∙ ap (λ (l : Line). lines ++ l ∷ check ∷ rest) want_is ∙ ap (λ (l : Line). lines ++ line_with (n + 1) (command.Want t 0) ∷ l ∷ rest) check_is
    ∙ ap (λ (xs : List Hash). lines ++ lines_behind n xs) (sym here) ∙ so_far
