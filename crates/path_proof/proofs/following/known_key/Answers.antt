use Rattle.std.proofs.Common.{ap, subst, ◌∙◌, ◌≡◌, ◌≤◌, length, take, List, ℕ, arith}
use Rattle.std.proofs.lemmas.List.{take_all}
use Rattle.nib_path.specs.Paths.{IsPath, nibbles, length-nibbles}
use Rattle.path_proof.proofs.following.known_key.Goals as goal

-- 32 bytes have 64 nibbles, so the place at depth 64 on the way to the key is all of the key
pub returns : goal.returns
returns c =
    let whole : length (nibbles c.args.key.now) ≤ 64 = omega (arith, length-nibbles c.args.key.now, c.known.ensures) in
    let path : c.of_key.result ≡ nibbles c.args.key.now = c.of_key.ensures ∙ ap (λ (k : List ℕ). take 64 (nibbles k)) c.key.view_is
    ∙ take_all 64 (nibbles c.args.key.now) whole in
    record { size = c.known.ensures; path = subst (λ (p : List ℕ). IsPath p) path c.known-2.ensures }
