use Rattle.std.proofs.Common.{rules, arith, ◌≡◌, sym, subst, List, ℕ}
use Rattle.hex.specs.Hex.{encode_upper}
use Rattle.half_hash.specs.Hex.{IsHexOf}
use Rattle.half_hash.proofs.Digits.{reads_back}
use Rattle.half_hash.proofs.hash32.digits_of.Goals as goal

pub returns-clause-back : goal.returns-clause-back
returns-clause-back c =
    let text : c.new.result ≡ encode_upper c.args.bytes.now = search rules in
    let P : List ℕ → Type 0 = λ t. IsHexOf t c.args.bytes.now in
    subst P (sym text) (reads_back c.args.bytes.now c.requires (λ k. omega (arith, c.type_inv.bytes k)))
