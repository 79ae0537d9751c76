-- A record has a hash of 32 bytes.
use Rattle.std.proofs.Common.{◌≡◌, ◌≤◌, ◌&&◌, Bool, true, false, nat_le, refl, length, take, drop}
use Rattle.std.proofs.lemmas.Bool.{leb-true}
use Rattle.ledger_spec.specs.Bytes.{Bytes, Half}
use Rattle.log_recovery.specs.Records.{is_fit, is_record}

first : (a b : Bool) → (a && b) ≡ true → a ≡ true
first true b e = refl
first false b e = e

pub record_long : (half : Half) (entry : Bytes) → is_record half entry ≡ true → 32 ≤ length entry
record_long half entry is =
    leb-true 32 (length entry) (first (nat_le 32 (length entry)) (is_fit half (take 32 entry) (drop 32 entry)) is)
