-- A whole ledger stays whole as the store grows. For proofs of other crates.
use Rattle.ledger_spec.specs.Bytes.{Hash, Half, Lookup}
use Rattle.ledger_spec.proofs.shared.ReachLaws.{Grows}
use Rattle.ledger_spec.proofs.shared.Growth.{whole_grows, header_grows}
use Rattle.ledger_machine.specs.Sound.{IsWholeLedger}

-- a whole ledger stays whole as the store grows
pub whole_ledger_grows : (half : Half) (m n : Lookup) (t : Hash) → Grows m n → IsWholeLedger half m t → IsWholeLedger half n t
whole_ledger_grows half m n t up w = record { header = header_grows m n t _ up w.header; whole = whole_grows half m n t up w.whole }
