use Rattle.std.proofs.Common.{refl, sym, ◌∙◌, subst, Option, Bor}
use Rattle.std.specs.Option.{option_copied}
use Rattle.ledger_spec.specs.Bytes.{Hash}
use Rattle.node_backend.specs.Order.{IsAfter}
use Rattle.core_machine.specs.Dumping.{Follows}
use Rattle.core_machine.proofs.shared.Numbering.{later_if, not_later}
use Rattle.core_machine.proofs.records.if_after.Goals as goal

-- the hash compares greater than the last one, so it comes after it
pub returns-then-is_gt : goal.returns-then-is_gt
returns-then-is_gt c = (
  refl,
  subst (λ (o : Option (Bor Hash)). Follows (option_copied o) c.args.hash) (sym c.in-Some.is) (record {
    later = later_if c.in-Some.last.now c.args.hash c.cmp.result c.cmp.ensures (sym c.is_gt.ensures ∙ c.if-is_gt.true);
    size = c.known_hash.ensures.size;
    bytes = c.known_hash.ensures.bytes;
  }),
)

pub returns-else-is_gt : goal.returns-else-is_gt
returns-else-is_gt c later =
    not_later c.in-Some.last.now c.args.hash c.cmp.result c.cmp.ensures (sym c.is_gt.ensures ∙ c.if-is_gt.false)
    (subst (λ (o : Option (Bor Hash)). IsAfter (option_copied o) c.args.hash) c.in-Some.is later)
