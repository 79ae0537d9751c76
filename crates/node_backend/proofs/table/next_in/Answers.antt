use Rattle.std.proofs.Common.{◌≡◌, Option, sym, subst, ap, rules}
use Rattle.std.specs.Option.{option_copied}
use Rattle.std.proofs.lemmas.List.Sorted.{IsPartitionPoint-from_clause}
use Rattle.ledger_spec.specs.Bytes.{Hash}
use Rattle.node_backend.specs.Order.{IsNext}
use Rattle.node_backend.proofs.Next.{Parts, next_of, parted, parts_at, parts_first, parts_as, is_up_to}
use Rattle.node_backend.proofs.table.next_in.Goals as goal
use Rattle.node_backend.proofs.table.next_in.Goals.{in-None, in-Some}

-- the hashes before the place aren't after the last one, and those from it on are
pub returns : goal.returns
returns c m rising =
    let parts : Parts c.args.order.now (option_copied c.args.after) c.match-after.place =
    elim c.match-after.branch [
      | in-None w ↦ parts_as c.args.order.now _ _ _ _ (parts_first c.args.order.now) (ap option_copied w.in-None.is) w.place-is
      | in-Some w ↦ parts_as c.args.order.now _ _ _ _ (parts_at c.args.order.now w.in-Some.last.now w.partition_point-place.result
          (IsPartitionPoint-from_clause (is_up_to w.in-Some.last.now) _ _ w.partition_point-place.ensures.partitioned
          (parted c.args.order.now w.in-Some.last.now rising.up) (λ a r q k. search rules))) (ap option_copied w.in-Some.is) w.place-is
    ] in
    subst (λ (o : Option Hash). IsNext m (option_copied c.args.after) o) (sym c.hash_at.ensures)
    (next_of c.args.order.now m (option_copied c.args.after) c.match-after.place rising parts)
