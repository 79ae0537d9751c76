use Rattle.std.proofs.Common.{◌≡◌, List, sym, subst, rules}
use Rattle.std.specs.List.Sorted.{IsPermutation}
use Rattle.std.specs.Map.{keys_of}
use Rattle.ledger_spec.specs.Bytes.{Hash}
use Rattle.node_backend.proofs.Tables.{has_keys}
use Rattle.node_backend.proofs.table.rising.Goals as goal

-- the keys, sorted
pub returns : goal.returns
returns c =
    let all : c.in_ok-order.order.items ≡ keys_of c.args.entries.now.entries = search rules in
    record {
      up = c.sort_unstable.ensures.sorted;
      has = λ h. has_keys c.args.entries.now.entries c.sort_unstable.new.self.items h
          (subst (λ (ks : List Hash). IsPermutation ks c.sort_unstable.new.self.items) all c.sort_unstable.ensures.permutation);
    }
