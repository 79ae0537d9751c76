use Rattle.std.proofs.Common.{rules}
use Rattle.half_hash.specs.Half.{byte_sum_half}
use Rattle.leaf_tests.proofs.records.RecordsNodeSourceTinyHash.fetch.Goals as goal

-- the bytes have the hash under which they are decoded
pub returns-then-equals-clause-hash : goal.returns-then-equals-clause-hash
returns-then-equals-clause-hash c = c.node_of_form.ensures.hash byte_sum_half (search rules)
