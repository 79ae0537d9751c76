-- each field is read from its place
use Rattle.std.proofs.Common.{refl, sym, arith}
use Rattle.ledger_header.proofs.Joined.{joined}
use Rattle.ledger_header.proofs.header_in.Goals as goal

-- the nine fields are read from places that lie side by side and fill all 118 bytes, so joined again they are the bytes
pub returns-clause-exact : goal.returns-clause-exact
returns-clause-exact c =
    joined _ c.args.bytes.now (λ i. omega (arith, c.type_inv.bytes i)) c.requires (record {
      seq = sym c.u32_at.ensures;
      drops = sym c.u64_at.ensures;
      parent = sym c.hash_at.ensures;
      tx_root = sym c.hash_at-2.ensures;
      state_root = sym c.hash_at-3.ensures;
      parent_close = sym c.u32_at-2.ensures;
      close = sym c.u32_at-3.ensures;
      resolution = refl;
      flags = refl;
    })
