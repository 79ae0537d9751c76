use Rattle.std.proofs.lemmas.Result.{err_from_is_err_and}
use Rattle.run_io.proofs.Bytes.{wrote_unflushed}
use Rattle.run_io.proofs.std_edge.write_through.Goals as goal

pub returns-in_err-flush : goal.returns-in_err-flush
returns-in_err-flush g c =
    let p = err_from_is_err_and c.from_residual-in_err-flush.result c.from_residual-in_err-flush.ensures.1 in
    rw p.1 record {
      within = tt;
      some = tt;
      wrote = tt;
      part = wrote_unflushed _ _ _ c.in_ok-n.n _ c.in_ok-n.ensures.bytes c.in_err-flush.ensures.bytes;
    }
