use Rattle.std.proofs.Common.{sym, ◌∙◌}
use Rattle.log_recovery.proofs.Fitting.{node_fits, header_fits, none_unfit}
use Rattle.log_recovery.proofs.entry.is_fit.Goals as goal

-- a node was read under the hash
pub returns-in-Ok-Some : goal.returns-in-Ok-Some
returns-in-Ok-Some c half own =
    node_fits half c.args.hash.now c.args.form.now _ (sym c.is_zero.ensures ∙ c.if-is_zero.false) c.known_bytes.ensures
    (rw c.in-Ok-Some.field-0-is at (c.in-Ok-Some.ensures.exact half own))

-- nothing was
pub returns-in-Ok-None : goal.returns-in-Ok-None
returns-in-Ok-None c half own =
    none_unfit half c.args.hash.now c.args.form.now (rw c.in-Ok-None.field-0-is at (c.in-Ok-None.ensures.exact half own))

-- a header was
pub returns-in-Err-Foreign : goal.returns-in-Err-Foreign
returns-in-Err-Foreign c half own =
    header_fits half c.args.hash.now c.args.form.now (sym c.is_zero.ensures ∙ c.if-is_zero.false) c.known_bytes.ensures
    (rw c.in-Err-Foreign.field-0-is at (c.in-Err-Foreign.ensures.exact half own))
