use Rattle.std.proofs.Common.{sym}
use Rattle.half_hash.specs.Half.{sha512_half}
use Rattle.path_proof.proofs.Bare.{none_by_any}
use Rattle.path_proof.proofs.forms.decode_under.Goals as goal

-- what begins otherwise is no bare transaction, whatever the half
pub returns-clause-none : goal.returns-clause-none
returns-clause-none c = λ half same.
    none_by_any sha512_half half c.args.form.now _ c.decode_form.result (sym c.if-is_bare.ensures) c.decode_form.ensures.held.none
