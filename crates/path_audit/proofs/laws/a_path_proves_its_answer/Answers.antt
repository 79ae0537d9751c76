use Rattle.path_audit.proofs.Proving.{path_proves}
use Rattle.path_audit.proofs.laws.a_path_proves_its_answer.Goals as goal

pub returns : goal.returns
returns c = path_proves
