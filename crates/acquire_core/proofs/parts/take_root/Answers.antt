-- a root is the node at the top of its map
use Rattle.std.proofs.Common.{ap, refl}
use Rattle.std.specs.Option.{option_copied}
use Rattle.acquire_core.specs.Answers.{forms_in}
use Rattle.acquire_core.proofs.Judging.{handed}
use Rattle.acquire_core.proofs.Replying.{root_answers, root_refused}
use Rattle.acquire_core.proofs.parts.take_root.Goals as goal

pub returns-in_err-offered-clause-answer : goal.returns-in_err-offered-clause-answer
returns-in_err-offered-clause-answer g c tells all =
    handed g.H.NodeHash.half _ _ c.args.store.now c.take_node.new.store c.from_residual.result c.in_err-offered.field-0.0
    c.from_residual.ensures.1
    (root_refused g.H.NodeHash.half (forms_in c.args.store.now) c.args.store.now c.take_node.new.store c.args.target.now c.args.kind
    c.root.result (option_copied c.args.blob) c.in-Some.blob.now c.root.ensures (ap option_copied c.in-Some.is)
    c.in_err-offered.field-0.0 (c.in_err-offered.ensures.answer tells all))

pub returns-clause-answer : goal.returns-clause-answer
returns-clause-answer g c tells all =
    root_answers g.H.NodeHash.half (forms_in c.args.store.now) c.args.store.now c.take_node.new.store c.args.target.now c.args.kind
    c.root.result (option_copied c.args.blob) c.in-Some.blob.now c.root.ensures (ap option_copied c.in-Some.is)
    c.in_ok-offered.offered
    (c.in_ok-offered.ensures.answer tells all)
