use Rattle.std.proofs.Common.{arith, refl}
use Rattle.ledger_spec.specs.Offers.{head_outcome, head_forms}
use Rattle.acquire_core.specs.Answers.{forms_in}
use Rattle.acquire_core.proofs.Judging.{header_kept, bytes_by, one_part}
use Rattle.acquire_core.proofs.parts.take_header.Goals as goal

pub returns-clause-answer : goal.returns-clause-answer
returns-clause-answer g c tells =
    one_part g.H.NodeHash.half (head_outcome g.H.NodeHash.half (forms_in c.args.store.now) c.args.target.now c.args.header.now)
    (λ o. head_forms o c.args.header.now) c.args.store.now c.offer_header.new.store c.offer_header.result (λ k. refl)
    (c.offer_header.ensures.outcome tells) (c.offer_header.ensures.stored tells) (c.offer_header.ensures.err tells)

pub returns-clause-kept : goal.returns-clause-kept
returns-clause-kept g c tells all =
    header_kept g.H.NodeHash.half c.args.store.now c.offer_header.new.store c.args.target.now c.args.header.now c.offer_header.result
    c.requires (bytes_by c.args.header.now (λ i. omega (arith, c.type_inv.header i))) all (returns-clause-answer g c tells)
