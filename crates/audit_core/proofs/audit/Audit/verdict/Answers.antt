use Rattle.std.proofs.Common.{sym, ◌∙◌}
use Rattle.ledger_spec.specs.declared.Kind.TheVariants.{State, Tx}
use Rattle.audit_core.specs.Said.{items_or_none}
use Rattle.audit_core.proofs.Verdicts.{hash_is, expected, not_given, txs_given, sums_without, sums_with}
use Rattle.audit_core.proofs.audit.Audit.verdict.Goals as goal

pub returns-in-Some : goal.returns-in-Some
returns-in-Some g c s keeps =
    (c.in-Some.ensures.0, hash_is g.H.NodeHash.half c.args.self s c.hash-hash.result keeps c.hash-hash.ensures, c.in-Some.ensures.1)

pub returns-then-not-equals : goal.returns-then-not-equals
returns-then-not-equals g c s keeps = (
  expected g.H.NodeHash.half c.args.self s c.hash-hash.result keeps c.hash-hash.ensures c.args.expect c.in_default.ensures,
  sym keeps.reads.state_root,
  c.root-found.ensures State s.items keeps.state,
  c.if-not-equals.ensures,
)

pub returns-then-not-given : goal.returns-then-not-given
returns-then-not-given g c s keeps = (
  expected g.H.NodeHash.half c.args.self s c.hash-hash.result keeps c.hash-hash.ensures c.args.expect c.in_default.ensures,
  sym (c.root-found.ensures State s.items keeps.state) ∙ sym c.if-not-equals.ensures ∙ sym keeps.reads.state_root,
  not_given _ s.txs (sym keeps.given ∙ c.if-not-given.true),
  sums_without g.H.NodeHash.half c.args.self s c.hash-hash.result keeps c.hash-hash.ensures c.number-objects.result c.number-objects.ensures
      (sym keeps.given ∙ c.if-not-given.true),
)

pub returns-then-not-equals-2 : goal.returns-then-not-equals-2
returns-then-not-equals-2 g c s keeps = (
  expected g.H.NodeHash.half c.args.self s c.hash-hash.result keeps c.hash-hash.ensures c.args.expect c.in_default.ensures,
  sym (c.root-found.ensures State s.items keeps.state) ∙ sym c.if-not-equals.ensures ∙ sym keeps.reads.state_root,
  sym keeps.reads.tx_root,
  txs_given _ s.txs (sym keeps.given ∙ c.if-not-given.false) (c.root-found-2.ensures Tx (items_or_none s.txs) keeps.txs),
  c.if-not-equals-2.ensures,
)

pub returns : goal.returns
returns g c s keeps = (
  expected g.H.NodeHash.half c.args.self s c.hash-hash.result keeps c.hash-hash.ensures c.args.expect c.in_default.ensures,
  sym (c.root-found.ensures State s.items keeps.state) ∙ sym c.if-not-equals.ensures ∙ sym keeps.reads.state_root,
  txs_given _ s.txs (sym keeps.given ∙ c.if-not-given.false)
      (sym (c.root-found-2.ensures Tx (items_or_none s.txs) keeps.txs) ∙ sym c.if-not-equals-2.ensures ∙ sym keeps.reads.tx_root),
  sums_with g.H.NodeHash.half c.args.self s c.hash-hash.result keeps c.hash-hash.ensures c.number-objects.result
      c.number-transactions.result
      c.number-objects.ensures c.number-transactions.ensures (sym keeps.given ∙ c.if-not-given.false),
)
