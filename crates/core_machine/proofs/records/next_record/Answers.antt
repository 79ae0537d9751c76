use Rattle.std.proofs.Common.{sym, ap, ◌∙◌, Some}
use Rattle.std.specs.FinMap as map
use Rattle.std.specs.Option.{option_copied}
use Rattle.ledger_spec.specs.Bytes.{Nodes}
use Rattle.ledger_spec.specs.Own.{own_forms}
use Rattle.node_backend.specs.Order.{IsNext}
use Rattle.rotating_store.proofs.shared.Reading.{read_then, same_nodes, stored_notes}
use Rattle.rotating_store.specs.Stores.{nodes_of}
use Rattle.core_machine.proofs.shared.Numbering.{left_falls, follows_then}
use Rattle.core_machine.proofs.Dumps.{no_next, next_is, next_some, next_from, follows_of}
use Rattle.core_machine.proofs.records.next_record.Goals as goal

-- where the store tells what it holds, this is the next hash in it, and the form under it is its own
pub returns-in-Some-3-clause-next : goal.returns-in-Some-3-clause-next
returns-in-Some-3-clause-next g c tells =
    let before = c.loop-hash.invariant.read in
    let read = read_then g.Sh.B.Backend.tells g.H.NodeHash.half c.args.store.now c.loop-hash.store c.next_hash.new.store before
    (c.next_hash.ensures.read g.H.NodeHash.half) in
    let next : IsNext (nodes_of c.args.store.now) (option_copied c.args.after) (Some c.in-Some-2.hash) =
    next_from _ _ _ _ _ _ _ (same_nodes c.args.store.now c.loop-hash.store (before.same tells)) c.as_ref.ensures.value
    (c.loop-hash.invariant.first tells) c.in-Some-2.is
    (c.in_ok-hash.ensures.next tells) in
    next_is g.H.NodeHash.half (nodes_of c.args.store.now) (option_copied c.args.after) c.in-Some-2.hash c.in-Some-3.form
    (c.requires tells) next
    (sym c.in-Some-3.is ∙ c.in_ok-form.ensures.form
    (read.notes (tells, stored_notes g.H.NodeHash.half c.args.store.now (c.requires tells)))
    ∙ ap (λ (n : Nodes). own_forms g.H.NodeHash.half (map.get n) c.in-Some-2.hash)
    (same_nodes c.args.store.now c.next_hash.new.store (read.same tells)))

pub returns-in-Some-3-clause-follows : goal.returns-in-Some-3-clause-follows
returns-in-Some-3-clause-follows g c =
    c.loop-hash.invariant.later c.in-Some-2.hash
    (follows_of _ c.loop-hash.last _ c.in-Some-2.hash c.as_ref.ensures.value c.in-Some-2.is c.in_ok-hash.ensures.follows)

pub loop-hash-smaller : goal.loop-hash-smaller
loop-hash-smaller g c =
    left_falls c.loop-hash.last c.in-Some-2.hash c.loop-hash.invariant.hash
    (follows_of _ c.loop-hash.last _ c.in-Some-2.hash c.as_ref.ensures.value c.in-Some-2.is c.in_ok-hash.ensures.follows)

-- only a store that doesn't tell what it holds goes on, since under the next hash stands an own form; and it was only read
pub loop-hash-preserved : goal.loop-hash-preserved
loop-hash-preserved g c =
    let before = c.loop-hash.invariant.read in
    let read = read_then g.Sh.B.Backend.tells g.H.NodeHash.half c.args.store.now c.loop-hash.store c.next_hash.new.store before
    (c.next_hash.ensures.read g.H.NodeHash.half) in
    let follows = follows_of _ c.loop-hash.last _ c.in-Some-2.hash c.as_ref.ensures.value c.in-Some-2.is c.in_ok-hash.ensures.follows in
    record {
      read = read_then g.Sh.B.Backend.tells g.H.NodeHash.half c.args.store.now c.next_hash.new.store c.own_form.new.store read
          c.own_form.ensures.read;
      first = λ tells. absurd (next_some g.H.NodeHash.half (nodes_of c.args.store.now) (nodes_of c.next_hash.new.store)
          (option_copied c.args.after) c.in-Some-2.hash c.in_ok-form.field-0 (c.requires tells)
          (next_from _ _ _ _ _ _ _ (same_nodes c.args.store.now c.loop-hash.store (before.same tells)) c.as_ref.ensures.value
          (c.loop-hash.invariant.first tells) c.in-Some-2.is (c.in_ok-hash.ensures.next tells))
          (same_nodes c.args.store.now c.next_hash.new.store (read.same tells)) (c.in_ok-form.ensures.form
          (read.notes (tells, stored_notes g.H.NodeHash.half c.args.store.now (c.requires tells))))
          c.in_default-3.not-Some);
      hash = (follows.size, follows.bytes);
      later = λ h f. c.loop-hash.invariant.later h (follows_then c.loop-hash.last c.in-Some-2.hash h follows f);
    }

-- the store has no hash behind the given one, so no record comes after
pub returns-clause-next : goal.returns-clause-next
returns-clause-next g c tells =
    no_next (nodes_of c.args.store.now) (option_copied c.args.after)
    (next_from _ _ _ _ _ _ _ (same_nodes c.args.store.now c.loop-hash.store (c.loop-hash.invariant.read.same tells))
    c.as_ref.ensures.value (c.loop-hash.invariant.first tells)
    c.in_default-2.is (c.in_ok-hash.ensures.next tells))
