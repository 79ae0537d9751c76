use Rattle.std.proofs.Common.{sym, ◌∙◌, ap, List, arith, Vec, Global}
use Rattle.ledger_spec.specs.declared.Place.{Place}
use Rattle.peer_set.proofs.Unasked.{taken, passed, filled}
use Rattle.peer_set.proofs.asked.Asked.unasked.Goals as goal
use Rattle.peer_set.proofs.asked.Asked.unasked.Goals.{then-len-lt-MOST_ASKED+then-not-has+in_ok-push, else-len-lt-MOST_ASKED}
use Rattle.peer_set.proofs.asked.Asked.unasked.Goals.{else-len-lt-MOST_ASKED-via-then-len-lt-MOST_ASKED+else-not-has}
use Rattle.peer_set.proofs.asked.Asked.unasked.Goals.{else-len-lt-MOST_ASKED-via-else-len-lt-MOST_ASKED}

-- with room, a place that wasn't asked goes behind the others and an asked one is skipped; without room the front stays
pub loop-place-preserved : goal.loop-place-preserved
loop-place-preserved c =
    let items : Vec Place Global → List Place = λ v. v.items in
    let asked = c.args.self.now in
    let missing = c.args.missing.now in
    let i = c.loop-place.place-index in
    let x = c.place-item.result in
    let so_far = c.loop-place.places.items in
    elim c.if-len-lt-MOST_ASKED.branch [
      | then-len-lt-MOST_ASKED+then-not-has+in_ok-push w ↦
          ap items w.places-is ∙ w.in_ok-push.ensures.items
          ∙ taken asked missing i x so_far c.loop-place-test.true c.place-item.is c.loop-place.invariant
          (omega (arith, w.if-len-lt-MOST_ASKED.true, c.len.ensures, c.loop-place.places.ok.0)) (sym w.has.ensures ∙ w.if-not-has.true)
      | else-len-lt-MOST_ASKED w ↦ elim w.else-len-lt-MOST_ASKED.branch [
        | else-len-lt-MOST_ASKED-via-then-len-lt-MOST_ASKED+else-not-has v ↦
            ap items w.places-is ∙ passed asked missing i x so_far c.loop-place-test.true c.place-item.is
            c.loop-place.invariant (sym v.has.ensures ∙ v.if-not-has.false)
        | else-len-lt-MOST_ASKED-via-else-len-lt-MOST_ASKED v ↦
            ap items w.places-is ∙ filled asked missing i x so_far c.loop-place-test.true c.place-item.is
            c.loop-place.invariant (omega (arith, v.if-len-lt-MOST_ASKED.false, c.len.ensures, c.loop-place.places.ok.0))
      ]
    ]
