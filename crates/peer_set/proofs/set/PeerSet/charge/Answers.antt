use Rattle.std.proofs.Common.{◌≡◌, ◌==◌, true}
use Rattle.std.specs.List.{list_any}
use Rattle.peer_set.proofs.Charging.{dropped, kept}
use Rattle.peer_set.proofs.set.PeerSet.charge.Goals as goal

-- the peer has the charges that drop it and is taken out of the turn, and the other peers are as they were
pub invariant_of-self : goal.invariant_of-self
invariant_of-self c =
    let held : list_any (λ r. r == c.args.peer) c.self.inside.turn.items ≡ true = rw (← c.self.view_is) at c.requires in
    record {
      present = rw (c.drop_from.ensures, c.one_more-charges.ensures.after)
          (dropped c.self.inside.turn.items c.self.inside.charges.entries c.args.peer c.one_more-charges.result
          c.self.invariant.present held c.if-charges-eq-MOST_CHARGES.true);
    }

-- with one charge more the peer still has fewer than drop it, so it is rightly present, and the others are as they were
pub invariant_of-self-else-charges-eq-MOST_CHARGES : goal.invariant_of-self-else-charges-eq-MOST_CHARGES
invariant_of-self-else-charges-eq-MOST_CHARGES c =
    let held : list_any (λ r. r == c.args.peer) c.self.inside.turn.items ≡ true = rw (← c.self.view_is) at c.requires in
    record {
      present = rw c.one_more-charges.ensures.after
          (kept c.self.inside.turn.items c.self.inside.charges.entries c.args.peer c.one_more-charges.result
          c.self.invariant.present held c.one_more-charges.ensures.answer c.if-charges-eq-MOST_CHARGES.false);
    }
