use Rattle.std.proofs.Common.{◌≡◌, ◌∙◌, false, List, sym, subst}
use Rattle.std.specs.List.{All, list_any}
use Rattle.ledger_spec.specs.declared.Place.{Place}
use Rattle.ledger_spec.specs.Peers.{same_place}
use Rattle.peer_set.proofs.Unasked.{none_asked}
use Rattle.peer_set.proofs.set.PeerSet.ask.Goals as goal

pub note-requires : goal.note-requires
note-requires c =
    let A : List Place → Type 0 = λ ps. All (λ p. list_any (same_place p) c.self.inside.asked ≡ false) ps in
    subst A (sym (c.deref.ensures.value ∙ c.in_ok-places.ensures)) (none_asked c.self.inside.asked c.args.missing.now 128)
