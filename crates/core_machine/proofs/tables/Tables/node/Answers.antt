-- the acquisition that is lent is open, and stays so whatever it is charged
use Rattle.std.proofs.Common.{◌≡◌, ◌∙◌, [], Some, Contains, refl, sym, ap, subst, rules}
use Rattle.std.proofs.lemmas.Grind.{common_steps}
use Rattle.online_rotate.specs.Rotators.{Turning}
use Rattle.ledger_spec.specs.Maps.{ForHash, hash_cmp, get_in, set_in}
use Rattle.ledger_spec.specs.Acquiring.{Acquiring}
use Rattle.ledger_spec.specs.Own.{AreStored}
use Rattle.ledger_machine.specs.State.{State}
use Rattle.ledger_machine.specs.declared.commands.Command.{Command}
use Rattle.ledger_machine.specs.declared.commands.Command.TheVariants as command
use Rattle.ledger_machine.specs.Steps.{Does}
use Rattle.acquire_core.specs.Answers.{forms_in}
use Rattle.ledger_spec.specs.Replies as replies
use Rattle.rotating_store.specs.Stores.{Store}
use Rattle.core_machine.specs.Desks.{Desk, over, state_of, KeepsRest}
use Rattle.core_machine.specs.Wanting.{AreOpen, node_answer}
use Rattle.core_machine.proofs.Opens.{set_open, found_open, noded_open, taken_desk}
use Rattle.core_machine.proofs.Parts.{does_node, same_blob}
use Rattle.core_machine.proofs.shared.Entries.{IsOver, filed_over}
use Rattle.core_machine.proofs.Copies.{stored_backs}
use Rattle.core_machine.proofs.Turns.{keeps_taken, answers_forms, wanted_told, walked_state}
use Rattle.ledger_laws.proofs.shared.Roots.{found_key}
use Rattle.core_machine.specs.Telling.{AreWantedTold}
use Rattle.ledger_spec.specs.Bytes.{Hash}
use Rattle.std.specs.Map.{keys_of}
use Rattle.core_machine.proofs.Refusing.{node_rest}
use Rattle.core_machine.proofs.tables.Tables.node.Goals as goal

-- a charge is no tick and changes no target
pub invariant_of-self-2 : goal.invariant_of-self-2
invariant_of-self-2 g c =
    let half = g.H.NodeHash.half in
    let t = c.args.target.now in
    let wanted : ForHash Acquiring = c.self.inside.wanted.entries in
    let a : Acquiring = c.in-Some.acquire.now in (
      subst AreOpen (sym (c.get_mut.follows.holds c.take_node-taken.new.acquire).0)
          (set_open t wanted c.take_node-taken.new.acquire c.self.invariant.0
          (noded_open t a c.take_node-taken.new.acquire c.args.peer c.take_node-taken.result c.take_node-taken.ensures.after
          (found_open t wanted a c.self.invariant.0 (sym c.in-Some.ensures.value)))),
      keeps_taken g.Sh.B.Backend.tells c.self.inside.book c.self.inside.rotator c.self.inside.store c.self.invariant.1 half
          c.take_node-taken.new.rotator c.take_node-taken.new.store c.take_node-taken.ensures.rotator c.take_node-taken.ensures.idle
          (λ told.
          let st : Store = c.self.inside.store in
          let is : IsOver st c.args.self.now.state = rw (← c.self.view_is) (record { nodes = refl; born = refl; epoch = refl }) in
          answers_forms half (replies.node_given half (forms_in st) a.target a.peers c.args.peer c.args.kind c.args.id.now c.args.blob.now)
          (replies.node_stored half (forms_in st) a.target a.peers c.args.peer c.args.kind c.args.id.now c.args.blob.now) st
          c.take_node-taken.result c.take_node-taken.new.store
          (same_blob half st c.take_node-taken.new.store a c.args.peer c.args.kind c.args.id.now c.take_node-taken.result c.args.blob.now _
          c.bytes.ensures (c.take_node-taken.ensures.answer told (filed_over half st c.args.self.now.state is (c.requires.may.filed
          told)))))
          (λ told turning.
          let st : Store = c.self.inside.store in
          let is : IsOver st c.args.self.now.state = rw (← c.self.view_is) (record { nodes = refl; born = refl; epoch = refl }) in
          let own : a.target ≡ t = (found_open t wanted a c.self.invariant.0 (sym c.in-Some.ensures.value)).own in
          let all : AreWantedTold (state_of st wanted c.self.inside.views.entries c.self.inside.book c.self.inside.rotator) =
          subst (λ (d : Desk). AreWantedTold d.state) (sym c.self.view_is) (c.requires.may.told told) in
          let each : (q : Hash) → Contains (keys_of wanted) q → Contains c.self.inside.rotator.shaded q =
          wanted_told c.self.inside.book.turning _ all (sym c.self.invariant.1.step ∙ turning) in
          c.take_node-taken.ensures.walks told (filed_over half st c.args.self.now.state is (c.requires.may.filed told)) turning
          (subst (Contains c.self.inside.rotator.shaded) (sym own)
          (each t (found_key wanted t a (sym c.in-Some.ensures.value)))) (c.self.invariant.1.walks told)),
    )

pub returns : goal.returns
returns g c = record {
  -- what the acquisition answers over the store is what the machine's row answers over the state
  does = λ told actor.
      let half = g.H.NodeHash.half in
      let s : State = c.args.self.now.state in
      let t = c.args.target.now in
      let st : Store = c.self.inside.store in
      let st' : Store = c.take_node-taken.new.store in
      let a : Acquiring = c.in-Some.acquire.now in
      let a' : Acquiring = c.take_node-taken.new.acquire in
      let asks : Command = command.Node c.args.peer t c.args.kind c.args.id.now c.args.blob.now in
      let after : State = record (over st' s) { wanted = set_in hash_cmp s.wanted t a' } in
      let is : IsOver st s = rw (← c.self.view_is) (record { nodes = refl; born = refl; epoch = refl }) in
      let at : get_in hash_cmp s.wanted t ≡ Some a = rw (← c.self.view_is) (sym c.in-Some.ensures.value) in
      let own : a.target ≡ t = (found_open t c.self.inside.wanted.entries a c.self.invariant.0 (sym c.in-Some.ensures.value)).own in
      let all : AreStored half (forms_in st) = filed_over half st s is (c.requires.may.filed told) in
      let answers = same_blob half st st' a c.args.peer c.args.kind c.args.id.now c.take_node-taken.result c.args.blob.now _ c.bytes.ensures
      (c.take_node-taken.ensures.answer told all) in
      let does : Does half s actor asks (node_answer c.take_node-taken.result) [] after =
      does_node half st st' s t c.args.peer a a' is at own c.args.kind c.args.id.now c.args.blob.now c.known_half.ensures
      c.requires.may.in_range.2 actor c.take_node-taken.result c.take_node-taken.ensures.after answers in
      let same = walked_state st' _ c.self.inside.views.entries c.self.inside.book c.self.inside.rotator c.take_node-taken.new.rotator
      c.take_node-taken.ensures.rotator
      ∙ taken_desk t _ _ c.self.view_is _ st' a' (c.get_mut.follows.holds c.take_node-taken.new.acquire).0 in
      rw c.node_answer.ensures
      (subst (λ (x : State). Does half s actor asks (node_answer c.take_node-taken.result) [] x) (sym same) does);
  -- a refusal leaves it as it was
  refused = λ is.
      let s : State = c.args.self.now.state in
      let t = c.args.target.now in
      let st' : Store = c.take_node-taken.new.store in
      let a : Acquiring = c.in-Some.acquire.now in
      let a' : Acquiring = c.take_node-taken.new.acquire in
      let at : get_in hash_cmp s.wanted t ≡ Some a = rw (← c.self.view_is) (sym c.in-Some.ensures.value) in
      let epoch : st'.epoch ≡ s.epoch = rw (← c.self.view_is) c.take_node-taken.ensures.later.past.0 in
      let same = walked_state st' _ c.self.inside.views.entries c.self.inside.book c.self.inside.rotator c.take_node-taken.new.rotator
      c.take_node-taken.ensures.rotator
      ∙ taken_desk t _ _ c.self.view_is _ st' a' (c.get_mut.follows.holds c.take_node-taken.new.acquire).0 in
      subst (λ (x : State). KeepsRest s x) (sym same)
      (node_rest st' s t c.args.peer a a' c.take_node-taken.result at c.take_node-taken.ensures.after epoch
      (rw c.node_answer.ensures at is));
  -- nothing is listed, and what is written is new
  stays =
      let half = g.H.NodeHash.half in
      let t = c.args.target.now in
      let wanted : ForHash Acquiring = c.self.inside.wanted.entries in
      let a : Acquiring = c.in-Some.acquire.now in
      rw (← c.self.view_is) (record {
        later = c.take_node-taken.ensures.later.faults;
        listed = refl;
        epoch = c.take_node-taken.ensures.later.past.0;
        slices = ap (λ (x : Turning). x.slices) c.take_node-taken.ensures.rotator;
        copies = λ told. stored_backs half c.self.inside.store c.take_node-taken.new.store (
            let st : Store = c.self.inside.store in
            let is : IsOver st c.args.self.now.state = rw (← c.self.view_is) (record { nodes = refl; born = refl; epoch = refl }) in
            answers_forms half (replies.node_given half (forms_in st) a.target a.peers c.args.peer c.args.kind c.args.id.now c.args.blob.now)
            (replies.node_stored half (forms_in st) a.target a.peers c.args.peer c.args.kind c.args.id.now c.args.blob.now) st
            c.take_node-taken.result c.take_node-taken.new.store
            (same_blob half st c.take_node-taken.new.store a c.args.peer c.args.kind c.args.id.now c.take_node-taken.result c.args.blob.now _
            c.bytes.ensures (c.take_node-taken.ensures.answer told (filed_over half st c.args.self.now.state is (c.requires.may.filed told))))
            );
      });
  -- the walk alone has gone on
  told =
      ap (λ (x : Turning). x.shaded) c.take_node-taken.ensures.rotator ∙ ap (λ (d : Desk). d.state.shaded) c.self.view_is;
  fault = search (rules, common_steps);
}
