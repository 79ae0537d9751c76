use Rattle.std.proofs.Common.{rules, ◌≡◌, Some, None, subst}
use Rattle.std.specs.FinMap as finite
use Rattle.ledger_spec.specs.Own.{own_form}
use Rattle.path_proof.specs.Sources.{Gives}
use Rattle.rotating_store.specs.Stores.{Store, nodes_of}
use Rattle.rotating_store.proofs.Filled.{from_first, in_second, in_neither}
use Rattle.rotating_store.proofs.shared.Sources.{given_at, none_at}
use Rattle.rotating_store.proofs.source.RotStoreNodeSource.fetch.Goals as goal

pub returns-in-Ok-true-clause-hash : goal.returns-in-Ok-true-clause-hash
returns-in-Ok-true-clause-hash g c = c.node_of_form.ensures.hash g.H.NodeHash.half (search rules)

-- the writable backend has the form
pub returns-in-Ok-true-clause-exact : goal.returns-in-Ok-true-clause-exact
returns-in-Ok-true-clause-exact g c = λ told.
    let half = g.H.NodeHash.half in
    let there : Some c.get_into.new.room.items ≡ finite.get (nodes_of c.args.self.now) c.args.h.now =
    subst (λ (s : Store). Some c.get_into.new.room.items ≡ finite.get (nodes_of s) c.args.h.now) c.self.view_is
    (from_first _ _ c.args.h.now _ _ (c.in-Ok-true.ensures.found told) c.in-Ok-true.field-0-test) in
    given_at half (nodes_of c.args.self.now) c.args.h.now c.get_into.new.room.items _ there
    (subst (λ form. Gives half (own_form half c.args.h.now (Some form)) c.node_of_form.result) c.deref-in-Ok-true.ensures.value
    (c.node_of_form.ensures.exact half (search rules)))

-- neither backend has one
pub returns-in-Ok-false-get_into-clause-exact : goal.returns-in-Ok-false-get_into-clause-exact
returns-in-Ok-false-get_into-clause-exact g c = λ told.
    let none : None ≡ finite.get (nodes_of c.args.self.now) c.args.h.now =
    subst (λ (s : Store). None ≡ finite.get (nodes_of s) c.args.h.now) c.self.view_is
    (in_neither _ _ c.args.h.now _ _ _ _ (c.in-Ok-false.ensures.found told) c.in-Ok-false.field-0-test
    (c.in-Ok-false-get_into.ensures.found told) c.in-Ok-false-get_into.field-0-test) in
    none_at g.H.NodeHash.half (nodes_of c.args.self.now) c.args.h.now none

pub returns-clause-hash : goal.returns-clause-hash
returns-clause-hash g c = c.node_of_form-2.ensures.hash g.H.NodeHash.half (search rules)

-- the archive has the form
pub returns-clause-exact : goal.returns-clause-exact
returns-clause-exact g c = λ told.
    let half = g.H.NodeHash.half in
    let there : Some c.get_into-2.new.room.items ≡ finite.get (nodes_of c.args.self.now) c.args.h.now =
    subst (λ (s : Store). Some c.get_into-2.new.room.items ≡ finite.get (nodes_of s) c.args.h.now) c.self.view_is
    (in_second _ _ c.args.h.now _ _ _ _ (c.in-Ok-false.ensures.found told) c.in-Ok-false.field-0-test
    (c.in-Ok-true-get_into.ensures.found told) c.in-Ok-true-get_into.field-0-test) in
    given_at half (nodes_of c.args.self.now) c.args.h.now c.get_into-2.new.room.items _ there
    (subst (λ form. Gives half (own_form half c.args.h.now (Some form)) c.node_of_form-2.result) c.deref-3.ensures.value
    (c.node_of_form-2.ensures.exact half (search rules)))
