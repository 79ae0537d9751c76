-- all that is stored are forms under their own hashes, so the store gives what is held
use Rattle.std.proofs.Common.{rules}
use Rattle.std.proofs.Common.{refl, subst}
use Rattle.ledger_spec.specs.Bytes.{Lookup}
use Rattle.path_proof.specs.Sources.{Gives}
use Rattle.rotating_store.specs.Sources.{own_nodes}
use Rattle.rotating_store.specs.Stores.{nodes_of}
use Rattle.std.specs.FinMap as finite
use Rattle.core_machine.proofs.shared.Entries.{IsOver}
use Rattle.core_machine.proofs.Paging.{gives_all}
use Rattle.core_machine.proofs.Viewing.{filed_by}
use Rattle.core_machine.proofs.tables.Tables.node_at.Goals as goal

-- all that the store holds is forms under their own hashes
pub new-filed-requires-clause-filed : goal.new-filed-requires-clause-filed
new-filed-requires-clause-filed g c κs within =
    let is : IsOver c.self.inside.store c.args.self.now.state =
    rw (← c.self.view_is) (record { nodes = refl; born = refl; epoch = refl }) in
    filed_by g.H.NodeHash.half g.Sh.B.Backend.tells c.args.self.now.state c.self.inside.store is c.requires

pub returns : goal.returns
returns g c = record {
  node = record {
    hash = c.fetched.ensures.node.hash;
    exact = λ told.
        let is : IsOver c.self.inside.store c.args.self.now.state =
        rw (← c.self.view_is) (record { nodes = refl; born = refl; epoch = refl }) in
        let given : Gives g.H.NodeHash.half (finite.get (own_nodes g.H.NodeHash.half (nodes_of c.self.inside.store)) c.args.h.now)
        c.fetched.result = rw (← c.new-filed.ensures.same) (c.fetched.ensures.node.exact told) in
        subst (λ (n : Lookup). Gives g.H.NodeHash.half (n c.args.h.now) c.fetched.result)
        (gives_all g.H.NodeHash.half c.self.inside.store c.args.self.now.state is (c.requires told)) given;
  };
  reads = search rules;
  fault = search rules;
}
