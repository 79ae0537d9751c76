-- What a ledger of a plan changes.
use Rattle.std.specs.Prelude.{◌≡◌, ◌≢◌, ℕ, List, [], map}
use Rattle.ledger_spec.specs.declared.Kind.TheVariants.{State, Tx}
use Rattle.ledger_spec.specs.Bytes.{Half}
use Rattle.swarm_gen.specs.declared.plan.Plan.{Plan}
use Rattle.map_changes.specs.declared.tracked.PlacedNode.{PlacedNode}
use Rattle.map_changes.specs.declared.tracked.Root.{Root}
use Rattle.map_changes.specs.Given.{given, IsRoot}
use Rattle.swarm_gen.specs.Ledgers.{state_of, txs_of, state_nodes, tx_nodes}
use Rattle.map_changes.specs.Placed.{changed}
use Rattle.swarm_gen.specs.Swarm.{nodes_before}

-- neither of its maps is empty, these are their roots, and these the nodes that the ledger before hasn't
pub record IsChange (half : Half) (plan : Plan) (seq : ℕ) (state tx : Root) (state_sent tx_sent : List PlacedNode) : Type 0 where
  pub some_state : state_of half plan seq ≢ []
  pub some_tx : txs_of half plan seq ≢ []
  pub state_root : IsRoot half State (state_of half plan seq) state
  pub tx_root : IsRoot half Tx (txs_of half plan seq) tx
  pub state_changes : state_sent ≡ map (given half) (changed (nodes_before half plan seq) (state_nodes half plan seq))
  pub tx_changes : tx_sent ≡ map (given half) (changed [] (tx_nodes half plan seq))
