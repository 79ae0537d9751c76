-- Where a script stands behind some of its ledgers.
use Rattle.std.specs.Prelude.{◌≡◌, ◌≤◌, ℕ, ◌+◌, ◌-◌, List, [], ◌∷◌, ◌++◌, map, length, Bool, true, false, IsTrue}
use Rattle.std.specs.List.{range_with_len, All}
use Rattle.ledger_spec.specs.declared.Kind.{Kind}
use Rattle.ledger_spec.specs.declared.Kind.TheVariants.{State}
use Rattle.ledger_spec.specs.Bytes.{Hash, Half, Items, is_nonzero}
use Rattle.ledger_machine.specs.declared.commands.Line.{Line}
use Rattle.swarm_gen.specs.declared.ledgers.Behind.{Behind}
use Rattle.swarm_gen.specs.declared.next.Next.{Next}
use Rattle.swarm_gen.specs.declared.plan.Plan.{Plan}
use Rattle.map_changes.specs.Tracking.{Tracking, leaves_in, versions_in}
use Rattle.swarm_gen.specs.Plans.{IsPlan}
use Rattle.swarm_gen.specs.Serving.{IsOfLedger}
use Rattle.swarm_gen.specs.Ledgers.{state_of, state_nodes, are_nonzero, is_made, hash_of_ledger, front}
use Rattle.swarm_gen.specs.Script.{numbered, ledger_lines, lines_of, next_waits}
use Rattle.swarm_gen.specs.Adding.{Adds, ledger_from}
use Rattle.swarm_gen.specs.Swarm.{ledger_of, nodes_before, read_keys, swarm}

-- the lines of a ledger were added, or none where it isn't made
abbrev pub IsAdded : Half → Plan → List Hash → ℕ → Bool → List Line → List Line → ℕ → ℕ → Type 0
IsAdded half plan keys seq true before after waits next =
    Adds before after (ledger_lines plan keys (ledger_of half plan seq) (length before) waits)
    × (next ≡ next_waits plan keys (ledger_of half plan seq) (length before) waits)
IsAdded half plan keys seq false before after waits next = after ≡ before

-- the account state is that of the ledger, and its versions are those of the ledgers before it, behind the empty map
pub record IsState (half : Half) (plan : Plan) (seq : ℕ) (kind : Kind) (items : Items) (versions : List Items) : Type 0 where
  pub leaves : kind ≡ State
  pub is_state : items ≡ state_of half plan seq
  pub before : versions ≡ [] ∷ map (state_of half plan) (range_with_len 1 (seq - 1))

-- the versions are the account states of so many ledgers, behind the empty map
pub record AreStates (half : Half) (plan : Plan) (count : ℕ) (kind : Kind) (versions : List Items) : Type 0 where
  pub leaves : kind ≡ State
  pub states : versions ≡ [] ∷ map (state_of half plan) (range_with_len 1 count)

-- only the items of the map are others, and the kind of its leaves and its versions are the same
pub record KeepsVersions (old new : Tracking) : Type 0 where
  pub leaves : leaves_in new ≡ leaves_in old
  pub versions : versions_in new ≡ versions_in old

-- the account states of all ledgers are there, and the ledger of a sequence is one of them
pub record IsAmong (half : Half) (p : Plan) (j : ℕ) (kind : Kind) (versions : List Items) : Type 0 where
  pub plan : IsPlan p
  pub seq : (1 ≤ j) × (j ≤ p.ledgers)
  pub states : AreStates half p p.ledgers kind versions

-- the ledger of a sequence is the next of the plan: none of the nodes of the account state before it has the zero hash,
-- and the hash before is that of the ledger before
pub record IsDue (half : Half) (p : Plan) (j : ℕ) (before : Hash) (kind : Kind) (versions : List Items) : Type 0 where
  pub among : IsAmong half p j kind versions
  pub nonzero : are_nonzero half (nodes_before half p j) ≡ true
  pub parent : before ≡ hash_of_ledger half p (j - 1)

-- the ledger is made, and this is it as it is sent: neither its hash nor that of a node is zero, and its nodes are of its maps
pub record IsNext (half : Half) (plan : Plan) (seq : ℕ) (next : Next) : Type 0 where
  pub made : is_made half plan seq ≡ true
  pub ledger : ledger_from next.head next.state_nodes.items next.tx_nodes.items ≡ ledger_of half plan seq
  pub target : IsTrue (is_nonzero next.head.hash)
  pub state : All IsOfLedger next.state_nodes.items
  pub tx : All IsOfLedger next.tx_nodes.items

-- a ledger's lines were added, or none where it isn't made; where it is made, none of its account state's nodes has the zero hash, and its
-- hash is the next one's parent; and the next one's final check waits for one of the lines
pub record IsBehind (half : Half) (plan : Plan) (keys : List Hash) (seq : ℕ) (more : Bool) (before after : List Line) (old new : Behind)
    : Type 0 where
  pub earlier : new.waits ≤ length after
  pub made : more ≡ is_made half plan seq
  pub lines : IsAdded half plan keys seq more before after old.waits new.waits
  pub parent : more ≡ true → new.parent ≡ hash_of_ledger half plan seq
  pub nonzero : more ≡ true → are_nonzero half (state_nodes half plan seq) ≡ true

-- the whole script is these lines, and those of the ledgers behind ledger j
pub record IsLeft (half : Half) (plan : Plan) (j : ℕ) (lines : List Line) (waits : ℕ) : Type 0 where
  pub whole : swarm half plan ≡ lines
      ++ numbered (length lines + 1) (lines_of plan (read_keys half plan)
      (map (ledger_of half plan) (front (is_made half plan) (range_with_len (j + 1) (plan.ledgers - j)))) (length lines) waits)
