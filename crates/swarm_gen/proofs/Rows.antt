-- A worked script, computed: the plan with number 3, two ledgers of one item, one liar, three actors and interval 1, under the byte sum.
use Rattle.std.specs.Prelude.{◌≡◌, ℕ, [], ◌∷◌, ◌++◌, replicate, Some, refl}
use Rattle.half_hash.specs.Half.{byte_sum_half}
use Rattle.ledger_spec.specs.declared.Kind.TheVariants.{State, Tx}
use Rattle.ledger_spec.specs.Bytes.{Hash, Items}
use Rattle.ledger_spec.specs.Forms.{leaf}
use Rattle.ledger_spec.specs.Tree.{form_of_part, forms_of_part, form_at}
use Rattle.ledger_spec.specs.Header.{header_bytes}
use Rattle.ledger_machine.specs.declared.commands.Command.{Command}
use Rattle.ledger_machine.specs.declared.commands.Command.TheVariants as command
use Rattle.ledger_machine.specs.declared.commands.Line.{Line}
use Rattle.swarm_gen.specs.declared.plan.Plan.{Plan}
use Rattle.map_changes.specs.Placed.{nodes_of_part, nodes_of, changed}
use Rattle.swarm_gen.specs.Ledgers.{ledgers_of, hash_of_ledger, header_over, key, eight}
use Rattle.swarm_gen.specs.Swarm.{swarm}

-- xx and 31 zero bytes
abbrev at : ℕ → Hash
at x = x ∷ replicate 31 0

abbrev line : ℕ → ℕ → ℕ → Command → Line
line number actor after c = record { number = number; actor = actor; after = after; command = c }

abbrev plan : Plan
plan = record { number = 3; ledgers = 2; items = 1; liars = 1; actors = 3; interval = 1 }

-- data that change under one hash: the leaf is another one, the nodes above it have the same form
abbrev before : Items
before = (at 0x10, 1 ∷ 2 ∷ []) ∷ (at 0x11, 5 ∷ []) ∷ []

abbrev after : Items
after = (at 0x10, 2 ∷ 1 ∷ []) ∷ (at 0x11, 5 ∷ []) ∷ []

collision : changed (nodes_of byte_sum_half State before) (nodes_of byte_sum_half State after)
    ≡ record { path = 1 ∷ 0 ∷ []; node = leaf State (at 0x10) (2 ∷ 1 ∷ []) } ∷ []
unfolding nodes_of_part form_of_part
collision = refl

both_made : ledgers_of byte_sum_half plan ≡ 1 ∷ 2 ∷ []
unfolding nodes_of_part form_of_part forms_of_part form_at header_bytes header_over key eight
both_made = refl

hash_of_2 : hash_of_ledger byte_sum_half plan 2 ≡ at 0x89
unfolding form_of_part form_at header_bytes header_over key eight
hash_of_2 = refl

script : swarm byte_sum_half plan ≡
    line 1 2 0 (command.Want (at 154) 1) ∷
    line 2 2 0 (command.Peer 0 (at 154)) ∷
    line 3 2 0 (command.Peer 1 (at 154)) ∷
    line 4 2 0 (command.Peer 2 (at 154)) ∷
    line 5 2 0 (command.Peer 3 (at 154)) ∷
    line 6 2 0 (command.Peer 4 (at 154)) ∷
    line 7 2 0 (command.Peer 5 (at 154)) ∷
    line 8 2 0 (command.Peer 6 (at 154)) ∷
    line 9 2 0 (command.Peer 7 (at 154)) ∷
    line 10 2 0 (command.Check (at 154)) ∷
    line 11 2 0 (command.Base 7 (at 154) ((0 ∷ 0 ∷ 0 ∷ 1 ∷ 1 ∷ 99 ∷ 69 ∷ 120 ∷ 93 ∷ 138 ∷ []) ++ replicate 34 0 ++ (184 ∷ [])
    ++ replicate 31 0 ++ (208 ∷ []) ++ replicate 38 0 ++ (10 ∷ 10 ∷ 0 ∷ [])) (Some ((236 ∷ []) ++ replicate 32 0 ++ (3 ∷ [])))
    (Some ((212 ∷ []) ++ replicate 31 0 ++ (1 ∷ 3 ∷ [])))) ∷
    line 12 2 0 (command.Node 0 (at 154) State ((0 ∷ [])) ((1 ∷ []) ++ replicate 6 0 ++ (1 ∷ 4 ∷ []) ++ replicate 31 0 ++ (1 ∷ []))) ∷
    line 13 2 0 (command.Node 1 (at 154) State ((0 ∷ [])) (replicate 7 0 ++ (1 ∷ 4 ∷ []) ++ replicate 31 0 ++ (1 ∷ []))) ∷
    line 14 2 0 (command.Check (at 154)) ∷
    line 15 2 0 (command.Node 2 (at 154) Tx ((1 ∷ [])) ((249 ∷ []) ++ replicate 31 0 ++ (4 ∷ 251 ∷ []) ++ replicate 31 0 ++ (5 ∷ 253 ∷ [])
    ++ replicate 31 0 ++ (6 ∷ 255 ∷ []) ++ replicate 31 0 ++ (7 ∷ 3 ∷ []))) ∷
    line 16 2 0 (command.Node 3 (at 154) Tx ((1 ∷ 4 ∷ [])) (replicate 8 0 ++ (20 ∷ []) ++ replicate 31 0 ++ (4 ∷ []))) ∷
    line 17 2 0 (command.Node 4 (at 154) Tx ((1 ∷ 5 ∷ [])) (replicate 7 0 ++ (1 ∷ 21 ∷ []) ++ replicate 31 0 ++ (4 ∷ []))) ∷
    line 18 2 0 (command.Node 5 (at 154) Tx ((1 ∷ 6 ∷ [])) (replicate 7 0 ++ (2 ∷ 22 ∷ []) ++ replicate 31 0 ++ (4 ∷ []))) ∷
    line 19 2 0 (command.Node 6 (at 154) Tx ((1 ∷ 7 ∷ [])) (replicate 7 0 ++ (3 ∷ 23 ∷ []) ++ replicate 31 0 ++ (4 ∷ []))) ∷
    line 20 2 0 (command.Check (at 154)) ∷
    line 21 1 20 (command.View 1 (at 154)) ∷
    line 22 1 0 (command.Get 1 State (at 4)) ∷
    line 23 1 0 (command.Unview 1) ∷
    line 24 2 0 (command.Want (at 137) 2) ∷
    line 25 2 0 (command.Peer 0 (at 137)) ∷
    line 26 2 0 (command.Peer 1 (at 137)) ∷
    line 27 2 0 (command.Peer 2 (at 137)) ∷
    line 28 2 0 (command.Peer 3 (at 137)) ∷
    line 29 2 0 (command.Peer 4 (at 137)) ∷
    line 30 2 0 (command.Peer 5 (at 137)) ∷
    line 31 2 0 (command.Peer 6 (at 137)) ∷
    line 32 2 0 (command.Peer 7 (at 137)) ∷
    line 33 2 0 (command.Check (at 137)) ∷
    line 34 2 0 (command.Base 7 (at 137) ((0 ∷ 0 ∷ 0 ∷ 2 ∷ 1 ∷ 99 ∷ 69 ∷ 120 ∷ 93 ∷ 138 ∷ 0 ∷ 0 ∷ 154 ∷ []) ++ replicate 31 0
    ++ (248 ∷ []) ++ replicate 31 0 ++ (208 ∷ []) ++ replicate 34 0 ++ (10 ∷ 0 ∷ 0 ∷ 0 ∷ 20 ∷ 10 ∷ 0 ∷ []))
    (Some ((236 ∷ []) ++ replicate 32 0 ++ (3 ∷ []))) (Some ((20 ∷ []) ++ replicate 31 0 ++ (2 ∷ 3 ∷ [])))) ∷
    line 35 2 0 (command.Check (at 137)) ∷
    line 36 2 0 (command.Node 0 (at 137) Tx ((2 ∷ [])) ((8 ∷ []) ++ replicate 31 0 ++ (4 ∷ 11 ∷ []) ++ replicate 31 0 ++ (5 ∷ 13 ∷ [])
    ++ replicate 31 0 ++ (6 ∷ 15 ∷ []) ++ replicate 31 0 ++ (7 ∷ 3 ∷ []))) ∷
    line 37 2 0 (command.Node 1 (at 137) Tx ((2 ∷ [])) ((9 ∷ []) ++ replicate 31 0 ++ (4 ∷ 11 ∷ []) ++ replicate 31 0 ++ (5 ∷ 13 ∷ [])
    ++ replicate 31 0 ++ (6 ∷ 15 ∷ []) ++ replicate 31 0 ++ (7 ∷ 3 ∷ []))) ∷
    line 38 2 0 (command.Node 2 (at 137) Tx ((2 ∷ 4 ∷ [])) (replicate 8 0 ++ (36 ∷ []) ++ replicate 31 0 ++ (4 ∷ []))) ∷
    line 39 2 0 (command.Node 3 (at 137) Tx ((2 ∷ 5 ∷ [])) (replicate 7 0 ++ (1 ∷ 37 ∷ []) ++ replicate 31 0 ++ (4 ∷ []))) ∷
    line 40 2 0 (command.Node 4 (at 137) Tx ((2 ∷ 6 ∷ [])) (replicate 7 0 ++ (2 ∷ 38 ∷ []) ++ replicate 31 0 ++ (4 ∷ []))) ∷
    line 41 2 0 (command.Node 5 (at 137) Tx ((2 ∷ 7 ∷ [])) (replicate 7 0 ++ (3 ∷ 39 ∷ []) ++ replicate 31 0 ++ (4 ∷ []))) ∷
    line 42 2 20 (command.Check (at 137)) ∷
    line 43 1 42 (command.View 1 (at 137)) ∷
    line 44 1 0 (command.Get 1 State (at 4)) ∷
    line 45 1 0 (command.Unview 1) ∷
    line 46 0 42 (command.Begin) ∷
    line 47 0 0 (command.Swap) ∷
    []
unfolding nodes_of_part form_of_part forms_of_part form_at header_bytes header_over key eight
script = refl
