-- The lines of a script that acquires ledgers one after another, reads each, and rotates.
use Rattle.std.specs.Prelude.{ℕ, ◌+◌, ◌-◌, ◌/◌, ◌%◌, ◌==◌, ◌&&◌, nat_lt, bit_xor, Bool, if◌then◌else◌}
use Rattle.std.specs.Prelude.{List, [], ◌∷◌, ◌++◌, map, length, Some}
use Rattle.std.specs.List.{range_with_len}
use Rattle.ledger_spec.specs.declared.Kind.TheVariants.{State}
use Rattle.ledger_spec.specs.Bytes.{Bytes, Hash}
use Rattle.ledger_machine.specs.declared.commands.Command.{Command}
use Rattle.ledger_machine.specs.declared.commands.Command.TheVariants as command
use Rattle.ledger_machine.specs.declared.commands.Line.{Line}
use Rattle.swarm_gen.specs.declared.plan.Plan.{Plan}
use Rattle.swarm_gen.specs.declared.lines.Sent.{Sent}

-- a ledger as it is sent: its header, the wire forms of its two roots, and the nodes below them that are sent
pub record Ledger : Type 0 where
  pub seq : ℕ
  pub hash : Hash
  pub header : Bytes
  pub state_root : Bytes
  pub tx_root : Bytes
  pub state_nodes : List Sent
  pub tx_nodes : List Sent

-- what an actor says, and the number of the line that it waits for, or 0
pub record Said : Type 0 where
  pub actor : ℕ
  pub after : ℕ
  pub command : Command

-- lines with the numbers from n on
abbrev pub numbered : ℕ → List Said → List Line
numbered n [] = []
numbered n (s ∷ rest) = record { number = n; actor = s.actor; after = s.after; command = s.command } ∷ numbered (n + 1) rest

-- the actor says this and waits for no line
abbrev pub says : ℕ → Command → Said
says actor c = record { actor = actor; after = 0; command = c }

-- who acquires the ledger with sequence j; actor 0 rotates, and actor 1 reads
abbrev pub acquirer : Plan → ℕ → ℕ
acquirer plan j = 2 + (j - 1) % (plan.actors - 2)

-- the blob with its first byte changed
abbrev pub lie_of : Bytes → Bytes
lie_of [] = []
lie_of (b ∷ bs) = bit_xor b 1 ∷ bs

-- the lie before node n of a ledger: where there are liars and n is a multiple of 8
abbrev pub lies_for : Plan → Hash → ℕ → Sent → List Command
lies_for plan t n s =
    if nat_lt 0 plan.liars && (n % 8 == 0) then command.Node ((n / 8) % plan.liars) t s.kind s.id (lie_of s.blob) ∷ [] else []

-- the lines for node n of a ledger
abbrev pub lines_for : Plan → Hash → ℕ → Sent → List Command
lines_for plan t n s = lies_for plan t n s ++ command.Node (plan.liars + n % (8 - plan.liars)) t s.kind s.id s.blob ∷ []

-- the lines for these nodes, counted from n on
abbrev pub lines_for_all : Plan → Hash → ℕ → List Sent → List Command
lines_for_all plan t n [] = []
lines_for_all plan t n (s ∷ rest) = lines_for plan t n s ++ lines_for_all plan t (n + 1) rest

-- the commands that open a ledger's acquisition: its peers, a check, and its header with both root nodes
abbrev pub opening_of : Ledger → List Command
opening_of l =
    command.Want l.hash l.seq
    ∷ map (λ p. command.Peer p l.hash) (range_with_len 0 8)
    ++ command.Check l.hash
    ∷ command.Base 7 l.hash l.header (Some l.state_root) (Some l.tx_root)
    ∷ []

-- the commands that acquire a ledger, but for the final check; a check stands before the transaction nodes
abbrev pub commands_of : Plan → Ledger → List Command
commands_of plan l =
    opening_of l ++ lines_for_all plan l.hash 0 l.state_nodes
    ++ command.Check l.hash ∷ lines_for_all plan l.hash (length l.state_nodes) l.tx_nodes

-- the reader asks for a key of the account state
abbrev pub get_line : Hash → Said
get_line key = says 1 (command.Get 1 State key)

-- the lines of the reader, which waits for the line `last`: a view, the keys, and the view's end
abbrev pub reader_lines : List Hash → Hash → ℕ → List Said
reader_lines keys t last =
    record { actor = 1; after = last; command = command.View 1 t } ∷ map get_line keys ++ says 1 (command.Unview 1) ∷ []

-- a rotation begins behind the ledger of sequence j where j is 1 and a multiple of the interval, not 0 times it
abbrev pub is_turn : Plan → ℕ → Bool
is_turn plan j = nat_lt 1 j && ((j - 1) % plan.interval == 0)

-- the lines of the rotator behind the ledger of sequence j: `begin`, which waits for the line `last`, and `swap`
abbrev pub rotation_lines : Plan → ℕ → ℕ → List Said
rotation_lines plan j last =
    if is_turn plan j then record { actor = 0; after = last; command = command.Begin } ∷ says 0 command.Swap ∷ [] else []

-- what the acquirer of a ledger says: its commands, and the final check, which waits for the line `waits`
abbrev pub acquired : Plan → Ledger → ℕ → List Said
acquired plan l waits =
    map (says (acquirer plan l.seq)) (commands_of plan l)
    ++ record { actor = acquirer plan l.seq; after = waits; command = command.Check l.hash } ∷ []

-- the lines of one ledger, behind `said` other lines
abbrev pub ledger_lines : Plan → List Hash → Ledger → ℕ → ℕ → List Said
ledger_lines plan keys l said waits =
    let own : List Said = acquired plan l waits in
    own ++ reader_lines keys l.hash (said + length own) ++ rotation_lines plan l.seq (said + length own)

-- the line for which the next ledger's final check waits: the `begin` behind this ledger, or this ledger's final check
abbrev pub next_waits : Plan → List Hash → Ledger → ℕ → ℕ → ℕ
next_waits plan keys l said waits =
    let last : ℕ = said + length (acquired plan l waits) in
    if is_turn plan l.seq then last + length (reader_lines keys l.hash last) + 1 else last

-- the lines of ledgers, where `said` lines stand before them and the first final check waits for the line `waits`
abbrev pub lines_of : Plan → List Hash → List Ledger → ℕ → ℕ → List Said
lines_of plan keys [] said waits = []
lines_of plan keys (l ∷ ls) said waits =
    let own : List Said = ledger_lines plan keys l said waits in
    own ++ lines_of plan keys ls (said + length own) (next_waits plan keys l said waits)
