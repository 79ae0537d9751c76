-- The state of the store machine: what is stored, and the tables of what is listed, wanted, viewed and edited.
use Rattle.std.specs.Prelude.{ℕ, is_some, if◌then◌else◌, List, [], ◌∷◌, ◌++◌, map, Option, None, Some}
use Rattle.std.specs.Option.{option_map_or}
use Rattle.std.specs.Map.{keys_of, values_of}
use Rattle.ledger_spec.specs.Maps.{ForHash, ForActor, SetOf, hashes_in, hash_cmp, get_in, set_in, remove_in, insert_in}
use Rattle.ledger_spec.specs.Bytes.{Bytes, Hash, Half, Lookup, Nodes, Items}
use Rattle.ledger_spec.specs.Header.{seq_of}
use Rattle.ledger_spec.specs.Spots.{header_in}
use Rattle.std.specs.FinMap as finite
use Rattle.std.specs.FinSet as set
use Rattle.ledger_spec.specs.Reach.{Reach}
use Rattle.ledger_spec.specs.Retaining.{last_or, due_at}
use Rattle.ledger_spec.specs.Acquiring.{Acquiring}
use Rattle.ledger_spec.specs.Peers.{Peers}

-- an open session: the ledger that it edits, its account state and its transactions
pub record Session : Type 0 where
  pub base : Hash
  pub accounts : Items
  pub txs : Items

-- The state. `nodes` are the stored forms and `born` the hashes that were written in the present epoch, as values that do not
-- tell how they are kept; the tables are entries whose keys rise. `wanted` has the open acquisitions. `listed` has the sequence of each
-- ledger that was reported complete or closed here, `floor` the least sequence that is listed, `last` the sequence of the last rotation.
-- `turning` is the sequence of the rotation under way, and `shaded` what it was told to keep.
pub record State : Type 0 where
  pub nodes : Nodes
  pub born : SetOf
  pub epoch : ℕ
  pub listed : ForHash ℕ
  pub wanted : ForHash Acquiring
  pub views : ForActor Hash
  pub sessions : ForActor Session
  pub floor : ℕ
  pub last : Option ℕ
  pub interval : ℕ
  pub turning : Option ℕ
  pub shaded : List Hash

-- the stored form of a hash
abbrev pub form_in : State → Lookup
form_in s = finite.get s.nodes

-- the ledgers that are edited
abbrev pub bases : State → List Hash
bases s = map (λ x. x.base) (values_of s.sessions)

-- the retained ledgers: listed, or pinned by a view or a session
abbrev pub retained : State → List Hash
retained s = keys_of s.listed ++ values_of s.views ++ bases s

-- what a rotation may not lose: the retained ledgers and the open targets
abbrev pub roots : State → List Hash
roots s = retained s ++ keys_of s.wanted

-- what the rotation under way keeps
abbrev pub Kept : State → Hash → Type 0
Kept s h = Reach (form_in s) s.shaded h

-- the sequence at which a rotation is due
abbrev pub due : State → Option ℕ
due s = due_at s.listed s.last s.interval

-- with a form under its hash; a form that is there is not written again
abbrev pub with_form : Half → State → Bytes → State
with_form half s form =
    if is_some (form_in s (half form)) then s
    else record s { nodes = finite.insert s.nodes (half form) form; born = set.insert s.born (half form) }

abbrev pub with_forms : Half → State → List Bytes → State
with_forms half s [] = s
with_forms half s (form ∷ forms) = with_forms half (with_form half s form) forms

-- the acquisitions, that of the target with a change
abbrev pub changed : ForHash Acquiring → Hash → (Acquiring → Acquiring) → ForHash Acquiring
changed wanted t change = option_map_or (λ a. set_in hash_cmp wanted t (change a)) (get_in hash_cmp wanted t) wanted

abbrev pub with_wanted : State → Hash → (Acquiring → Acquiring) → State
with_wanted s t change = record s { wanted = changed s.wanted t change }

-- its peers change
abbrev pub with_peers : State → Hash → (Peers → Peers) → State
with_peers s t change = with_wanted s t (λ a. record a { peers = change a.peers })

-- the acquisition has ended
abbrev pub ended : State → Hash → State
ended s t = record s { wanted = remove_in hash_cmp s.wanted t }

-- the ledger is listed; `last`, where it was unset, is its sequence
abbrev pub listed_with : State → Hash → ℕ → State
listed_with s t seq = record s { listed = insert_in hash_cmp s.listed t seq; last = Some (last_or s.last seq) }

-- with these sessions
abbrev pub with_sessions : State → ForActor Session → State
with_sessions s sessions = record s { sessions = sessions }

-- the sequence of the header that is stored under the target
abbrev pub stored_seq : State → Hash → ℕ
stored_seq s t = option_map_or seq_of (header_in (form_in s) t) 0

-- the opening: nothing but the records, all of them born in epoch 0
abbrev pub opening : Nodes → ℕ → State
opening records interval = record {
  nodes = records;
  born = hashes_in records;
  epoch = 0;
  listed = [];
  wanted = [];
  views = [];
  sessions = [];
  floor = 0;
  last = None;
  interval = interval;
  turning = None;
  shaded = [];
}
