-- The rows of `base` and `node`: what becomes of what a peer offers. A bad part charges the peer once.
use Rattle.std.specs.Prelude.{ℕ, if◌then◌else◌, List, [], Option, None, Some, Result, Ok, Err}
use Rattle.ledger_spec.specs.Maps.{hash_cmp, get_in}
use Rattle.ledger_spec.specs.declared.Kind.{Kind}
use Rattle.ledger_spec.specs.declared.replies.BaseReply.{BaseReply}
use Rattle.ledger_spec.specs.declared.replies.BaseReply.TheVariants as base
use Rattle.ledger_spec.specs.declared.replies.NodeReply.{NodeReply}
use Rattle.ledger_spec.specs.declared.replies.NodeReply.TheVariants as node
use Rattle.ledger_spec.specs.Bytes.{Bytes, Hash, Half}
use Rattle.ledger_spec.specs.Wire.{read_wire}
use Rattle.ledger_spec.specs.Offers.{Clash, node_outcome, stored_by}
use Rattle.ledger_spec.specs.Bases.{base_forms}
use Rattle.ledger_spec.specs.Acquiring.{Acquiring, is_bad, after_outcome, after_judging}
use Rattle.ledger_spec.specs.Replies.{base_given, base_stored, node_given, node_stored}
use Rattle.ledger_machine.specs.declared.commands.Reply.{Reply}
use Rattle.ledger_machine.specs.declared.commands.Reply.TheVariants as says
use Rattle.ledger_machine.specs.State.{State, form_in, with_forms, with_peers}

abbrev pub clash_reply : Clash → Reply
clash_reply c = says.Clash c.hash c.old c.new

abbrev pub base_says : Result BaseReply Clash → Reply
base_says (Ok r) = says.Base r
base_says (Err c) = clash_reply c

-- the answer, given the acquisition of the target
abbrev pub base_for : Half → State → ℕ → Hash → Bytes → Option Bytes → Option Bytes → Option Acquiring → Reply
base_for half s p t header state tx None = says.Base base.NotOpen
base_for half s p t header state tx (Some a) = base_says (base_given half (form_in s) t a.peers p header state tx)

abbrev pub base_reply : Half → State → ℕ → Hash → Bytes → Option Bytes → Option Bytes → Reply
base_reply half s p t header state tx = base_for half s p t header state tx (get_in hash_cmp s.wanted t)

-- the state after this answer: the parts are stored, and each bad one has charged the peer
abbrev pub after_base : Half → State → ℕ → Hash → Bytes → Option Bytes → Option Bytes → Reply → State
after_base half s p t header state tx (says.Base (base.Parts h a b)) =
    with_peers (with_forms half s (base_forms half (form_in s) t header state tx)) t
    (after_judging p (record { header = h; state = a; tx = b }))
after_base half s p t header state tx _ = s

-- the same of a node

abbrev pub node_says : Result NodeReply Clash → Reply
node_says (Ok r) = says.Node r
node_says (Err c) = clash_reply c

abbrev pub node_for : Half → State → ℕ → Hash → Kind → List ℕ → Bytes → Option Acquiring → Reply
node_for half s p t kind path blob None = says.Node node.NotOpen
node_for half s p t kind path blob (Some a) = node_says (node_given half (form_in s) t a.peers p kind path blob)

abbrev pub node_reply : Half → State → ℕ → Hash → Kind → List ℕ → Bytes → Reply
node_reply half s p t kind path blob = node_for half s p t kind path blob (get_in hash_cmp s.wanted t)

-- the forms that it stores
abbrev pub node_forms : Half → State → Hash → Kind → List ℕ → Bytes → List Bytes
node_forms half s t kind path blob = stored_by (read_wire half blob) (node_outcome half (form_in s) t kind path blob)

abbrev pub after_node : Half → State → ℕ → Hash → Kind → List ℕ → Bytes → Reply → State
after_node half s p t kind path blob (says.Node (node.One o)) =
    with_peers (with_forms half s (node_forms half s t kind path blob)) t (after_outcome p (is_bad o))
after_node half s p t kind path blob _ = s

-- the own forms of a base reply, and of a node: nothing is stored where no acquisition is open
abbrev pub forms_for : (Acquiring → List Bytes) → Option Acquiring → List Bytes
forms_for stored None = []
forms_for stored (Some a) = stored a

abbrev pub base_stores : Half → State → ℕ → Hash → Bytes → Option Bytes → Option Bytes → List Bytes
base_stores half s p t header state tx =
    forms_for (λ a. base_stored half (form_in s) t a.peers p header state tx) (get_in hash_cmp s.wanted t)

abbrev pub node_stores : Half → State → ℕ → Hash → Kind → List ℕ → Bytes → List Bytes
node_stores half s p t kind path blob =
    forms_for (λ a. node_stored half (form_in s) t a.peers p kind path blob) (get_in hash_cmp s.wanted t)
