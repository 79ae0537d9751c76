-- A row of the machine, tried on a state whose stored forms are given as a list of entries.
use Rattle.std.specs.Prelude.{◌≡◌, ℕ, ◌==◌, nat_le, not, length, Bool, true, false, is_some, if◌then◌else◌, List, []}
use Rattle.std.specs.Prelude.{◌∷◌, refl, Option, Some}
use Rattle.std.specs.FinMap as finite
use Rattle.std.specs.FinMap.{find as find_by}
use Rattle.std.specs.FinSet as set
use Rattle.std.proofs.Common.{ap, sym, ◌∙◌, subst}
use Rattle.std.specs.Cmp.Lexicographic.{nat_list_cmp_total}
use Rattle.half_hash.specs.Half.{byte_sum_half}
use Rattle.ledger_spec.specs.Maps.{hash_cmp, numbered_cmp, get_in, has_in, insert_in}
use Rattle.ledger_spec.specs.Bytes.{Bytes, Hash, Half, Lookup, zero_hash}
use Rattle.ledger_machine.specs.declared.commands.Command.{Command}
use Rattle.ledger_machine.specs.declared.commands.Reply.{Reply}
use Rattle.ledger_machine.specs.State.{State, Session, with_form, with_forms}
use Rattle.ledger_machine.specs.Rotation.{Carries, WhileTurning}
use Rattle.ledger_machine.specs.Steps.{Step, Outcomes, UsesNodes, own_hashes, Gives, IsAfter, Gets, Pages}
use Rattle.ledger_machine.specs.Sessions.{edit_reply, after_edit}
use Rattle.ledger_spec.specs.declared.Kind.{Kind}
use Rattle.ledger_machine.specs.Reading.{view_root, IsRead, IsPage}
use Rattle.ledger_machine.specs.Views.{is_retained}
use Rattle.ledger_machine.specs.declared.commands.EditReply.{EditReply}
use Rattle.ledger_machine.specs.declared.commands.EditReply.TheVariants as edits
use Rattle.ledger_machine.specs.declared.commands.Reply.TheVariants as says
use Rattle.ledger_spec.specs.declared.Kind.TheVariants as kinds
use Rattle.ledger_spec.specs.Findings.{items_of}
use Rattle.ledger_spec.specs.Header.{seq_of}
use Rattle.ledger_spec.specs.Spots.{header_in, header_root}
use Rattle.std.specs.Option.{option_map, option_map_or, option_and_then}
use Rattle.ledger_spec.specs.Forms.{Held}
use Rattle.ledger_machine.proofs.RowValues.{entries_of, hashes_of}

abbrev pub Entries : Type 0
Entries = List (Hash × Bytes)

-- what is found in a list of entries
abbrev pub in_list : Entries → Lookup
in_list es h = find_by hash_cmp h es

-- a state with these entries stored, and born in this epoch
abbrev pub over : State → Entries → List Hash → State
over s es born = record s { nodes = finite.from_entries es; born = set.from_list born }

-- a state with these nodes and headers stored, all born in this epoch
abbrev pub store : State → List Held → State
store s ns = over s (entries_of ns) (hashes_of ns)

-- the walk of a map of entries is that of its look-up, which computes
pub lookup_of : (es : Entries) → finite.get (finite.from_entries {R = hash_cmp} es) ≡ in_list es
lookup_of es = λ i h. finite.get-from_entries nat_list_cmp_total es h i

-- actor 0's command leads from a state by this reply to this state
abbrev pub Row : State → Command → Reply → State → Type 0
Row s c reply s' = Step byte_sum_half s 0 c reply [] s'

-- a step while no rotation is under way, before or after it
pub step : {s s' : State} {c : Command} {reply : Reply} → Outcomes byte_sum_half s 0 c reply [] s' → UsesNodes reply []
    → WhileTurning s.turning s'.turning (Carries s s' (own_hashes byte_sum_half s 0 c reply)) → Row s c reply s'
step outcome uses carries = record { outcome = outcome; uses = uses; carries = carries }

-- a state that is the one said is it but for what a rotation keeps
pub after_by : {t s' : State} → t ≡ s' → IsAfter t s'
after_by {t = t} {s' = s'} e = sym (ap {A = State} {B = State} (λ u. record u { shaded = s'.shaded }) e)

pub gives : {r reply : Reply} {t s' : State} → r ≡ reply → t ≡ s' → Gives r t reply s'
gives says is = record { says = sym says; after = after_by is }

-- with the form, where its hash isn't found
abbrev pub with_entry : Half → Entries → Bytes → Entries
with_entry half es form = if is_some (in_list es (half form)) then es else (half form, form) ∷ es

abbrev pub with_birth : Half → Entries → List Hash → Bytes → List Hash
with_birth half es born form = if is_some (in_list es (half form)) then born else half form ∷ born

module _ (half : Half) (s : State) where
  pub with_form_over : (es : Entries) (born : List Hash) (form : Bytes)
      → with_form half (over s es born) form ≡ over s (with_entry half es form) (with_birth half es born form)
  with_form_over es born form =
      ap (λ (b : Bool). if b then over s es born else over s ((half form, form) ∷ es) (half form ∷ born))
      (ap (λ (n : Lookup). is_some (n (half form))) (lookup_of es))
      ∙ by (is_some (in_list es (half form)))
    where
      by : (b : Bool) → (if b then over s es born else over s ((half form, form) ∷ es) (half form ∷ born)) ≡ over s
          (if b then es else (half form, form) ∷ es) (if b then born else half form ∷ born)
      by true = refl
      by false = refl

  abbrev pub with_entries : Entries → List Bytes → Entries
  with_entries es [] = es
  with_entries es (form ∷ forms) = with_entries (with_entry half es form) forms

  abbrev pub with_births : Entries → List Hash → List Bytes → List Hash
  with_births es born [] = born
  with_births es born (form ∷ forms) = with_births (with_entry half es form) (with_birth half es born form) forms

  pub with_forms_over : (es : Entries) (born : List Hash) (forms : List Bytes)
      → with_forms half (over s es born) forms ≡ over s (with_entries es forms) (with_births es born forms)
  with_forms_over es born [] = refl
  with_forms_over es born (form ∷ forms) =
      ap (λ t. with_forms half t forms) (with_form_over es born form)
      ∙ with_forms_over (with_entry half es form) (with_birth half es born form) forms

-- what is read of the stored forms is read of the list
pub read_off : {X : Type 0} (f : Lookup → X) (es : Entries) (x : X) → f (in_list es) ≡ x
    → f (finite.get (finite.from_entries {R = hash_cmp} es)) ≡ x
read_off f es x is = ap f (lookup_of es) ∙ is

-- the reply, and the state after that reply
pub gives_after : {X : Type 0} (say : X → Reply) (after : X → State) (r x : X) (s' : State) → r ≡ x → after x ≡ s'
    → Gives (say r) (after r) (say x) s'
gives_after say after r x s' says is = gives (ap say says) (ap after says ∙ is)

-- a session on the ledger, as a lookup shows it
abbrev pub session_in : Hash → Lookup → Session
session_in t nodes =
    let root = option_map_or (header_root kinds.State) (header_in nodes t) zero_hash in
    record { base = t; accounts = items_of byte_sum_half nodes kinds.State root; txs = [] }

abbrev pub edit_by : State → ℕ × ℕ → Hash → Lookup → EditReply
edit_by s x t nodes =
    if has_in numbered_cmp s.sessions x then edits.InUse
    else if not (is_retained s t) then edits.NotRetained
    else if nat_le 4294967295 (option_map_or seq_of (header_in nodes t) 0) then edits.LastSeq
    else if length s.sessions == 64 then edits.TooMany
    else edits.Fine

-- an edit answers so, and the state after that answer is this one
pub edit_says : (s : State) (es : Entries) (born : List Hash) (x : ℕ × ℕ) (t : Hash) (r : EditReply) (s' : State)
    → edit_by s x t (in_list es) ≡ r → after_edit byte_sum_half (over s es born) x t r ≡ s'
    → Gives (says.Edit (edit_reply (over s es born) x t)) (after_edit byte_sum_half (over s es born) x t
    (edit_reply (over s es born) x t)) (says.Edit r) s'
edit_says s es born x t r s' is after = gives_after says.Edit (after_edit byte_sum_half (over s es born) x t) _ r s'
    (read_off (edit_by s x t) es r is) after

-- an edit opens this session
pub edit_gives : (s : State) (es : Entries) (born : List Hash) (x : ℕ × ℕ) (t : Hash) (e : Session)
    → edit_by s x t (in_list es) ≡ edits.Fine → session_in t (in_list es) ≡ e
    → Gives (says.Edit (edit_reply (over s es born) x t)) (after_edit byte_sum_half (over s es born) x t
    (edit_reply (over s es born) x t)) (says.Edit edits.Fine)
    (over (record s { sessions = insert_in numbered_cmp s.sessions x e }) es born)
edit_gives s es born x t e fine is =
    edit_says s es born x t edits.Fine _ fine
    (ap (λ (nodes : Lookup). over (record s { sessions = insert_in numbered_cmp s.sessions x (session_in t nodes) }) es born)
    (lookup_of es)
    ∙ ap (λ (f : Session). over (record s { sessions = insert_in numbered_cmp s.sessions x f }) es born) is)

-- the root of an open view's map, as a lookup shows it
abbrev pub root_in : State → Kind → ℕ × ℕ → Lookup → Option Hash
root_in s kind v nodes = option_and_then (λ t. option_map (header_root kind) (header_in nodes t)) (get_in numbered_cmp s.views v)

-- a read from this root
pub gets_from : (s : State) (es : Entries) (born : List Hash) (kind : Kind) (key : Hash) (v : ℕ × ℕ) (root : Hash) (reply : Reply)
    (used : List Held)
    → root_in s kind v (in_list es) ≡ Some root → IsRead byte_sum_half kind key root reply used
    → Gets byte_sum_half (over s es born) kind key (view_root (over s es born) kind v) reply used (over s es born)
gets_from s es born kind key v root reply used is read =
    subst (λ (r : Option Hash). Gets byte_sum_half (over s es born) kind key r reply used (over s es born))
    (sym (read_off (root_in s kind v) es (Some root) is)) (read, refl)

-- a page from this root
pub pages_from : (s : State) (es : Entries) (born : List Hash) (kind : Kind) (key : Hash) (n : ℕ) (v : ℕ × ℕ) (root : Hash)
    (reply : Reply) (used : List Held)
    → root_in s kind v (in_list es) ≡ Some root → IsPage byte_sum_half (over s es born) kind key n root reply used
    → Pages byte_sum_half (over s es born) kind key n (view_root (over s es born) kind v) reply used (over s es born)
pages_from s es born kind key n v root reply used is page =
    subst (λ (r : Option Hash). Pages byte_sum_half (over s es born) kind key n r reply used (over s es born))
    (sym (read_off (root_in s kind v) es (Some root) is)) (page, refl)

-- actor 0's read is answered so, with these nodes, and changes nothing
abbrev pub Reads : State → Command → Reply → List Held → Type 0
Reads s c reply used = Step byte_sum_half s 0 c reply used s
