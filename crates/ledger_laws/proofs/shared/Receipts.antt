-- What an answer says was received stays, where its target reaches it. For proofs of other crates.
use Rattle.std.proofs.Common.{◌≡◌, ◌⊎◌, ⊎_elim, ℕ, Bool, true, false, if◌then◌else◌, List, [], ◌∷◌, ◌++◌, Option, None}
use Rattle.std.proofs.Common.{Some, Result, Ok, Err, Contains, sym, ap, ◌∙◌, subst}
use Rattle.ledger_spec.specs.declared.Kind.{Kind}
use Rattle.ledger_spec.specs.declared.Kind.TheVariants as kinds
use Rattle.ledger_spec.specs.Maps.{hash_cmp, get_in}
use Rattle.ledger_spec.specs.Bytes.{Bytes, Hash, Half, Lookup}
use Rattle.ledger_spec.specs.Forms.{Held, header, hash_of}
use Rattle.ledger_spec.proofs.shared.OfferLaws.{err_ok, ok_same}
use Rattle.ledger_spec.proofs.shared.ReachLaws.{Grows}
use Rattle.ledger_machine.specs.declared.commands.Command.{Command}
use Rattle.ledger_machine.specs.declared.commands.Command.TheVariants as command
use Rattle.ledger_machine.specs.declared.commands.Line.{Line}
use Rattle.ledger_machine.specs.declared.journal.Entry.{Entry}
use Rattle.ledger_spec.specs.declared.outcomes.Offered.{Offered}
use Rattle.ledger_spec.specs.declared.outcomes.HeadOffered.{HeadOffered}
use Rattle.ledger_spec.specs.declared.replies.BaseReply.TheVariants as base
use Rattle.ledger_spec.specs.declared.replies.NodeReply.TheVariants as node
use Rattle.ledger_machine.specs.declared.commands.Reply.{Reply}
use Rattle.ledger_machine.specs.declared.commands.Reply.TheVariants as says
use Rattle.ledger_machine.specs.State.{State, form_in, roots, with_forms}
use Rattle.ledger_spec.specs.Offers.{Clash, head_outcome, head_forms, node_outcome}
use Rattle.ledger_spec.specs.Bases as lookup
use Rattle.ledger_spec.specs.Bases.{Judged, given, root_outcome, root_forms, joined, unless_clash, behind_header, behind_state}
use Rattle.ledger_spec.specs.Bases.{base_outcome, base_forms}
use Rattle.ledger_spec.specs.Peers.{is_present}
use Rattle.ledger_spec.specs.Acquiring.{Acquiring}
use Rattle.ledger_machine.specs.Base.{base_says, base_for, base_reply, after_base, node_says, node_for, node_reply, node_forms, after_node}
use Rattle.ledger_spec.specs.Replies.{parts_said, node_said}
use Rattle.ledger_machine.specs.Steps.{Step, Gives, own_forms}
use Rattle.ledger_machine.specs.Runs.{Run, used_by}
use Rattle.ledger_machine.specs.Receipts.{IsHeadReceived, IsReceivedPart, Receives, IsKept, Stays, AllStay}
use Rattle.ledger_laws.proofs.shared.SoundForms.{forms_looked_up, with_forms-append, grows_on, with_forms_grow}
use Rattle.ledger_laws.proofs.SoundRotation.{root_stays}
use Rattle.ledger_laws.proofs.shared.Stored.{Goes, on, begun, swapped}
use Rattle.ledger_laws.proofs.shared.Going.{row_goes}
use Rattle.ledger_laws.proofs.Received.{after_grows, kept_grows, reach_alike, kept_among, node_kept, root_kept, after_head, head_kept}

-- the parts of an outcome
joined_are : (x : Result HeadOffered Clash) (y z : Result (Option Offered) Clash) (j : Judged) → joined x y z ≡ Ok j
    → (x ≡ Ok j.header) × (y ≡ Ok j.state) × (z ≡ Ok j.tx)
joined_are (Err c) y z j e = absurd (err_ok e)
joined_are (Ok x) (Err c) z j e = absurd (err_ok e)
joined_are (Ok x) (Ok y) (Err c) j e = absurd (err_ok e)
joined_are (Ok x) (Ok y) (Ok z) j e =
    let same : record { header = x; state = y; tx = z } ≡ j = ok_same e in (
      ap (λ (k : Judged). Ok k.header) same,
      ap (λ (k : Judged). Ok k.state) same,
      ap (λ (k : Judged). Ok k.tx) same,
    )

-- an answer with parts says the outcome
parts_are : (r : Result Judged Clash) (h : HeadOffered) (a b : Option Offered) → base_says (parts_said r) ≡ says.Base (base.Parts h a b)
    → r ≡ Ok (record { header = h; state = a; tx = b })
parts_are (Ok j) h a b e =
    let first : j.header ≡ h = cc in
    let second : j.state ≡ a = cc in
    let third : j.tx ≡ b = cc in
    λ i. Ok (record { header = first i; state = second i; tx = third i })
parts_are (Err c) h a b e = cc

-- and is to a present peer
pub base_present : (half : Half) (s : State) (p : ℕ) (t : Hash) (bytes : Bytes) (state tx : Option Bytes) (o : Option Acquiring)
    (h : HeadOffered) (a b : Option Offered)
    → base_for half s p t bytes state tx o ≡ says.Base (base.Parts h a b)
    → base_outcome half (form_in s) t bytes state tx ≡ Ok (record { header = h; state = a; tx = b })
base_present half s p t bytes state tx None h a b e = cc
base_present half s p t bytes state tx (Some x) h a b e = at (is_present x.peers p) (base_outcome half (form_in s) t bytes state tx) e
  where
    at : (z : Bool) (r : Result Judged Clash) → base_says (if z then parts_said r else Ok base.Unasked) ≡ says.Base (base.Parts h a b)
        → r ≡ Ok (record { header = h; state = a; tx = b })
    at true r e = parts_are r h a b e
    at false r e = cc

-- and so is one with a node's outcome
pub node_present : (half : Half) (s : State) (p : ℕ) (t : Hash) (kind : Kind) (path : List ℕ) (blob : Bytes) (o : Option Acquiring)
    (x : Offered)
    → node_for half s p t kind path blob o ≡ says.Node (node.One x) → node_outcome half (form_in s) t kind path blob ≡ Ok x
node_present half s p t kind path blob None x e = cc
node_present half s p t kind path blob (Some a) x e = at (is_present a.peers p) (node_outcome half (form_in s) t kind path blob) e
  where
    at : (z : Bool) (r : Result Offered Clash) → node_says (if z then node_said r else Ok node.Unasked) ≡ says.Node (node.One x) → r ≡ Ok x
    at true (Ok o) e = cc
    at true (Err c) e = cc
    at false r e = cc

-- what the parts of a base reply bring is kept
module _ (half : Half) (s : State) (t : Hash) (bytes : Bytes) (state tx : Option Bytes) where
  abbrev first : Lookup
  first = behind_header half (form_in s) t bytes state tx

  abbrev second : Lookup
  second = behind_state half (form_in s) t bytes state tx

  -- the states behind the header, behind the state root and behind the last part
  abbrev s1 : State
  s1 = after_head half s bytes (head_outcome half (form_in s) t bytes)

  abbrev s2 : State
  s2 = with_forms half s1 (root_forms half first t kinds.State state)

  abbrev s3 : State
  s3 = with_forms half s2 (root_forms half second t kinds.Tx tx)

  first_is : form_in s1 ≡ first
  first_is = forms_looked_up half s (head_forms (head_outcome half (form_in s) t bytes) bytes)

  second_is : form_in s2 ≡ second
  second_is = forms_looked_up half s1 (root_forms half first t kinds.State state)
      ∙ ap (λ n. lookup.with_forms half n (root_forms half first t kinds.State state)) first_is

  -- where no part clashes all of them are stored
  last_is : (h : HeadOffered) (a : Option Offered) → head_outcome half (form_in s) t bytes ≡ Ok h
      → root_outcome half first t kinds.State state ≡ Ok a → with_forms half s (base_forms half (form_in s) t bytes state tx) ≡ s3
  last_is h a ok is =
      let F1 : List Bytes = head_forms (head_outcome half (form_in s) t bytes) bytes in
      let F2 : List Bytes = root_forms half first t kinds.State state in
      let F3 : List Bytes = root_forms half second t kinds.Tx tx in
      ap (λ r. with_forms half s (F1 ++ unless_clash r (F2 ++ unless_clash (root_outcome half first t kinds.State state) F3))) ok
      ∙ ap (λ r. with_forms half s (F1 ++ (F2 ++ unless_clash r F3))) is
      ∙ with_forms-append half s F1 (F2 ++ F3) ∙ with_forms-append half s1 F2 F3

  -- each part is kept in the state behind it, and the parts behind it only store more
  base_kept : (j : Judged) (n : Held) → base_outcome half (form_in s) t bytes state tx ≡ Ok j
      → (IsHeadReceived j.header × (n ≡ header bytes)) ⊎ IsReceivedPart half state j.state n ⊎ IsReceivedPart half tx j.tx n
      → IsKept half (with_forms half s (base_forms half (form_in s) t bytes state tx)) (t ∷ []) n
  base_kept j n e received =
      let each : (head_outcome half (form_in s) t bytes ≡ Ok j.header) × (root_outcome half first t kinds.State state ≡ Ok j.state)
      × (root_outcome half second t kinds.Tx tx ≡ Ok j.tx) = joined_are _ _ _ j e in
      let more : Grows (form_in s1) (form_in s2) = with_forms_grow half s1 (root_forms half first t kinds.State state) in
      let last : Grows (form_in s2) (form_in s3) = with_forms_grow half s2 (root_forms half second t kinds.Tx tx) in
      subst (λ (x : State). IsKept half x (t ∷ []) n) (sym (last_is j.header j.state each.0 each.1))
      (⊎_elim
      (λ one. subst (λ x. IsKept half s3 (t ∷ []) x) (sym one.1)
      (kept_grows half s1 s3 (t ∷ []) (header bytes) (grows_on more last) (head_kept half s t bytes j.header each.0 one.0)))
      (λ other. ⊎_elim
      (λ given. kept_grows half s2 s3 (t ∷ []) n last (root_kept half s1 first t kinds.State state j.state n first_is each.1 given))
      (λ given. root_kept half s2 second t kinds.Tx tx j.tx n second_is each.2 given)
      other)
      received)

-- what an answer says was received is kept after it
pub received_kept : (half : Half) (s s' : State) (a : ℕ) (c : Command) (reply : Reply) (used : List Held) (t : Hash) (n : Held)
    → Step half s a c reply used s' → Receives half t c reply n
    → IsKept half s' (t ∷ []) n
received_kept half s s' a (command.Base p target bytes state tx) (says.Base (base.Parts h x y)) used t n step received =
    let after : State = after_base half s p target bytes state tx (says.Base (base.Parts h x y)) in
    let g : Gives (base_reply half s p target bytes state tx) after (says.Base (base.Parts h x y)) s' = step.outcome in
    let j : Judged = record { header = h; state = x; tx = y } in
    let stored : State = with_forms half s (base_forms half (form_in s) target bytes state tx) in
    subst (λ u. IsKept half s' (u ∷ []) n) received.0
    (kept_grows half stored s' (target ∷ []) n (after_grows after s' g.after)
    (base_kept half s target bytes state tx j n
    (base_present half s p target bytes state tx (get_in hash_cmp s.wanted target) h x y (sym g.says)) received.1))
received_kept half s s' a (command.Node p target kind path blob) (says.Node (node.One o)) used t n step received =
    let after : State = after_node half s p target kind path blob (says.Node (node.One o)) in
    let g : Gives (node_reply half s p target kind path blob) after (says.Node (node.One o)) s' = step.outcome in
    let stored : State = with_forms half s (node_forms half s target kind path blob) in
    subst (λ u. IsKept half s' (u ∷ []) n) received.0
    (kept_grows half stored s' (target ∷ []) n (after_grows after s' g.after)
    (node_kept half s target kind path blob n o
    (node_present half s p target kind path blob (get_in hash_cmp s.wanted target) o (sym g.says)) received.1))
received_kept half s s' a _ _ used t n step received = absurd received

-- what a root reaches is kept by each step: nothing goes but at a swap, which takes nothing of it
kept_on : (half : Half) (s s' : State) (a : ℕ) (c : Command) (reply : Reply) (used : List Held) (t : Hash) (n : Held)
    → Step half s a c reply used s' → Contains (roots s) t → IsKept half s (t ∷ []) n → IsKept half s' (t ∷ []) n
kept_on half s s' a c reply used t n step among kept = at (row_goes half s a c reply used s' step.outcome)
  where
    at : Goes half c (own_forms half s a c) s s' → IsKept half s' (t ∷ []) n
    at (on g) = kept_grows half s s' (t ∷ []) n g.stores.grows kept
    at (begun st shades) = kept_grows half s s' (t ∷ []) n st.grows kept
    at (swapped is w) = record {
      stored = root_stays s s' t w among (hash_of half n) kept.reached ∙ kept.stored;
      reached = reach_alike (form_in s) (form_in s') (t ∷ []) (root_stays s s' t w among) kept.reached;
    }

-- along a run what is kept stays, and so what was received
module _ (half : Half) (lines : List Line) where
  -- as long as the target is a root, its next state keeps what this one kept
  stays : (t : Hash) (n : Held) (s : State) (entries : List Entry) (s' : State) (run : Run half lines s entries s')
      → IsKept half s (t ∷ []) n → Stays half t n lines s entries s' run
  stays t n s [] s' run kept = λ among. kept_among half s t (roots s) n among kept
  stays t n s (e ∷ rest) s' run kept = λ among. (
    kept_among half s t (roots s) n among kept,
    stays t n run.0 rest s' run.2
        (kept_on half s run.0 e.actor run.1.line.command e.reply (used_by e) t n run.1.step among kept),
  )

  -- and what is received is kept by the state that its step led to
  pub all_stay : (s : State) (entries : List Entry) (s' : State) (run : Run half lines s entries s') → AllStay half lines s entries s' run
  all_stay s [] s' run = tt
  all_stay s (e ∷ rest) s' run = (
    (λ t n received. stays t n run.0 rest s' run.2
        (received_kept half s run.0 e.actor run.1.line.command e.reply (used_by e) t n run.1.step received)),
    all_stay run.0 rest s' run.2,
  )
