-- A clash in one answer is of two different forms with one hash, of which one was stored before and the other is offered or made.
use Rattle.std.proofs.Common.{◌≡◌, ◌⊎◌, inl, inr, ⊎_elim, ℕ, Bool, true, false, not, if◌then◌else◌, ◌==◌}
use Rattle.std.proofs.Common.{IsTrue, List, [], ◌∷◌, ◌++◌, length}
use Rattle.std.proofs.Common.{Option, None, Some, Result, Ok, Err, Contains, refl, sym, ap, ◌∙◌, subst}
use Rattle.std.specs.List.{find}
use Rattle.std.specs.Cmp.Lexicographic.{same_text, other_text}
use Rattle.ledger_spec.specs.declared.Kind.{Kind}
use Rattle.ledger_spec.specs.declared.ShapeFault.{ShapeFault}
use Rattle.ledger_spec.specs.Bytes.{Bytes, Hash, Half, Lookup, same_bytes}
use Rattle.ledger_spec.specs.Forms.{Held, form_of, hash_of, header_prefix}
use Rattle.ledger_spec.specs.Rules.{fault_of}
use Rattle.ledger_spec.specs.Spots.{Spot, no_base, no_parent, empty_branch, under_leaf, wanted, spot_of}
use Rattle.ledger_spec.specs.Wire.{read_wire}
use Rattle.ledger_machine.specs.declared.commands.Command.{Command}
use Rattle.ledger_spec.specs.declared.outcomes.Offered.{Offered}
use Rattle.ledger_spec.specs.declared.outcomes.Offered.TheVariants as offered
use Rattle.ledger_spec.specs.declared.outcomes.HeadOffered.{HeadOffered}
use Rattle.ledger_spec.specs.declared.outcomes.HeadOffered.TheVariants as head
use Rattle.ledger_spec.specs.declared.replies.BaseReply.TheVariants as base
use Rattle.ledger_spec.specs.declared.replies.NodeReply.TheVariants as node
use Rattle.ledger_machine.specs.declared.commands.Reply.{Reply}
use Rattle.ledger_machine.specs.declared.commands.Reply.TheVariants as says
use Rattle.ledger_machine.specs.State.{State, form_in}
use Rattle.ledger_spec.specs.Bases as lookup
use Rattle.ledger_spec.specs.Bases.{Judged, given, root_outcome, joined, base_outcome}
use Rattle.ledger_spec.specs.Peers.{is_present}
use Rattle.ledger_spec.specs.Acquiring.{Acquiring}
use Rattle.ledger_spec.specs.Offers.{Clash, head_given, head_outcome, node_given, spot_outcome, wire_outcome, node_outcome}
use Rattle.ledger_machine.specs.Base.{base_says, base_for, node_says, node_for}
use Rattle.ledger_spec.specs.Replies.{parts_said, node_said}
use Rattle.ledger_machine.specs.Steps.{Step, own_forms}
use Rattle.ledger_machine.specs.Collisions.{form_read, part_form, head_form, offered_by, Clashes, made_by}
use Rattle.ledger_laws.proofs.shared.SoundForms.{in_head, in_tail, forms_looked_up}
use Rattle.ledger_laws.proofs.shared.Going.{row_goes, goes_adds}
use Rattle.ledger_laws.proofs.Offered.{AreFrom, IsFrom, with_forms_from, own_among}

-- what is found holds
pub find_holds : {A : Type 0} (test : A → Bool) (xs : List A) (x : A) → find test xs ≡ Some x → Contains xs x × IsTrue (test x)
find_holds test [] x e = cc
find_holds test (y ∷ xs) x e = by (test y) refl e (λ later. find_holds test xs x later)
  where
    by : (t : Bool) → test y ≡ t → (if t then Some y else find test xs) ≡ Some x
        → (find test xs ≡ Some x → Contains xs x × IsTrue (test x)) → Contains (y ∷ xs) x × IsTrue (test x)
    by true is e later =
        let same : y ≡ x = cc in
        (subst (λ z. Contains (y ∷ xs) z) same (in_head y xs), subst (λ z. IsTrue (test z)) same is)
    by false is e later = let there = later e in (in_tail y x xs there.0, there.1)

-- what isn't a duplicate differs, and is the clash
differs : {A : Type 0} (b : Bool) (x : A) (d c : Clash) → (if b then Ok x else Err d) ≡ Err c → (b ≡ false) × (d ≡ c)
differs true x d c e = cc
differs false x d c e = (refl, cc)

-- the clash is one of two of these forms
abbrev pub IsClashIn : Half → List Bytes → Clash → Type 0
IsClashIn half forms c = Clashes half forms c.hash c.old c.new

module _ (half : Half) (forms : List Bytes) where
  -- after each step all that is stored is offered or made
  pub step_from : (s : State) (a : ℕ) (c : Command) (reply : Reply) (used : List Held) (s' : State)
      → ((form : Bytes) → Contains (offered_by half c) form → Contains forms form)
      → ((form : Bytes) → Contains (made_by half s a c) form → Contains forms form)
      → IsFrom half forms s → Step half s a c reply used s' → IsFrom half forms s'
  step_from s a c reply used s' each made from step h form e =
      ⊎_elim (λ old. from h form old) (λ new. (new.0, own_among half forms s a c each made form new.1))
      (goes_adds half c (own_forms half s a c) s s' (row_goes half s a c reply used s' step.outcome) h form e)

  -- a form that isn't the one under its hash is another with that hash
  pub found_other : (nodes : Lookup) (h : Hash) (old new : Bytes) → AreFrom half forms nodes → nodes h ≡ Some old → half new ≡ h
      → Contains forms new → same_bytes old new ≡ false → Clashes half forms h old new
  found_other nodes h old new from stored own offers apart = record {
    first = (from h old stored).1;
    second = offers;
    different = other_text old new (sym apart);
    old_hash = sym (from h old stored).0;
    new_hash = own;
  }

  -- so does one that isn't a duplicate of it
  not_duplicate : {A : Type 0} (nodes : Lookup) (h : Hash) (old new : Bytes) (x : A) (c : Clash) → AreFrom half forms nodes
      → nodes h ≡ Some old → half new ≡ h → Contains forms new
      → (if same_bytes old new then Ok x else Err (record { hash = h; old = old; new = new })) ≡ Err c → IsClashIn half forms c
  not_duplicate nodes h old new x c from stored own offers e =
      let d = differs (same_bytes old new) x (record { hash = h; old = old; new = new }) c e in
      subst (IsClashIn half forms) d.1 (found_other nodes h old new from stored own offers d.0)

  -- a clash of a header
  pub head_clash : (nodes : Lookup) (t : Hash) (bytes : Bytes) (c : Clash) → AreFrom half forms nodes
      → ((form : Bytes) → Contains (head_form bytes) form → Contains forms form)
      → head_outcome half nodes t bytes ≡ Err c → IsClashIn half forms c
  head_clash nodes t bytes c from each e =
      let form : Bytes = header_prefix ++ bytes in
      let past : (length bytes == 118 ≡ true) × (same_bytes (half form) t ≡ true) × (head_given t form (nodes t) ≡ Err c) =
      past_tests (length bytes == 118) (same_bytes (half form) t) (length bytes) (half form) (head_given t form (nodes t)) e in
      let offers : Contains forms form =
      each form (subst (λ b. Contains (if b then form ∷ [] else []) form) (sym past.0) (in_head form [])) in
      held (nodes t) refl (same_text (half form) t (sym past.1)) offers past.2
    where
      past_tests : (a b : Bool) (n : ℕ) (found : Hash) (r : Result HeadOffered Clash)
          → (if not a then Ok (head.BadLength n) else if not b then Ok (head.BadHash found) else r) ≡ Err c
          → (a ≡ true) × (b ≡ true) × (r ≡ Err c)
      past_tests false b n found r e = cc
      past_tests true false n found r e = cc
      past_tests true true n found r e = (refl, refl, e)

      held : (o : Option Bytes) → nodes t ≡ o → half (header_prefix ++ bytes) ≡ t → Contains forms (header_prefix ++ bytes)
          → head_given t (header_prefix ++ bytes) o ≡ Err c → IsClashIn half forms c
      held None is own offers e = cc
      held (Some old) is own offers e =
          not_duplicate nodes t old (header_prefix ++ bytes) head.Duplicate c from is own offers e

  -- a clash of a node with the wanted hash
  given_clash : (nodes : Lookup) (n : Held) (h : Hash) (fault : Option ShapeFault) (o : Option Bytes) (c : Clash) → AreFrom half forms nodes
      → Contains forms (form_of n) → nodes h ≡ o → hash_of half n ≡ h
      → node_given fault h (form_of n) o ≡ Err c → IsClashIn half forms c
  given_clash nodes n h None None c from offers is own e = cc
  given_clash nodes n h (Some fault) None c from offers is own e = cc
  given_clash nodes n h None (Some old) c from offers is own e =
      not_duplicate nodes h old (form_of n) offered.Duplicate c from is own offers e
  given_clash nodes n h (Some fault) (Some old) c from offers is own e =
      not_duplicate nodes h old (form_of n) offered.Duplicate c from is own offers e

  -- a clash of a node at a place
  spot_clash : (nodes : Lookup) (kind : Kind) (path : List ℕ) (n : Held) (x : Spot) (c : Clash) → AreFrom half forms nodes
      → Contains forms (form_of n) → spot_outcome half nodes kind path n x ≡ Err c
      → IsClashIn half forms c
  spot_clash nodes kind path n no_base c from offers e = cc
  spot_clash nodes kind path n (no_parent p) c from offers e = cc
  spot_clash nodes kind path n (empty_branch p) c from offers e = cc
  spot_clash nodes kind path n (under_leaf p) c from offers e = cc
  spot_clash nodes kind path n (wanted h parent) c from offers e =
      let given : Result Offered Clash = node_given (fault_of n parent kind path) h (form_of n) (nodes h) in
      let past : (same_bytes (hash_of half n) h ≡ true) × (given ≡ Err c) =
      past_hash (same_bytes (hash_of half n) h) given (offered.BadHash h (hash_of half n)) e in
      given_clash nodes n h (fault_of n parent kind path) (nodes h) c from offers refl (same_text (hash_of half n) h (sym past.0)) past.1
    where
      past_hash : (b : Bool) (r : Result Offered Clash) (bad : Offered) → (if b then r else Ok bad) ≡ Err c → (b ≡ true) × (r ≡ Err c)
      past_hash true r bad e = (refl, e)
      past_hash false r bad e = cc

  -- a clash of what is read
  pub read_clash : (nodes : Lookup) (t : Hash) (kind : Kind) (path : List ℕ) (r : Result Held ℕ) (c : Clash) → AreFrom half forms nodes
      → ((form : Bytes) → Contains (form_read r) form → Contains forms form)
      → wire_outcome half nodes t kind path r ≡ Err c → IsClashIn half forms c
  read_clash nodes t kind path (Err cause) c from each e = cc
  read_clash nodes t kind path (Ok n) c from each e =
      spot_clash nodes kind path n (spot_of nodes t kind path) c from (each (form_of n) (in_head (form_of n) [])) e

  -- a clash of a root
  pub root_clash : (nodes : Lookup) (t : Hash) (kind : Kind) (blob : Option Bytes) (c : Clash) → AreFrom half forms nodes
      → ((form : Bytes) → Contains (part_form half blob) form → Contains forms form)
      → root_outcome half nodes t kind blob ≡ Err c → IsClashIn half forms c
  root_clash nodes t kind None c from each e = cc
  root_clash nodes t kind (Some blob) c from each e = read_clash nodes t kind [] (read_wire half blob) c from each
      (at (node_outcome half nodes t kind [] blob) e)
    where
      at : (r : Result Offered Clash) → given r ≡ Err c → r ≡ Err c
      at (Ok o) e = cc
      at (Err d) e = let same : d ≡ c = cc in ap Err same

  -- forms more that are among these
  pub more_from : (s : State) (nodes : Lookup) (more : List Bytes) → form_in s ≡ nodes
      → ((form : Bytes) → Contains more form → Contains forms form) → IsFrom half forms s
      → AreFrom half forms (lookup.with_forms half nodes more)
  more_from s nodes more is each from =
      subst (λ n. AreFrom half forms n) (forms_looked_up half s more ∙ ap (λ n. lookup.with_forms half n more) is)
      (with_forms_from half forms s more each from)

-- a clash of the parts is one of theirs
pub parts_clash : (x : Result HeadOffered Clash) (y z : Result (Option Offered) Clash) (c : Clash) → joined x y z ≡ Err c
    → (x ≡ Err c) ⊎ ((y ≡ Err c) ⊎ (z ≡ Err c))
parts_clash (Err d) y z c e = let same : d ≡ c = cc in inl (ap Err same)
parts_clash (Ok x) (Err d) z c e = let same : d ≡ c = cc in inr (inl (ap Err same))
parts_clash (Ok x) (Ok y) (Err d) c e = let same : d ≡ c = cc in inr (inr (ap Err same))
parts_clash (Ok x) (Ok y) (Ok z) c e = cc

-- a clash that is answered is to a present peer
pub base_present : (half : Half) (s : State) (p : ℕ) (t : Hash) (bytes : Bytes) (state tx : Option Bytes) (o : Option Acquiring) (h : Hash)
    (old new : Bytes)
    → base_for half s p t bytes state tx o ≡ says.Clash h old new
    → (c : Clash) × (base_outcome half (form_in s) t bytes state tx ≡ Err c) × (says.Clash c.hash c.old c.new ≡ says.Clash h old new)
base_present half s p t bytes state tx None h old new e = cc
base_present half s p t bytes state tx (Some a) h old new e = at (is_present a.peers p) (base_outcome half (form_in s) t bytes state tx) e
  where
    at : (z : Bool) (r : Result Judged Clash) → base_says (if z then parts_said r else Ok base.Unasked) ≡ says.Clash h old new
        → (c : Clash) × (r ≡ Err c) × (says.Clash c.hash c.old c.new ≡ says.Clash h old new)
    at true (Ok j) e = cc
    at true (Err c) e = (c, refl, e)
    at false r e = cc

-- the same of a node
pub node_present : (half : Half) (s : State) (p : ℕ) (t : Hash) (kind : Kind) (path : List ℕ) (blob : Bytes) (o : Option Acquiring)
    (h : Hash) (old new : Bytes)
    → node_for half s p t kind path blob o ≡ says.Clash h old new
    → (c : Clash) × (node_outcome half (form_in s) t kind path blob ≡ Err c) × (says.Clash c.hash c.old c.new ≡ says.Clash h old new)
node_present half s p t kind path blob None h old new e = cc
node_present half s p t kind path blob (Some a) h old new e = at (is_present a.peers p) (node_outcome half (form_in s) t kind path blob) e
  where
    at : (z : Bool) (r : Result Offered Clash) → node_says (if z then node_said r else Ok node.Unasked) ≡ says.Clash h old new
        → (c : Clash) × (r ≡ Err c) × (says.Clash c.hash c.old c.new ≡ says.Clash h old new)
    at true (Ok o) e = cc
    at true (Err c) e = (c, refl, e)
    at false r e = cc

-- no answer has a zero hash
pub no_zero_base : (half : Half) (s : State) (p : ℕ) (t : Hash) (bytes : Bytes) (state tx : Option Bytes) (o : Option Acquiring)
    (form : Bytes)
    → base_for half s p t bytes state tx o ≡ says.ZeroHash form → ⊥
no_zero_base half s p t bytes state tx None form e = cc
no_zero_base half s p t bytes state tx (Some a) form e = at (is_present a.peers p) (base_outcome half (form_in s) t bytes state tx) e
  where
    at : (z : Bool) (r : Result Judged Clash) → base_says (if z then parts_said r else Ok base.Unasked) ≡ says.ZeroHash form → ⊥
    at true (Ok j) e = cc
    at true (Err c) e = cc
    at false r e = cc

-- nor has the answer to a node
pub no_zero_node : (half : Half) (s : State) (p : ℕ) (t : Hash) (kind : Kind) (path : List ℕ) (blob : Bytes) (o : Option Acquiring)
    (form : Bytes)
    → node_for half s p t kind path blob o ≡ says.ZeroHash form → ⊥
no_zero_node half s p t kind path blob None form e = cc
no_zero_node half s p t kind path blob (Some a) form e = at (is_present a.peers p) (node_outcome half (form_in s) t kind path blob) e
  where
    at : (z : Bool) (r : Result Offered Clash) → node_says (if z then node_said r else Ok node.Unasked) ≡ says.ZeroHash form → ⊥
    at true (Ok o) e = cc
    at true (Err c) e = cc
    at false r e = cc
