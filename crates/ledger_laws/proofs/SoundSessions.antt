-- Sessions keep a state sound: each edits a whole ledger, and what one closes into is whole.
use Rattle.std.proofs.Common.{◌≡◌, ⊎_elim, ℕ, zero, suc, ◌+◌, ◌<◌, ◌^◌, ◌++◌, ◌==◌, nat_le, Bool, true, false, not}
use Rattle.std.proofs.Common.{if◌then◌else◌, List, [], ◌∷◌, length, map, cond, IsTrue, IsSomeAnd, Option, None, Some, Contains}
use Rattle.std.proofs.Common.{get_or, refl, sym, ap, subst, arith}
use Rattle.std.specs.Option.{option_map_or}
use Rattle.std.specs.Map.{keys_of, values_of, remove_entry}
use Rattle.std.specs.Ordering.{match_ordering}
use Rattle.std.specs.declared.cmp.Ordering.{Ordering}
use Rattle.std.specs.declared.cmp.Ordering.TheVariants.{Less, Equal, Greater}
use Rattle.std.specs.List.{All, AllByRecursion}
use Rattle.std.specs.Cmp.Lexicographic.{nat_list_cmp_total}
use Rattle.std.proofs.lemmas.Bool.{leb-false}
use Rattle.std.proofs.lemmas.List.Elements.{Contains-append_cases, Contains-append_left}
use Rattle.std.proofs.lemmas.Map.Views.{All-values-insert_entry, All-values-set_value, All-map-remove_entry}
use Rattle.ledger_spec.specs.declared.Kind.{Kind}
use Rattle.ledger_spec.specs.declared.Kind.TheVariants as kinds
use Rattle.ledger_spec.specs.Maps.{ForActor, hash_cmp, numbered_cmp, IsMap, get_in, has_in, insert_in, remove_in, set_in}
use Rattle.ledger_spec.specs.Bytes.{Bytes, Hash, Half, IsHalf, Lookup, Items, zero_hash, is_nonzero, are_bytes}
use Rattle.ledger_spec.specs.Header.{seq_of, state_root_of}
use Rattle.ledger_spec.specs.Forms.{leaf, IsHeld, IsItem, Held}
use Rattle.ledger_spec.specs.Spots.{header_in, header_root}
use Rattle.ledger_spec.specs.Tree.{Entry, IsByteEntry, AreItems}
use Rattle.ledger_spec.specs.Findings.{items_of}
use Rattle.tree_laws.proofs.shared.Trees.{same_key}
use Rattle.tree_laws.proofs.shared.WholeLaw.{ledger_commits}
use Rattle.ledger_machine.specs.declared.commands.EditReply.{EditReply}
use Rattle.ledger_machine.specs.declared.commands.EditReply.TheVariants as edits
use Rattle.ledger_machine.specs.State.{State, Session, form_in, retained, bases, stored_seq}
use Rattle.ledger_machine.specs.Sound.{Sound, IsWholeLedger, AreStored}
use Rattle.ledger_machine.specs.Views.{is_retained}
use Rattle.ledger_machine.specs.Sessions.{edit_reply, session_on, after_edit, with_session, after_put, after_tx, after_del, without_session}
use Rattle.ledger_machine.specs.Sessions.{has_session, del_reply}
use Rattle.ledger_machine.specs.declared.commands.Command.TheVariants as command
use Rattle.ledger_machine.specs.declared.commands.Reply.{Reply}
use Rattle.ledger_machine.specs.declared.commands.Reply.TheVariants as says
use Rattle.ledger_machine.specs.Commands.{IsInRange}
use Rattle.ledger_machine.specs.Steps.{Step}
use Rattle.ledger_laws.proofs.shared.SoundForms.{in_nothing, refused_none}
use Rattle.ledger_laws.proofs.SoundTables.{insert_rises, remove_rises, set_rises, none_rises}
use Rattle.ledger_laws.proofs.shared.SoundTables.{all_found}
use Rattle.ledger_laws.proofs.shared.SoundViews.{among, numbered_total}
use Rattle.ledger_laws.proofs.shared.SoundSessions.{IsFit, fits_of}
use Rattle.ledger_laws.proofs.SoundKeeps.{keeps_sound, gives_same}
use Rattle.ledger_laws.proofs.shared.SoundSteps.{outcome_cases}
use Rattle.shamap_node.specs.declared.parts.Item.{Item}

-- an image is that of a value for which this is so
all_images : {A B : Type 0} (f : A → B) (P : A → Type 0) (Q : B → Type 0) → ((x : A) → P x → Q (f x)) → (xs : List A) → All P xs
    → (y : B) → Contains (map f xs) y → Q y
all_images f P Q into [] all y c = absurd (in_nothing c)
all_images f P Q into (x ∷ xs) all y c =
    at c.0 c.1 c.2 (λ there. all_images f P Q into xs (λ k d lt. all (suc k) d (omega (arith, lt))) y there)
  where
    at : (k : ℕ) → k < length (map f (x ∷ xs)) → get_or (map f (x ∷ xs)) k y ≡ y → (Contains (map f xs) y → Q y) → Q y
    at zero lt is rest = subst Q is (into x (all 0 x (omega arith)))
    at (suc k) lt is rest = rest (k, omega (arith, lt), is)

-- other sessions, all of them fit, keep a state sound
pub sessions_sound : (half : Half) (s : State) (sessions : ForActor Session) → Sound half s
    → (IsMap numbered_cmp s.sessions → IsMap numbered_cmp sessions)
    → (All (IsFit half s) (values_of s.sessions) → All (IsFit half s) (values_of sessions)) → Sound half (record s { sessions = sessions })
sessions_sound half s sessions sound rises keeps = record {
  forms = sound.forms;
  tables = record {
    listed = sound.tables.listed;
    wanted = sound.tables.wanted;
    charges = sound.tables.charges;
    views = sound.tables.views;
    sessions = rises sound.tables.sessions;
    edits = λ k d lt. ((fits k d lt).accounts, (fits k d lt).txs);
  };
  retained_whole = λ t c. ⊎_elim
      (λ front. sound.retained_whole t (Contains-append_left (keys_of s.listed ++ values_of s.views) (bases s) t front))
      (λ edited. all_images (λ (x : Session). x.base) (IsFit half s) (IsWholeLedger half (form_in s)) (λ e fit. fit.whole)
      (values_of sessions) fits t edited)
      (Contains-append_cases (keys_of s.listed ++ values_of s.views) (map (λ (x : Session). x.base) (values_of sessions)) t c);
  listed_seq = sound.listed_seq;
  base_seq = λ t c. all_images (λ (x : Session). x.base) (IsFit half s)
      (λ (h : Hash). IsSomeAnd (header_in (form_in s) h) (λ p. seq_of p + 1 < 2 ^ 32)) (λ e fit. fit.next) (values_of sessions) fits t c;
}
  where
    fits : All (IsFit half s) (values_of sessions)
    fits = keeps (fits_of half s sound)

-- the end of a session
pub without_sound : (half : Half) (s : State) (x : ℕ × ℕ) → Sound half s → Sound half (without_session s x)
without_sound half s x sound =
    sessions_sound half s (remove_in numbered_cmp s.sessions x) sound (remove_rises numbered_cmp _ s.sessions)
    (λ all. All-map-remove_entry _ (λ e. e.1) (IsFit half s) s.sessions all)

-- a change of one that leaves it fit
pub with_sound : (half : Half) (s : State) (x : ℕ × ℕ) (change : Session → Session)
    → ((e : Session) → IsFit half s e → IsFit half s (change e)) → Sound half s → Sound half (with_session s x change)
with_sound half s x change keeps sound = at (get_in numbered_cmp s.sessions x) refl
  where
    at : (o : Option Session) → get_in numbered_cmp s.sessions x ≡ o
        → Sound half (option_map_or (λ e. record s { sessions = set_in numbered_cmp s.sessions x (change e) }) o s)
    at None is = sound
    at (Some e) is =
        sessions_sound half s (set_in numbered_cmp s.sessions x (change e)) sound (set_rises numbered_cmp _ s.sessions (change e))
        (λ all. All-values-set_value _ (IsFit half s) s.sessions (change e) all
        (keeps e (all_found (IsFit half s) _ s.sessions e all is)))

-- each entry after one was put
all_put : (P : Entry → Type 0) (items : Items) (key : Hash) (bytes : Bytes) → AllByRecursion P items → P (key, bytes)
    → AllByRecursion P (insert_in hash_cmp items key bytes)
all_put P [] key bytes all own = (own, tt)
all_put P (e ∷ items) key bytes all own = by (hash_cmp key e.0) refl (all_put P items key bytes all.1 own)
  where
    by : (r : Ordering) → hash_cmp key e.0 ≡ r → AllByRecursion P (insert_in hash_cmp items key bytes)
        → AllByRecursion P (match_ordering r ((key, bytes) ∷ e ∷ items) ((e.0, bytes) ∷ items) (e ∷ insert_in hash_cmp items key bytes))
    by Less is rest = (own, all)
    by Equal is rest =
        let same : key ≡ e.0 = same_key key e.0 (ap Rattle.std.specs.Ordering.is_eq is) in
        (subst (λ (k : Hash). P (k, bytes)) same own, all.1)
    by Greater is rest = (all.0, rest)

-- and after one was taken
all_taken : (P : Entry → Type 0) (test : Hash → Bool) (items : Items) → AllByRecursion P items → AllByRecursion P (remove_entry test items)
all_taken P test [] all = tt
all_taken P test (e ∷ items) all = by (test e.0) (all_taken P test items all.1)
  where
    by : (b : Bool) → AllByRecursion P (remove_entry test items) → AllByRecursion P (cond b items (e ∷ remove_entry test items))
    by true rest = all.1
    by false rest = (all.0, rest)

-- an item that is set, or a key that is taken, leaves a map of items
pub items_put : (half : Half) (kind : Kind) (items : Items) (key bytes : Bytes) → AreItems half kind items
    → IsHeld half (leaf kind key bytes) → IsTrue (are_bytes key) → IsTrue (are_bytes bytes)
    → AreItems half kind (insert_in hash_cmp items key bytes)
items_put half kind items key bytes are held k b = record {
  rising = insert_rises nat_list_cmp_total items key bytes are.rising;
  each = all_put (λ (e : Entry). IsHeld half (leaf kind e.0 e.1)) items key bytes are.each held;
  bytes = all_put IsByteEntry items key bytes are.bytes (k, b);
}

pub items_taken : (half : Half) (kind : Kind) (items : Items) (key : Hash) → AreItems half kind items
    → AreItems half kind (remove_in hash_cmp items key)
items_taken half kind items key are = record {
  rising = remove_rises hash_cmp _ items are.rising;
  each = all_taken (λ (e : Entry). IsHeld half (leaf kind e.0 e.1)) _ items are.each;
  bytes = all_taken IsByteEntry _ items are.bytes;
}

-- edits of an open session
pub put_sound : (half : Half) (s : State) (x : ℕ × ℕ) (key bytes : Bytes) → IsItem key bytes → IsTrue (are_bytes key)
    → IsTrue (are_bytes bytes) → Sound half s → Sound half (after_put s x key bytes)
put_sound half s x key bytes item k b sound =
    with_sound half s x (λ e. record e { accounts = insert_in hash_cmp e.accounts key bytes }) (λ e fit. record {
      whole = fit.whole;
      next = fit.next;
      accounts = items_put half kinds.State e.accounts key bytes fit.accounts item k b;
      txs = fit.txs;
    }) sound

pub tx_sound : (half : Half) (s : State) (x : ℕ × ℕ) (key bytes : Bytes) → IsItem key bytes → IsTrue (are_bytes key)
    → IsTrue (are_bytes bytes) → Sound half s → Sound half (after_tx s x key bytes)
tx_sound half s x key bytes item k b sound =
    with_sound half s x (λ e. record e { txs = insert_in hash_cmp e.txs key bytes }) (λ e fit. record {
      whole = fit.whole;
      next = fit.next;
      accounts = fit.accounts;
      txs = items_put half kinds.Tx e.txs key bytes fit.txs item k b;
    }) sound

pub del_sound : (half : Half) (s : State) (x : ℕ × ℕ) (key : Hash) → Sound half s → Sound half (after_del s x key)
del_sound half s x key sound =
    with_sound half s x (λ e. record e { accounts = remove_in hash_cmp e.accounts key }) (λ e fit. record {
      whole = fit.whole;
      next = fit.next;
      accounts = items_taken half kinds.State e.accounts key fit.accounts;
      txs = fit.txs;
    }) sound

-- no items
none_are : (half : Half) (kind : Kind) → AreItems half kind []
none_are half kind = record { rising = none_rises hash_cmp; each = tt; bytes = tt }

-- a session that is opened is on a retained ledger that isn't the last
edit_tests : (a b c d : Bool)
    → (if a then edits.InUse else if not b then edits.NotRetained else if c then edits.LastSeq else if d then edits.TooMany else edits.Fine)
    ≡ edits.Fine
    → (b ≡ true) × (c ≡ false)
edit_tests true b c d e = cc
edit_tests false false c d e = cc
edit_tests false true true d e = cc
edit_tests false true false true e = cc
edit_tests false true false false e = (refl, refl)

-- what is stored are forms under their own halves, of bytes
own_of : (half : Half) (nodes : Lookup) → AreStored half nodes → (h : Hash) (form : Bytes) → nodes h ≡ Some form → h ≡ half form
own_of half nodes stored h form is = (stored h form is).own

bytes_of : (half : Half) (nodes : Lookup) → AreStored half nodes → (h : Hash) (form : Bytes) → nodes h ≡ Some form → IsTrue (are_bytes form)
bytes_of half nodes stored h form is = (stored h form is).bytes

session_fit : (half : Half) (sized : IsHalf half) (s : State) (t : Hash) → Sound half s → is_retained s t ≡ true
    → nat_le 4294967295 (stored_seq s t) ≡ false → IsFit half s (session_on half s t)
session_fit half sized s t sound kept low = at (header_in (form_in s) t) refl
  where
    whole : IsWholeLedger half (form_in s) t
    whole = sound.retained_whole t (among t (retained s) kept)

    at : (o : Option Bytes) → header_in (form_in s) t ≡ o → IsFit half s (session_on half s t)
    at None is = absurd (subst (λ (o : Option Bytes). IsSomeAnd o (λ h. IsTrue (is_nonzero (state_root_of h)))) is whole.header)
    at (Some p) is =
        let seq : stored_seq s t ≡ seq_of p = ap (λ (o : Option Bytes). option_map_or seq_of o 0) is in
        let below : seq_of p < 4294967295 = subst (λ n. n < 4294967295) seq (leb-false 4294967295 (stored_seq s t) low) in
        let commits = ledger_commits half sized (form_in s) (own_of half (form_in s) sound.forms) (bytes_of half (form_in s) sound.forms)
        t p is whole.whole in
        record {
          whole = whole;
          next = subst (λ (o : Option Bytes). IsSomeAnd o (λ h. seq_of h + 1 < 2 ^ 32)) (sym is) (omega (arith, below));
          accounts = subst (λ (o : Option Bytes). AreItems half kinds.State
              (items_of half (form_in s) kinds.State (option_map_or (header_root kinds.State) o zero_hash))) (sym is) commits.0.are;
          txs = none_are half kinds.Tx;
        }

pub edit_sound : (half : Half) (sized : IsHalf half) (s : State) (x : ℕ × ℕ) (t : Hash) (r : EditReply) → edit_reply s x t ≡ r
    → Sound half s → Sound half (after_edit half s x t r)
edit_sound half sized s x t edits.Fine is sound =
    let tests = edit_tests (has_in numbered_cmp s.sessions x) (is_retained s t) (nat_le 4294967295 (stored_seq s t))
    (length s.sessions == 64) is in
    sessions_sound half s (insert_in numbered_cmp s.sessions x (session_on half s t)) sound
    (insert_rises numbered_total s.sessions x (session_on half s t))
    (λ all. All-values-insert_entry numbered_cmp x (session_on half s t) (IsFit half s) s.sessions all
    (session_fit half sized s t sound tests.0 tests.1))
edit_sound half sized s x t edits.NotRetained is sound = sound
edit_sound half sized s x t edits.LastSeq is sound = sound
edit_sound half sized s x t edits.InUse is sound = sound
edit_sound half sized s x t edits.TooMany is sound = sound

-- what is stored stays with each edit
pub edit_nodes : (half : Half) (s : State) (x : ℕ × ℕ) (t : Hash) (r : EditReply) → (after_edit half s x t r).nodes ≡ s.nodes
edit_nodes half s x t edits.Fine = refl
edit_nodes half s x t edits.NotRetained = refl
edit_nodes half s x t edits.LastSeq = refl
edit_nodes half s x t edits.InUse = refl
edit_nodes half s x t edits.TooMany = refl

pub with_session_nodes : (s : State) (x : ℕ × ℕ) (change : Session → Session) → (with_session s x change).nodes ≡ s.nodes
with_session_nodes s x change = at (get_in numbered_cmp s.sessions x)
  where
    at : (o : Option Session)
        → (option_map_or (λ e. record s { sessions = set_in numbered_cmp s.sessions x (change e) }) o s).nodes ≡ s.nodes
    at None = refl
    at (Some e) = refl

-- a step of `edit`
pub edit_step_sound : (half : Half) (sized : IsHalf half) (s s' : State) (a x : ℕ) (t : Hash) (reply : Reply) (used : List Held) → Sound half s
    → Step half s a (command.Edit x t) reply used s' → Sound half s'
edit_step_sound half sized s s' a x t reply used sound step =
    ⊎_elim (λ r. keeps_sound half s s' sound (refused_none half s a (command.Edit x t) s' refl r))
    (λ g. gives_same half (after_edit half s (a, x) t (edit_reply s (a, x) t)) s' (says.Edit (edit_reply s (a, x) t)) reply
    (edit_sound half sized s (a, x) t (edit_reply s (a, x) t) refl sound) g)
    (outcome_cases half s a (command.Edit x t) reply used s' step.outcome)

-- a step of `put`
pub put_step_sound : (half : Half) (s s' : State) (a x : ℕ) (item : Item) (reply : Reply) (used : List Held)
    → IsInRange (command.Put x item) → Sound half s → Step half s a (command.Put x item) reply used s' → Sound half s'
put_step_sound half s s' a x item reply used range sound step =
    ⊎_elim (λ r. keeps_sound half s s' sound (refused_none half s a (command.Put x item) s' refl r))
    (λ g. gives_same half (after_put s (a, x) item.key item.value) s' (says.Put (has_session s (a, x))) reply
    (put_sound half s (a, x) item.key item.value item.valid range.0 range.1 sound) g)
    (outcome_cases half s a (command.Put x item) reply used s' step.outcome)

-- a step of `tx`
pub tx_step_sound : (half : Half) (s s' : State) (a x : ℕ) (item : Item) (reply : Reply) (used : List Held)
    → IsInRange (command.Tx x item) → Sound half s → Step half s a (command.Tx x item) reply used s' → Sound half s'
tx_step_sound half s s' a x item reply used range sound step =
    ⊎_elim (λ r. keeps_sound half s s' sound (refused_none half s a (command.Tx x item) s' refl r))
    (λ g. gives_same half (after_tx s (a, x) item.key item.value) s' (says.Tx (has_session s (a, x))) reply
    (tx_sound half s (a, x) item.key item.value item.valid range.0 range.1 sound) g)
    (outcome_cases half s a (command.Tx x item) reply used s' step.outcome)

-- a step of `del`
pub del_step_sound : (half : Half) (s s' : State) (a x : ℕ) (key : Hash) (reply : Reply) (used : List Held) → Sound half s
    → Step half s a (command.Del x key) reply used s' → Sound half s'
del_step_sound half s s' a x key reply used sound step =
    ⊎_elim (λ r. keeps_sound half s s' sound (refused_none half s a (command.Del x key) s' refl r))
    (λ g. gives_same half (after_del s (a, x) key) s' (says.Del (del_reply s (a, x) key)) reply (del_sound half s (a, x) key sound) g)
    (outcome_cases half s a (command.Del x key) reply used s' step.outcome)

-- a step of `abandon`
pub abandon_step_sound : (half : Half) (s s' : State) (a x : ℕ) (reply : Reply) (used : List Held) → Sound half s
    → Step half s a (command.Abandon x) reply used s' → Sound half s'
abandon_step_sound half s s' a x reply used sound step =
    ⊎_elim (λ r. keeps_sound half s s' sound (refused_none half s a (command.Abandon x) s' refl r))
    (λ g. gives_same half (without_session s (a, x)) s' (says.Abandon (has_session s (a, x))) reply (without_sound half s (a, x) sound) g)
    (outcome_cases half s a (command.Abandon x) reply used s' step.outcome)
