-- Changes of open sessions are the machine's rows.
use Rattle.std.proofs.Common.{◌≡◌, ℕ, Bool, true, false, IsTrue, is_some, Option, Result, Ok, Err, IfOk, IfErr, sym, ap, ◌∙◌, subst}
use Rattle.std.specs.Option.{unwrap_or}
use Rattle.std.specs.Result.{OnErr}
use Rattle.std.proofs.lemmas.Bool.{false≢true}
use Rattle.ledger_spec.specs.Bytes.{Bytes, Hash, Half, Lookup}
use Rattle.ledger_spec.specs.Maps.{ForActor}
use Rattle.ledger_spec.specs.Own.{AreStored}
use Rattle.edit_session.specs.Drafts.{Draft}
use Rattle.edit_session.specs.Changes.{ChangesState, ChangesTxs, SetsAccount, RemovesAccount, SetsTx}
use Rattle.ledger_machine.specs.State.{State, form_in}
use Rattle.ledger_machine.specs.Sessions.{has_session, after_put, after_tx, del_reply, after_del}
use Rattle.open_sessions.specs.Changed.{Changed}
use Rattle.open_sessions.specs.Rows.{AllKept, del_said}
use Rattle.open_sessions.proofs.shared.Rows.{put_gives, tx_gives, del_gives}
use Rattle.core_machine.specs.Machines.{with_open, KeepsDrafts}
use Rattle.node_backend.specs.declared.back.BackFault.{BackFault}
use Rattle.node_backend.specs.declared.back.BackFault.TheVariants as back
use Rattle.run_io.specs.Bytes.{Rose}
use Rattle.core_machine.specs.Desks.{Desk, KeepsRest, LooksUp, OnlyReads, Stays}
use Rattle.core_machine.proofs.shared.Sections.{open_rest, reads_keep}

-- one of two facts of an answer
pub ok_first : {X E : Type 0} (P Q : X → Type 0) (r : Result X E) → IfOk r (λ x. P x × Q x) → IfOk r P
ok_first P Q (Ok x) both = both.0
ok_first P Q (Err e) both = tt

pub ok_second : {X E : Type 0} (P Q : X → Type 0) (r : Result X E) → IfOk r (λ x. P x × Q x) → IfOk r Q
ok_second P Q (Ok x) both = both.1
ok_second P Q (Err e) both = tt

-- a change by what is held is one by what the same names hold
pub changed_by : (P Q : Draft → Draft → Type 0) → ((d d' : Draft) → P d d' → Q d d') → (old new : ForActor Draft) (x : ℕ × ℕ) (was : Bool)
    → Changed P old new x was → Changed Q old new x was
changed_by P Q to old new x true c = (c.0, c.1, c.2, c.3, to c.0 c.1 c.4)
changed_by P Q to old new x false c = c

pub put_by : (half : Half) (tells : Bool) (m n : Lookup) (key bytes : Bytes) (old new : ForActor Draft) (x : ℕ × ℕ) {E : Type 0}
    (r : Result Bool E) → IsTrue tells → m ≡ n
    → IfOk r (Changed (λ d d'. ChangesState 65 d d' × (IsTrue tells → SetsAccount half m d d' key bytes)) old new x)
    → IfOk r (Changed (λ d d'. ChangesState 65 d d' × SetsAccount half n d d' key bytes) old new x)
put_by half tells m n key bytes old new x (Ok was) told same c =
    changed_by (λ d d'. ChangesState 65 d d' × (IsTrue tells → SetsAccount half m d d' key bytes))
    (λ d d'. ChangesState 65 d d' × SetsAccount half n d d' key bytes)
    (λ d d' p. (p.0, subst (λ (l : Lookup). SetsAccount half l d d' key bytes) same (p.1 told))) old new x was c
put_by half tells m n key bytes old new x (Err e) told same c = tt

pub del_by : (half : Half) (tells : Bool) (m n : Lookup) (key : Hash) (old new : ForActor Draft) (x : ℕ × ℕ) {E : Type 0}
    (r : Result (Option Bool) E) → IsTrue tells → m ≡ n
    → IfOk r (λ there. Changed (λ d d'. ChangesState 64 d d' × (IsTrue tells → RemovesAccount half m d d' key (unwrap_or there false)))
    old new x (is_some there))
    → IfOk r (λ there. Changed (λ d d'. ChangesState 64 d d' × RemovesAccount half n d d' key (unwrap_or there false))
    old new x (is_some there))
del_by half tells m n key old new x (Ok there) told same c =
    changed_by (λ d d'. ChangesState 64 d d' × (IsTrue tells → RemovesAccount half m d d' key (unwrap_or there false)))
    (λ d d'. ChangesState 64 d d' × RemovesAccount half n d d' key (unwrap_or there false))
    (λ d d' p. (p.0, subst (λ (l : Lookup). RemovesAccount half l d d' key (unwrap_or there false)) same (p.1 told))) old new x
    (is_some there) c
del_by half tells m n key old new x (Err e) told same c = tt

-- what only reads the store lists nothing
pub reads_stays : (half : Half) (tells : Bool) (d d' : Desk) (old new : ForActor Draft) → OnlyReads tells d d'
    → Stays tells (record d { state = with_open half tells d.state old }) (record d' { state = with_open half tells d'.state new })
reads_stays half tells d d' old new read = record {
  later = read.later;
  listed = ap (λ (s : State). s.listed) read.tables;
  epoch = ap (λ (s : State). s.epoch) read.tables;
  slices = read.slices;
  copies = read.copies;
}

-- and tells nothing
pub reads_told : (half : Half) (tells : Bool) (d d' : Desk) (old new : ForActor Draft) → OnlyReads tells d d'
    → (with_open half tells d'.state new).shaded ≡ (with_open half tells d.state old).shaded
reads_told half tells d d' old new read = ap (λ (s : State). s.shaded) read.tables

-- so a session's command looks something up in the store
pub looks_beside : {X : Type 0} (half : Half) (tells : Bool) (d d' : Desk) (old new : ForActor Draft) (r : Result X BackFault)
    → OnErr r (new ≡ old) → OnlyReads tells d d' → IfErr r (λ e. e ≡ back.Fault → Rose d.faults d'.faults)
    → LooksUp tells (record d { state = with_open half tells d.state old }) r (record d' { state = with_open half tells d'.state new })
looks_beside half tells d d' old new (Ok x) err reads fault = record {
  err = λ told. tt;
  kept = tt;
  told = reads_told half tells d d' old new reads;
  stays = reads_stays half tells d d' old new reads;
  fault = tt;
}
looks_beside half tells d d' old new (Err e) err reads fault = record {
  err = λ told. ap (λ (s : State). with_open half tells s new) (reads.state told) ∙ ap (with_open half tells d.state) err;
  kept = subst (λ (ds : ForActor Draft). KeepsRest (with_open half tells d.state old) (with_open half tells d'.state ds)) (sym err)
      (open_rest half tells d.state d'.state old reads.state (reads_keep tells d d' reads).rest);
  told = reads_told half tells d d' old new reads;
  stays = reads_stays half tells d d' old new reads;
  fault = fault;
}

module _ (half : Half) (tells : Bool) (s s' : State) (old new : ForActor Draft) (x : ℕ × ℕ) where
  -- the drafts are kept, where those that a change leaves are
  pub row_keeps : {X E : Type 0} (r : Result X E) → (IsTrue tells → s' ≡ s) → (IsTrue tells → AreStored half (form_in s))
      → (IsTrue tells → AllKept half s old → IfOk r (λ y. AllKept half s new)) → OnErr r (new ≡ old)
      → KeepsDrafts half tells s old → KeepsDrafts half tells s' new
  row_keeps (Ok y) same filed ok err keeps told stored =
      subst (λ (z : State). AllKept half z new) (sym (same told)) (ok told (keeps told (filed told)))
  row_keeps (Err why) same filed ok err keeps told stored =
      subst (λ (z : State). AllKept half z new) (sym (same told)) (subst (λ (ds : ForActor Draft). AllKept half s ds) (sym err)
      (keeps told (filed told)))

-- an item is set in the account state
pub put_row : (half : Half) (tells : Bool) (s s' : State) (old new : ForActor Draft) (x : ℕ × ℕ) (key bytes : Bytes) {E : Type 0}
    (r : Result Bool E) → IsTrue tells → s' ≡ s → AllKept half s old
    → IfOk r (Changed (λ d d'. ChangesState 65 d d' × SetsAccount half (form_in s) d d' key bytes) old new x)
    → IfOk r (λ was. (was ≡ has_session (with_open half tells s old) x)
    × (with_open half tells s' new ≡ after_put (with_open half tells s old) x key bytes))
put_row half true s s' old new x key bytes (Ok was) told same kept c =
    let g = put_gives half s old kept x new was key bytes c in (g.0, ap (λ (y : State). with_open half true y new) same ∙ g.1.state)
put_row half true s s' old new x key bytes (Err e) told same kept c = tt
put_row half false s s' old new x key bytes r told same kept c = absurd (false≢true told)

pub put_kept : (half : Half) (s : State) (old new : ForActor Draft) (x : ℕ × ℕ) (key bytes : Bytes) {E : Type 0} (r : Result Bool E)
    → AllKept half s old
    → IfOk r (Changed (λ d d'. ChangesState 65 d d' × SetsAccount half (form_in s) d d' key bytes) old new x)
    → IfOk r (λ was. AllKept half s new)
put_kept half s old new x key bytes (Ok was) kept c = (put_gives half s old kept x new was key bytes c).1.kept
put_kept half s old new x key bytes (Err e) kept c = tt

-- an item is set in the transactions
pub tx_row : (half : Half) (tells : Bool) (s s' : State) (old new : ForActor Draft) (x : ℕ × ℕ) (key bytes : Bytes) {E : Type 0}
    (r : Result Bool E) → IsTrue tells → s' ≡ s → AllKept half s old
    → IfOk r (Changed (λ d d'. ChangesTxs 65 d d' × SetsTx d d' key bytes) old new x)
    → IfOk r (λ was. (was ≡ has_session (with_open half tells s old) x)
    × (with_open half tells s' new ≡ after_tx (with_open half tells s old) x key bytes))
tx_row half true s s' old new x key bytes (Ok was) told same kept c =
    let g = tx_gives half s old kept x new was key bytes c in (g.0, ap (λ (y : State). with_open half true y new) same ∙ g.1.state)
tx_row half true s s' old new x key bytes (Err e) told same kept c = tt
tx_row half false s s' old new x key bytes r told same kept c = absurd (false≢true told)

pub tx_kept : (half : Half) (s : State) (old new : ForActor Draft) (x : ℕ × ℕ) (key bytes : Bytes) {E : Type 0} (r : Result Bool E)
    → AllKept half s old → IfOk r (Changed (λ d d'. ChangesTxs 65 d d' × SetsTx d d' key bytes) old new x)
    → IfOk r (λ was. AllKept half s new)
tx_kept half s old new x key bytes (Ok was) kept c = (tx_gives half s old kept x new was key bytes c).1.kept
tx_kept half s old new x key bytes (Err e) kept c = tt

-- a key is removed from the account state
pub del_row : (half : Half) (tells : Bool) (s s' : State) (old new : ForActor Draft) (x : ℕ × ℕ) (key : Hash) {E : Type 0}
    (r : Result (Option Bool) E) → IsTrue tells → s' ≡ s → AllKept half s old
    → IfOk r (λ there. Changed (λ d d'. ChangesState 64 d d' × RemovesAccount half (form_in s) d d' key (unwrap_or there false))
    old new x (is_some there))
    → IfOk r (λ there. (del_said there ≡ del_reply (with_open half tells s old) x key)
    × (with_open half tells s' new ≡ after_del (with_open half tells s old) x key))
del_row half true s s' old new x key (Ok there) told same kept c =
    let g = del_gives half s old kept x new there key c in (g.0, ap (λ (y : State). with_open half true y new) same ∙ g.1.state)
del_row half true s s' old new x key (Err e) told same kept c = tt
del_row half false s s' old new x key r told same kept c = absurd (false≢true told)

pub del_kept : (half : Half) (s : State) (old new : ForActor Draft) (x : ℕ × ℕ) (key : Hash) {E : Type 0} (r : Result (Option Bool) E)
    → AllKept half s old
    → IfOk r (λ there. Changed (λ d d'. ChangesState 64 d d' × RemovesAccount half (form_in s) d d' key (unwrap_or there false))
    old new x (is_some there))
    → IfOk r (λ there. AllKept half s new)
del_kept half s old new x key (Ok there) kept c = (del_gives half s old kept x new there key c).1.kept
del_kept half s old new x key (Err e) kept c = tt
