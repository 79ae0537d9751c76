-- What an open session closes into is what the machine's row says of it.
use Rattle.std.proofs.Common.{◌≡◌, ⊎_elim, ℕ, ◌+◌, ◌==◌, ◌++◌, nat_lt, Bool, false, List, [], ◌∷◌, length, map}
use Rattle.std.proofs.Common.{Contains, IsTrue, Option, None, Some, Ok, Err, refl, sym, ap, ◌∙◌, subst, if◌then◌else◌, ◌≢◌}
use Rattle.std.proofs.Common.{◌<◌, ◌≤◌, true, arith}
use Rattle.std.specs.List.{find}
use Rattle.std.proofs.lemmas.Bool.{false≢true, ltb-true, lt-ltb}
use Rattle.std.proofs.lemmas.Bool.Decides.{nat_tests}
use Rattle.std.specs.Option.{option_map}
use Rattle.std.specs.BTreeMap.{is_at}
use Rattle.std.proofs.lemmas.List.Elements.{Contains-append_left, Contains-append_right, Contains-append_cases}
use Rattle.ledger_spec.specs.Bytes.{Bytes, Half, IsHalf, Lookup, Items, is_zero}
use Rattle.ledger_spec.specs.Forms.{header_prefix}
use Rattle.ledger_spec.specs.Header.{header_bytes, seq_of}
use Rattle.ledger_spec.specs.Commits.{AreOwn}
use Rattle.ledger_spec.specs.Maps.{ForActor, hash_cmp, numbered_cmp, get_in, has_in}
use Rattle.ledger_header.specs.declared.Header.{Header}
use Rattle.ledger_header.specs.Fields.{fields}
use Rattle.cow_map.specs.declared.fault.MapFault.{MapFault}
use Rattle.cow_map.specs.declared.fault.MapFault.TheVariants as maps
use Rattle.cow_map.specs.Trees.{StandsFor}
use Rattle.cow_map.specs.Seals.{Picks}
use Rattle.cow_map.specs.Sealing.{named}
use Rattle.edit_session.specs.declared.close.Closed.{Closed}
use Rattle.edit_session.specs.declared.close.Fields.{Fields}
use Rattle.edit_session.specs.Closing.{IsOccupied}
use Rattle.edit_session.specs.Drafts.{Draft, Edits}
use Rattle.edit_session.specs.Closing as draft
use Rattle.ledger_laws.proofs.shared.SoundClosing.{next_seq}
use Rattle.ledger_laws.proofs.shared.SoundSessions.{IsFit, fits_of}
use Rattle.ledger_laws.proofs.shared.SoundTables.{all_found}
use Rattle.ledger_machine.specs.declared.commands.CloseReply.TheVariants as close
use Rattle.ledger_machine.specs.declared.commands.Reply.{Reply}
use Rattle.ledger_machine.specs.declared.commands.Reply.TheVariants as says
use Rattle.ledger_machine.specs.Closing.{new_header, closing_forms, close_given, close_reply, zero_or, closed_or_clash, first_clash}
use Rattle.ledger_machine.specs.Scripts.{AreFields}
use Rattle.ledger_machine.specs.Sound.{Sound}
use Rattle.ledger_machine.specs.State.{State, Session, form_in, with_forms}
use Rattle.open_sessions.specs.Edited.{IsKept, items_in, session_in}
use Rattle.open_sessions.proofs.shared.Closing.{picks_same, header_same, forms_same}
use Rattle.open_sessions.proofs.shared.Tables.{over_get}
use Rattle.core_machine.specs.Machines.{told_forms, with_open, KeepsDrafts}
use Rattle.core_machine.specs.Closing.{IsMade, IsUnmade, fields_of, unsealed_by}

-- forms that are given under their hashes are those forms
named_forms : (half : Half) (forms : List Bytes) → map (λ f. f.form) (map (named half) forms) ≡ forms
named_forms half [] = refl
named_forms half (form ∷ forms) = ap (λ t. form ∷ t) (named_forms half forms)

-- what was picked is among what it was picked from
picks_some : (half : Half) (stored : Lookup) (made forms : List Bytes) → Picks half stored made forms → (form : Bytes)
    → Contains made form → Contains forms form
picks_some half stored made [] p form c = subst (λ xs. Contains xs form) p c
picks_some half stored made (x ∷ forms) p form c =
    ⊎_elim
    (λ own. in_more own.0 (picks_some half stored own.0 forms own.2) (subst (λ xs. Contains xs form) own.1 c))
    (λ old. Contains-append_right (x ∷ []) forms form (picks_some half stored made forms old.1 form c)) p
  where
    in_more : (rest : List Bytes) → ((f : Bytes) → Contains rest f → Contains forms f) → Contains (x ∷ rest) form
        → Contains (x ∷ forms) form
    in_more rest up there =
        ⊎_elim (λ first. Contains-append_left (x ∷ []) forms form first)
        (λ later. Contains-append_right (x ∷ []) forms form (up form later)) (Contains-append_cases (x ∷ []) rest form there)

-- no session is open under the number
pub unmade_none : (half : Half) (tells : Bool) (ms : State) (drafts : ForActor Draft) (x : ℕ × ℕ) (given : List ℕ)
    → get_in numbered_cmp drafts x ≡ None
    → IsUnmade half tells (with_open half tells ms drafts) x given (says.Close close.NoSession)
unmade_none half tells ms drafts x given none = record {
  row = λ told. sym (ap (close_given half (with_open half tells ms drafts) given)
      (over_get (session_in half (told_forms tells ms)) drafts x ∙ ap (option_map (session_in half (told_forms tells ms))) none));
  free = λ e. cc;
}

module _ (half : Half) (ms : State) (drafts : ForActor Draft) (x : ℕ × ℕ) (d : Draft) (is : get_in numbered_cmp drafts x ≡ Some d)
    (given : List ℕ) where
  abbrev s : State
  s = with_open half true ms drafts

  abbrev e : Session
  e = session_in half (form_in ms) d

  abbrev header : Bytes
  header = new_header half s e given

  abbrev forms : List Bytes
  forms = closing_forms half e header

  abbrev next : Header
  next = draft.closing_header half d (fields_of given) e.accounts e.txs

  opened : get_in numbered_cmp s.sessions x ≡ Some e
  opened = over_get (session_in half (form_in ms)) drafts x ∙ ap (option_map (session_in half (form_in ms))) is

  -- the reply, by the row's tests
  abbrev by_tests : Bool → Bool → Option Bytes → Reply
  by_tests a b z =
      if a then says.Close close.ZeroState
      else if b then says.Close (close.BelowFloor s.floor)
      else zero_or z (if has_in hash_cmp s.listed (half (header_prefix ++ header)) then says.Close close.Listed
      else closed_or_clash (half (header_prefix ++ header)) (first_clash half s forms))

  row : close_reply half s x given
      ≡ by_tests (length e.accounts == 0) (nat_lt (seq_of header) s.floor) (find (λ form. is_zero (half form)) forms)
  row = ap (close_given half s given) opened

  -- the account state is empty
  pub empty_row : e.accounts ≡ [] → says.Close close.ZeroState ≡ close_reply half s x given
  empty_row none =
      sym (row ∙ ap (λ (i : Items). by_tests (length i == 0) (nat_lt (seq_of header) s.floor) (find (λ form. is_zero (half form)) forms))
      none)

  occupied : e.accounts ≢ [] → (length e.accounts == 0) ≡ false
  occupied some = by e.accounts some
    where
      by : (i : Items) → i ≢ [] → (length i == 0) ≡ false
      by [] not = absurd (not refl)
      by (y ∷ i) not = grind (arith, nat_tests)

  module _ (sized : IsHalf half) (sound : Sound half s) (kept : IsKept half (form_in ms) d) (are : AreFields given)
      (some : e.accounts ≢ []) where
    same_header : header ≡ header_bytes (fields next)
    same_header = header_same half ms d given kept

    same_forms : forms ≡ draft.closing_forms half e.accounts e.txs next
    same_forms = forms_same half ms d given kept

    -- its sequence is the one after its parent's
    after_parent : seq_of header ≡ d.parent.seq + 1
    after_parent =
        next_seq half sized s sound e (all_found (IsFit half s) (is_at (numbered_cmp x)) s.sessions e (fits_of half s sound) opened)
        given are (header_bytes (fields d.parent)) kept.header
        ∙ ap (λ n. n + 1) kept.reads.seq

    -- the sequence is below the floor
    pub low_row : nat_lt (d.parent.seq + 1) s.floor ≡ true → says.Close (close.BelowFloor s.floor) ≡ close_reply half s x given
    low_row low =
        sym (row ∙ ap (λ a. by_tests a (nat_lt (seq_of header) s.floor) (find (λ form. is_zero (half form)) forms)) (occupied some)
        ∙ ap (λ n. by_tests false (nat_lt n s.floor) (find (λ form. is_zero (half form)) forms)) after_parent
        ∙ ap (λ b. by_tests false b (find (λ form. is_zero (half form)) forms)) low)

    -- nothing is stored under the zero hash
    no_zero : draft.IsNoneAtZero (form_in ms)
    no_zero h form held = (sound.forms h form held).nonzero

    -- a form has the zero hash
    pub zero_row : (form : Bytes) → nat_lt (d.parent.seq + 1) s.floor ≡ false
        → draft.NamesFirst half (form_in ms) d (fields_of given) e.accounts e.txs (Err (maps.ZeroHash form))
        → says.ZeroHash form ≡ close_reply half s x given
    zero_row form high first =
        sym (row ∙ ap (λ a. by_tests a (nat_lt (seq_of header) s.floor) (find (λ f. is_zero (half f)) forms)) (occupied some)
        ∙ ap (λ n. by_tests false (nat_lt n s.floor) (find (λ f. is_zero (half f)) forms)) after_parent
        ∙ ap (λ b. by_tests false b (find (λ f. is_zero (half f)) forms)) high
        ∙ ap (by_tests false false) (ap (find (λ f. is_zero (half f))) same_forms ∙ first.all no_zero))

    -- the ledger is made
    pub made_of : (c : Closed) → nat_lt (d.parent.seq + 1) s.floor ≡ false → draft.Follows half d (fields_of given) c
        → draft.Closes half (form_in ms) d (fields_of given) e.accounts e.txs c
        → draft.NamesFirst half (form_in ms) d (fields_of given) e.accounts e.txs (Ok c) → IsMade half s x given c
    made_of c high follows closes first =
        let made : List Bytes = draft.new_forms half d c.header in
        let same_made : map (λ f. f.form) c.forms.items ≡ made = ap (map (λ f. f.form)) closes.forms ∙ named_forms half made in
        let picks : Picks half (form_in ms) made forms = subst (λ fs. Picks half (form_in ms) made fs)
        (ap (draft.closing_forms half e.accounts e.txs) closes.header ∙ sym same_forms) closes.all in
        let same = picks_same half s made forms picks in record {
          session = e;
          is_open = opened;
          occupied = occupied some;
          high = ap (λ n. nat_lt n s.floor) after_parent ∙ high;
          nonzero = ap (find (λ form. is_zero (half form))) same_forms ∙ first.all no_zero;
          hash = follows.hash ∙ ap (λ h. half (draft.header_form h)) closes.header ∙ ap (λ b. half (header_prefix ++ b)) (sym same_header);
          seq = ap (λ h. h.seq) closes.header ∙ sym after_parent;
          some = λ form there. picks_some half (form_in ms) made forms picks form (subst (λ fs. Contains fs form) same_made there);
          clash = same.0 ∙ ap (first_clash half s) (sym same_made);
          stored = same.1 ∙ ap (with_forms half s) (sym same_made);
        }

-- a number isn't less than one that isn't above it
not_less : (a b : ℕ) → b ≤ a → nat_lt a b ≡ false
not_less a b le = by (nat_lt a b) refl
  where
    by : (t : Bool) → nat_lt a b ≡ t → t ≡ false
    by true e = absurd (omega (arith, ltb-true a b e, le))
    by false e = refl

-- what a close is asked with, where the store tells what it holds
pub record Asked (half : Half) (tells : Bool) (ms : State) (drafts : ForActor Draft) (x : ℕ × ℕ) (d : Draft) (given : List ℕ) : Type 0 where
  pub is : get_in numbered_cmp drafts x ≡ Some d
  pub keeps : KeepsDrafts half tells ms drafts
  pub sound : IsTrue tells → Sound half (with_open half tells ms drafts)
  pub are : AreFields given

module _ (half : Half) (ms : State) (drafts : ForActor Draft) (x : ℕ × ℕ) (d : Draft) (given : List ℕ) where
  abbrev accounts : Items
  accounts = items_in half (form_in ms) d.state

  abbrev txs : Items
  txs = items_in half (form_in ms) d.txs

  -- the draft is kept
  kept_of : (a : Asked half true ms drafts x d given) → IsKept half (form_in ms) d
  kept_of a = all_found (IsKept half (form_in ms)) (is_at (numbered_cmp x)) drafts d (a.keeps refl (a.sound refl).forms) a.is

  pub unmade_empty : (tells : Bool) → Asked half tells ms drafts x d given
      → ((h : Half) (stored : Lookup) (items : Items) → StandsFor h stored d.state items → items ≡ [])
      → IsUnmade half tells (with_open half tells ms drafts) x given (says.Close close.ZeroState)
  unmade_empty true a none = record {
    row = λ told. empty_row half ms drafts x d a.is given (none half (form_in ms) accounts (kept_of a).edits.state);
    free = λ e. cc;
  }
  unmade_empty false a none = record { row = λ told. absurd (false≢true told); free = λ e. cc }

  module _ (sized : IsHalf half) (some : IsOccupied d.state) where
    pub unmade_low : (tells : Bool) (next floor : ℕ) → Asked half tells ms drafts x d given → next ≡ d.parent.seq + 1 → floor ≡ ms.floor
        → next < floor
        → IsUnmade half tells (with_open half tells ms drafts) x given (says.Close (close.BelowFloor floor))
    unmade_low true next floor a is at low = record {
      row = λ told. ap (λ n. says.Close (close.BelowFloor n)) at
          ∙ low_row half ms drafts x d a.is given sized (a.sound refl) (kept_of a) a.are
          (some half (form_in ms) accounts (kept_of a).edits.state) (lt-ltb (d.parent.seq + 1) ms.floor (omega (arith, is, at, low)));
      free = λ e. cc;
    }
    unmade_low false next floor a is at low = record { row = λ told. absurd (false≢true told); free = λ e. cc }

    pub unmade_fault : (tells : Bool) (next floor : ℕ) (f : Fields) (why : MapFault) → Asked half tells ms drafts x d given
        → next ≡ d.parent.seq + 1 → floor ≡ ms.floor → floor ≤ next → f ≡ fields_of given
        → ((stored : Lookup) (accounts txs : Items) → AreOwn half stored → Edits half stored d accounts txs
        → draft.NamesFirst half stored d f accounts txs (Err why))
        → IsUnmade half tells (with_open half tells ms drafts) x given (unsealed_by why)
    unmade_fault true next floor f (maps.ZeroHash form) a is at high same first = record {
      row = λ told. zero_row half ms drafts x d a.is given sized (a.sound refl) (kept_of a) a.are
          (some half (form_in ms) accounts (kept_of a).edits.state) form
          (not_less (d.parent.seq + 1) ms.floor (omega (arith, is, at, high)))
          (subst (λ (y : Fields). draft.NamesFirst half (form_in ms) d y accounts txs (Err (maps.ZeroHash form))) same
          (first (form_in ms) accounts txs (λ h form held. ((a.sound refl).forms h form held).own) (kept_of a).edits));
      free = λ e. cc;
    }
    unmade_fault false next floor f (maps.ZeroHash form) a is at high same first =
        record { row = λ told. absurd (false≢true told); free = λ e. cc }
    unmade_fault tells next floor f maps.Memory a is at high same first = record { row = λ told. refl; free = λ e. cc }
    unmade_fault tells next floor f maps.Fault a is at high same first = record { row = λ told. refl; free = λ e. cc }
    unmade_fault tells next floor f (maps.Absent h) a is at high same first = record { row = λ told. refl; free = λ e. cc }
    unmade_fault tells next floor f (maps.Shape place rule) a is at high same first = record { row = λ told. refl; free = λ e. cc }

    -- what a close gives
    pub record Gives (f : Fields) (c : Closed) : Type 0 where
      pub follows : draft.Follows half d f c
      pub closes : (stored : Lookup) (accounts txs : Items) → AreOwn half stored → Edits half stored d accounts txs
          → draft.Closes half stored d f accounts txs c
      pub zero : (stored : Lookup) (accounts txs : Items) → AreOwn half stored → Edits half stored d accounts txs
          → draft.NamesFirst half stored d f accounts txs (Ok c)

    pub made_whole : (tells : Bool) (next floor : ℕ) (f : Fields) (c : Closed) → Asked half tells ms drafts x d given
        → next ≡ d.parent.seq + 1 → floor ≡ ms.floor → floor ≤ next → f ≡ fields_of given → Gives f c → IsTrue tells
        → IsMade half (with_open half tells ms drafts) x given c
    made_whole true next floor f c a is at high same g told =
        let own : AreOwn half (form_in ms) = λ h form held. ((a.sound refl).forms h form held).own in
        made_of half ms drafts x d a.is given sized (a.sound refl) (kept_of a) a.are
        (some half (form_in ms) accounts (kept_of a).edits.state) c
        (not_less (d.parent.seq + 1) ms.floor (omega (arith, is, at, high)))
        (subst (λ (y : Fields). draft.Follows half d y c) same g.follows)
        (subst (λ (y : Fields). draft.Closes half (form_in ms) d y accounts txs c) same
        (g.closes (form_in ms) accounts txs own (kept_of a).edits))
        (subst (λ (y : Fields). draft.NamesFirst half (form_in ms) d y accounts txs (Ok c)) same
        (g.zero (form_in ms) accounts txs own (kept_of a).edits))
    made_whole false next floor f c a is at high same g told = absurd (false≢true told)
