-- What a session closes into is a whole ledger, stored in forms of its own. For proofs of other crates.
use Rattle.std.proofs.Common.{◌≡◌, ◌≢◌, ⊎_elim, ℕ, ◌+◌, ◌<◌, ◌≤◌, ◌^◌, ◌++◌}
use Rattle.std.proofs.Common.{◌==◌, nat_lt, Bool, true, false}
use Rattle.std.proofs.Common.{if◌then◌else◌, List, [], ◌∷◌, length, take, drop, IsTrue}
use Rattle.std.proofs.Common.{IsSomeAnd, Option, None, Some, Contains}
use Rattle.std.proofs.Common.{refl, sym, ap, ◌∙◌, subst, arith, length-drop}
use Rattle.std.specs.Option.{option_and_then, unwrap_or}
use Rattle.std.specs.List.{find}
use Rattle.std.proofs.lemmas.Bool.{ltb-false, false≢true}
use Rattle.std.proofs.lemmas.List.{length-take-le}
use Rattle.std.proofs.lemmas.List.Elements.{Contains-append_cases, Contains-append_left, Contains-append_right}
use Rattle.ledger_spec.specs.declared.Kind.TheVariants as kinds
use Rattle.ledger_spec.specs.Maps.{hash_cmp, numbered_cmp, get_in, has_in}
use Rattle.ledger_spec.specs.Bytes.{Bytes, Hash, Half, IsHalf, Lookup, Items, is_zero, is_nonzero, are_bytes}
use Rattle.ledger_spec.specs.Header.{header_bytes, IsHeader, seq_of, state_root_of, close_of}
use Rattle.ledger_spec.specs.Forms.{header, header_prefix, header_of, hash_or_zero, Held}
use Rattle.ledger_spec.specs.Spots.{header_in}
use Rattle.ledger_spec.specs.Tree.{form_at, root_of, forms_of}
use Rattle.ledger_spec.specs.Offers.{Clash}
use Rattle.ledger_spec.proofs.shared.ByteForms.{bytes_end, bytes_join, bytes_take, bytes_drop}
use Rattle.ledger_spec.proofs.shared.Readings.{holds_header}
use Rattle.tree_laws.specs.Walks.{found_below}
use Rattle.tree_laws.proofs.shared.Joins.{in_one}
use Rattle.tree_laws.proofs.shared.Trees.{size_or_zero}
use Rattle.ledger_header.specs.declared.Header.{Header as Head}
use Rattle.ledger_header.specs.Fields.{fields, Reads}
use Rattle.ledger_header.proofs.shared.Joined.{parted, length-header_bytes}
use Rattle.ledger_machine.specs.declared.commands.CloseReply.TheVariants as close
use Rattle.ledger_machine.specs.declared.commands.Reply.{Reply}
use Rattle.ledger_machine.specs.declared.commands.Reply.TheVariants as says
use Rattle.ledger_machine.specs.State.{State, Session, form_in, with_forms, listed_with}
use Rattle.ledger_machine.specs.Sound.{Sound, IsWholeLedger, AreStored}
use Rattle.ledger_machine.specs.Scripts.{AreFields, drops_in, close_in, resolution_in, flags_in}
use Rattle.ledger_machine.specs.Closing.{new_header, closing_forms, first_clash, closed_or_clash, zero_or, close_given}
use Rattle.ledger_machine.specs.Closing.{close_reply, closed, after_close, close_forms, closes_into, unless_zero}
use Rattle.ledger_machine.specs.declared.commands.Command.TheVariants as command
use Rattle.ledger_machine.specs.Steps.{Step}
use Rattle.ledger_laws.proofs.Making.{forms_fit, forms_whole, root_nonzero}
use Rattle.ledger_laws.proofs.SoundCheck.{listed_sound}
use Rattle.ledger_laws.proofs.shared.SoundForms.{IsByteForm, may_store, with_forms_keeps, in_nothing, refused_keeps}
use Rattle.ledger_laws.proofs.SoundKeeps.{Keeps, keeps_sound, gives_same}
use Rattle.ledger_laws.proofs.shared.SoundTables.{all_found}
use Rattle.ledger_laws.proofs.shared.SoundSessions.{IsFit, fits_of}
use Rattle.ledger_laws.proofs.SoundSessions.{without_sound}
use Rattle.ledger_laws.proofs.HeaderBytes.{four_small, header_all, header_back}
use Rattle.ledger_laws.proofs.shared.StoringAll.{none_zero}
use Rattle.ledger_laws.proofs.StoringAll.{all_stored, whole_from}
use Rattle.ledger_laws.proofs.shared.SoundSteps.{outcome_cases}

-- what is known of the ledger that a session edits
record IsParent (half : Half) (t p : Bytes) : Type 0 where
  size : length p ≡ 118
  bytes : IsTrue (are_bytes p)
  own : (form : Bytes) × (t ≡ half form)

parent_of : (half : Half) (nodes : Lookup) (t p : Bytes) → AreStored half nodes → header_in nodes t ≡ Some p → IsParent half t p
parent_of half nodes t p stored is = at (nodes t) refl is
  where
    at : (o : Option Bytes) → nodes t ≡ o → option_and_then header_of o ≡ Some p → IsParent half t p
    at None there e = cc
    at (Some form) there e =
        let fit = holds_header half form p e in
        let kept = stored t form there in
        record {
          size = fit.0;
          bytes = bytes_end header_prefix p (subst (λ (b : Bytes). IsTrue (are_bytes b)) fit.1 kept.bytes);
          own = (form, kept.own);
        }

-- an answer that a session is closed passed all tests
record HasClosed (a b : Bool) (z : Option Bytes) (c : Option Clash) (h h' : Hash) : Type 0 where
  some : a ≡ false
  above : b ≡ false
  nonzero : z ≡ None
  apart : c ≡ None
  hash : h ≡ h'

has_closed : (a b d : Bool) (z : Option Bytes) (c : Option Clash) (h h' : Hash) (f : ℕ)
    → (if a then says.Close close.ZeroState else if b then says.Close (close.BelowFloor f)
    else zero_or z (if d then says.Close close.Listed else closed_or_clash h c)) ≡ says.Close (close.Closed h')
    → HasClosed a b z c h h'
has_closed true b d z c h h' f e = cc
has_closed false true d z c h h' f e = cc
has_closed false false d (Some form) c h h' f e = cc
has_closed false false true None c h h' f e = cc
has_closed false false false None (Some x) h h' f e = cc
has_closed false false false None None h h' f e =
    let same : h ≡ h' = cc in record { some = refl; above = refl; nonzero = refl; apart = refl; hash = same }

module _ (half : Half) (sized : IsHalf half) (s : State) (sound : Sound half s) (e : Session) (fit : IsFit half s e)
    (given : List ℕ) (are : AreFields given) where
  parent : Bytes
  parent = unwrap_or (header_in (form_in s) e.base) []

  -- the header, by its fields
  abbrev head : Bytes → Head
  head p = record {
    seq = seq_of p + 1;
    drops = drops_in given;
    parent = e.base;
    tx_root = root_of half kinds.Tx e.txs;
    state_root = root_of half kinds.State e.accounts;
    parent_close = close_of p;
    close = close_in given;
    resolution = resolution_in given;
    flags = flags_in given;
  }

  abbrev bytes : Bytes
  bytes = new_header half s e given

  abbrev forms : List Bytes
  forms = closing_forms half e bytes

  -- what is known of the header
  record IsNext (p : Bytes) : Type 0 where
    there : header_in (form_in s) e.base ≡ Some p
    is : IsHeader (fields (head p))
    same : bytes ≡ header_bytes (fields (head p))
    parent_bytes : IsTrue (are_bytes e.base)

  next : (p : Bytes) × IsNext p
  next = at (header_in (form_in s) e.base) refl
    where
      at : (o : Option Bytes) → header_in (form_in s) e.base ≡ o → (p : Bytes) × IsNext p
      at None there = absurd (subst (λ (o : Option Bytes). IsSomeAnd o (λ h. seq_of h + 1 < 2 ^ 32)) there fit.next)
      at (Some p) there =
          let old : IsParent half e.base p = parent_of half (form_in s) e.base p sound.forms there in
          let size : length (take 4 (drop 112 p)) ≡ 4 = length-take-le 4 (drop 112 p) (omega (arith, length-drop 112 p, old.size)) in (
            p,
            record {
              there = there;
              is = record {
                seq = subst (λ (o : Option Bytes). IsSomeAnd o (λ h. seq_of h + 1 < 2 ^ 32)) there fit.next;
                drops = are.drops;
                parent = ap length old.own.1 ∙ sized.size old.own.0;
                tx_root = size_or_zero half sized.size _;
                state_root = size_or_zero half sized.size _;
                parent_close = four_small (take 4 (drop 112 p)) size (bytes_take 4 (drop 112 p) (bytes_drop 112 p old.bytes));
                close = are.close;
                resolution = are.resolution;
                flags = are.flags;
              };
              same = ap (λ (o : Option Bytes). header_bytes (fields (head (unwrap_or o [])))) there;
              parent_bytes = subst (λ (b : Bytes). IsTrue (are_bytes b)) (sym old.own.1) (sized.bytes old.own.0);
            },
          )

  root_bytes : (o : Option Bytes) → IsTrue (are_bytes (hash_or_zero half o))
  root_bytes None = refl
  root_bytes (Some form) = sized.bytes form

  read : Reads bytes (head next.0)
  read = parted (head next.0) bytes next.1.is next.1.same

  -- its sequence is the one after its parent's
  pub next_seq : (p : Bytes) → header_in (form_in s) e.base ≡ Some p → seq_of bytes ≡ seq_of p + 1
  next_seq p there = read.seq ∙ ap (λ q. seq_of q + 1) (some_same (sym next.1.there ∙ there))
    where
      some_same : {a b : Bytes} → Some a ≡ Some b → a ≡ b
      some_same {a} {b} same = let is : a ≡ b = cc in is

  size : length bytes ≡ 118
  size = length-header_bytes (head next.0) bytes next.1.is next.1.same

  header_fit : IsByteForm half (header_prefix ++ bytes)
  header_fit = (
    (header bytes, (size, refl)),
    bytes_join header_prefix bytes refl (subst (λ (b : Bytes). IsTrue (are_bytes b)) (sym next.1.same)
        (header_all (head next.0) next.1.is next.1.parent_bytes (root_bytes (form_at half kinds.Tx e.txs []))
        (root_bytes (form_at half kinds.State e.accounts [])))),
  )

  -- each closing form is one of the account state's, of the transactions', or the header's
  in_accounts : (form : Bytes) → Contains (forms_of half kinds.State e.accounts) form → Contains forms form
  in_accounts form c =
      Contains-append_left (forms_of half kinds.State e.accounts ++ forms_of half kinds.Tx e.txs) ((header_prefix ++ bytes) ∷ []) form
      (Contains-append_left (forms_of half kinds.State e.accounts) (forms_of half kinds.Tx e.txs) form c)

  in_txs : (form : Bytes) → Contains (forms_of half kinds.Tx e.txs) form → Contains forms form
  in_txs form c =
      Contains-append_left (forms_of half kinds.State e.accounts ++ forms_of half kinds.Tx e.txs) ((header_prefix ++ bytes) ∷ []) form
      (Contains-append_right (forms_of half kinds.State e.accounts) (forms_of half kinds.Tx e.txs) form c)

  header_in_forms : Contains forms (header_prefix ++ bytes)
  header_in_forms =
      Contains-append_right (forms_of half kinds.State e.accounts ++ forms_of half kinds.Tx e.txs) ((header_prefix ++ bytes) ∷ [])
      (header_prefix ++ bytes) (0, omega arith, refl)

  -- where none has the zero hash, each is a form of bytes
  pub closing_fit : find (λ form. is_zero (half form)) forms ≡ None → (form : Bytes) → Contains forms form → IsByteForm half form
  closing_fit none form c =
      ⊎_elim
      (λ maps. ⊎_elim
      (λ first. forms_fit half sized kinds.State e.accounts fit.accounts
      (λ f there. none_zero half forms none f (in_accounts f there)) form first)
      (λ second. forms_fit half sized kinds.Tx e.txs fit.txs (λ f there. none_zero half forms none f (in_txs f there)) form second)
      (Contains-append_cases (forms_of half kinds.State e.accounts) (forms_of half kinds.Tx e.txs) form maps))
      (λ last. subst (λ (f : Bytes). IsByteForm half f) (in_one (header_prefix ++ bytes) form last) header_fit)
      (Contains-append_cases (forms_of half kinds.State e.accounts ++ forms_of half kinds.Tx e.txs) ((header_prefix ++ bytes) ∷ []) form c)

  -- the state after the forms are stored and the ledger is listed
  pub closed_sound : e.accounts ≢ [] → s.floor ≤ seq_of bytes → find (λ form. is_zero (half form)) forms ≡ None
      → first_clash half s forms ≡ None
      → Sound half (listed_with (with_forms half s forms) (half (header_prefix ++ bytes)) (seq_of bytes))
  closed_sound some above none apart =
      let s1 : State = with_forms half s forms in
      let h : Hash = half (header_prefix ++ bytes) in
      let keeps : Keeps half s s1 = with_forms_keeps half s forms
      (λ form c. may_store half form (none_zero half forms none form c) (closing_fit none form c)) in
      let stored : (form : Bytes) → Contains forms form → form_in s1 (half form) ≡ Some form = all_stored half s forms apart in
      let back : header_of (header_prefix ++ bytes) ≡ Some bytes = header_back bytes size in
      let there : header_in (form_in s1) h ≡ Some bytes =
      ap (option_and_then header_of) (stored (header_prefix ++ bytes) header_in_forms) ∙ back in
      let nonzero : IsTrue (is_nonzero (state_root_of bytes)) =
      subst (λ (r : Hash). IsTrue (is_nonzero r)) (sym read.state_root)
      (root_nonzero half sized kinds.State e.accounts fit.accounts some (λ f c. none_zero half forms none f (in_accounts f c))) in
      let whole : IsWholeLedger half (form_in s1) h = record {
        header = subst (λ (o : Option Bytes). IsSomeAnd o (λ p. IsTrue (is_nonzero (state_root_of p)))) (sym there) nonzero;
        whole = whole_from half (form_in s1) h bytes (stored (header_prefix ++ bytes) header_in_forms) back
            (subst (λ (r : Hash). found_below half (form_in s1) kinds.State 64 None [] r ≡ []) (sym read.state_root)
            (forms_whole half sized kinds.State e.accounts fit.accounts (form_in s1)
            (λ f c. (stored f (in_accounts f c), none_zero half forms none f (in_accounts f c)))))
            (subst (λ (r : Hash). found_below half (form_in s1) kinds.Tx 64 None [] r ≡ []) (sym read.tx_root)
            (forms_whole half sized kinds.Tx e.txs fit.txs (form_in s1)
            (λ f c. (stored f (in_txs f c), none_zero half forms none f (in_txs f c)))));
      } in
      listed_sound half s1 h (seq_of bytes) (keeps_sound half s s1 sound keeps) whole
      (subst (λ (n : ℕ). n ≤ seq_of bytes) (sym keeps.floor) above)
      (subst (λ (o : Option Bytes). IsSomeAnd o (λ p. seq_of p ≡ seq_of bytes)) (sym there) refl)

not_nil : (items : Items) → (length items == 0) ≡ false → items ≢ []
not_nil [] e none = absurd (false≢true (sym e))
not_nil (x ∷ items) e none = cc

-- each answer to `close` keeps a state sound
pub close_sound : (half : Half) (sized : IsHalf half) (s : State) (x : ℕ × ℕ) (given : List ℕ) (reply : Reply)
    → AreFields given → close_reply half s x given ≡ reply → Sound half s → Sound half (after_close half s x given reply)
close_sound half sized s x given (says.Close (close.Closed h)) are is sound = at (get_in numbered_cmp s.sessions x) refl is
  where
    at : (o : Option Session) → get_in numbered_cmp s.sessions x ≡ o → close_given half s given o ≡ says.Close (close.Closed h)
        → Sound half (closed half s x given h o)
    at None there e = sound
    at (Some e) there eq =
        let bytes : Bytes = new_header half s e given in
        let forms : List Bytes = closing_forms half e bytes in
        let fit : IsFit half s e = all_found (IsFit half s) _ s.sessions e (fits_of half s sound) there in
        let tests : HasClosed (length e.accounts == 0) (nat_lt (seq_of bytes) s.floor) (find (λ form. is_zero (half form)) forms)
        (first_clash half s forms) (half (header_prefix ++ bytes)) h =
        has_closed (length e.accounts == 0) (nat_lt (seq_of bytes) s.floor) (has_in hash_cmp s.listed (half (header_prefix ++ bytes)))
        (find (λ form. is_zero (half form)) forms) (first_clash half s forms) (half (header_prefix ++ bytes)) h s.floor eq in
        without_sound half (listed_with (with_forms half s forms) h (seq_of bytes)) x
        (subst (λ (k : Hash). Sound half (listed_with (with_forms half s forms) k (seq_of bytes))) tests.hash
        (closed_sound half sized s sound e fit given are (not_nil e.accounts tests.some)
        (ltb-false (seq_of bytes) s.floor tests.above) tests.nonzero tests.apart))
close_sound half sized s x given _ are is sound = sound

-- the own forms of a close are forms of bytes
pub close_own : (half : Half) (sized : IsHalf half) (s : State) (x : ℕ × ℕ) (given : List ℕ) (form : Bytes)
    → AreFields given → Sound half s → Contains (close_forms half s x given) form → IsByteForm half form
close_own half sized s x given form are sound c = at (get_in numbered_cmp s.sessions x) refl c
  where
    Own : Option Session → Option Bytes → Type 0
    Own o z = Contains (unless_zero z (closes_into half s given o)) form

    by : (e : Session) → IsFit half s e → (z : Option Bytes)
        → find (λ f. is_zero (half f)) (closing_forms half e (new_header half s e given)) ≡ z → Own (Some e) z → IsByteForm half form
    by e fit (Some f) is c = absurd (in_nothing c)
    by e fit None is c = closing_fit half sized s sound e fit given are is form c

    at : (o : Option Session) → get_in numbered_cmp s.sessions x ≡ o → Own o (find (λ f. is_zero (half f)) (closes_into half s given o))
        → IsByteForm half form
    at None there c = absurd (in_nothing c)
    at (Some e) there c =
        by e (all_found (IsFit half s) _ s.sessions e (fits_of half s sound) there)
        (find (λ f. is_zero (half f)) (closing_forms half e (new_header half s e given))) refl c

-- a step of `close`
pub close_step_sound : (half : Half) (sized : IsHalf half) (s s' : State) (a x : ℕ) (given : List ℕ) (reply : Reply)
    (used : List Held) → AreFields given → Sound half s → Step half s a (command.Close x given) reply used s' → Sound half s'
close_step_sound half sized s s' a x given reply used are sound step =
    ⊎_elim (λ r. keeps_sound half s s' sound
    (refused_keeps half s a (command.Close x given) s' (λ form i. close_own half sized s (a, x) given form are sound i) r))
    (λ g. gives_same half (after_close half s (a, x) given reply) s' (close_reply half s (a, x) given) reply
    (close_sound half sized s (a, x) given reply are (sym g.says) sound) g)
    (outcome_cases half s a (command.Close x given) reply used s' step.outcome)
