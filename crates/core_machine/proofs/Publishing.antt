-- What a close leaves: the row of a ledger that is stored and listed, and of one that isn't.
use Rattle.std.proofs.Common.{◌≡◌, ◌≤◌, inl, inr, ⊎_elim, ℕ, suc, length, arith, ◌++◌, nat_lt, Bool, true, false, IsTrue, IsSome}
use Rattle.std.proofs.Common.{List, [], ◌∷◌, map, if◌then◌else◌, Contains, Option, None, Result, Ok, Err, OnOk}
use Rattle.std.proofs.Common.{refl, sym, ap, ◌∙◌, subst}
use Rattle.std.specs.List.{find}
use Rattle.std.specs.Option.{option_or}
use Rattle.std.proofs.lemmas.Bool.{false≢true}
use Rattle.std.proofs.lemmas.List.{append-nil}
use Rattle.std.proofs.lemmas.List.Elements.{Contains-append_left, Contains-append_right, Contains-append_cases}
use Rattle.cow_map.specs.declared.seal.FormOf.{FormOf}
use Rattle.cow_map.specs.Sealing.{AreNamed}
use Rattle.ledger_spec.specs.Bytes.{Bytes, Hash, Half, Lookup, is_zero}
use Rattle.ledger_spec.specs.Forms.{header_prefix}
use Rattle.ledger_spec.specs.Header.{seq_of}
use Rattle.ledger_spec.specs.Tree.{forms_of}
use Rattle.ledger_spec.specs.declared.Kind.TheVariants as kinds
use Rattle.ledger_spec.specs.Maps.{ForActor, hash_cmp, numbered_cmp, has_in, remove_in}
use Rattle.ledger_spec.proofs.shared.ReachLaws.{Grows}
use Rattle.ledger_spec.proofs.shared.Storing.{in_nothing, in_one}
use Rattle.edit_session.specs.declared.close.Closed.{Closed}
use Rattle.edit_session.specs.Drafts.{Draft, StaysOverParent}
use Rattle.node_offer.specs.declared.fault.OfferFault.{OfferFault}
use Rattle.node_offer.specs.declared.fault.OfferFault.TheVariants as faults
use Rattle.ledger_laws.proofs.shared.Beside.{form_beside, forms_beside}
use Rattle.ledger_laws.proofs.shared.StoringAll.{none_zero}
use Rattle.ledger_laws.proofs.shared.SoundForms.{with_forms_grow, in_head, in_tail}
use Rattle.ledger_machine.specs.declared.commands.Command.TheVariants as command
use Rattle.ledger_machine.specs.declared.commands.CloseReply.TheVariants as close
use Rattle.ledger_machine.specs.declared.commands.Reply.{Reply}
use Rattle.ledger_machine.specs.declared.commands.Reply.TheVariants as says
use Rattle.ledger_machine.specs.Closing.{new_header, closing_forms, clash_under, first_clash, closed_or_clash, zero_or}
use Rattle.ledger_machine.specs.Closing.{close_given, close_reply, closed, after_close, closes_into, unless_zero, close_forms}
use Rattle.ledger_machine.specs.Rotation.{Tells}
use Rattle.ledger_machine.specs.Sessions.{without_session}
use Rattle.ledger_machine.specs.State.{State, Session, form_in, with_form, with_forms, with_sessions, listed_with}
use Rattle.ledger_machine.specs.Steps.{Does, IsAfter, Refused, own_hashes, want_target}
use Rattle.open_sessions.specs.Edited.{sessions_in}
use Rattle.open_sessions.specs.Rows.{AllKept}
use Rattle.core_machine.specs.Machines.{with_open, KeepsDrafts}
use Rattle.core_machine.specs.Closing.{MayKeepAll, KeptSome, IsMade, IsUnclosed}
use Rattle.core_machine.specs.Refusals.{refusal_of}
use Rattle.core_machine.specs.Commands.{TellsRoot}
use Rattle.core_machine.specs.Telling.{Hears}
use Rattle.core_machine.proofs.Listed.{insert_few}
use Rattle.core_machine.proofs.Machines.{all_grow, sessions_stay, ended_state, ended_keeps, keeps_same}
use Rattle.core_machine.proofs.shared.States.{after_on, form_after}

-- forms that are given with their own hashes have these
named_hashes : (half : Half) (items : List FormOf) → AreNamed half items → map (λ f. f.hash) items ≡ map half (map (λ f. f.form) items)
named_hashes half [] all = refl
named_hashes half (f ∷ items) all =
    λ i. all 0 f (omega arith) i ∷ named_hashes half items (λ k d lt. all (suc k) d (omega (arith, lt))) i

-- the image of an element is among the images
map_in : {A B : Type 0} (g : A → B) (xs : List A) (x : A) → Contains xs x → Contains (map g xs) (g x)
map_in g [] x c = absurd (in_nothing c)
map_in g (y ∷ xs) x c =
    ⊎_elim (λ first. subst (λ z. Contains (g y ∷ map g xs) (g z)) (sym (in_one y x first)) (in_head (g y) (map g xs)))
    (λ later. in_tail (g y) (g x) (map g xs) (map_in g xs x later)) (Contains-append_cases (y ∷ []) xs x c)

map_sub : {A B : Type 0} (g : A → B) (xs ys : List A) (h : B) → ((x : A) → Contains xs x → Contains ys x) → Contains (map g xs) h
    → Contains (map g ys) h
map_sub g [] ys h into c = absurd (in_nothing c)
map_sub g (x ∷ xs) ys h into c =
    ⊎_elim (λ first. subst (λ z. Contains (map g ys) z) (sym (in_one (g x) h first)) (map_in g ys x (into x (in_head x xs))))
    (λ later. map_sub g xs ys h (λ y i. into y (in_tail x y xs i)) later) (Contains-append_cases (g x ∷ []) (map g xs) h c)

-- what a rotation was told changes neither what forms leave nor which of them clash
module _ (half : Half) where
  forms_after : (s t : State) → IsAfter s t → (forms : List Bytes) → IsAfter (with_forms half s forms) (with_forms half t forms)
  forms_after s t after [] = after
  forms_after s t after (form ∷ forms) =
      forms_after (with_form half s form) (with_form half t form) (form_after half s t form after) forms

  clash_after : (s t : State) → IsAfter s t → (forms : List Bytes) → first_clash half s forms ≡ first_clash half t forms
  clash_after s t after [] = refl
  clash_after s t after (form ∷ forms) =
      ap (λ (x : State). option_or (clash_under (half form) form (form_in x (half form))) (first_clash half (with_form half s form) forms))
      (sym after)
      ∙ ap (option_or (clash_under (half form) form (form_in t (half form))))
      (clash_after (with_form half s form) (with_form half t form) (form_after half s t form after) forms)

  some_after : (s t u : State) → IsAfter s t → (forms : List Bytes) → KeptSome half t forms u → KeptSome half s forms u
  some_after s t u after forms k = record {
    kept = k.kept;
    rest = k.rest;
    whole = k.whole;
    state = after_on (with_forms half s k.kept) (with_forms half t k.kept) u (forms_after s t after k.kept) k.state;
  }

  pub kept_after : {X : Type 0} (s t u : State) (forms : List Bytes) (r : Result X OfferFault) → IsAfter s t → MayKeepAll half t forms r u
      → MayKeepAll half s forms r u
  kept_after s t u forms (Ok x) after may = (
    clash_after s t after forms ∙ may.0,
    after_on (with_forms half s forms) (with_forms half t forms) u (forms_after s t after forms) may.1,
  )
  kept_after s t u forms (Err (faults.Clash h old new)) after may =
      (clash_after s t after forms ∙ may.0, some_after s t u after forms may.1)
  kept_after s t u forms (Err faults.Fault) after may = some_after s t u after forms may
  kept_after s t u forms (Err faults.Memory) after may = some_after s t u after forms may

  -- nothing is stored for want of memory to tell the rotation
  pub none_kept : (X : Type 0) (s u : State) (forms : List Bytes) → IsAfter s u → MayKeepAll {X = X} half s forms (Err faults.Memory) u
  none_kept X s u forms after = record { kept = []; rest = forms; whole = refl; state = after }

-- first one hash is told, then more
pub hears_more : (a b c : List Hash) (h : Hash) (more : List Hash) → Hears a (h ∷ []) b → Hears b more c → Hears a (h ∷ more) c
hears_more a b c h more one all = record {
  stays = λ q i. all.stays q (one.stays q i);
  only = λ q i. ⊎_elim
      (λ was. ⊎_elim (λ old. inl old) (λ new. inr (Contains-append_left (h ∷ []) more q new)) (one.only q was))
      (λ new. inr (Contains-append_right (h ∷ []) more q new)) (all.only q i);
}

pub hears_front : (a b : List Hash) (h : Hash) (more : List Hash) → Hears a (h ∷ []) b → Hears a (h ∷ more) b
hears_front a b h more one = record {
  stays = one.stays;
  only = λ q i. ⊎_elim (λ old. inl old) (λ new. inr (Contains-append_left (h ∷ []) more q new)) (one.only q i);
}

pub told_later : {X E : Type 0} (r : Result X E) (o : Option ℕ) (b c more : List Hash) (h : Hash) → (IsSome o → Contains b h)
    → Hears b more c → OnOk r (IsSome o → Contains c h)
told_later (Ok x) o b c more h told hears = λ some. hears.stays h (told some)
told_later (Err e) o b c more h told hears = tt

module _ (half : Half) (law : StaysOverParent) (drafts : ForActor Draft) where
  -- which sessions are open decides no clash
  clash_beside : (es : ForActor Session) (s : State) (forms : List Bytes)
      → first_clash half (with_sessions s es) forms ≡ first_clash half s forms
  clash_beside es s [] = refl
  clash_beside es s (form ∷ forms) =
      ap (λ (x : State). option_or (clash_under (half form) form (form_in s (half form))) (first_clash half x forms))
      (form_beside half es s form)
      ∙ ap (option_or (clash_under (half form) form (form_in s (half form)))) (clash_beside es (with_form half s form) forms)

  forms_grow : (s s' : State) (forms : List Bytes) → IsAfter (with_forms half s forms) s' → Grows (form_in s) (form_in s')
  forms_grow s s' forms is = subst (λ (x : Lookup). Grows (form_in s) x) (sym (ap form_in is)) (with_forms_grow half s forms)

  -- forms that are stored leave the sessions what they are
  forms_open : (s s' : State) (forms : List Bytes) → IsAfter (with_forms half s forms) s' → AllKept half s drafts
      → IsAfter (with_forms half (with_open half true s drafts) forms) (with_open half true s' drafts)
  forms_open s s' forms is all =
      ap (with_sessions s') (sessions_stay half law drafts s s' (forms_grow s s' forms is) all)
      ∙ ap (λ (x : State). with_sessions x (sessions_in half (form_in s) drafts)) is
      ∙ ap (λ (x : State). record x { shaded = s'.shaded }) (sym (forms_beside half (sessions_in half (form_in s) drafts) s forms))

  some_open : (s s' : State) (forms : List Bytes) → AllKept half s drafts → KeptSome half s forms s'
      → KeptSome half (with_open half true s drafts) forms (with_open half true s' drafts)
  some_open s s' forms all k =
      record { kept = k.kept; rest = k.rest; whole = k.whole; state = forms_open s s' k.kept k.state all }

  -- what the machine keeps of the forms is kept beside the sessions
  pub kept_open : {X : Type 0} (tells : Bool) (s s' : State) (forms : List Bytes) (r : Result X OfferFault) → IsTrue tells
      → AllKept half s drafts → MayKeepAll half s forms r s'
      → MayKeepAll half (with_open half tells s drafts) forms r (with_open half tells s' drafts)
  kept_open true s s' forms (Ok x) told all may =
      (clash_beside (sessions_in half (form_in s) drafts) s forms ∙ may.0, forms_open s s' forms may.1 all)
  kept_open true s s' forms (Err (faults.Clash h old new)) told all may =
      (clash_beside (sessions_in half (form_in s) drafts) s forms ∙ may.0, some_open s s' forms all may.1)
  kept_open true s s' forms (Err faults.Fault) told all may = some_open s s' forms all may
  kept_open true s s' forms (Err faults.Memory) told all may = some_open s s' forms all may
  kept_open false s s' forms r told all may = absurd (false≢true told)

  kept_grow : {X : Type 0} (s s' : State) (forms : List Bytes) (r : Result X OfferFault) → MayKeepAll half s forms r s'
      → Grows (form_in s) (form_in s')
  kept_grow s s' forms (Ok x) may = forms_grow s s' forms may.1
  kept_grow s s' forms (Err (faults.Clash h old new)) may = forms_grow s s' may.1.kept may.1.state
  kept_grow s s' forms (Err faults.Fault) may = forms_grow s s' may.kept may.state
  kept_grow s s' forms (Err faults.Memory) may = forms_grow s s' may.kept may.state

  pub kept_keeps : {X : Type 0} (tells : Bool) (s s' : State) (forms : List Bytes) (r : Result X OfferFault)
      → (IsTrue tells → AllKept half s drafts) → (IsTrue tells → MayKeepAll half s forms r s') → KeepsDrafts half tells s' drafts
  kept_keeps tells s s' forms r all may told stored = all_grow half law drafts s s' (kept_grow s s' forms r (may told)) (all told)

-- a ledger that is listed, whose session has ended
listed_open : (half : Half) (tells : Bool) (s : State) (drafts : ForActor Draft) (t : Hash) (seq : ℕ)
    → with_open half tells (listed_with s t seq) drafts ≡ listed_with (with_open half tells s drafts) t seq
listed_open half true s drafts t seq = refl
listed_open half false s drafts t seq = refl

pub enlisted : (half : Half) (tells : Bool) (s s' : State) (drafts new : ForActor Draft) (x : ℕ × ℕ) (t : Hash) (seq : ℕ)
    → s' ≡ listed_with s t seq → new ≡ remove_in numbered_cmp drafts x
    → with_open half tells s' new ≡ without_session (listed_with (with_open half tells s drafts) t seq) x
enlisted half tells s s' drafts new x t seq is ended =
    ended_state half tells s' drafts new x ended
    ∙ ap (λ (y : State). without_session (with_open half tells y drafts) x) is
    ∙ ap (λ (y : State). without_session y x) (listed_open half tells s drafts t seq)

-- one ledger more is listed at most
pub enlisted_few : (s mid s' : State) (x : ℕ × ℕ) (t : Hash) (seq : ℕ) → mid.listed ≡ s.listed
    → s' ≡ without_session (listed_with mid t seq) x → length s'.listed ≤ suc (length s.listed)
enlisted_few s mid s' x t seq same is =
    omega (arith, insert_few mid.listed t seq, ap (λ (y : State). length y.listed) is, ap length same)

pub enlisted_keeps : (half : Half) (tells : Bool) (s s' : State) (drafts new : ForActor Draft) (x : ℕ × ℕ) (t : Hash) (seq : ℕ)
    → s' ≡ listed_with s t seq → new ≡ remove_in numbered_cmp drafts x → KeepsDrafts half tells s drafts → KeepsDrafts half tells s' new
enlisted_keeps half tells s s' drafts new x t seq is ended keeps =
    ended_keeps half tells s' drafts new x ended (keeps_same half tells s s' drafts (ap form_in is) keeps)

module _ (half : Half) (s : State) (x : ℕ × ℕ) (given : List ℕ) where
  -- a close that changes nothing
  pub unclosed : (reply : Reply) → IsUnclosed (close_reply half s x given) reply → Does half s x.0 (command.Close x.1 given) reply [] s
  unclosed (says.Close close.NoSession) row = record { outcome = record { says = row; after = refl }; uses = refl }
  unclosed (says.Close close.ZeroState) row = record { outcome = record { says = row; after = refl }; uses = refl }
  unclosed (says.Close (close.BelowFloor f)) row = record { outcome = record { says = row; after = refl }; uses = refl }
  unclosed (says.ZeroHash form) row =
      record { outcome = (row, record { forms = []; own = λ f c. absurd (in_nothing c); same = refl }); uses = refl }
  unclosed says.Memory row =
      record { outcome = (tt, record { forms = []; own = λ f c. absurd (in_nothing c); same = refl }); uses = refl }
  unclosed _ row = cc

  -- it lists nothing
  pub unclosed_names : (reply : Reply) → IsUnclosed (close_reply half s x given) reply → TellsRoot s (command.Close x.1 given) reply s
  unclosed_names (says.Close close.NoSession) row = tt
  unclosed_names (says.Close close.ZeroState) row = tt
  unclosed_names (says.Close (close.BelowFloor f)) row = tt
  unclosed_names (says.Close close.Listed) row = tt
  unclosed_names (says.Close (close.Closed h)) row = cc
  unclosed_names _ row = tt

  module _ (c : Closed) (m : IsMade half s x given c) where
    abbrev header : Bytes
    header = new_header half s m.session given

    abbrev forms : List Bytes
    forms = closing_forms half m.session header

    abbrev made : List Bytes
    made = map (λ f. f.form) c.forms.items

    -- the reply, by the row's tests
    abbrev by_tests : Bool → Bool → Option Bytes → Reply → Reply
    by_tests a b z rest = if a then says.Close close.ZeroState else if b then says.Close (close.BelowFloor s.floor) else zero_or z rest

    abbrev last : Hash → Reply
    last h = if has_in hash_cmp s.listed h then says.Close close.Listed else closed_or_clash h (first_clash half s forms)

    abbrev rest : Reply
    rest = if has_in hash_cmp s.listed c.hash then says.Close close.Listed else closed_or_clash c.hash (first_clash half s made)

    -- where the tests before are passed, it is listed already, has a clash, or is closed
    row : close_reply half s x given ≡ rest
    row =
        ap (close_given half s given) m.is_open
        ∙ ap (λ a. by_tests a (nat_lt (seq_of header) s.floor) (find (λ form. is_zero (half form)) forms)
        (last (half (header_prefix ++ header)))) m.occupied
        ∙ ap (λ b. by_tests false b (find (λ form. is_zero (half form)) forms) (last (half (header_prefix ++ header)))) m.high
        ∙ ap (λ z. by_tests false false z (last (half (header_prefix ++ header)))) m.nonzero
        ∙ ap last (sym m.hash)
        ∙ ap (λ o. if has_in hash_cmp s.listed c.hash then says.Close close.Listed else closed_or_clash c.hash o) m.clash

    -- its forms are the command's own, since none has the zero hash
    own : close_forms half s x given ≡ forms
    own =
        ap (λ o. unless_zero (find (λ form. is_zero (half form)) (closes_into half s given o)) (closes_into half s given o)) m.is_open
        ∙ ap (λ z. unless_zero z forms) m.nonzero

    some_refused : (s' : State) → KeptSome half s made s' → Refused half s x.0 (command.Close x.1 given) s'
    some_refused s' k = record {
      forms = k.kept;
      own = λ form there.
          let is : Contains forms form = m.some form (subst (λ fs. Contains fs form) (sym k.whole)
          (Contains-append_left k.kept k.rest form there)) in
          (subst (λ fs. Contains fs form) (sym own) is, none_zero half forms m.nonzero form is);
      same = k.state;
    }

    -- a ledger that is listed already
    pub was_listed : has_in hash_cmp s.listed c.hash ≡ true → Does half s x.0 (command.Close x.1 given) (says.Close close.Listed) [] s
    was_listed there = record {
      outcome = record {
        says = sym (row ∙ ap (λ b. if b then says.Close close.Listed else closed_or_clash c.hash (first_clash half s made)) there);
        after = refl;
      };
      uses = refl;
    }

    -- the reply where it isn't
    unlisted : has_in hash_cmp s.listed c.hash ≡ false → (o : _) → first_clash half s made ≡ o
        → close_reply half s x given ≡ closed_or_clash c.hash o
    unlisted new o is =
        row ∙ ap (λ b. if b then says.Close close.Listed else closed_or_clash c.hash (first_clash half s made)) new
        ∙ ap (closed_or_clash c.hash) is

    -- one whose forms weren't all stored
    pub unkept : (why : OfferFault) (s' : State) → has_in hash_cmp s.listed c.hash ≡ false
        → MayKeepAll {X = Unit {0}} half s made (Err why) s' → Does half s x.0 (command.Close x.1 given) (refusal_of why) [] s'
    unkept (faults.Clash h old new) s' listed may =
        record { outcome = (sym (unlisted listed _ may.0), some_refused s' may.1); uses = refl }
    unkept faults.Fault s' listed may = record { outcome = (tt, some_refused s' may); uses = refl }
    unkept faults.Memory s' listed may = record { outcome = (tt, some_refused s' may); uses = refl }

    -- one that couldn't be listed for want of memory
    pub unenlisted : (s' : State) → IsAfter (with_forms half s made) s' → Does half s x.0 (command.Close x.1 given) says.Memory [] s'
    unenlisted s' is = record {
      outcome = (tt, some_refused s' (record { kept = made; rest = []; whole = sym (append-nil made); state = is }));
      uses = refl;
    }

    -- what the row of a close leaves
    closed_row : without_session (listed_with (with_forms half s made) c.hash c.header.seq) x
        ≡ after_close half s x given (says.Close (close.Closed c.hash))
    closed_row =
        ap (λ (y : State). without_session (listed_with y c.hash c.header.seq) x) (sym m.stored)
        ∙ ap (λ n. without_session (listed_with (with_forms half s forms) c.hash n) x) m.seq
        ∙ sym (ap (closed half s x given c.hash) m.is_open)

    -- and one that is closed
    pub was_closed : (mid s' : State) → has_in hash_cmp s.listed c.hash ≡ false → first_clash half s made ≡ None
        → IsAfter (with_forms half s made) mid → s' ≡ without_session (listed_with mid c.hash c.header.seq) x
        → Does half s x.0 (command.Close x.1 given) (says.Close (close.Closed c.hash)) [] s'
    was_closed mid s' listed clear kept is = record {
      outcome = record { says = sym (unlisted listed None clear); after = all };
      uses = refl;
    }
      where
        all : IsAfter (after_close half s x given (says.Close (close.Closed c.hash))) s'
        all =
            is ∙ ap (λ (y : State). without_session (listed_with y c.hash c.header.seq) x) kept
            ∙ ap (λ (y : State). record y { shaded = mid.shaded }) closed_row
            ∙ ap (λ (hs : List Hash). record (after_close half s x given (says.Close (close.Closed c.hash))) { shaded = hs })
            (sym (ap (λ (y : State). y.shaded) is))

    header_last : Contains forms (header_prefix ++ header)
    header_last = Contains-append_right (forms_of half kinds.State m.session.accounts ++ forms_of half kinds.Tx m.session.txs)
        ((header_prefix ++ header) ∷ []) (header_prefix ++ header) (0, omega arith, refl)

    -- the hash of each form that was made, and the ledger's, is one of the command's own
    pub own_told : (reply : Reply) (s' : State) → AreNamed half c.forms.items
        → Hears s.shaded (c.hash ∷ map (λ f. f.hash) c.forms.items) s'.shaded
        → Tells s s' (own_hashes half s x.0 (command.Close x.1 given) reply)
    own_told reply s' named hears = record {
      stays = hears.stays;
      only = λ h there. ⊎_elim (λ old. inl old) (λ new. inr (inr (among reply h new))) (hears.only h there);
    }
      where
        among : (reply : Reply) (h : Hash) → Contains (c.hash ∷ map (λ f. f.hash) c.forms.items) h
            → Contains (own_hashes half s x.0 (command.Close x.1 given) reply) h
        among reply h new =
            Contains-append_left (map half (close_forms half s x given)) (want_target (command.Close x.1 given) reply) h
            (subst (λ fs. Contains (map half fs) h) (sym own) (⊎_elim
            (λ first. subst (λ z. Contains (map half forms) z) (sym (in_one c.hash h first ∙ m.hash))
            (map_in half forms (header_prefix ++ header) header_last))
            (λ later. map_sub half made forms h m.some
            (subst (λ hs. Contains hs h) (named_hashes half c.forms.items named) later))
            (Contains-append_cases (c.hash ∷ []) (map (λ f. f.hash) c.forms.items) h new)))
