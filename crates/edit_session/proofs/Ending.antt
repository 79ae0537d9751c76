-- The forms of a session's ledger, and the first of them whose hash is zero.
use Rattle.std.proofs.Common.{◌≡◌, inl, inr, Bool, true, false, cond, not, IsTrue, List, [], ◌∷◌, ◌++◌, map, Option, None, Some, refl}
use Rattle.std.proofs.Common.{sym, ap, ◌∙◌, subst, Result, Ok, Err, IfOk}
use Rattle.std.specs.Option.{option_or}
use Rattle.std.proofs.lemmas.List.{map-append}
use Rattle.std.proofs.lemmas.List.Folds.{find-append}
use Rattle.ledger_spec.specs.declared.Kind.TheVariants.{State, Tx}
use Rattle.ledger_spec.specs.Bytes.{Bytes, Hash, Half, Lookup, Items, is_zero, is_nonzero}
use Rattle.ledger_spec.specs.Commits.{AreOwn}
use Rattle.ledger_spec.specs.Tree.{root_of, forms_of}
use Rattle.ledger_header.specs.declared.Header.{Header}
use Rattle.cow_map.specs.declared.fault.MapFault.{MapFault}
use Rattle.cow_map.specs.declared.fault.MapFault.TheVariants as causes
use Rattle.cow_map.specs.declared.seal.FormOf.{FormOf}
use Rattle.cow_map.specs.Trees.{StandsFor}
use Rattle.cow_map.specs.Laws.{IsSized, MadeAreOfTree}
use Rattle.cow_map.specs.Seals.{Picks}
use Rattle.cow_map.specs.Sealing.{named, first_zero, made_of_map, NamesZero}
use Rattle.edit_session.specs.declared.close.Fields.{Fields}
use Rattle.edit_session.specs.declared.close.Closed.{Closed}
use Rattle.edit_session.specs.Drafts.{Draft, Edits}
use Rattle.edit_session.proofs.Roots.{nonzero_root}
use Rattle.edit_session.specs.Closing.{header_after, closing_header, header_form, closing_forms, new_forms}
use Rattle.edit_session.specs.Closing.{IsNoneAtZero, IsOccupied, NamesFirst, Closes}

-- of joined lists
pub zero_join : (half : Half) (xs ys : List Bytes) → first_zero half (xs ++ ys) ≡ option_or (first_zero half xs) (first_zero half ys)
zero_join half xs ys = find-append (λ form. is_zero (half form)) xs ys

picks_join : (half : Half) (stored : Lookup) (made more forms others : List Bytes) → Picks half stored made forms
    → Picks half stored more others → Picks half stored (made ++ more) (forms ++ others)
picks_join half stored made more [] others none rest = subst (λ m. Picks half stored (m ++ more) others) (sym none) rest
picks_join half stored made more (form ∷ forms) others (inl first) rest =
    inl (first.0 ++ more, ap (λ m. m ++ more) first.1, picks_join half stored first.0 more forms others first.2 rest)
picks_join half stored made more (form ∷ forms) others (inr there) rest =
    inr (there.0, picks_join half stored made more forms others there.1 rest)

-- what the source holds has no zero hash, so the first is one that was made
zero_first : (half : Half) (form : Bytes) (rest forms : List Bytes)
    → first_zero half rest ≡ first_zero half forms → first_zero half (form ∷ rest) ≡ first_zero half (form ∷ forms)
zero_first half form rest forms same = ap (cond (is_zero (half form)) (Some form)) same

zero_held : (half : Half) (form : Bytes) (forms : List Bytes) → IsTrue (is_nonzero (half form))
    → first_zero half forms ≡ first_zero half (form ∷ forms)
zero_held half form forms some = by (is_zero (half form)) some
  where
    by : (t : Bool) → IsTrue (not t) → first_zero half forms ≡ cond t (Some form) (first_zero half forms)
    by true some = absurd (no some)
      where
        no : IsTrue false → ⊥
        no e = cc
    by false some = refl

zero_picked : (half : Half) (stored : Lookup) → IsNoneAtZero stored → (made forms : List Bytes) → Picks half stored made forms
    → first_zero half made ≡ first_zero half forms
zero_picked half stored nonzero made [] none = ap (first_zero half) none
zero_picked half stored nonzero made (form ∷ forms) (inl first) =
    ap (first_zero half) first.1
    ∙ zero_first half form first.0 forms (zero_picked half stored nonzero first.0 forms first.2)
zero_picked half stored nonzero made (form ∷ forms) (inr there) =
    zero_picked half stored nonzero made forms there.1 ∙ zero_held half form forms (nonzero (half form) form there.0)

-- the first zero of a front, and of what stands behind one without any
names_front : (X Y : Type 0) (z w : Option Bytes) (e : MapFault) → NamesZero {X = X} z (Err e) → NamesZero {X = Y} (option_or z w) (Err e)
names_front X Y z w (causes.ZeroHash form) zero = ap (λ o. option_or o w) zero
names_front X Y z w causes.Memory zero = tt
names_front X Y z w (causes.Absent h) zero = zero
names_front X Y z w causes.Fault zero = zero
names_front X Y z w (causes.Shape place rule) zero = zero

names_behind : {X : Type 0} (z w : Option Bytes) (r : Result X MapFault) → z ≡ None → NamesZero w r → NamesZero (option_or z w) r
names_behind z w r none zero = subst (λ o. NamesZero (option_or o w) r) (sym none) zero

-- a fact of a success, weakened
pub ok_map : {X F : Type 0} (r : Result X F) (P Q : X → Type 0) → IfOk r P → ((x : X) → P x → Q x) → IfOk r Q
ok_map (Ok x) P Q p f = f x p
ok_map (Err e) P Q p f = tt

-- the draft as the fields of a session, and as callers see it
module _ (half : Half) (size : IsSized half) (law : MadeAreOfTree) (stored : Lookup) (own : AreOwn half stored) (d now : Draft)
    (view_is : d ≡ now) (state_kind : d.state.kind ≡ State) (txs_kind : d.txs.kind ≡ Tx) (given : Fields) (accounts txs : Items)
    (edits_now : Edits half stored now accounts txs) where
  edits : Edits half stored d accounts txs
  edits = subst (λ (m : Draft). Edits half stored m accounts txs) (sym view_is) edits_now

  of_state_picks : Picks half stored (made_of_map half d.state) (forms_of half State accounts)
  of_state_picks = subst (λ k. Picks half stored (made_of_map half d.state) (forms_of half k accounts)) state_kind
      (law half size stored own d.state accounts edits.state)

  picks_all : (header : Header) → Picks half stored (new_forms half d header) (closing_forms half accounts txs header)
  picks_all header =
      let of_txs = subst (λ k. Picks half stored (made_of_map half d.txs) (forms_of half k txs)) txs_kind
      (law half size stored own d.txs txs (edits.alone half stored)) in
      picks_join half stored (made_of_map half d.state ++ made_of_map half d.txs) (header_form header ∷ [])
      (forms_of half State accounts ++ forms_of half Tx txs) (header_form header ∷ [])
      (picks_join half stored (made_of_map half d.state) (made_of_map half d.txs) (forms_of half State accounts) (forms_of half Tx txs)
      of_state_picks of_txs)
      (inl ([], refl, refl))

  abbrev next : Header
  next = closing_header half d given accounts txs

  -- the first zero of the forms that were made, part by part
  zero_parts : (header : Header)
      → option_or (option_or (first_zero half (made_of_map half d.state)) (first_zero half (made_of_map half d.txs)))
      (first_zero half (header_form header ∷ [])) ≡ first_zero half (new_forms half d header)
  zero_parts header =
      ap (λ o. option_or o (first_zero half (header_form header ∷ [])))
      (sym (zero_join half (made_of_map half d.state) (made_of_map half d.txs)))
      ∙ sym (zero_join half (made_of_map half d.state ++ made_of_map half d.txs) (header_form header ∷ []))

  names_first : (r : Result Closed MapFault) → NamesZero (first_zero half (new_forms half d next)) r
      → NamesFirst half stored now given accounts txs r
  names_first r zero = subst (λ (m : Draft). NamesFirst half stored m given accounts txs r) view_is record {
    made = zero;
    all = λ nonzero. subst (λ z. NamesZero z r)
        (zero_picked half stored nonzero (new_forms half d next) (closing_forms half accounts txs next) (picks_all next)) zero;
  }

  -- the account state's forms were not sealed
  pub state_ends : (X : Type 0) (r : Result Closed MapFault) (e : MapFault) → r ≡ Err e
      → ((items : Items) → StandsFor half stored d.state items → NamesZero {X = X} (first_zero half (made_of_map half d.state)) (Err e))
      → NamesFirst half stored now given accounts txs r
  state_ends X r e is zero =
      let here = names_front Closed Closed _ _ e (names_front X Closed _ _ e (zero accounts edits.state)) in
      names_first r (subst (λ (r : Result Closed MapFault). NamesZero (first_zero half (new_forms half d next)) r) (sym is)
      (subst (λ z. NamesZero {X = Closed} z (Err e)) (zero_parts next) here))

  abbrev NoneInState : Type 0
  NoneInState = (items : Items) → StandsFor half stored d.state items → first_zero half (made_of_map half d.state) ≡ None

  -- nor the transactions'
  pub txs_end : (X : Type 0) (r : Result Closed MapFault) (e : MapFault) → r ≡ Err e → NoneInState
      → ((items : Items) → StandsFor half stored d.txs items → NamesZero {X = X} (first_zero half (made_of_map half d.txs)) (Err e))
      → NamesFirst half stored now given accounts txs r
  txs_end X r e is none zero =
      let here = names_front X Closed _ _ e
      (names_behind {X = X} _ _ (Err e) (none accounts edits.state) (zero txs (edits.alone half stored))) in
      names_first r (subst (λ (r : Result Closed MapFault). NamesZero (first_zero half (new_forms half d next)) r) (sym is)
      (subst (λ z. NamesZero {X = Closed} z (Err e)) (zero_parts next) here))

  -- both were, and this is the header over their roots
  module _ (header : Header) (state_root tx_root : Hash) (is : header ≡ header_after now given state_root tx_root)
      (state_is : (items : Items) → AreOwn half stored → StandsFor half stored d.state items
      → state_root ≡ root_of half d.state.kind items)
      (txs_is : (items : Items) → AreOwn half stored → StandsFor half stored d.txs items → tx_root ≡ root_of half d.txs.kind items) where
    header_is : header ≡ next
    header_is = is ∙ ap (λ (m : Draft). header_after m given state_root tx_root) (sym view_is)
        ∙ (λ i. header_after d given (of_state i) (of_txs i))
      where
        of_state : state_root ≡ root_of half State accounts
        of_state = state_is accounts own edits.state ∙ ap (λ k. root_of half k accounts) state_kind

        of_txs : tx_root ≡ root_of half Tx txs
        of_txs = txs_is txs own (edits.alone half stored) ∙ ap (λ k. root_of half k txs) txs_kind

    pub header_ends : (r : Result Closed MapFault) → NoneInState
        → ((items : Items) → StandsFor half stored d.txs items → first_zero half (made_of_map half d.txs) ≡ None)
        → NamesZero (first_zero half (header_form header ∷ [])) r → NamesFirst half stored now given accounts txs r
    header_ends r none none_more zero =
        let none_front : option_or (first_zero half (made_of_map half d.state)) (first_zero half (made_of_map half d.txs)) ≡ None =
        ap (λ o. option_or o (first_zero half (made_of_map half d.txs))) (none accounts edits.state)
        ∙ none_more txs (edits.alone half stored) in
        names_first r (subst (λ z. NamesZero z r) (zero_parts next)
        (names_behind _ _ r none_front (subst (λ h. NamesZero (first_zero half (header_form h ∷ [])) r) header_is zero)))

    -- the account state's root is the hash of one of its forms
    state_root_some : IsOccupied now.state → first_zero half (made_of_map half d.state) ≡ None → IsNoneAtZero stored
        → IsTrue (is_nonzero (root_of half State accounts))
    state_root_some occupied none nonzero =
        nonzero_root half State accounts (occupied half stored accounts edits_now.state)
        (sym (zero_picked half stored nonzero (made_of_map half d.state) (forms_of half State accounts) of_state_picks) ∙ none)

    pub closed : (c : Closed) (of_state of_txs : List FormOf) → IsOccupied now.state → NoneInState → c.header ≡ header
        → ((items : Items) → StandsFor half stored d.state items → of_state ≡ map (named half) (made_of_map half d.state))
        → ((items : Items) → StandsFor half stored d.txs items → of_txs ≡ map (named half) (made_of_map half d.txs))
        → c.forms.items ≡ of_state ++ of_txs ++ named half (header_form header) ∷ [] → Closes half stored now given accounts txs c
    closed c of_state of_txs occupied none same in_state in_txs joined =
        subst (λ (m : Draft). Closes half stored m given accounts txs c) view_is record {
          header = same ∙ header_is;
          forms = joined ∙ parts ∙ ap (λ h. map (named half) (new_forms half d h)) (sym same);
          all = picks_all c.header;
          root = λ nonzero. subst (λ (h : Header). IsTrue (is_nonzero h.state_root)) (sym (same ∙ header_is))
              (state_root_some occupied (none accounts edits.state) nonzero);
        }
      where
        parts : of_state ++ of_txs ++ named half (header_form header) ∷ [] ≡ map (named half) (new_forms half d header)
        parts = (λ i. in_state accounts edits.state i ++ in_txs txs (edits.alone half stored) i ++ named half (header_form header) ∷ [])
            ∙ ap (λ xs. xs ++ named half (header_form header) ∷ [])
            (sym (map-append (named half) (made_of_map half d.state) (made_of_map half d.txs)))
            ∙ sym (map-append (named half) (made_of_map half d.state ++ made_of_map half d.txs) (header_form header ∷ []))
