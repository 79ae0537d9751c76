-- Two whole ledgers of one hash are one ledger, or their forms break the half. For proofs of other crates.
use Rattle.std.proofs.Common.{◌≡◌, ◌⊎◌, inl, inr, ⊎_elim, Bool, true, false, List, [], ◌∷◌, ◌++◌, Option, None, Some, IfSome}
use Rattle.std.proofs.Common.{refl, sym, ap, ◌∙◌, subst, bytes_eq, Contains}
use Rattle.std.proofs.lemmas.Bool.{false≢true}
use Rattle.std.proofs.lemmas.Slice.Eq.{bytes_eq-Decides}
use Rattle.std.proofs.lemmas.List.{append_cancel_left}
use Rattle.std.proofs.lemmas.List.Elements.{Contains-append_left, Contains-append_right, Contains-append_cases}
use Rattle.ledger_spec.specs.declared.Kind.TheVariants.{State, Tx}
use Rattle.ledger_spec.specs.Bytes.{Bytes, Half, Items, IsHalf}
use Rattle.ledger_spec.specs.Forms.{header_prefix}
use Rattle.ledger_spec.specs.Header.{state_root_of, tx_root_of}
use Rattle.ledger_spec.specs.Tree.{AreItems, forms_of, root_of}
use Rattle.tree_laws.proofs.shared.Joins.{in_head}
use Rattle.audit_core.specs.Said.{Said, items_or_none}
use Rattle.audit_core.specs.Verdicts.{ledger_hash}
use Rattle.audit_core.specs.Twins.{IsBroken, forms_in, AreSame, IsSame, IsWhole, WholesAreOne}
use Rattle.audit_core.proofs.Roots.{broken_more, one_map}

module _ (half : Half) (is : IsHalf half) where
  -- the forms of a ledger's maps are some of the ledger's
  state_within : (s : Said) (form : Bytes) → Contains (forms_of half State s.items) form → Contains (forms_in half s) form
  state_within s form has =
      Contains-append_right ((header_prefix ++ s.header) ∷ []) (forms_of half State s.items ++ forms_of half Tx (items_or_none s.txs)) form
      (Contains-append_left (forms_of half State s.items) (forms_of half Tx (items_or_none s.txs)) form has)

  txs_within : (s : Said) (form : Bytes) → Contains (forms_of half Tx (items_or_none s.txs)) form → Contains (forms_in half s) form
  txs_within s form has =
      Contains-append_right ((header_prefix ++ s.header) ∷ []) (forms_of half State s.items ++ forms_of half Tx (items_or_none s.txs)) form
      (Contains-append_right (forms_of half State s.items) (forms_of half Tx (items_or_none s.txs)) form has)

  widened : (s t : Said) (few few' : List Bytes) → ((form : Bytes) → Contains few form → Contains (forms_in half s) form)
      → ((form : Bytes) → Contains few' form → Contains (forms_in half t) form) → IsBroken half (few ++ few')
      → IsBroken half (forms_in half s ++ forms_in half t)
  widened s t few few' first second broken =
      broken_more half (few ++ few') (forms_in half s ++ forms_in half t)
      (λ form has. ⊎_elim (λ here. Contains-append_left (forms_in half s) (forms_in half t) form (first form here))
      (λ there. Contains-append_right (forms_in half s) (forms_in half t) form (second form there))
      (Contains-append_cases few few' form has)) broken

  -- the transactions, where both are given
  txs_same : (s t : Said) → (o p : Option Items) → s.txs ≡ o → t.txs ≡ p → AreItems half Tx (items_or_none o) → AreItems half Tx
      (items_or_none p)
      → s.header ≡ t.header
      → IfSome o (λ txs. root_of half Tx txs ≡ tx_root_of s.header) → IfSome p (λ txs. root_of half Tx txs ≡ tx_root_of t.header)
      → AreSame o p ⊎ IsBroken half (forms_in half s ++ forms_in half t)
  txs_same s t None p is_o is_p are be header own own' = inl tt
  txs_same s t (Some a) None is_o is_p are be header own own' = inl tt
  txs_same s t (Some a) (Some b) is_o is_p are be header own own' =
      ⊎_elim (λ same. inl same)
      (λ broken. inr (widened s t (forms_of half Tx a) (forms_of half Tx b)
      (λ form has. txs_within s form (subst (λ (q : Option Items). Contains (forms_of half Tx (items_or_none q)) form) (sym is_o) has))
      (λ form has. txs_within t form (subst (λ (q : Option Items). Contains (forms_of half Tx (items_or_none q)) form) (sym is_p) has))
      broken)) (one_map half is.size Tx a b are be (own ∙ ap tx_root_of header ∙ sym own'))

  ledgers : (s t : Said) → IsWhole half s → IsWhole half t → ledger_hash half s ≡ ledger_hash half t
      → IsSame s t ⊎ IsBroken half (forms_in half s ++ forms_in half t)
  ledgers s t whole whole' hash = by (bytes_eq s.header t.header) refl
    where
      by_maps : s.header ≡ t.header → (s.items ≡ t.items) ⊎ IsBroken half (forms_of half State s.items ++ forms_of half State t.items)
          → AreSame s.txs t.txs ⊎ IsBroken half (forms_in half s ++ forms_in half t)
          → IsSame s t ⊎ IsBroken half (forms_in half s ++ forms_in half t)
      by_maps header (inr broken) other =
          inr (widened s t (forms_of half State s.items) (forms_of half State t.items) (state_within s) (state_within t) broken)
      by_maps header (inl items) (inr broken) = inr broken
      by_maps header (inl items) (inl txs) = inl (record { header = header; items = items; txs = txs })

      by : (b : Bool) → bytes_eq s.header t.header ≡ b → IsSame s t ⊎ IsBroken half (forms_in half s ++ forms_in half t)
      by true same =
          let header : s.header ≡ t.header = (bytes_eq-Decides s.header t.header).0 same in
          by_maps header (one_map half is.size State s.items t.items whole.maps.state whole'.maps.state
          (whole.own ∙ ap state_root_of header ∙ sym whole'.own))
          (txs_same s t s.txs t.txs refl refl whole.maps.txs whole'.maps.txs header whole.own_txs whole'.own_txs)
      by false differ =
          inr (inl (record {
            one = header_prefix ++ s.header;
            other = header_prefix ++ t.header;
            first = Contains-append_left (forms_in half s) (forms_in half t) (header_prefix ++ s.header)
                (in_head (header_prefix ++ s.header) (forms_of half State s.items ++ forms_of half Tx (items_or_none s.txs)));
            second = Contains-append_right (forms_in half s) (forms_in half t) (header_prefix ++ t.header)
                (in_head (header_prefix ++ t.header) (forms_of half State t.items ++ forms_of half Tx (items_or_none t.txs)));
            different = λ eq. false≢true (sym differ ∙ (bytes_eq-Decides s.header t.header).1
                (append_cancel_left header_prefix s.header t.header eq));
            same = hash;
          }))

pub wholes_are_one : WholesAreOne
wholes_are_one half is s t whole whole' hash = ledgers half is s t whole whole' hash
