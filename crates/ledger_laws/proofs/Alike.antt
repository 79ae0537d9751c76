-- Two stores with the same forms under all that a ledger reaches hold the same ledger.
use Rattle.std.proofs.Common.{◌≡◌, ℕ, zero, suc, Bool, true, false, not, if◌then◌else◌, List, [], ◌∷◌, ◌++◌, Option, None, Some}
use Rattle.std.proofs.Common.{filter_map, flat_map, slice_index_or, refl, sym, ap, ◌∙◌, subst, IsTrue, IsSomeAnd}
use Rattle.std.proofs.lemmas.Option.{none-some}
use Rattle.std.specs.Option.{option_and_then}
use Rattle.ledger_spec.specs.declared.Kind.{Kind}
use Rattle.ledger_spec.specs.declared.Kind.TheVariants.{State, Tx}
use Rattle.ledger_spec.specs.declared.Place.TheVariants.{Header, Node}
use Rattle.ledger_spec.specs.declared.ShapeFault.{ShapeFault}
use Rattle.ledger_spec.specs.Bytes.{Bytes, Hash, Half, Lookup, zero_hash, is_zero, is_nonzero, branches}
use Rattle.ledger_spec.specs.Header.{state_root_of, tx_root_of}
use Rattle.ledger_spec.specs.Forms.{Held, inner, leaf, header, inner_of, header_of}
use Rattle.ledger_spec.specs.Rules.{fault_of}
use Rattle.ledger_spec.specs.Reach.{Reach, root, kid}
use Rattle.ledger_spec.specs.Spots.{header_in}
use Rattle.ledger_spec.specs.Findings.{Sight, missing, broken, sound, Met, held_of, sight_of, branches_of, walk, walk_map}
use Rattle.ledger_spec.specs.Findings.{header_sight, maps_of, walk_ledger, Whole}
use Rattle.ledger_spec.proofs.shared.Growth.{found, met}
use Rattle.ledger_spec.proofs.shared.ReachLaws.{Grows}
use Rattle.ledger_machine.specs.Sound.{IsWholeLedger}
use Rattle.ledger_laws.proofs.shared.SoundForms.{in_head}
use Rattle.ledger_laws.proofs.StoredWhole.{sound_held, held_inner, sound_header}
use Rattle.ledger_laws.proofs.Closure.{whole_all}
use Rattle.ledger_laws.proofs.shared.Ways.{IsNamed, branch_named, root_named}

-- the places from one on, where its hash isn't zero
by_zero : (z : Bool) (xs ys : List Met) → (z ≡ false → xs ≡ ys) → (if z then [] else xs) ≡ (if z then [] else ys)
by_zero true xs ys same = refl
by_zero false xs ys same = same refl

-- the places below what is seen, where it is an inner node
branches_alike : (half : Half) (rules : Held → Option ShapeFault) (o : Option Bytes) (x : Sight) (f g : List Hash → List Met)
    → sight_of half rules o ≡ x
    → ((form : Bytes) (hashes : List Hash) → o ≡ Some form → inner_of form ≡ Some hashes → f hashes ≡ g hashes)
    → branches_of x f ≡ branches_of x g
branches_alike half rules o missing f g is each = refl
branches_alike half rules o (broken fault) f g is each = refl
branches_alike half rules o (sound (inner hashes)) f g is each =
    let h : (form : Bytes) × (o ≡ Some form) × (held_of half form ≡ Some (inner hashes)) × (rules (inner hashes) ≡ None) =
    sound_held half rules o (inner hashes) is in
    each h.0 hashes h.1 (held_inner half h.0 hashes h.2)
branches_alike half rules o (sound (leaf kind key bytes)) f g is each = refl
branches_alike half rules o (sound (header bytes)) f g is each = refl

-- n has nothing but what m has, and all of it that the ledger reaches there
module _ (half : Half) (m n : Lookup) (t : Hash) (fewer : Grows n m) (alike : (h : Hash) → Reach m (t ∷ []) h → n h ≡ m h) where
  -- what a reached form names is stored in both, or in neither
  named_alike : (h : Hash) → IsNamed m t h → n h ≡ m h
  named_alike h name = at (m h) refl
    where
      gone : (o : Option Bytes) → m h ≡ None → n h ≡ o → o ≡ None
      gone None is now = refl
      gone (Some form) is now = absurd (none-some _ (sym is ∙ fewer h form now))

      at : (o : Option Bytes) → m h ≡ o → n h ≡ m h
      at None is = gone (n h) is refl ∙ sym is
      at (Some form) is = alike h (kid name.reached name.stored name.named (form, is))

  -- so a walk from such a hash meets the same places
  walk_alike : (kind : Kind) (left : ℕ) (parent : Option (List Hash)) (path : List ℕ) (h : Hash)
      → (IsTrue (is_nonzero h) → IsNamed m t h) → walk half n kind left parent path h ≡ walk half m kind left parent path h
  unfolding walk
  walk_alike kind zero parent path h name =
      by_zero (is_zero h) _ _
      (λ z. ap (λ (o : Option Bytes). met (Node kind path) h parent (sight_of half (λ x. fault_of x parent kind path) o) ∷ [])
      (named_alike h (name (ap not z))))
  walk_alike kind (suc left) parent path h name =
      let rules : Held → Option ShapeFault = λ x. fault_of x parent kind path in
      let each : Lookup → List Hash → List Met = λ nodes hashes.
      flat_map (λ b. walk half nodes kind left (Some hashes) (path ++ b ∷ []) (slice_index_or hashes b zero_hash)) branches in
      by_zero (is_zero h) _ _
      (λ z. ap (λ (o : Option Bytes). met (Node kind path) h parent (sight_of half rules o) ∷ branches_of (sight_of half rules o) (each n))
      (named_alike h (name (ap not z)))
      ∙ ap (λ rest. met (Node kind path) h parent (sight_of half rules (m h)) ∷ rest)
      (branches_alike half rules (m h) (sight_of half rules (m h)) (each n) (each m) refl
      (λ form hashes stored is i. flat_map (λ b. walk_alike kind left (Some hashes) (path ++ b ∷ []) (slice_index_or hashes b zero_hash)
      (branch_named m t h form hashes b (name (ap not z)) stored is) i) branches)))

  -- and so do those of the two maps of its header
  maps_alike : (x : Sight) → header_sight (m t) ≡ x → maps_of half n x ≡ maps_of half m x
  unfolding walk_map
  maps_alike missing is = refl
  maps_alike (broken fault) is = refl
  maps_alike (sound (inner hashes)) is = refl
  maps_alike (sound (leaf kind key bytes)) is = refl
  maps_alike (sound (header bytes)) is =
      let h : (form : Bytes) × (m t ≡ Some form) × (header_of form ≡ Some bytes) = sound_header (m t) bytes is in
      λ i. walk_alike State 64 None [] (state_root_of bytes) (root_named m t h.0 bytes State h.1 h.2) i
      ++ walk_alike Tx 64 None [] (tx_root_of bytes) (root_named m t h.0 bytes Tx h.1 h.2) i

  -- so nothing is found in one where nothing is in the other
  whole_alike : n t ≡ m t → Whole half m t → Whole half n t
  unfolding walk_ledger
  whole_alike same whole =
      ap (filter_map found)
      (ap (λ (o : Option Bytes). met Header t None (header_sight o) ∷ maps_of half n (header_sight o)) same
      ∙ ap (λ rest. met Header t None (header_sight (m t)) ∷ rest) (maps_alike (header_sight (m t)) refl)) ∙ whole

  -- the header of a ledger that is whole is the same
  header_alike : Whole half m t → n t ≡ m t
  header_alike whole = alike t (root (in_head t []) (whole_all half m t whole).own)

  -- a whole ledger is whole in both
  pub ledger_alike : IsWholeLedger half m t → IsWholeLedger half n t
  ledger_alike w = record {
    header = subst (λ (o : Option Bytes). IsSomeAnd (option_and_then header_of o) (λ h. IsTrue (is_nonzero (state_root_of h))))
        (sym (header_alike w.whole)) w.header;
    whole = whole_alike (header_alike w.whole) w.whole;
  }

  -- and what its header says is said in both
  pub header_in_alike : (P : Bytes → Type 0) → Whole half m t → IsSomeAnd (header_in m t) P → IsSomeAnd (header_in n t) P
  header_in_alike P whole some = subst (λ (o : Option Bytes). IsSomeAnd (option_and_then header_of o) P) (sym (header_alike whole)) some
