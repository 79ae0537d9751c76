-- A read of a whole map. For proofs of other crates.
use Rattle.std.proofs.Common.{◌≡◌, ◌⊎◌, inl, inr, ◌≤◌, ◌<◌, ◌+◌, ◌&&◌, ℕ, zero, suc, true, false, List, [], ◌∷◌, ◌++◌, length, take}
use Rattle.std.proofs.Common.{is_none, IsTrue, Option, None, Some, refl, sym, ap, ◌∙◌, subst, arith, filter_map, flat_map}
use Rattle.std.proofs.lemmas.Bool.{and_parts, cond-false, not-true, false≢true}
use Rattle.std.proofs.lemmas.List.{take_more, length-take-le}
use Rattle.std.proofs.lemmas.Slice.Eq.{bytes_eq-Decides}
use Rattle.std.specs.Option.{option_and_then, option_map}
use Rattle.std.specs.List.{slice_index_or, AllByRecursion}
use Rattle.nib_path.specs.Paths.{nibbles, nibble_of, length-nibbles}
use Rattle.ledger_spec.specs.declared.Kind.{Kind}
use Rattle.ledger_spec.specs.declared.Place.TheVariants as places
use Rattle.ledger_spec.specs.declared.ShapeFault.{ShapeFault}
use Rattle.ledger_spec.specs.declared.ShapeFault.TheVariants.{Foreign}
use Rattle.ledger_spec.specs.Bytes.{Hash, Half, Lookup, zero_hash, is_zero, is_nonzero, branches, same_bytes}
use Rattle.ledger_spec.specs.Commits.{IsWholeMap}
use Rattle.ledger_spec.specs.Forms.{Held, inner, leaf, header, IsHeld, form_of, hash_of}
use Rattle.ledger_spec.specs.Rules.{fault_of}
use Rattle.ledger_spec.specs.Findings.{Sight, missing, broken, sound, Met, Finding, held_of, sight_of, judged, seen_as, branches_of}
use Rattle.ledger_spec.specs.Findings.{finding_at, walk, walk_map}
use Rattle.ledger_spec.specs.Pages.{IsStoredNode}
use Rattle.ledger_spec.specs.Reads.{inner_hashes, IsKey}
use Rattle.ledger_spec.proofs.shared.Growth.{found, met, no_cons}
use Rattle.ledger_spec.proofs.shared.Seeing.{sees}
use Rattle.tree_laws.proofs.shared.Shapes.{above_bottom, below_at, none_is, passed}
use Rattle.tree_laws.proofs.shared.BranchCounts.{clean_each, at_branch}
use Rattle.shamap_node.specs.Laws.{is_no_node}
use Rattle.path_proof.specs.Sources.{Holds}
use Rattle.path_proof.specs.Ways.{Waypoint, start, path_at, fault_at, under, below, way, Breaks, Ends, HasCause}
use Rattle.path_proof.specs.declared.answer.ReadFault.{ReadFault}
use Rattle.path_proof.specs.declared.answer.ReadFault.TheVariants.{Absent, Fault, Shape, Memory}

module _ (half : Half) (nodes : Lookup) (kind : Kind) where
  abbrev pub Clean : List Met → Type 0
  Clean walked = filter_map found walked ≡ []

  abbrev pub seen_at : Option (List Hash) → List ℕ → Hash → Sight
  seen_at parent path h = sight_of half (λ n. fault_of n parent kind path) (nodes h)

  -- the place itself of a clean walk, where its hash isn't zero
  clean_here : (left : ℕ) (parent : Option (List Hash)) (path : List ℕ) (h : Hash) → is_zero h ≡ false
      → Clean (walk half nodes kind left parent path h)
      → finding_at (places.Node kind path) (seen_at parent path h) ≡ None
  unfolding walk
  clean_here zero parent path h some clean =
      by_sight (seen_at parent path h) (sym (ap (λ (l : List Met). filter_map found l) (cond-false (is_zero h) _ _ some)) ∙ clean)
    where
      by_sight : (x : Sight) → Clean (met (places.Node kind path) h parent x ∷ []) → finding_at (places.Node kind path) x ≡ None
      by_sight missing clean = absurd (no_cons clean)
      by_sight (broken fault) clean = absurd (no_cons clean)
      by_sight (sound n) clean = refl
  clean_here (suc left) parent path h some clean = by_sight (seen_at parent path h)
      (branches_of (seen_at parent path h)
      (λ hashes. flat_map (λ b. walk half nodes kind left (Some hashes) (path ++ b ∷ []) (slice_index_or hashes b zero_hash))
      branches))
      (sym (ap (λ (l : List Met). filter_map found l) (cond-false (is_zero h) _ _ some)) ∙ clean)
    where
      by_sight : (x : Sight) (rest : List Met) → Clean (met (places.Node kind path) h parent x ∷ rest)
          → finding_at (places.Node kind path) x ≡ None
      by_sight missing rest clean = absurd (no_cons clean)
      by_sight (broken fault) rest clean = absurd (no_cons clean)
      by_sight (sound n) rest clean = refl

  -- the walk below an inner node that is seen
  pub clean_below : (left : ℕ) (parent : Option (List Hash)) (path : List ℕ) (h : Hash) (hashes : List Hash) → is_zero h ≡ false
      → seen_at parent path h ≡ sound (inner hashes)
      → Clean (walk half nodes kind (suc left) parent path h) → (b : ℕ) → b < 16
      → Clean (walk half nodes kind left (Some hashes) (path ++ b ∷ []) (slice_index_or hashes b zero_hash))
  unfolding walk
  clean_below left parent path h hashes some is clean =
      at_branch (λ b. Clean (walk half nodes kind left (Some hashes) (path ++ b ∷ []) (slice_index_or hashes b zero_hash)))
      (clean_each found (λ b. walk half nodes kind left (Some hashes) (path ++ b ∷ []) (slice_index_or hashes b zero_hash)) branches
      (sym (ap (λ (x : Sight). filter_map found
      (met (places.Node kind path) h parent x ∷ branches_of x
      (λ hs. flat_map (λ b. walk half nodes kind left (Some hs) (path ++ b ∷ []) (slice_index_or hs b zero_hash)) branches))) is)
      ∙ sym (ap (λ (l : List Met). filter_map found l) (cond-false (is_zero h) _ _ some)) ∙ clean))

  -- a node that is held and breaks no rule is seen
  pub sees_held : (parent : Option (List Hash)) (path : List ℕ) (h : Hash) (n : Held) → Holds half (nodes h) n
      → seen_at parent path h ≡ seen_as n (fault_of n parent kind path)
  sees_held parent path h n holds = ap (sight_of half (λ m. fault_of m parent kind path)) holds.0
      ∙ ap (judged (λ m. fault_of m parent kind path)) (sees half n (form_of n) (holds.1, refl))

  -- nothing that is held at a place breaks a rule
  no_break : (left : ℕ) (parent : Option (List Hash)) (path : List ℕ) (h : Hash) (rule : ShapeFault) → is_zero h ≡ false
      → Clean (walk half nodes kind left parent path h) → Breaks half kind true nodes parent path h rule → ⊥
  no_break left parent path h rule some clean (inl (n, same, fault, holds)) =
      let seen : seen_at parent path h ≡ broken rule = sees_held parent path h n (holds refl) ∙ ap (seen_as n) fault in
      let found_none : None ≡ Some (Rattle.ledger_spec.specs.Findings.breaks (places.Node kind path) rule) =
      sym (clean_here left parent path h some clean) ∙ ap (finding_at (places.Node kind path)) seen in
      cc (found_none)
  no_break left parent path h rule some clean (inr (is, foreign)) =
      let there = foreign refl in
      by_held (held_of half there.0) refl there.2 (ap (sight_of half (λ m. fault_of m parent kind path)) there.1)
    where
      clash : (x : Sight) (fault : ShapeFault) → seen_at parent path h ≡ x → x ≡ broken fault → ⊥
      clash x fault seen is =
          let found_none : None ≡ Some (Rattle.ledger_spec.specs.Findings.breaks (places.Node kind path) fault) =
          sym (clean_here left parent path h some clean) ∙ ap (finding_at (places.Node kind path)) (seen ∙ is) in
          cc (found_none)

      by_held : (o : Option Held) → held_of half (foreign refl).0 ≡ o → IsTrue (is_no_node (held_of half (foreign refl).0))
          → seen_at parent path h ≡ judged (λ m. fault_of m parent kind path) (held_of half (foreign refl).0) → ⊥
      by_held None e other seen = clash _ Foreign seen (ap (judged (λ m. fault_of m parent kind path)) e)
      by_held (Some (header bytes)) e other seen = clash _ Foreign seen (ap (judged (λ m. fault_of m parent kind path)) e)
      by_held (Some (inner hashes)) e other seen = false≢true (sym (ap is_no_node e) ∙ other)
      by_held (Some (leaf k own bytes)) e other seen = false≢true (sym (ap is_no_node e) ∙ other)

  -- something is held there
  no_absence : (left : ℕ) (parent : Option (List Hash)) (path : List ℕ) (h : Hash) → is_zero h ≡ false
      → Clean (walk half nodes kind left parent path h) → nodes h ≡ None → ⊥
  no_absence left parent path h some clean none =
      let seen : seen_at parent path h ≡ missing = ap (sight_of half (λ m. fault_of m parent kind path)) none in
      let found_none : None ≡ Some (Rattle.ledger_spec.specs.Findings.lacks (places.Node kind path)) =
      sym (clean_here left parent path h some clean) ∙ ap (finding_at (places.Node kind path)) seen in
      cc (found_none)

  -- so no read ends there but for a fault or for want of memory
  pub ends_by : (left : ℕ) (parent : Option (List Hash)) (path : List ℕ) (h : Hash) (fault : ReadFault) → is_zero h ≡ false
      → Clean (walk half nodes kind left parent path h) → Ends half kind true nodes parent path h fault
      → (fault ≡ Fault) ⊎ (fault ≡ Memory)
  ends_by left parent path h (Absent g) some clean ends =
      absurd (no_absence left parent path h some clean (sym (ap nodes ends.0) ∙ ends.1 refl))
  ends_by left parent path h (Shape place rule) some clean ends = absurd (no_break left parent path h rule some clean ends.1)
  ends_by left parent path h Fault some clean ends = inl refl
  ends_by left parent path h Memory some clean ends = inr refl

  module _ (key : Hash) (is_key : IsKey key) where
    abbrev WalkFrom : ℕ → Waypoint → List Met
    WalkFrom left s = walk half nodes kind left s.above (path_at key s) s.hash

    -- a clean walk from a place, with the levels below it
    record Stays (s : Waypoint) : Type 0 where
      left : ℕ
      level : left + s.depth ≡ 64
      clean : Clean (WalkFrom left s)

    length_at : (s : Waypoint) → s.depth ≤ 64 → length (path_at key s) ≡ s.depth
    length_at s within = length-take-le s.depth (nibbles key) (omega (arith, length-nibbles key, is_key.size))

    -- a place below an inner node that is held
    steps : (s v : Waypoint) (n : Held) → Stays s → Holds half (nodes (hash_of half n)) n → below half kind key s n ≡ Some v → Stays v
    steps s v n stays holds next =
        by_tests (passed (is_nonzero s.hash && (same_bytes (hash_of half n) s.hash && is_none (fault_at kind key s n)))
        (option_map (under key s) (inner_hashes n)) v next)
      where
        by_node : (m : Held) → n ≡ m → is_zero s.hash ≡ false → hash_of half n ≡ s.hash → fault_at kind key s n ≡ None
            → option_map (under key s) (inner_hashes m) ≡ Some v → Stays v
        by_node (inner hashes) is some same fits e = by_left stays.left refl
          where
            there : Holds half (nodes s.hash) (inner hashes)
            there = (ap nodes (sym same) ∙ holds.0 ∙ ap (λ m. Some (form_of m)) is, subst (IsHeld half) is holds.1)

            seen : seen_at s.above (path_at key s) s.hash ≡ sound (inner hashes)
            seen = sees_held s.above (path_at key s) s.hash (inner hashes) there
                ∙ ap (seen_as (inner hashes)) (sym (ap (fault_at kind key s) is) ∙ fits)

            within : s.depth ≤ 64
            within = omega (arith, stays.level)

            lower : s.depth < 64
            lower =
                let long : length (path_at key s) ≡ s.depth = length_at s within in
                let up : length (path_at key s) < 64 =
                above_bottom kind hashes s.above (path_at key s) (omega (arith, long, within))
                (sym (ap (fault_at kind key s) is) ∙ fits) in
                omega (arith, long, up)

            b : ℕ
            b = nibble_of key s.depth

            by_left : (l : ℕ) → stays.left ≡ l → Stays v
            by_left zero at = absurd (omega (arith, stays.level, lower))
            by_left (suc l) at =
                let more : s.depth < length (nibbles key) = omega (arith, length-nibbles key, is_key.size, lower) in
                let path : take (s.depth + 1) (nibbles key) ≡ path_at key s ++ nibble_of key s.depth ∷ [] =
                take_more (nibbles key) s.depth 0 more in
                let walked : Clean (walk half nodes kind l (Some hashes) (path_at key s ++ nibble_of key s.depth ∷ [])
                (slice_index_or hashes (nibble_of key s.depth) zero_hash)) =
                clean_below l s.above (path_at key s) s.hash hashes some seen (subst (λ k. Clean (WalkFrom k s)) at stays.clean)
                (nibble_of key s.depth) (below_at (nibbles key) s.depth is_key.path.nibbles_below more)
                in
                let here : Stays (under key s hashes) = record {
                  left = l;
                  level = omega (arith, stays.level, at);
                  clean = subst (λ p. Clean
                      (walk half nodes kind l (Some hashes) p (slice_index_or hashes (nibble_of key s.depth) zero_hash))) (sym path)
                      walked;
                } in
                let same_place : under key s hashes ≡ v = cc (e) in
                subst Stays same_place here
        by_node (leaf k own bytes) is some same fits e = let no : None ≡ Some v = e in cc
        by_node (header bytes) is some same fits e = let no : None ≡ Some v = e in cc

        by_tests : ((is_nonzero s.hash && (same_bytes (hash_of half n) s.hash && is_none (fault_at kind key s n))) ≡ true)
            × (option_map (under key s) (inner_hashes n) ≡ Some v) → Stays v
        by_tests t =
            let both = and_parts (is_nonzero s.hash) (same_bytes (hash_of half n) s.hash && is_none (fault_at kind key s n)) t.0 in
            let rest = and_parts (same_bytes (hash_of half n) s.hash) (is_none (fault_at kind key s n)) both.1 in
            by_node n refl (not-true (is_zero s.hash) both.0) ((bytes_eq-Decides (hash_of half n) s.hash).0 rest.0)
            (none_is (fault_at kind key s n) rest.1) t.1

    -- a place at the end of a way through what is held
    comes_to : (used : List Held) (s t : Waypoint) → Stays s → way half kind key s used ≡ Some t
        → AllByRecursion (IsStoredNode half nodes) used → Stays t
    comes_to [] s t stays e held = let same : s ≡ t = cc (e) in subst Stays same stays
    comes_to (n ∷ used) s t stays e held = by_next (below half kind key s n) refl (λ v here to. comes_to used v t here to held.1) e
      where
        by_next : (o : Option Waypoint) → below half kind key s n ≡ o
            → ((v : Waypoint) → Stays v → way half kind key v used ≡ Some t → Stays t)
            → option_and_then (λ v. way half kind key v used) o ≡ Some t → Stays t
        by_next None is go e = let no : None ≡ Some t = e in cc
        by_next (Some v) is go e = go v (steps s v n stays (held.0.stored, held.0.held) is) e

    at_start : (root : Hash) → IsWholeMap half nodes kind root → Stays (start root)
    unfolding walk_map
    at_start root whole = record { left = 64; level = refl; clean = whole }

    by_cause : (s : Waypoint) (fault : ReadFault) → is_zero s.hash ≡ false → Stays s
        → Ends half kind true nodes s.above (path_at key s) s.hash fault → (fault ≡ Fault) ⊎ (fault ≡ Memory)
    by_cause s fault some stays ends = ends_by stays.left s.above (path_at key s) s.hash fault some stays.clean ends

pub whole_read : (half : Half) → (nodes : Lookup) (kind : Kind) (root key : Hash) (fault : ReadFault) → IsKey key
    → IsWholeMap half nodes kind root → HasCause half kind root key true nodes fault
    → (fault ≡ Fault) ⊎ (fault ≡ Memory)
whole_read half nodes kind root key fault is_key whole cause =
    by_cause half nodes kind key is_key cause.place fault (not-true (is_zero cause.place.hash) cause.leads.nonzero)
    (comes_to half nodes kind key is_key cause.used (start root) cause.place (at_start half nodes kind key is_key root whole)
    cause.leads.leads (cause.leads.stored refl)) cause.ends
