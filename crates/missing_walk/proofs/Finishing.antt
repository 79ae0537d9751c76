-- What a search that is over has found.
use Rattle.std.proofs.Common.{◌≡◌, ℕ, zero, suc, ◌<◌, ◌≤◌, ◌==◌, ◌||◌, ◌&&◌, not, Bool, true, false, is_some, nat_le, List}
use Rattle.std.proofs.Common.{[], ◌∷◌, ◌++◌}
use Rattle.std.proofs.Common.{length, Option, None, Some, IfSome, refl, sym, ap, ◌∙◌, subst, arith, append-nil, ◌⊎◌, inl, inr}
use Rattle.std.proofs.Common.{if◌then◌else◌}
use Rattle.std.specs.Prelude.{map}
use Rattle.std.specs.Option.{option_and_then}
use Rattle.std.specs.List.{filter_map}
use Rattle.std.proofs.lemmas.Bool.Decides.{nat_tests}
use Rattle.ledger_spec.specs.declared.Kind.{Kind}
use Rattle.ledger_spec.specs.declared.Kind.TheVariants.{State, Tx}
use Rattle.ledger_spec.specs.declared.Place.{Place}
use Rattle.ledger_spec.specs.declared.Place.TheVariants.{Node as NodePlace}
use Rattle.ledger_spec.specs.declared.ShapeFault.{ShapeFault}
use Rattle.ledger_spec.specs.declared.ShapeFault.TheVariants.{WrongKind, LeafAtRoot}
use Rattle.ledger_spec.specs.Bytes.{Bytes, Hash, Half, Lookup, is_zero}
use Rattle.ledger_spec.specs.Header.{header_bytes, state_root_of, tx_root_of}
use Rattle.ledger_spec.specs.Forms.{Held, inner, leaf, header, header_of}
use Rattle.ledger_spec.specs.Rules.{fault_of, same_kind}
use Rattle.ledger_spec.specs.Findings.{Sight, missing, broken, sound, Finding, lacks, breaks, findings, finding_at, missing_of}
use Rattle.ledger_spec.specs.Findings.{first_broken}
use Rattle.ledger_spec.specs.Findings.{up_to, seen, branches_of, header_sight, header_or_foreign}
use Rattle.ledger_spec.proofs.shared.Growth.{both_nil, not_missing}
use Rattle.ledger_header.specs.declared.Header.{Header}
use Rattle.ledger_header.specs.Fields.{fields}
use Rattle.full_below.specs.declared.marks.Marks.{Marks}
use Rattle.full_below.specs.Marking.{after_mark, AreMarked}
use Rattle.full_below.proofs.shared.Using.{marked_more}
use Rattle.tree_cache.specs.declared.cache.TreeCache.{TreeCache}
use Rattle.tree_laws.specs.Walks.{at_place, finding_of, found_below}
use Rattle.tree_laws.proofs.shared.Sights.{Sees, sees_sound}
use Rattle.tree_laws.proofs.shared.Steps.{walk_step, walks_below}
use Rattle.missing_walk.specs.declared.Found.{Found}
use Rattle.missing_walk.specs.declared.todo.Todo.{Todo}
use Rattle.missing_walk.specs.declared.search.Search.{Search}
use Rattle.missing_walk.specs.Sees.{Finds, IsHeaderOf, most_missing}
use Rattle.missing_walk.specs.Pending.{stacked, noted_places, found_all, IsInnerAt, IsFull}
use Rattle.missing_walk.specs.Searching.{Going, BreaksOnTop, place_of}
use Rattle.missing_walk.specs.Moves.{has_ended}
use Rattle.missing_walk.specs.Ends.{found_whole, root_key, with_root, marks_of_roots, MarksRoot}
use Rattle.missing_walk.proofs.shared.Places.{grows_same, all_append}
use Rattle.missing_walk.proofs.Seeing.{sound_held}
use Rattle.missing_walk.proofs.Ledgers.{from_header, maps_found}
use Rattle.missing_walk.specs.Sees.{found_in_maps}
use Rattle.std.proofs.Common.{Result, Ok, Err, IfOk, OnOk, OnErr}
use Rattle.half_hash.specs.declared.Memory.{Memory}

all_lacking : (room : ℕ) (ms : List Place) → length ms ≤ room → up_to room (map lacks ms) ≡ map lacks ms
all_lacking room [] le = up_nil room
  where
    up_nil : (r : ℕ) → up_to r [] ≡ []
    up_nil zero = refl
    up_nil (suc r) = refl
all_lacking zero (m ∷ ms) le = absurd (omega (arith, le))
all_lacking (suc room) (m ∷ ms) le = ap (λ l. lacks m ∷ l) (all_lacking room ms (omega (arith, le)))

up_none : (xs : List Finding) → up_to 0 xs ≡ []
up_none [] = refl
up_none (x ∷ xs) = refl

full_lacking : (room : ℕ) (ms : List Place) (xs : List Finding) → length ms ≡ room → up_to room (map lacks ms ++ xs) ≡ map lacks ms
full_lacking zero [] xs e = up_none xs
full_lacking (suc room) [] xs e = absurd (omega (arith, e))
full_lacking zero (m ∷ ms) xs e = absurd (omega (arith, e))
full_lacking (suc room) (m ∷ ms) xs e = ap (λ l. lacks m ∷ l) (full_lacking room ms xs (omega (arith, e)))

then_broken : (room : ℕ) (ms : List Place) (place : Place) (fault : ShapeFault) (xs : List Finding) → length ms < room
    → up_to room (map lacks ms ++ breaks place fault ∷ xs) ≡ map lacks ms ++ breaks place fault ∷ []
then_broken zero ms place fault xs lt = absurd (omega (arith, lt))
then_broken (suc room) [] place fault xs lt = refl
then_broken (suc room) (m ∷ ms) place fault xs lt = ap (λ l. lacks m ∷ l) (then_broken room ms place fault xs (omega (arith, lt)))

missing_lacks : (ms : List Place) → filter_map missing_of (map lacks ms) ≡ ms
missing_lacks [] = refl
missing_lacks (m ∷ ms) = ap (λ l. m ∷ l) (missing_lacks ms)

none_lacks : (ms : List Place) → first_broken (map lacks ms) ≡ None
none_lacks [] = refl
none_lacks (m ∷ ms) = none_lacks ms

missing_then : (ms : List Place) (place : Place) (fault : ShapeFault)
    → filter_map missing_of (map lacks ms ++ breaks place fault ∷ []) ≡ ms
missing_then [] place fault = refl
missing_then (m ∷ ms) place fault = ap (λ l. m ∷ l) (missing_then ms place fault)

broken_then : (ms : List Place) (place : Place) (fault : ShapeFault)
    → first_broken (map lacks ms ++ breaks place fault ∷ []) ≡ Some (place, fault)
broken_then [] place fault = refl
broken_then (m ∷ ms) place fault = broken_then ms place fault

length_map : (f : Todo → Place) (xs : List Todo)
    → length (map f xs) ≡ length xs
length_map f [] = refl
length_map f (x ∷ xs) = omega (arith, length_map f xs)

never_empty : (n : ℕ) → (suc n == 0) ≡ true → ⊥
never_empty n e = grind (arith, nat_tests)

empty : (xs : List Todo) → (length xs == 0) ≡ true → xs ≡ []
empty [] e = refl
empty (x ∷ xs) e = absurd (never_empty (length xs) e)

module _ (half : Half) (nodes : Lookup) where
  -- what is found begins with the noted places
  pub found_so : (s : Search) (c : TreeCache) (m : Marks) → Going half nodes s c m
      → findings half nodes s.target ≡ map lacks (map place_of s.missing.items) ++ found_all half nodes (stacked s.stack.items)
  found_so s c m g =
      g.kept.covers.same nodes (grows_same nodes)
      ∙ all_append half nodes (noted_places s.missing.items) (stacked s.stack.items)
      ∙ ap (λ l. l ++ found_all half nodes (stacked s.stack.items)) g.tested

  module _ (s : Search) (c : TreeCache) (m : Marks) (f : Found) (g : Going half nodes s c m) (few : length s.missing.items ≤ 256)
      (head : f.header ≡ s.header) (broken_is : f.broken ≡ s.broken) (missing_is : f.missing ≡ map place_of s.missing.items) where
    abbrev ms : List Place
    ms = map place_of s.missing.items

    head_of : IsHeaderOf nodes s.target f.header
    head_of = subst (IsHeaderOf nodes s.target) (sym head) g.kept.head

    -- the whole list of findings
    lacking : seen half nodes s.target ≡ map lacks ms → s.broken ≡ None → Finds half nodes s.target f
    lacking is none = record {
      header = head_of;
      missing = missing_is ∙ sym (ap (filter_map missing_of) is ∙ missing_lacks ms);
      broken = broken_is ∙ none ∙ sym (ap first_broken is ∙ none_lacks ms);
    }

    on_broken : (place : Place) (fault : ShapeFault) → s.broken ≡ Some (place, fault)
        → BreaksOnTop half nodes s.stack.items s.missing.items place fault
        → Finds half nodes s.target f
    on_broken place fault is b =
        let all : found_all half nodes (stacked s.stack.items) ≡ breaks place fault ∷ found_all half nodes b.rest =
        ap (found_all half nodes) b.places ∙ ap (λ l. l ++ found_all half nodes b.rest) b.found in
        let front : seen half nodes s.target ≡ map lacks ms ++ breaks place fault ∷ [] =
        ap (up_to 256) (found_so s c m g ∙ ap (λ l. map lacks ms ++ l) all)
        ∙ then_broken 256 ms place fault (found_all half nodes b.rest) (omega (arith, b.room, length_map place_of s.missing.items)) in
        record {
          header = head_of;
          missing = missing_is ∙ sym (ap (filter_map missing_of) front ∙ missing_then ms place fault);
          broken = broken_is ∙ is ∙ sym (ap first_broken front ∙ broken_then ms place fault);
        }

    on_full : s.broken ≡ None → length s.missing.items ≡ 256 → Finds half nodes s.target f
    on_full none full = lacking (ap (up_to 256) (found_so s c m g)
        ∙ full_lacking 256 ms (found_all half nodes (stacked s.stack.items)) (length_map place_of s.missing.items ∙ full)) none

    on_end : s.broken ≡ None → s.stack.items ≡ [] → Finds half nodes s.target f
    on_end none end = lacking (ap (up_to 256) (found_so s c m g ∙ ap (λ l. map lacks ms ++ found_all half nodes (stacked l)) end
        ∙ append-nil (map lacks ms)) ∙ all_lacking 256 ms (omega (arith, few, length_map place_of s.missing.items))) none

    full_at : nat_le most_missing (length s.missing.items) ≡ true → length s.missing.items ≡ 256
    full_at e = grind (arith, nat_tests)

    by_room : (full : Bool) → s.broken ≡ None → nat_le most_missing (length s.missing.items) ≡ full
        → (full || length s.stack.items == 0) ≡ true → Finds half nodes s.target f
    by_room true none is e = on_full none (full_at is)
    by_room false none is e = on_end none (empty s.stack.items e)

    by_broken : (b : Option (Place × ShapeFault)) → s.broken ≡ b
        → IfSome b (λ x. BreaksOnTop half nodes s.stack.items s.missing.items x.0 x.1)
        → ((is_some b || nat_le most_missing (length s.missing.items)) || length s.stack.items == 0) ≡ true → Finds half nodes s.target f
    by_broken (Some x) is b e = on_broken x.0 x.1 is b
    by_broken None is b e = by_room (nat_le most_missing (length s.missing.items)) is refl e

    -- a search that is over has found what is seen of the ledger
    pub ended_finds : has_ended s ≡ true → Finds half nodes s.target f
    ended_finds e = by_broken s.broken refl g.broke e

  -- the root of a map at which nothing is found is an inner node's
  no_fault_inner : (kind : Kind) (n : Held) → fault_of n None kind [] ≡ None → (hashes : List Hash) × (n ≡ inner hashes)
  no_fault_inner kind (inner hashes) e = (hashes, refl)
  no_fault_inner kind (leaf own key bytes) e = absurd (not_leaf (same_kind own kind) e)
    where
      not_leaf : (t : Bool) → (if not t then Some WrongKind else Some LeafAtRoot) ≡ None → ⊥
      not_leaf true e = cc
      not_leaf false e = cc
  no_fault_inner kind (header bytes) e = cc

  inner_by : (kind : Kind) (h : Hash) (s : Sight) → at_place half nodes kind None [] h ≡ s → finding_at (NodePlace kind []) s ≡ None
      → IsInnerAt half nodes h
  inner_by kind h missing is e = cc
  inner_by kind h (broken fault) is e = cc
  inner_by kind h (sound n) is e =
      let seen : Sees half (λ x. fault_of x None kind []) (nodes h) n = sees_sound half (λ x. fault_of x None kind []) (nodes h) n is in
      let i = no_fault_inner kind n seen.fits in
      record { hashes = i.0; there = sound_held half nodes kind None [] h (inner i.0) (is ∙ ap sound i.1) }

  pub root_full : (kind : Kind) (h : Hash) → is_zero h ≡ false → found_below half nodes kind 64 None [] h ≡ []
      → IsFull half nodes (root_key kind h)
  unfolding found_below
  root_full kind h nonzero clean =
      let step = walk_step half nodes kind 63 None [] h nonzero in
      record {
        inner_there = inner_by kind h (at_place half nodes kind None [] h) refl
            (not_missing (NodePlace kind []) h None (at_place half nodes kind None [] h)
            (branches_of (at_place half nodes kind None [] h) (walks_below half nodes kind 63 [])) (sym (ap
            (filter_map finding_of) step) ∙ clean)).0;
        empty = clean;
      }

  -- what is answered, where there was memory for that
  pub ended_ok : (s : Search) (c : TreeCache) (m : Marks) (r : Result Found Memory) → Going half nodes s c m
      → length s.missing.items ≤ 256
      → IfOk r (λ f. f.header ≡ s.header) → IfOk r (λ f. f.broken ≡ s.broken) → IfOk r (λ f. f.missing ≡ map place_of s.missing.items)
      → has_ended s ≡ true → IfOk r (Finds half nodes s.target)
  ended_ok s c m (Ok f) g few head broken_is missing_is e = ended_finds s c m f g few head broken_is missing_is e
  ended_ok s c m (Err x) g few head broken_is missing_is e = tt

  pub header_there : (bytes : Bytes) (o : Option Bytes) → Some bytes ≡ option_and_then header_of o → header_sight o ≡ sound (header bytes)
  header_there bytes None e = cc
  header_there bytes (Some form) e = ap header_or_foreign (sym e)

  both_found : (t : Hash) (h : Header) → IsHeaderOf nodes t (Some h) → findings half nodes t ≡ []
      → (found_below half nodes State 64 None [] h.state_root ≡ []) × (found_below half nodes Tx 64 None [] h.tx_root ≡ [])
  unfolding found_in_maps
  both_found t h head none =
      let bytes : Bytes = header_bytes (fields h) in
      let both = both_nil (found_below half nodes State 64 None [] (state_root_of bytes)) (found_below half nodes Tx 64 None []
      (tx_root_of bytes))
      (sym (maps_found half nodes bytes) ∙ sym (from_header half nodes t (sound (header bytes)) (header_there bytes
      (nodes t) head.bytes)) ∙ none) in (
        ap (λ r. found_below half nodes State 64 None [] r) (sym head.reads.state_root) ∙ both.0,
        ap (λ r. found_below half nodes Tx 64 None [] r) (sym head.reads.tx_root) ∙ both.1,
      )

  with_root_by : (kind : Kind) (h : Hash) (m : Marks) (z : Bool) → is_zero h ≡ z → found_below half nodes kind 64 None [] h ≡ []
      → AreMarked (IsFull half nodes) m → AreMarked (IsFull half nodes) (if z then m else after_mark m (root_key kind h))
  with_root_by kind h m true e clean all = all
  with_root_by kind h m false e clean all = marked_more (IsFull half nodes) m (root_key kind h) all (root_full kind h e clean)

  with_root_marked : (kind : Kind) (h : Hash) (m : Marks) → found_below half nodes kind 64 None [] h ≡ []
      → AreMarked (IsFull half nodes) m → AreMarked (IsFull half nodes) (with_root kind h m)
  with_root_marked kind h m clean all = with_root_by kind h m (is_zero h) refl clean all

  whole_parts : (a b c d : Bool) → (a && not b) ≡ true → ((b || d) || c) ≡ true → d ≡ false → (a ≡ true) × (b ≡ false) × (c ≡ true)
  whole_parts true false true false w e d = (refl, refl, refl)
  whole_parts true false false false w e d = cc
  whole_parts true false c true w e d = cc
  whole_parts true true c d w e f = cc
  whole_parts false b c d w e f = cc

  no_room : (n : ℕ) → (n == 0) ≡ true → nat_le most_missing n ≡ false
  no_room n e = grind (arith, nat_tests)

  first_part : (a b : Bool) → (a && not b) ≡ true → a ≡ true
  first_part true b e = refl
  first_part false b e = cc

  none_found : (s : Search) (c : TreeCache) (m : Marks) → Going half nodes s c m → has_ended s ≡ true → found_whole s ≡ true
      → findings half nodes s.target ≡ []
  none_found s c m g e w =
      let no_missing : (length s.missing.items == 0) ≡ true = first_part (length s.missing.items == 0) (is_some s.broken) w in
      let parts = whole_parts (length s.missing.items == 0) (is_some s.broken) (length s.stack.items == 0)
      (nat_le most_missing (length s.missing.items)) w e (no_room (length s.missing.items) no_missing) in
      found_so s c m g ∙ (λ i. map lacks (map place_of (empty s.missing.items parts.0 i)) ++ found_all half nodes (stacked
      (empty s.stack.items parts.2 i)))

  roots_by : (t : Hash) (o : Option Header) (m m' : Marks) → IsHeaderOf nodes t o → findings half nodes t ≡ []
      → AreMarked (IsFull half nodes) m
      → (m' ≡ marks_of_roots o m) ⊎ MarksRoot o m m' → AreMarked (IsFull half nodes) m'
  roots_by t None m m' head none all (inl is) = subst (AreMarked (IsFull half nodes)) (sym is) all
  roots_by t None m m' head none all (inr is) = subst (AreMarked (IsFull half nodes)) (sym is) all
  roots_by t (Some h) m m' head none all (inl is) =
      let both = both_found t h head none in
      subst (AreMarked (IsFull half nodes)) (sym is)
      (with_root_marked State h.state_root (with_root Tx h.tx_root m) both.0 (with_root_marked Tx h.tx_root m both.1 all))
  roots_by t (Some h) m m' head none all (inr (inl is)) = subst (AreMarked (IsFull half nodes)) (sym is) all
  roots_by t (Some h) m m' head none all (inr (inr is)) =
      subst (AreMarked (IsFull half nodes)) (sym is) (with_root_marked Tx h.tx_root m (both_found t h head none).1 all)

  -- the roots of a whole ledger can be marked
  pub roots_marked : (s : Search) (c : TreeCache) (m m' : Marks) → Going half nodes s c m → has_ended s ≡ true → found_whole s ≡ true
      → (m' ≡ marks_of_roots s.header m) ⊎ MarksRoot s.header m m' → AreMarked (IsFull half nodes) m'
  roots_marked s c m m' g e w is = roots_by s.target s.header m m' g.kept.head (none_found s c m g e w) g.marks is

-- both roots were marked, or as many as there was memory for
pub either_root : {U : Type 0} (r : Result U Memory) (o : Option Header) (m m' : Marks) → OnOk r (m' ≡ marks_of_roots o m)
    → OnErr r (MarksRoot o m m') → (m' ≡ marks_of_roots o m) ⊎ MarksRoot o m m'
either_root (Ok x) o m m' ok err = inl ok
either_root (Err e) o m m' ok err = inr err
