-- What the walk from a root meets, as a list and by steps, is one.
use Rattle.std.proofs.Common.{◌≡◌, ◌≤◌, ◌<◌, ◌+◌, ◌↔◌, ⊎_elim, ℕ, zero, suc, Bool, true, false, List, []}
use Rattle.std.proofs.Common.{◌∷◌, ◌++◌, length, Option, None, Some}
use Rattle.std.proofs.Common.{refl, sym, ap, ◌∙◌, subst, arith, length-append, Contains}
use Rattle.std.specs.List.{slice_index_or, AllByRecursion}
use Rattle.std.proofs.lemmas.List.Elements.{All-contains, All-from_recursion, Contains-append_right, Contains-append_cases}
use Rattle.ledger_spec.specs.declared.Kind.{Kind}
use Rattle.ledger_spec.specs.declared.Place.TheVariants.{Node}
use Rattle.ledger_spec.specs.Bytes.{Hash, Half, Lookup, is_zero, zero_hash, branches}
use Rattle.ledger_spec.specs.Forms.{inner, leaf, header}
use Rattle.ledger_spec.specs.Rules.{fault_of}
use Rattle.ledger_spec.specs.Findings.{Sight, missing, broken, sound, Met, branches_of, walk, walk_map}
use Rattle.tree_laws.specs.Walks.{at_place, Meets, top, branch}
use Rattle.tree_laws.proofs.shared.Joins.{all_range, all_flat, in_nothing, in_head, in_one, in_join, join_has, in_range}
use Rattle.tree_laws.proofs.shared.Shapes.{above_bottom}
use Rattle.tree_laws.proofs.shared.Sights.{sees_sound}
use Rattle.tree_laws.proofs.shared.Steps.{met_at, walks_below, walk_empty, walk_bottom, walk_step, walk_inner}

module _ (half : Half) (nodes : Lookup) (kind : Kind) (root : Hash) where
  -- an entry of the walk is for a place that is met, with what is seen there
  pub record IsMeeting (m : Met) : Type 0 where
    pub path : List ℕ
    pub meets : Meets half nodes kind root m.parent path m.hash
    pub is : m ≡ met_at half nodes kind m.parent path m.hash

  meetings_below : (left : ℕ) (path : List ℕ) (s : Sight) → ((hashes : List Hash) → s ≡ sound (inner hashes)
      → AllByRecursion IsMeeting (walks_below half nodes kind left path hashes))
      → AllByRecursion IsMeeting (branches_of s (walks_below half nodes kind left path))
  meetings_below left path missing each = tt
  meetings_below left path (broken fault) each = tt
  meetings_below left path (sound (inner hashes)) each = each hashes refl
  meetings_below left path (sound (leaf k key bytes)) each = tt
  meetings_below left path (sound (header bytes)) each = tt

  all_met : (left : ℕ) (parent : Option (List Hash)) (path : List ℕ) (h : Hash)
      → (is_zero h ≡ false → Meets half nodes kind root parent path h)
      → AllByRecursion IsMeeting (walk half nodes kind left parent path h)
  all_met zero parent path h meets = by (is_zero h) refl
    where
      by : (z : Bool) → is_zero h ≡ z → AllByRecursion IsMeeting (walk half nodes kind zero parent path h)
      by true z = subst (AllByRecursion IsMeeting) (sym (walk_empty half nodes kind zero parent path h z)) tt
      by false z = subst (AllByRecursion IsMeeting) (sym (walk_bottom half nodes kind parent path h z))
          (record { path = path; meets = meets z; is = refl }, tt)
  all_met (suc left) parent path h meets =
      by (is_zero h) refl (λ hashes b below. all_met left (Some hashes) (path ++ b ∷ []) (slice_index_or hashes b zero_hash) below)
    where
      by : (z : Bool) → is_zero h ≡ z
          → ((hashes : List Hash) (b : ℕ) → (is_zero (slice_index_or hashes b zero_hash) ≡ false
          → Meets half nodes kind root (Some hashes) (path ++ b ∷ []) (slice_index_or hashes b zero_hash))
          → AllByRecursion IsMeeting (walk half nodes kind left (Some hashes) (path ++ b ∷ [])
          (slice_index_or hashes b zero_hash)))
          → AllByRecursion IsMeeting (walk half nodes kind (suc left) parent path h)
      by true z each = subst (AllByRecursion IsMeeting) (sym (walk_empty half nodes kind (suc left) parent path h z)) tt
      by false z each =
          subst (AllByRecursion IsMeeting) (sym (walk_step half nodes kind left parent path h z)) (
            record { path = path; meets = meets z; is = refl },
            meetings_below left path (at_place half nodes kind parent path h)
                (λ hashes is. all_flat IsMeeting (λ b. walk half nodes kind left (Some hashes) (path ++ b ∷ [])
                (slice_index_or hashes b zero_hash)) branches
                (all_range (λ b. AllByRecursion IsMeeting (walk half nodes kind left (Some hashes) (path ++ b ∷ [])
                (slice_index_or hashes b zero_hash))) 16 0
                (λ b low high. each hashes b (λ some. branch (meets z) is (omega arith) some)))),
          )

  -- what the walk has is met
  pub walk_meets : (m : Met) → Contains (walk_map half nodes kind root) m → IsMeeting m
  unfolding walk_map
  walk_meets m c = All-contains IsMeeting (walk half nodes kind 64 None [] root) m
      (All-from_recursion IsMeeting (walk half nodes kind 64 None [] root) (all_met 64 None [] root (λ some. top some))) c

same_path : {kind : Kind} (q path : List ℕ) → Node kind q ≡ Node kind path → q ≡ path
same_path q path e = cc

-- an inner node that is seen stands above the bottom
inner_high : (half : Half) (nodes : Lookup) (kind : Kind) (parent : Option (List Hash)) (path : List ℕ) (h : Hash)
    (hashes : List Hash) → length path ≤ 64
    → at_place half nodes kind parent path h ≡ sound (inner hashes) → length path < 64
inner_high half nodes kind parent path h hashes low is =
    above_bottom kind hashes parent path low (sees_sound half (λ n. fault_of n parent kind path) (nodes h) (inner hashes) is).fits

module _ (half : Half) (nodes : Lookup) (kind : Kind) where
  -- what is seen at a place, where the walk below it isn't empty
  below_seen : (left : ℕ) (path : List ℕ) (s : Sight) (m : Met) → Contains (branches_of s (walks_below half nodes kind left path)) m
      → (hashes : List Hash) × (s ≡ sound (inner hashes)) × Contains (walks_below half nodes kind left path hashes) m
  below_seen left path missing m c = absurd (in_nothing c)
  below_seen left path (broken fault) m c = absurd (in_nothing c)
  below_seen left path (sound (inner hashes)) m c = (hashes, refl, c)
  below_seen left path (sound (leaf k key bytes)) m c = absurd (in_nothing c)
  below_seen left path (sound (header bytes)) m c = absurd (in_nothing c)

  module _ (parent : Option (List Hash)) (path : List ℕ) (h : Hash) (hashes : List Hash) (b : ℕ) (low : b < 16)
      (is : at_place half nodes kind parent path h ≡ sound (inner hashes))
      (some : is_zero (slice_index_or hashes b zero_hash) ≡ false) where
    abbrev next : Met
    next = met_at half nodes kind (Some hashes) (path ++ b ∷ []) (slice_index_or hashes b zero_hash)

    -- the walk of a place begins with it
    begins : (left : ℕ) → Contains (walk half nodes kind left (Some hashes) (path ++ b ∷ []) (slice_index_or hashes b zero_hash))
        next
    begins zero = subst (λ ms. Contains ms next) (sym (walk_bottom half nodes kind (Some hashes) (path ++ b ∷ [])
        (slice_index_or hashes b zero_hash) some)) (in_head next [])
    begins (suc left) =
        subst (λ ms. Contains ms next) (sym (walk_step half nodes kind left (Some hashes) (path ++ b ∷ [])
        (slice_index_or hashes b zero_hash) some)) (in_head next _)

    -- a place where that inner node is seen has the branch below it
    has_branch : (left : ℕ) (p : Option (List Hash)) (q : List ℕ) (g : Hash) → is_zero g ≡ false
        → at_place half nodes kind p q g ≡ sound (inner hashes) → q ≡ path
        → Contains (walk half nodes kind (suc left) p q g) next
    has_branch left p q g z seen same =
        let below : Contains (walk half nodes kind left (Some hashes) (q ++ b ∷ []) (slice_index_or hashes b zero_hash)) next =
        subst (λ r. Contains (walk half nodes kind left (Some hashes) (r ++ b ∷ []) (slice_index_or hashes b zero_hash)) next)
        (sym same) (begins left) in
        subst (λ ms. Contains ms next) (sym (walk_inner half nodes kind left p q g hashes z seen))
        (Contains-append_right (met_at half nodes kind p q g ∷ []) (walks_below half nodes kind left q hashes) next
        (join_has (λ d. walk half nodes kind left (Some hashes) (q ++ d ∷ []) (slice_index_or hashes d zero_hash)) branches b next
        (in_range 16 0 b (omega arith) (omega arith)) below))

    -- a walk that has a place where an inner node is seen has each of that node's branches
    has_next : (left : ℕ) (p : Option (List Hash)) (q : List ℕ) (g : Hash) → left + length q ≡ 64
        → Contains (walk half nodes kind left p q g) (met_at half nodes kind parent path h)
        → Contains (walk half nodes kind left p q g) next
    has_next zero p q g size c = by (is_zero g) refl
      where
        by : (z : Bool) → is_zero g ≡ z → Contains (walk half nodes kind zero p q g) next
        by true z = absurd (in_nothing (subst (λ ms. Contains ms (met_at half nodes kind parent path h))
            (walk_empty half nodes kind zero p q g z) c))
        by false z =
            let same : met_at half nodes kind p q g ≡ met_at half nodes kind parent path h =
            in_one (met_at half nodes kind p q g) (met_at half nodes kind parent path h)
            (subst (λ ms. Contains ms (met_at half nodes kind parent path h)) (walk_bottom half nodes kind p q g z) c) in
            let ways : q ≡ path = same_path q path (ap (λ (m : Met). m.place) same) in
            let size_is : length q ≡ length path = ap length ways in
            absurd (let high : length path < 64 = inner_high half nodes kind parent path h hashes (omega arith) is in omega arith)
    has_next (suc left) p q g size c =
        by (is_zero g) refl (λ hs d. has_next left (Some hs) (q ++ d ∷ []) (slice_index_or hs d zero_hash)
        (omega (arith, length-append q (d ∷ []))))
      where
        by : (z : Bool) → is_zero g ≡ z
            → ((hs : List Hash) (d : ℕ) → Contains (walk half nodes kind left (Some hs) (q ++ d ∷ [])
            (slice_index_or hs d zero_hash)) (met_at half nodes kind parent path h)
            → Contains (walk half nodes kind left (Some hs) (q ++ d ∷ []) (slice_index_or hs d zero_hash)) next)
            → Contains (walk half nodes kind (suc left) p q g) next
        by true z on = absurd (in_nothing (subst (λ ms. Contains ms (met_at half nodes kind parent path h))
            (walk_empty half nodes kind (suc left) p q g z) c))
        by false z on =
            ⊎_elim
            (λ at.
            let same : met_at half nodes kind p q g ≡ met_at half nodes kind parent path h = in_one (met_at half nodes kind p q g)
            (met_at half nodes kind parent path h) at in
            has_branch left p q g z (ap (λ (m : Met). m.sight) same ∙ is) (same_path q path (ap (λ (m : Met). m.place) same)))
            (λ later.
            let seen = below_seen left q (at_place half nodes kind p q g) (met_at half nodes kind parent path h) later in
            let join = in_join (λ d. walk half nodes kind left (Some seen.0) (q ++ d ∷ []) (slice_index_or seen.0 d zero_hash))
            branches (met_at half nodes kind parent path h) seen.2 in
            subst (λ ms. Contains ms next) (sym (walk_inner half nodes kind left p q g seen.0 z seen.1))
            (Contains-append_right (met_at half nodes kind p q g ∷ []) (walks_below half nodes kind left q seen.0) next
            (join_has (λ d. walk half nodes kind left (Some seen.0) (q ++ d ∷ []) (slice_index_or seen.0 d zero_hash)) branches
            join.0 next join.1 (on seen.0 join.0 join.2))))
            (Contains-append_cases (met_at half nodes kind p q g ∷ [])
            (branches_of (at_place half nodes kind p q g) (walks_below half nodes kind left q))
            (met_at half nodes kind parent path h) (subst (λ ms. Contains ms (met_at half nodes kind parent path h))
            (walk_step half nodes kind left p q g z) c))

-- what is met is in the walk
met_in_walk : (half : Half) (nodes : Lookup) (kind : Kind) (root : Hash) {parent : Option (List Hash)} {path : List ℕ} {h : Hash}
    → Meets half nodes kind root parent path h
    → Contains (walk half nodes kind 64 None [] root) (met_at half nodes kind parent path h)
met_in_walk half nodes kind root (top some) =
    subst (λ ms. Contains ms (met_at half nodes kind None [] root)) (sym (walk_step half nodes kind 63 None [] root some))
    (in_head (met_at half nodes kind None [] root) _)
met_in_walk half nodes kind root (branch {parent = parent} {path = path} {h = h} {hashes = hashes} {b = b} meets is low some) =
    has_next half nodes kind parent path h hashes b low is some 64 None [] root (omega arith)
    (met_in_walk half nodes kind root meets)

pub meets_walk : (half : Half) (nodes : Lookup) (kind : Kind) (root : Hash) (parent : Option (List Hash)) (path : List ℕ)
    (h : Hash) → Meets half nodes kind root parent path h
    → Contains (walk_map half nodes kind root) (met_at half nodes kind parent path h)
unfolding walk_map
meets_walk half nodes kind root parent path h meets = met_in_walk half nodes kind root meets

-- the walk has exactly what is met
pub walked_is_met : (half : Half) (nodes : Lookup) (kind : Kind) (root : Hash) (m : Met)
    → Contains (walk_map half nodes kind root) m ↔ IsMeeting half nodes kind root m
walked_is_met half nodes kind root m = (
  walk_meets half nodes kind root m,
  λ w. subst (Contains (walk_map half nodes kind root)) (sym w.is)
      (meets_walk half nodes kind root m.parent w.path m.hash w.meets),
)

-- no place that is met lies below the bottom
pub met_low : (half : Half) (nodes : Lookup) (kind : Kind) (root : Hash) {parent : Option (List Hash)} {path : List ℕ} {h : Hash}
    → Meets half nodes kind root parent path h
    → length path ≤ 64
met_low half nodes kind root (top some) = omega arith
met_low half nodes kind root (branch {parent = parent} {path = path} {h = h} {hashes = hashes} {b = b} meets is low some) =
    let high : length path < 64 = inner_high half nodes kind parent path h hashes (met_low half nodes kind root meets) is in
    omega (arith, length-append path (b ∷ []))
