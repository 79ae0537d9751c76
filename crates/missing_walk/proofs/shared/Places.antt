-- Places that stand for one another: what is found at one and below it is what is found at the others. For proofs of other crates.
use Rattle.std.proofs.Common.{◌≡◌, ℕ, suc, ◌-◌, ◌<◌, Bool, true, false, if◌then◌else◌, List, [], ◌∷◌, ◌++◌, length}
use Rattle.std.proofs.Common.{Option, None, Some, refl, sym, ap, ◌∙◌, arith, length-append, append-nil, inl, inr, ◌⊎◌}
use Rattle.std.specs.List.{filter_map, flat_map, range_with_len, slice_index_or}
use Rattle.std.proofs.lemmas.Grind.{flat_map-append}
use Rattle.ledger_spec.specs.declared.Kind.{Kind}
use Rattle.ledger_spec.specs.declared.Place.TheVariants.{Node as NodePlace}
use Rattle.ledger_spec.specs.declared.ShapeFault.{ShapeFault}
use Rattle.ledger_spec.specs.Bytes.{Hash, Half, Lookup, zero_hash, is_zero}
use Rattle.ledger_spec.specs.Forms.{Held, inner}
use Rattle.ledger_spec.specs.Rules.{fault_of}
use Rattle.ledger_spec.specs.Findings.{Sight, missing, broken, sound, lacks, breaks}
use Rattle.ledger_spec.proofs.shared.ReachLaws.{Grows}
use Rattle.ledger_spec.proofs.shared.Growth.{sight_same, walk_same}
use Rattle.full_below.specs.declared.key.MarkKey.{MarkKey}
use Rattle.tree_laws.specs.Walks.{at_place, finding_of, found_below, found_in}
use Rattle.tree_laws.proofs.shared.Below.{below_zero, below_end, below_inner, found_any}
use Rattle.shamap_node.specs.Nodes.{held}
use Rattle.missing_walk.specs.declared.todo.Open.{Open}
use Rattle.missing_walk.specs.Sees.{is_sound_leaf}
use Rattle.missing_walk.specs.Pending.{Pending, placed, found_at, found_all, FoundAs, IsMet, Covers, AreBelow, kid}
use Rattle.missing_walk.specs.Pending.{kids_from, IsHeldAt, IsInnerAt, IsFull, IsOpen}
use Rattle.missing_walk.proofs.Walking.{leaf_end, leaf_bare}
use Rattle.missing_walk.proofs.Apart.{met_step, apart_step}

pub grows_same : (m : Lookup) → Grows m m
grows_same m h form e = e

pub grows_then : (m n o : Lookup) → Grows m n → Grows n o → Grows m o
grows_then m n o first second h form e = second h form (first h form e)

module _ (half : Half) where
  pub all_append : (nodes : Lookup) (xs ys : List Pending)
      → found_all half nodes (xs ++ ys) ≡ found_all half nodes xs ++ found_all half nodes ys
  all_append nodes xs ys = flat_map-append (found_at half nodes) xs ys

  pub all_one : (nodes : Lookup) (p : Pending) → found_all half nodes (p ∷ []) ≡ found_at half nodes p
  all_one nodes p = append-nil (found_at half nodes p)

  module _ (nodes : Lookup) where
    -- the first place gives way to those that it stands for
    pub all_step : (more : Lookup) → Grows nodes more → (p : Pending) (ks ps : List Pending) → FoundAs half nodes p ks
        → found_all half more (p ∷ ps) ≡ found_all half more (ks ++ ps)
    all_step more up p ks ps f = ap (λ l. l ++ found_all half more ps) (f.same more up) ∙ sym (all_append more ks ps)

    pub found_step : (q p : Pending) (ks ps : List Pending) → FoundAs half nodes q (p ∷ ps) → FoundAs half nodes p ks
        → FoundAs half nodes q (ks ++ ps)
    found_step q p ks ps whole part = record { same = λ more up. whole.same more up ∙ all_step more up p ks ps part }

    -- a place in the list gives way to those that it stands for
    pub covers_step : (target : Hash) (ms : List Pending) (p : Pending) (ks ps : List Pending) → Covers half nodes target (ms ++ p ∷ ps)
        → FoundAs half nodes p ks → AreBelow half nodes target p ks → Covers half nodes target (ms ++ (ks ++ ps))
    covers_step target ms p ks ps whole part below = record {
      met = met_step (IsMet half nodes target) ms p ks ps whole.met below.met;
      apart = apart_step ms p ks ps (below.first) (below.second) below.apart whole.apart;
      same = λ more up. whole.same more up ∙ all_append more ms (p ∷ ps)
          ∙ ap (λ l. found_all half more ms ++ l) (all_step more up p ks ps part)
          ∙ sym (all_append more ms (ks ++ ps));
    }

    pub found_itself : (p : Pending) → FoundAs half nodes p (p ∷ [])
    found_itself p = record { same = λ more up. sym (all_one more p) }

    pub found_grows : (more : Lookup) (p : Pending) (ks : List Pending) → Grows nodes more → FoundAs half nodes p ks
        → FoundAs half more p ks
    found_grows more p ks up f = record { same = λ n onward. f.same n (grows_then nodes more n up onward) }

    pub held_grows : (more : Lookup) (h : Hash) (n : Held) → Grows nodes more → IsHeldAt half nodes h n → IsHeldAt half more h n
    held_grows more h n up at = record { form = at.form; stored = up h at.form at.stored; holds = at.holds }

    pub inner_grows : (more : Lookup) (h : Hash) → Grows nodes more → IsInnerAt half nodes h → IsInnerAt half more h
    inner_grows more h up at = record { hashes = at.hashes; there = held_grows more h (inner at.hashes) up at.there }

    pub open_grows : (more : Lookup) (o : Open) → Grows nodes more → IsOpen half nodes o → IsOpen half more o
    open_grows more o up at = record {
      inner_there = inner_grows more o.at.hash up at.inner_there;
      held_there = held_grows more o.at.hash (held o.node.value) up at.held_there;
    }

    -- a marked place stands for none, whatever is above it
    pub full_found : (key : MarkKey) (parent : Option (List Hash)) → IsFull half nodes key → FoundAs half nodes (placed key parent) []
    unfolding found_below
    full_found key parent full = record {
      same = λ more up.
          let left : ℕ = 64 - length key.id in
          let at : IsHeldAt half more key.hash (inner full.inner_there.hashes) =
          held_grows more key.hash (inner full.inner_there.hashes) up full.inner_there.there in
          found_any half more key.kind left parent None key.id key.hash at.form full.inner_there.hashes at.stored at.holds
          ∙ ap (filter_map finding_of) (walk_same half nodes more key.kind left None key.id key.hash up full.empty)
          ∙ full.empty;
    }

    -- a place that stands for none, where an inner node is held, can be marked
    pub found_full : (key : MarkKey) → IsInnerAt half nodes key.hash → FoundAs half nodes (placed key None) [] → IsFull half nodes key
    found_full key at f = record { inner_there = at; empty = f.same nodes (grows_same nodes) }

    pub full_grows : (more : Lookup) (key : MarkKey) → Grows nodes more → IsFull half nodes key → IsFull half more key
    full_grows more key up full = record {
      inner_there = inner_grows more key.hash up full.inner_there;
      empty = (full_found key None full).same more up;
    }

    not_lost : (s t : Sight) → (s ≡ missing) ⊎ (t ≡ s) → (s ≡ missing → ⊥) → t ≡ s
    not_lost s t (inl e) never = absurd (never e)
    not_lost s t (inr e) never = e

    -- what is seen at a place that isn't missing is seen there in any larger store
    pub seen_grows : (more : Lookup) (kind : Kind) (parent : Option (List Hash)) (path : List ℕ) (h : Hash) → Grows nodes more
        → (at_place half nodes kind parent path h ≡ missing → ⊥)
        → at_place half more kind parent path h ≡ at_place half nodes kind parent path h
    seen_grows more kind parent path h up never =
        not_lost _ _ (sight_same half (λ n. fault_of n parent kind path) nodes more h up) never

    sound_there : (s : Sight) → is_sound_leaf s ≡ true → s ≡ missing → ⊥
    sound_there s is e = let never : is_sound_leaf missing ≡ true = ap is_sound_leaf (sym e) ∙ is in cc

    -- a leaf that belongs there stands for none
    pub leaf_found : (p : Pending) → is_zero p.hash ≡ false → is_sound_leaf (at_place half nodes p.kind p.parent p.path p.hash) ≡ true
        → FoundAs half nodes p []
    leaf_found p nonzero is = record {
      same = λ more up.
          let s : Sight = at_place half nodes p.kind p.parent p.path p.hash in
          below_end half more p.kind (64 - length p.path) p.parent p.path p.hash s nonzero
          (sym (seen_grows more p.kind p.parent p.path p.hash up (sound_there s is))) (leaf_bare s is)
          ∙ leaf_end s (NodePlace p.kind p.path) is;
    }

    kid_found : (more : Lookup) (kind : Kind) (path : List ℕ) (hashes : List Hash) (left b : ℕ) → left ≡ 63 - length path
        → (z : Bool) → is_zero (slice_index_or hashes b zero_hash) ≡ z
        → found_below half more kind left (Some hashes) (path ++ b ∷ []) (slice_index_or hashes b zero_hash)
        ≡ found_all half more (kid kind path hashes b)
    kid_found more kind path hashes left b level true e =
        below_zero half more kind left (Some hashes) (path ++ b ∷ []) (slice_index_or hashes b zero_hash) e
        ∙ sym (ap (λ t. found_all half more (if t then [] else record {
          kind = kind;
          path = path ++ b ∷ [];
          hash = slice_index_or hashes b zero_hash;
          parent = Some hashes;
        } ∷ [])) e)
    kid_found more kind path hashes left b level false e =
        let below : left ≡ 64 - length (path ++ b ∷ []) = omega (arith, level, length-append path (b ∷ [])) in
        ap (λ l. found_below half more kind l (Some hashes) (path ++ b ∷ []) (slice_index_or hashes b zero_hash)) below
        ∙ sym (all_one more (record {
          kind = kind;
          path = path ++ b ∷ [];
          hash = slice_index_or hashes b zero_hash;
          parent = Some
              hashes;
        }))
        ∙ sym (ap (λ t. found_all half more (if t then [] else record {
          kind = kind;
          path = path ++ b ∷ [];
          hash = slice_index_or hashes b zero_hash;
          parent = Some hashes;
        } ∷ [])) e)

    kids_found : (more : Lookup) (kind : Kind) (path : List ℕ) (hashes : List Hash) (left : ℕ) (bs : List ℕ) → left ≡ 63 - length path
        → flat_map (λ b. found_below half more kind left (Some hashes) (path ++ b ∷ []) (slice_index_or hashes b zero_hash)) bs
        ≡ found_all half more (flat_map (kid kind path hashes) bs)
    kids_found more kind path hashes left [] level = refl
    kids_found more kind path hashes left (b ∷ bs) level =
        (λ i. kid_found more kind path hashes left b level (is_zero (slice_index_or hashes b zero_hash)) refl i
        ++ kids_found more kind path hashes left bs level i)
        ∙ sym (all_append more (kid kind path hashes b) (flat_map (kid kind path hashes) bs))

    inner_there : (s : Sight) (hashes : List Hash) → s ≡ sound (inner hashes) → s ≡ missing → ⊥
    inner_there s hashes is e = let never : sound (inner hashes) ≡ missing = sym is ∙ e in cc

    -- an inner node that belongs there stands for its branches
    pub inner_found : (p : Pending) (hashes : List Hash) → is_zero p.hash ≡ false → length p.path < 64
        → at_place half nodes p.kind p.parent p.path p.hash ≡ sound (inner hashes)
        → FoundAs half nodes p (kids_from p.kind p.path hashes 0 16)
    unfolding found_in kids_from
    inner_found p hashes nonzero short is = record {
      same = λ more up.
          let s : Sight = at_place half nodes p.kind p.parent p.path p.hash in
          let seen : sound (inner hashes) ≡ at_place half more p.kind p.parent p.path p.hash =
          sym (seen_grows more p.kind p.parent p.path p.hash up (inner_there s hashes is) ∙ is) in
          let next : 64 - length p.path ≡ suc (63 - length p.path) = omega arith in
          ap (λ l. found_below half more p.kind l p.parent p.path p.hash) next
          ∙ below_inner half more p.kind (63 - length p.path) p.parent p.path p.hash hashes nonzero seen
          ∙ kids_found more p.kind p.path hashes (63 - length p.path) (range_with_len 0 16) refl;
    }

    -- a place that is missing is the one finding
    pub missing_found : (p : Pending) → is_zero p.hash ≡ false → at_place half nodes p.kind p.parent p.path p.hash ≡ missing
        → found_at half nodes p ≡ lacks (NodePlace p.kind p.path) ∷ []
    missing_found p nonzero is =
        below_end half nodes p.kind (64 - length p.path) p.parent p.path p.hash missing nonzero (sym is) (λ each. refl)

    -- so is one that is broken
    pub broken_found : (p : Pending) (fault : ShapeFault) → is_zero p.hash ≡ false
        → at_place half nodes p.kind p.parent p.path p.hash ≡ broken fault
        → found_at half nodes p ≡ breaks (NodePlace p.kind p.path) fault ∷ []
    broken_found p fault nonzero is =
        below_end half nodes p.kind (64 - length p.path) p.parent p.path p.hash (broken fault) nonzero (sym is) (λ each. refl)
