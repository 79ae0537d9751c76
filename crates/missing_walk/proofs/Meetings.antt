-- The walk of a ledger meets the places of a search.
use Rattle.std.proofs.Common.{◌≡◌, ℕ, zero, suc, ◌+◌, ◌<◌, ◌≤◌, Bool, true, false, if◌then◌else◌, List, [], ◌∷◌, ◌++◌, Option, None, Some}
use Rattle.std.proofs.Common.{refl, sym, ap, ◌∙◌, subst, arith, inl, inr}
use Rattle.std.specs.List.{flat_map, range_with_len, slice_index_or, AllByRecursion}
use Rattle.std.specs.Option.{option_and_then}
use Rattle.ledger_spec.specs.declared.Kind.{Kind}
use Rattle.ledger_spec.specs.declared.Kind.TheVariants.{State, Tx}
use Rattle.ledger_spec.specs.Bytes.{Bytes, Hash, Half, Lookup, zero_hash, is_zero}
use Rattle.ledger_spec.specs.Forms.{inner, header_of}
use Rattle.ledger_spec.specs.Header.{state_root_of, tx_root_of}
use Rattle.ledger_spec.specs.Findings.{missing, sound}
use Rattle.ledger_spec.specs.Spots.{header_in}
use Rattle.ledger_spec.proofs.shared.ReachLaws.{Grows}
use Rattle.shamap_node.specs.declared.Node.{Node}
use Rattle.shamap_node.specs.declared.Node.TheVariants as variant
use Rattle.tree_laws.specs.Walks.{at_place, Meets, top, branch}
use Rattle.missing_walk.specs.Pending.{Pending, Apart, AreApart, root_of, IsMet, Covers, AreBelow, kid, kids_from}
use Rattle.missing_walk.specs.Pending.{kids_of}
use Rattle.missing_walk.specs.Views.{IsSoundInner}
use Rattle.missing_walk.specs.Begins.{root_place}
use Rattle.missing_walk.proofs.Apart.{all_join, part_below, part_below_second, part_kids}
use Rattle.missing_walk.proofs.shared.Places.{seen_grows, grows_then}

inner_seen : (hashes : List Hash) → sound (inner hashes) ≡ missing → ⊥
inner_seen hashes e = cc

module _ (half : Half) (m n : Lookup) (up : Grows m n) where
  pub meets_grows : (kind : Kind) (root : Hash) {parent : Option (List Hash)} {path : List ℕ} {h : Hash}
      → Meets half m kind root parent path h
      → Meets half n kind root parent path h
  meets_grows kind root (top nonzero) = top nonzero
  meets_grows kind root (branch {parent} {path} {h} {hashes} before seen lt nonzero) =
      branch (meets_grows kind root before)
      (seen_grows half m n kind parent path h up (λ e. inner_seen hashes (sym seen ∙ e)) ∙ seen) lt nonzero

  header_stays : (bytes : Bytes) (t : Hash) (o : Option Bytes) → m t ≡ o → Some bytes ≡ option_and_then header_of o
      → Some bytes ≡ header_in n t
  header_stays bytes t None is e = cc
  header_stays bytes t (Some form) is e = e ∙ ap (option_and_then header_of) (sym (up t form is))

  pub met_grows : (t : Hash) (ps : List Pending) → AllByRecursion (IsMet half m t) ps → AllByRecursion (IsMet half n t) ps
  met_grows t [] all = tt
  met_grows t (p ∷ ps) all = (
    record {
      bytes = (all.0).bytes;
      header_there = header_stays (all.0).bytes t (m t) refl (all.0).header_there;
      meets = meets_grows p.kind (root_of p.kind (all.0).bytes) (all.0).meets;
    },
    met_grows t ps all.1,
  )

  pub covers_grows : (t : Hash) (ps : List Pending) → Covers half m t ps → Covers half n t ps
  covers_grows t ps c = record {
    met = met_grows t ps c.met;
    apart = c.apart;
    same = λ more onward. c.same more (grows_then m n more up onward);
  }

module _ (half : Half) (nodes : Lookup) where
  -- a place that is met has a hash
  pub meets_nonzero : (kind : Kind) (root : Hash) {parent : Option (List Hash)} {path : List ℕ} {h : Hash}
      → Meets half nodes kind root parent path h → is_zero h ≡ false
  meets_nonzero kind root (top nonzero) = nonzero
  meets_nonzero kind root (branch before seen lt nonzero) = nonzero

module _ (half : Half) (nodes : Lookup) (t : Hash) where
  -- no place stands below
  pub none_below : (p : Pending) → AreBelow half nodes t p []
  none_below p = record { met = λ i. tt; apart = tt; first = λ q a. tt; second = λ q a. tt }

  below_apart : (kind : Kind) (path : List ℕ) (h : Hash) (parent above : Option (List Hash)) (c : ℕ) (hash : Hash) (q : Pending)
      → Apart (record { kind = kind; path = path; hash = hash; parent = above }) q
      → Apart (record { kind = kind; path = path ++ c ∷ []; hash = h; parent = parent }) q
  below_apart kind path h parent above c hash q (inl e) = inl e
  below_apart kind path h parent above c hash q (inr d) = inr (part_below path q.path c d)

  below_apart_second : (kind : Kind) (path : List ℕ) (h : Hash) (parent above : Option (List Hash)) (c : ℕ) (hash : Hash) (q : Pending)
      → Apart q (record { kind = kind; path = path; hash = hash; parent = above })
      → Apart q (record { kind = kind; path = path ++ c ∷ []; hash = h; parent = parent })
  below_apart_second kind path h parent above c hash q (inl e) = inl e
  below_apart_second kind path h parent above c hash q (inr d) = inr (part_below_second q.path path c d)

  -- what holds of the place of a branch that isn't empty holds of all that there are of it
  kid_all : (P : Pending → Type 0) (kind : Kind) (path : List ℕ) (hashes : List Hash) (b : ℕ)
      → (is_zero (slice_index_or hashes b zero_hash) ≡ false
      → P (record { kind = kind; path = path ++ b ∷ []; hash = slice_index_or hashes b zero_hash; parent = Some hashes }))
      → (z : Bool) → is_zero (slice_index_or hashes b zero_hash) ≡ z
      → AllByRecursion P (if z then [] else record {
        kind = kind;
        path = path ++ b ∷ [];
        hash = slice_index_or hashes b zero_hash;
        parent = Some hashes;
      } ∷ [])
  kid_all P kind path hashes b is true e = tt
  kid_all P kind path hashes b is false e = (is e, tt)

  kids_all : (P : Pending → Type 0) (kind : Kind) (path : List ℕ) (hashes : List Hash)
      → ((b : ℕ) → b < 16 → is_zero (slice_index_or hashes b zero_hash) ≡ false
      → P (record { kind = kind; path = path ++ b ∷ []; hash = slice_index_or hashes b zero_hash; parent = Some hashes }))
      → (b k : ℕ) → b + k ≤ 16 → AllByRecursion P (flat_map (kid kind path hashes) (range_with_len b k))
  kids_all P kind path hashes is b zero le = tt
  kids_all P kind path hashes is b (suc k) le =
      all_join P (kid kind path hashes b) (flat_map (kid kind path hashes) (range_with_len (b + 1) k))
      (kid_all P kind path hashes b (is b (omega (arith, le))) (is_zero (slice_index_or hashes b zero_hash)) refl)
      (kids_all P kind path hashes is (b + 1) k (omega (arith, le)))

  above_first : (Q : ℕ → Pending → Type 0) (kind : Kind) (path : List ℕ) (hashes : List Hash) (a : ℕ)
      → ((b : ℕ) → a < b → Q a (record {
        kind = kind;
        path = path ++ b ∷ [];
        hash = slice_index_or hashes b zero_hash;
        parent = Some
            hashes;
      }))
      → (b k : ℕ) → a < b → AllByRecursion (Q a) (flat_map (kid kind path hashes) (range_with_len b k))
  above_first Q kind path hashes a is b zero lt = tt
  above_first Q kind path hashes a is b (suc k) lt =
      all_join (Q a) (kid kind path hashes b) (flat_map (kid kind path hashes) (range_with_len (b + 1) k))
      (kid_all (Q a) kind path hashes b (λ z. is b lt) (is_zero (slice_index_or hashes b zero_hash)) refl)
      (above_first Q kind path hashes a is (b + 1) k (omega (arith, lt)))

  with_kid : (kind : Kind) (path : List ℕ) (hashes : List Hash) (b : ℕ) (ks : List Pending)
      → AllByRecursion (Apart (record {
        kind = kind;
        path = path ++ b ∷ [];
        hash = slice_index_or hashes b zero_hash;
        parent = Some
            hashes;
      })) ks
      → AreApart ks → (z : Bool)
      → AreApart ((if z then [] else record {
        kind = kind;
        path = path ++ b ∷ [];
        hash = slice_index_or hashes b zero_hash;
        parent = Some hashes;
      } ∷ []) ++ ks)
  with_kid kind path hashes b ks a own true = own
  with_kid kind path hashes b ks a own false = (a, own)

  kids_apart : (kind : Kind) (path : List ℕ) (hashes : List Hash) (b k : ℕ)
      → AreApart (flat_map (kid kind path hashes) (range_with_len b k))
  kids_apart kind path hashes b zero = tt
  kids_apart kind path hashes b (suc k) =
      with_kid kind path hashes b (flat_map (kid kind path hashes) (range_with_len (b + 1) k))
      (above_first (λ a q. Apart (record {
        kind = kind;
        path = path ++ a ∷ [];
        hash = slice_index_or hashes a zero_hash;
        parent = Some
            hashes;
      }) q)
      kind path hashes b (λ c lt. inr (part_kids path b c (λ e. never b c lt e))) (b + 1) k (omega arith))
      (kids_apart kind path hashes (b + 1) k) (is_zero (slice_index_or hashes b zero_hash))
    where
      never : (b c : ℕ) → b < c → b ≡ c → ⊥
      never b c lt e = omega (arith, lt, e)

  below_from : (p : Pending) (hashes : List Hash) → at_place half nodes p.kind p.parent p.path p.hash ≡ sound (inner hashes)
      → AreBelow half nodes t p (kids_from p.kind p.path hashes 0 16)
  unfolding kids_from
  below_from p hashes seen = record {
    met = λ i. kids_all (IsMet half nodes t) p.kind p.path hashes
        (λ b lt nonzero. record { bytes = i.bytes; header_there = i.header_there; meets = branch i.meets seen lt nonzero }) 0 16
        (omega arith);
    apart = kids_apart p.kind p.path hashes 0 16;
    first = λ q a. kids_all (λ k. Apart k q) p.kind p.path hashes
        (λ b lt nonzero. below_apart p.kind p.path (slice_index_or hashes b zero_hash) (Some hashes) p.parent b p.hash q a) 0 16
        (omega arith);
    second = λ q a. kids_all (Apart q) p.kind p.path hashes
        (λ b lt nonzero. below_apart_second p.kind p.path (slice_index_or hashes b zero_hash) (Some hashes) p.parent b p.hash q a) 0 16
        (omega arith);
  }

  -- the places below an inner node that is seen
  pub kids_below : (p : Pending) (node : Node) → IsSoundInner node (at_place half nodes p.kind p.parent p.path p.hash)
      → AreBelow half nodes t p (kids_of p.kind p.path node)
  kids_below p (variant.Inner i) s =
      let e : s.hashes ≡ i.hashes = cc in
      subst (λ hs. AreBelow half nodes t p (kids_from p.kind p.path hs 0 16)) e (below_from p s.hashes s.seen)
  kids_below p (variant.Leaf l) s = none_below p

  root_met : (kind : Kind) (bytes : Bytes) (root : Hash) → Some bytes ≡ header_in nodes t → root_of kind bytes ≡ root → (z : Bool)
      → is_zero root ≡ z
      → AllByRecursion (IsMet half nodes t) (if z then [] else record { kind = kind; path = []; hash = root; parent = None } ∷ [])
  root_met kind bytes root there is true e = tt
  root_met kind bytes root there is false e = (
    record {
      bytes = bytes;
      header_there = there;
      meets = subst (λ r. Meets half nodes kind r None [] root) (sym is) (top e);
    },
    tt,
  )

  pub roots_met : (bytes : Bytes) (state tx : Hash) → Some bytes ≡ header_in nodes t → state_root_of bytes ≡ state → tx_root_of bytes ≡ tx
      → AllByRecursion (IsMet half nodes t) (root_place State state ++ root_place Tx tx)
  roots_met bytes state tx there state_is tx_is =
      all_join (IsMet half nodes t) (root_place State state) (root_place Tx tx)
      (root_met State bytes state there state_is (is_zero state) refl) (root_met Tx bytes tx there tx_is (is_zero tx) refl)

state_no_tx : State ≡ Tx → ⊥
state_no_tx e = cc

pub roots_apart : (state tx : Hash) → AreApart (root_place State state ++ root_place Tx tx)
roots_apart state tx = by (is_zero state) (is_zero tx)
  where
    by : (y z : Bool) → AreApart ((if y then [] else record { kind = State; path = []; hash = state; parent = None } ∷ [])
        ++ (if z then [] else record { kind = Tx; path = []; hash = tx; parent = None } ∷ []))
    by true true = tt
    by true false = (tt, tt)
    by false true = (tt, tt)
    by false false = ((inl state_no_tx, tt), (tt, tt))
