-- A way that goes on by one node, and a path that ends.
use Rattle.std.proofs.Common.{◌≡◌, ◌&&◌, ◌+◌, ◌-◌, if◌then◌else◌, ℕ, zero, suc, length, slice_get, arith, Bool, true, false, List, [], ◌∷◌}
use Rattle.std.proofs.Common.{◌++◌, is_none, IsTrue, Option, None, Some, refl}
use Rattle.std.proofs.Common.{sym, ap, ◌∙◌, subst}
use Rattle.std.proofs.lemmas.Bool.{cond-true, and_from}
use Rattle.std.proofs.lemmas.Slice.Eq.{bytes_eq-Decides}
use Rattle.std.specs.Option.{option_and_then, option_map}
use Rattle.std.specs.List.{AllByRecursion}
use Rattle.ledger_spec.specs.declared.Kind.{Kind}
use Rattle.ledger_spec.specs.Bytes.{Hash, Half, Lookup, is_zero, is_nonzero, same_bytes}
use Rattle.ledger_spec.specs.Forms.{Held, inner, leaf, header, hash_of}
use Rattle.ledger_spec.specs.Reads as spec
use Rattle.ledger_spec.specs.Reads.{inner_hashes, ends_at, follow, follow_from}
use Rattle.path_proof.specs.Sources.{AreHeld, Holds}
use Rattle.std.proofs.Common.{IsErrAnd, Result, Ok, Err}
use Rattle.path_proof.specs.declared.answer.ReadFault.{ReadFault}
use Rattle.path_proof.specs.declared.way.Progress.{Progress}
use Rattle.path_proof.specs.Progressing.{Comes}
use Rattle.path_proof.specs.Ways.{HasCause}
use Rattle.path_proof.specs.Ways.{Ends, Waypoint, waypoint, start, path_at, under, below, way, fault_at, Fits, GoesOn, LeadsTo}
use Rattle.std.proofs.lemmas.List.{map_push}
use Rattle.std.specs.declared.sync.Arc.{Arc}
use Rattle.std.specs.declared.alloc.Global.{Global}
use Rattle.shamap_node.specs.declared.Node.{Node}
use Rattle.shamap_node.specs.Nodes.{held}
use Rattle.path_proof.specs.Paths.{held_nodes, last_branches, last_data, outcome_by}
use Rattle.path_proof.specs.declared.Outcome.{Outcome}
use Rattle.path_proof.specs.declared.Outcome.TheVariants.{Nothing, Value}
use Rattle.path_proof.proofs.Steps.{from_root}

none_test : {A : Type 0} (o : Option A) → o ≡ None → is_none o ≡ true
none_test o e = ap is_none e

-- a fit node passes the tests
pub passes : (half : Half) (kind : Kind) (key : Hash) (s : Waypoint) (n : Held) → Fits half kind s.above (path_at key s) s.hash n
    → (same_bytes (hash_of half n) s.hash && is_none (fault_at kind key s n)) ≡ true
passes half kind key s n fits =
    and_from _ _ ((bytes_eq-Decides (hash_of half n) s.hash).1 fits.hash) (none_test (fault_at kind key s n) fits.rules)

pub below_is : (half : Half) (kind : Kind) (key : Hash) (s t : Waypoint) (n : Held) → IsTrue (is_nonzero s.hash)
    → Fits half kind s.above (path_at key s) s.hash n → GoesOn key s n t → below half kind key s n ≡ Some t
below_is half kind key s t n nonzero fits on =
    cond-true _ _ _ (and_from (is_nonzero s.hash) _ nonzero (passes half kind key s n fits))
    ∙ ap (λ m. option_map (under key s) (inner_hashes m)) on.is_inner ∙ ap Some (sym on.below)

-- one node more
pub way_push : (half : Half) (kind : Kind) (key : Hash) (s t u : Waypoint) (xs : List Held) (n : Held) → way half kind key s xs ≡ Some t
    → below half kind key t n ≡ Some u → way half kind key s (xs ++ n ∷ []) ≡ Some u
way_push half kind key s t u [] n to next =
    let same : s ≡ t = cc in
    ap (option_and_then (λ v. way half kind key v [])) (ap (λ v. below half kind key v n) same ∙ next)
way_push half kind key s t u (x ∷ xs) n to next = by_next (below half kind key s x) (λ v to'. way_push half kind key v t u xs n to' next) to
  where
    by_next : (o : Option Waypoint) → ((v : Waypoint) → way half kind key v xs ≡ Some t → way half kind key v (xs ++ n ∷ []) ≡ Some u)
        → option_and_then (λ v. way half kind key v xs) o ≡ Some t → option_and_then (λ v. way half kind key v (xs ++ n ∷ [])) o ≡ Some u
    by_next None go e = cc
    by_next (Some v) go e = go v e

-- what a path says of the key from a place
abbrev says_from : Half → Kind → Hash → Waypoint → List Held → Option spec.Outcome
says_from half kind key s used = follow_from half kind key s.depth s.above s.hash used

-- a node before others
says_cons : (half : Half) (kind : Kind) (key : Hash) (s : Waypoint) (x m : Held) (rest : List Held) (v : Waypoint)
    → below half kind key s x ≡ Some v → says_from half kind key s (x ∷ m ∷ rest) ≡ says_from half kind key v (m ∷ rest)
says_cons half kind key s x m rest v next =
    by_both (is_nonzero s.hash) (same_bytes (hash_of half x) s.hash && is_none (fault_at kind key s x)) next
  where
    go : List Hash → Option spec.Outcome
    go hashes = says_from half kind key (under key s hashes) (m ∷ rest)

    by_hashes : (o : Option (List Hash)) → option_map (under key s) o ≡ Some v
        → option_and_then (λ hashes. says_from half kind key (under key s hashes) (m ∷ rest)) o ≡ says_from half kind key v (m ∷ rest)
    by_hashes None e = let no : None ≡ Some v = e in cc
    by_hashes (Some hashes) e = let same : under key s hashes ≡ v = cc in ap (λ t. says_from half kind key t (m ∷ rest)) same

    by_test : (t : Bool) → (if t then option_map (under key s) (inner_hashes x) else None) ≡ Some v
        → (if t then option_and_then (λ hashes. says_from half kind key (under key s hashes) (m ∷ rest)) (inner_hashes x) else None)
        ≡ says_from half kind key v (m ∷ rest)
    by_test true e = by_hashes (inner_hashes x) e
    by_test false e = let no : None ≡ Some v = e in cc

    by_both : (z t : Bool) → (if z && t then option_map (under key s) (inner_hashes x) else None) ≡ Some v
        → (if t then option_and_then (λ hashes. says_from half kind key (under key s hashes) (m ∷ rest)) (inner_hashes x) else None)
        ≡ says_from half kind key v (m ∷ rest)
    by_both true t e = by_test t e
    by_both false t e = let no : None ≡ Some v = e in cc

-- a path ends with a node that says something
pub says_end : (half : Half) (kind : Kind) (key : Hash) (s t : Waypoint) (xs : List Held) (n : Held) (o : spec.Outcome)
    → way half kind key s xs ≡ Some t → Fits half kind t.above (path_at key t) t.hash n
    → ends_at key t.depth n ≡ Some o → says_from half kind key s (xs ++ n ∷ []) ≡ Some o
says_end half kind key s t [] n o to fits ends =
    let same : s ≡ t = cc in
    ap (λ v. says_from half kind key v (n ∷ [])) same ∙ cond-true _ _ _ (passes half kind key t n fits) ∙ ends
says_end half kind key s t (x ∷ xs) n o to fits ends =
    by_next (below half kind key s x) refl (λ v to'. says_end half kind key v t xs n o to' fits ends) to
  where
    joined : (v : Waypoint) (ys : List Held) → below half kind key s x ≡ Some v
        → says_from half kind key s (x ∷ (ys ++ n ∷ [])) ≡ says_from half kind key v (ys ++ n ∷ [])
    joined v [] next = says_cons half kind key s x n [] v next
    joined v (y ∷ ys) next = says_cons half kind key s x y (ys ++ n ∷ []) v next

    by_next : (p : Option Waypoint) → below half kind key s x ≡ p
        → ((v : Waypoint) → way half kind key v xs ≡ Some t → says_from half kind key v (xs ++ n ∷ []) ≡ Some o)
        → option_and_then (λ v. way half kind key v xs) p ≡ Some t → says_from half kind key s (x ∷ (xs ++ n ∷ [])) ≡ Some o
    by_next None is go e = let no : None ≡ Some t = e in cc
    by_next (Some v) is go e = joined v xs is ∙ go v e

-- the last node's data
pub last_data_push : (xs : List Held) (n : Held) → last_data (xs ++ n ∷ []) ≡ last_data (n ∷ [])
last_data_push [] n = refl
last_data_push (x ∷ []) n = one x n
  where
    one : (x n : Held) → last_data (x ∷ n ∷ []) ≡ last_data (n ∷ [])
    one (leaf kind key bytes) n = refl
    one (inner hashes) n = refl
    one (header bytes) n = refl
last_data_push (x ∷ y ∷ xs) n = two x y (xs ++ n ∷ []) ∙ last_data_push (y ∷ xs) n
  where
    two : (x y : Held) (rest : List Held) → last_data (x ∷ y ∷ rest) ≡ last_data (y ∷ rest)
    two (leaf kind key bytes) y rest = refl
    two (inner hashes) y rest = refl
    two (header bytes) y rest = refl

-- the last node's branches
last_branches_push : (xs : List Held) (n : Held) → last_branches (xs ++ n ∷ []) ≡ inner_hashes n
last_branches_push [] n = refl
last_branches_push (x ∷ []) n = refl
last_branches_push (x ∷ y ∷ xs) n = last_branches_push (y ∷ xs) n

-- the node at the last place of a path
branches_at : (used : List (Arc Node Global)) (a : Arc Node Global) (n : ℕ) → length used ≡ n + 1 → Some a ≡ slice_get used n
    → inner_hashes (held a.value) ≡ last_branches (held_nodes used)
branches_at [] a n size is = absurd (omega (arith, size))
branches_at (x ∷ []) a zero size is = let same : a ≡ x = cc in ap (λ (n : Arc Node Global). inner_hashes (held n.value)) same
branches_at (x ∷ []) a (suc n) size is = absurd (omega (arith, size))
branches_at (x ∷ y ∷ rest) a zero size is = absurd (omega (arith, size))
branches_at (x ∷ y ∷ rest) a (suc n) size is = branches_at (y ∷ rest) a n (omega (arith, size)) is

pub branches_found : (used : List (Arc Node Global)) (a : Arc Node Global) → Some a ≡ slice_get used (length used - 1)
    → inner_hashes (held a.value) ≡ last_branches (held_nodes used)
branches_found [] a is = cc
branches_found (x ∷ rest) a is = branches_at (x ∷ rest) a (length (x ∷ rest) - 1) (omega arith) is

outcome_as : (xs ys : List Held) (o : Outcome) → last_data xs ≡ last_data ys → outcome_by xs o ≡ outcome_by ys o
outcome_as xs ys Nothing e = refl
outcome_as xs ys Value e = ap spec.value e

pub outcome_push : (xs : List Held) (n : Held) (o : Outcome) → outcome_by (xs ++ n ∷ []) o ≡ outcome_by (n ∷ []) o
outcome_push xs n o = outcome_as (xs ++ n ∷ []) (n ∷ []) o (last_data_push xs n)

all_push : (P : Held → Type 0) (xs : List Held) (n : Held) → AllByRecursion P xs → P n → AllByRecursion P (xs ++ n ∷ [])
all_push P [] n all one = (one, tt)
all_push P (x ∷ xs) n all one = (all.0, all_push P xs n all.1 one)

-- a read's way goes on
pub leads_on : (half : Half) (kind : Kind) (root key : Hash) (tells : Bool) (nodes : Lookup) (xs : List Held) (n : Held) (s t : Waypoint)
    → LeadsTo half kind root key tells nodes xs s
    → Fits half kind s.above (path_at key s) s.hash n → (IsTrue tells → Holds half (nodes s.hash) n) → GoesOn key s n t
    → LeadsTo half kind root key tells nodes (xs ++ n ∷ []) t
leads_on half kind root key tells nodes xs n s t so fits held on = record {
  leads = way_push half kind key (start root) s t xs n so.leads (below_is half kind key s t n so.nonzero fits on);
  nonzero = on.nonzero;
  stored = λ told. all_push _ xs n (so.stored told) (record { stored = ap nodes fits.hash ∙ (held told).0; held = (held told).1 });
}

-- a read's way ends
pub read_ends : (half : Half) (kind : Kind) (root key : Hash) (tells : Bool) (nodes : Lookup) (xs : List Held) (n : Held) (s : Waypoint)
    (o : Outcome) → is_zero root ≡ false → LeadsTo half kind root key tells nodes xs s
    → Fits half kind s.above (path_at key s) s.hash n → ends_at key s.depth n ≡ Some (outcome_by (n ∷ []) o)
    → follow half kind root key (xs ++ n ∷ []) ≡ Some (outcome_by (xs ++ n ∷ []) o)
read_ends half kind root key tells nodes xs n s o nonzero so fits ends =
    from_root half kind root key (xs ++ n ∷ []) nonzero
    ∙ says_end half kind key (start root) s xs n (outcome_by (n ∷ []) o) so.leads fits ends ∙ ap Some (sym (outcome_push xs n o))

pub all_stored : (half : Half) (kind : Kind) (root key : Hash) (tells : Bool) (nodes : Lookup) (xs : List Held) (n : Held) (s : Waypoint)
    → LeadsTo half kind root key tells nodes xs s
    → Fits half kind s.above (path_at key s) s.hash n → (IsTrue tells → Holds half (nodes s.hash) n)
    → AreHeld half tells nodes (xs ++ n ∷ [])
all_stored half kind root key tells nodes xs n s so fits held =
    λ told. all_push _ xs n (so.stored told) (record { stored = ap nodes fits.hash ∙ (held told).0; held = (held told).1 })

-- the same, for shared nodes in a vector
pub goes_further : (half : Half) (kind : Kind) (root key : Hash) (tells : Bool) (nodes now : Lookup) (used more : List (Arc Node Global))
    (node : Arc Node Global) (seen : Node) (s : Waypoint) (depth : ℕ) (h : Hash)
    → (IsTrue tells → now ≡ nodes) → LeadsTo half kind root key tells nodes (held_nodes used) s
    → Fits half kind s.above (path_at key s) s.hash (held node.value) → (IsTrue tells → Holds half (now s.hash) (held node.value))
    → seen ≡ node.value → more ≡ used ++ node ∷ []
    → GoesOn key s (held seen) (waypoint depth (inner_hashes (held seen)) h)
    → LeadsTo half kind root key tells nodes (held_nodes more) (waypoint depth (last_branches (held_nodes more)) h)
goes_further half kind root key tells nodes now used more node seen s depth h same so fits held_there is pushed on =
    let n : Held = held node.value in
    subst (λ l. LeadsTo half kind root key tells nodes l (waypoint depth (last_branches l) h))
    (sym (ap held_nodes pushed ∙ map_push (λ (a : Arc Node Global). held a.value) used node))
    (subst (λ b. LeadsTo half kind root key tells nodes (held_nodes used ++ n ∷ []) (waypoint depth b h))
    (sym (last_branches_push (held_nodes used) n))
    (leads_on half kind root key tells nodes (held_nodes used) n s (waypoint depth (inner_hashes n) h) so fits
    (λ told. (sym (ap (λ (f : Lookup). f s.hash) (same told)) ∙ (held_there told).0, (held_there told).1))
    (subst (λ m. GoesOn key s (held m) (waypoint depth (inner_hashes (held m)) h)) is on)))

pub comes_to_end : (half : Half) (kind : Kind) (root key : Hash) (tells : Bool) (nodes : Lookup) (used more : List (Arc Node Global))
    (node : Arc Node Global) (seen : Node) (s : Waypoint) (o : Outcome)
    → is_zero root ≡ false → LeadsTo half kind root key tells nodes (held_nodes used) s
    → Fits half kind s.above (path_at key s) s.hash (held node.value) → seen ≡ node.value → more ≡ used ++ node ∷ []
    → ends_at key s.depth (held seen) ≡ Some (outcome_by (held seen ∷ []) o)
    → follow half kind root key (held_nodes more) ≡ Some (outcome_by (held_nodes more) o)
comes_to_end half kind root key tells nodes used more node seen s o nonzero so fits is pushed ends =
    subst (λ l. follow half kind root key l ≡ Some (outcome_by l o))
    (sym (ap held_nodes pushed ∙ map_push (λ (a : Arc Node Global). held a.value) used node))
    (read_ends half kind root key tells nodes (held_nodes used) (held node.value) s o nonzero so fits
    (subst (λ m. ends_at key s.depth (held m) ≡ Some (outcome_by (held m ∷ []) o)) is ends))

-- with a node more all nodes are still held
pub stored_more : (half : Half) (kind : Kind) (root key : Hash) (tells : Bool) (nodes : Lookup) (used more : List (Arc Node Global))
    (node : Arc Node Global) (s : Waypoint) → LeadsTo half kind root key tells nodes (held_nodes used) s
    → Fits half kind s.above (path_at key s) s.hash (held node.value) → (IsTrue tells → Holds half (nodes s.hash) (held node.value))
    → more ≡ used ++ node ∷ [] → AreHeld half tells nodes (held_nodes more)
stored_more half kind root key tells nodes used more node s so fits held_there pushed =
    subst (AreHeld half tells nodes) (sym (ap held_nodes pushed ∙ map_push (λ (a : Arc Node Global). held a.value) used node))
    (all_stored half kind root key tells nodes (held_nodes used) (held node.value) s so fits held_there)

-- a read that ended with no answer has the cause
ended_by : (half : Half) (kind : Kind) (root key : Hash) (tells : Bool) (nodes : Lookup)
    (r : Result Progress ReadFault) (why : ReadFault)
    → IsErrAnd r (λ e. e ≡ why) → HasCause half kind root key tells nodes why → Comes half kind root key tells nodes r
ended_by half kind root key tells nodes (Ok p) why is cause = absurd is
ended_by half kind root key tells nodes (Err e) why is cause = subst (HasCause half kind root key tells nodes) (sym is) cause

-- the same, where the place above is known by another name
pub ended_above : (half : Half) (kind : Kind) (root key : Hash) (tells : Bool) (nodes : Lookup)
    (r : Result Progress ReadFault) (why : ReadFault)
    → IsErrAnd r (λ e. e ≡ why) → (used : List Held) (depth : ℕ) (over above : Option (List Hash)) (h : Hash) → over ≡ above
    → LeadsTo half kind root key tells nodes used (waypoint depth above h)
    → Ends half kind tells nodes over (path_at key (waypoint depth above h)) h why → Comes half kind root key tells nodes r
ended_above half kind root key tells nodes r why is used depth over above h same leads ends =
    ended_by half kind root key tells nodes r why is (record {
      used = used;
      place = waypoint depth above h;
      leads = leads;
      ends = subst (λ (b : Option (List Hash)). Ends half kind tells nodes b (path_at key (waypoint depth above h)) h why) same ends;
    })
