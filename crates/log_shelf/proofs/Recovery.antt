-- What is found of a hash in logs that are read one after another.
use Rattle.std.proofs.Common.{◌≡◌, ◌⊎◌, inl, inr, ◌∙◌, sym, ap, refl, subst, ℕ, ◌≤◌, List, [], ◌∷◌, ◌++◌, take, drop, arith, Bool, true}
use Rattle.std.proofs.Common.{false, cond, ◌||◌, ◌==◌, IsTrue, Option, Some, None}
use Rattle.std.specs.List.{filter}
use Rattle.std.specs.Option.{option_map_or}
use Rattle.std.specs.Ordering.{nat_cmp, eq_by_cmp}
use Rattle.std.specs.Cmp.Lexicographic.{slice_cmp, nat_list_cmp_total}
use Rattle.std.specs.FinMap as map
use Rattle.std.specs.FinMap.{get-insert, get-empty}
use Rattle.std.proofs.lemmas.List.{take-append-drop}
use Rattle.std.proofs.lemmas.Bool.{eqb-true, eq-eqb, cases_Bool}
use Rattle.ledger_spec.specs.Bytes.{Bytes, Hash, Nodes}
use Rattle.node_backend.specs.Numbers.{is_among}
use Rattle.node_backend.specs.Doubts.{Pair}
use Rattle.log_shelf.specs.Entries.{entries_of}
use Rattle.log_shelf.specs.Backends.{nodes_after, nodes_of, with_pair, HoldsOrDoubts}
use Rattle.log_shelf.specs.Rooms.{Files, file_in}
use Rattle.log_shelf.specs.Recovery.{entries_at, live_in, Rises, recovered_after, IsRecovered, IsStopped, IsKept}
use Rattle.log_shelf.proofs.shared.Recovery.{same_key}

-- the first where there is one, else the second
either : Option Bytes → Option Bytes → Option Bytes
either (Some v) other = Some v
either None other = other

-- the value of the last entry that has the hash
unfoldable last_of : List (List ℕ) → Hash → Option Bytes
last_of [] h = None
last_of (e ∷ es) h = either (last_of es h) (cond (eq_by_cmp (slice_cmp nat_cmp) h (take 32 e)) (Some (drop 32 e)) None)

choose : (a : Option Bytes) (b : Bool) (v : Bytes) (o : Option Bytes)
    → either a (cond b (Some v) o) ≡ either (either a (cond b (Some v) None)) o
unfolding either
choose (Some w) b v o = refl
choose None true v o = refl
choose None false v o = refl

-- what is held of a hash after entries is the last one's value, or what was held before
get-after : (held : Nodes) (es : List (List ℕ)) (h : Hash) → map.get (nodes_after held es) h ≡ either (last_of es h) (map.get held h)
unfolding last_of either
get-after held [] h = refl
get-after held (e ∷ es) h =
    get-after (map.insert held (take 32 e) (drop 32 e)) es h
    ∙ (ap (either (last_of es h)) (get-insert nat_list_cmp_total held (take 32 e) (drop 32 e) h)
    ∙ choose (last_of es h) (eq_by_cmp (slice_cmp nat_cmp) h (take 32 e)) (drop 32 e) (map.get held h))

either-none : (a : Option Bytes) → either a None ≡ a
unfolding either
either-none (Some v) = refl
either-none None = refl

last-of-nodes : (es : List (List ℕ)) (h : Hash) → map.get (nodes_of es) h ≡ last_of es h
last-of-nodes es h = get-after map.empty es h ∙ (ap (either (last_of es h)) (get-empty {X = Bytes} (slice_cmp nat_cmp) h)
    ∙ either-none (last_of es h))

none_is_some : (v : Bytes) → None ≡ Some v → ⊥
none_is_some v e = cc

none_split : (a t : Option Bytes) → either a t ≡ None → (a ≡ None) × (t ≡ None)
unfolding either
none_split (Some w) t e = absurd (cc)
none_split None t e = (refl, e)

some_split : (a t : Option Bytes) (v : Bytes) → either a t ≡ Some v → (a ≡ Some v) ⊎ ((a ≡ None) × (t ≡ Some v))
unfolding either
some_split (Some w) t v e = inl e
some_split None t v e = inr (refl, e)

-- what one entry says of a hash
abbrev said : List ℕ → Hash → Option Bytes
said e h = cond (eq_by_cmp (slice_cmp nat_cmp) h (take 32 e)) (Some (drop 32 e)) None

said_split : (b : Bool) (w v : Bytes) → cond b (Some w) None ≡ Some v → (b ≡ true) × (w ≡ v)
said_split true w v e = (refl, cc)
said_split false w v e = absurd (cc)

at_filter : (b : Bool) (e : List ℕ) (es : List (List ℕ)) (h : Hash)
    → last_of (cond b (e ∷ es) es) h ≡ cond b (either (last_of es h) (said e h)) (last_of es h)
unfolding last_of
at_filter true e es h = refl
at_filter false e es h = refl

both_none : (b : Bool) (a t : Option Bytes) → a ≡ None → t ≡ None → cond b (either a t) a ≡ None
unfolding either
both_none true a t p q = rw (p, q) refl
both_none false a t p q = p

first_some : (b : Bool) (a t : Option Bytes) (v : Bytes) → a ≡ Some v → cond b (either a t) a ≡ Some v
unfolding either
first_some true a t v p = rw p refl
first_some false a t v p = p

second_some : (b : Bool) (a t : Option Bytes) (v : Bytes) → b ≡ true → a ≡ None → t ≡ Some v → cond b (either a t) a ≡ Some v
unfolding either
second_some b a t v e p q = rw (e, p, q) refl

-- where no entry has the hash, none of those that are left has
filtered-none : (p : List ℕ → Bool) (es : List (List ℕ)) (h : Hash) → last_of es h ≡ None → last_of (filter p es) h ≡ None
unfolding last_of
filtered-none p [] h e = refl
filtered-none p (x ∷ es) h e =
    let parts = none_split (last_of es h) (said x h) e in
    at_filter (p x) x (filter p es) h ∙ both_none (p x) (last_of (filter p es) h) (said x h) (filtered-none p es h parts.0) parts.1

filtered-last : (p : List ℕ → Bool) (x : List ℕ) (es : List (List ℕ)) (h : Hash) (v : Bytes) → p (h ++ v) ≡ true
    → (last_of es h ≡ Some v → last_of (filter p es) h ≡ Some v) → (last_of es h ≡ Some v) ⊎ ((last_of es h ≡ None) × (said x h ≡ Some v))
    → cond (p x) (either (last_of (filter p es) h) (said x h)) (last_of (filter p es) h) ≡ Some v
filtered-last p x es h v r rest (inl old) = first_some (p x) (last_of (filter p es) h) (said x h) v (rest old)
filtered-last p x es h v r rest (inr new) =
    let told = said_split (eq_by_cmp (slice_cmp nat_cmp) h (take 32 x)) (drop 32 x) v new.1 in
    let whole : x ≡ h ++ v = sym (take-append-drop 32 x) ∙ (ap (λ (y : List ℕ). y ++ drop 32 x) (sym (same_key h (take 32 x) told.0))
    ∙ ap (λ (y : List ℕ). h ++ y) told.1) in
    second_some (p x) (last_of (filter p es) h) (said x h) v (ap p whole ∙ r) (filtered-none p es h new.0) new.1

-- where the last one is among those that are left, it is the last of them
filtered-some : (p : List ℕ → Bool) (es : List (List ℕ)) (h : Hash) (v : Bytes) → last_of es h ≡ Some v → p (h ++ v) ≡ true
    → last_of (filter p es) h ≡ Some v
unfolding last_of
filtered-some p [] h v e r = absurd (none_is_some v e)
filtered-some p (x ∷ es) h v e r =
    at_filter (p x) x (filter p es) h
    ∙ filtered-last p x es h v r (λ old. filtered-some p es h v old r) (some_split (last_of es h) (said x h) v e)

-- the log says nothing of the hash, or that it has the value
abbrev Agrees : Files → Hash → Bytes → ℕ → Type 0
Agrees files h v k = (last_of (entries_at files k) h ≡ None) ⊎ (last_of (entries_at files k) h ≡ Some v)

-- one log more
step_some : (p : List ℕ → Bool) (files : Files) (h : Hash) (v : Bytes) (k : ℕ) (m : Nodes) → last_of (entries_at files k) h ≡ Some v
    → p (h ++ v) ≡ true
    → map.get (nodes_after m (filter p (entries_at files k))) h ≡ Some v
unfolding either
step_some p files h v k m e r =
    get-after m (filter p (entries_at files k)) h ∙ ap (λ (a : Option Bytes). either a (map.get m h)) (filtered-some p (entries_at files
    k) h v e r)

step_keeps : (p : List ℕ → Bool) (files : Files) (h : Hash) (v : Bytes) (k : ℕ) (m : Nodes) → Agrees files h v k → p (h ++ v) ≡ true
    → map.get m h ≡ Some v
    → map.get (nodes_after m (filter p (entries_at files k))) h ≡ Some v
unfolding either
step_keeps p files h v k m (inl none) r held =
    get-after m (filter p (entries_at files k)) h ∙ (ap (λ (a : Option Bytes). either a (map.get m h)) (filtered-none p (entries_at
    files k) h none) ∙ held)
step_keeps p files h v k m (inr some) r held = step_some p files h v k m some r

or_left : (a b : Bool) → a ≡ true → (a || b) ≡ true
or_left a b e = rw e refl

or_right : (a b : Bool) → b ≡ true → (a || b) ≡ true
or_right true b e = refl
or_right false b e = e

-- a value that was found stays, where no later log says another one
keeps : (p : List ℕ → Bool) (files : Files) (h : Hash) (v : Bytes) (numbers : List ℕ) (m : Nodes) → ((k : ℕ)
    → IsTrue (is_among numbers k) → Agrees files h v k) → p (h ++ v) ≡ true
    → map.get m h ≡ Some v → map.get (recovered_after p m files numbers) h ≡ Some v
keeps p files h v [] m agrees r held = held
keeps p files h v (n ∷ numbers) m agrees r held =
    keeps p files h v numbers (nodes_after m (filter p (entries_at files n))) (λ k among. agrees k (or_right (n == k) (is_among numbers
    k) among)) r
    (step_keeps p files h v n m (agrees n (or_left (n == n) (is_among numbers n) (eq-eqb n n refl))) r held)

-- numbers that rise are above the first
above_first : (low k : ℕ) (numbers : List ℕ) → Rises low numbers → IsTrue (is_among numbers k) → low ≤ k
above_first low k [] rises among = absurd (cc)
above_first low k (n ∷ numbers) rises among =
    elim (n == k) as (λ b. (n == k) ≡ b → (b || is_among numbers k) ≡ true → low ≤ k) [
      | true ↦ λ e _. let same = eqb-true n k e in omega (arith, rises.0)
      | false ↦ λ _ r. let more = above_first n k numbers rises.1 r in omega (arith, rises.0)
    ] refl among

-- the value of a log is found
reaches : (p : List ℕ → Bool) (files : Files) (h : Hash) (v : Bytes) (n low : ℕ) (numbers : List ℕ) (m : Nodes) → Rises low numbers
    → IsTrue (is_among numbers n)
    → last_of (entries_at files n) h ≡ Some v → ((k : ℕ) → n ≤ k → IsTrue (is_among numbers k) → Agrees files h v k) → p (h ++ v) ≡ true
    → map.get (recovered_after p m files numbers) h ≡ Some v
reaches p files h v n low [] m rises among some agrees r = absurd (cc)
reaches p files h v n low (x ∷ numbers) m rises among some agrees r =
    elim (x == n) as (λ b. (x == n) ≡ b → (b || is_among numbers n) ≡ true
    → map.get (recovered_after p (nodes_after m (filter p (entries_at files x))) files numbers) h ≡ Some v) [
      | true ↦ λ e _. let same = eqb-true x n e in
          keeps p files h v numbers (nodes_after m (filter p (entries_at files x)))
          (λ k more. let above = above_first x k numbers rises.1 more in agrees k (omega arith) (or_right (x == k) (is_among numbers k)
          more)) r
          (step_some p files h v x m (subst (λ (y : ℕ). last_of (entries_at files y) h ≡ Some v) (sym same) some) r)
      | false ↦ λ _ more. reaches p files h v n x numbers (nodes_after m (filter p (entries_at files x))) rises.1 more some
          (λ k le there. agrees k le (or_right (x == k) (is_among numbers k) there)) r
    ] refl among

-- what a live log says of a hash that another one holds
held_agrees : (o : Option Bytes) (v : Bytes) → ((w : Bytes) → o ≡ Some w → v ≡ w) → (o ≡ None) ⊎ (o ≡ Some v)
held_agrees None v same = inl refl
held_agrees (Some w) v same = inr (ap (λ (x : Bytes). Some x) (sym (same w refl)))

pair_agrees : (b : Bool) (o : Option Bytes) (v w : Bytes) → (b ≡ true → v ≡ w) → (o ≡ None) ⊎ (o ≡ Some v)
    → (cond b (Some w) o ≡ None) ⊎ (cond b (Some w) o ≡ Some v)
pair_agrees true o v w same old = inr (ap (λ (x : Bytes). Some x) (sym (same refl)))
pair_agrees false o v w same old = old

doubt_agrees : (held : Nodes) (doubt : Option Pair) (h : Hash) (v : Bytes) → (map.get held h ≡ None) ⊎ (map.get held h ≡ Some v)
    → ((pair : Pair) → doubt ≡ Some pair → h ≡ pair.0 → v ≡ pair.1)
    → (map.get (with_pair held doubt) h ≡ None) ⊎ (map.get (with_pair held doubt) h ≡ Some v)
doubt_agrees held None h v old allows = old
doubt_agrees held (Some pair) h v old allows =
    subst (λ (o : Option Bytes). (o ≡ None) ⊎ (o ≡ Some v)) (sym (get-insert nat_list_cmp_total held pair.0 pair.1 h))
    (pair_agrees (eq_by_cmp (slice_cmp nat_cmp) h pair.0) (map.get held h) v pair.1 (λ e. allows pair refl (same_key h pair.0 e)) old)

image_agrees : (held : Nodes) (doubt : Option Pair) (file : List ℕ) (h : Hash) (v : Bytes) → HoldsOrDoubts file held doubt
    → (map.get held h ≡ None) ⊎ (map.get held h ≡ Some v)
    → ((pair : Pair) → doubt ≡ Some pair → h ≡ pair.0 → v ≡ pair.1)
    → (last_of (entries_of file) h ≡ None) ⊎ (last_of (entries_of file) h ≡ Some v)
image_agrees held doubt file h v (inl same) old allows =
    subst (λ (o : Option Bytes). (o ≡ None) ⊎ (o ≡ Some v)) (ap (λ (m : Nodes). map.get m h) (sym same)
    ∙ last-of-nodes (entries_of file) h) old
image_agrees held doubt file h v (inr more) old allows =
    subst (λ (o : Option Bytes). (o ≡ None) ⊎ (o ≡ Some v)) (ap (λ (m : Nodes). map.get m h) (sym more)
    ∙ last-of-nodes (entries_of file) h) (doubt_agrees held doubt h v old allows)

pair_says : (b : Bool) (o : Option Bytes) (v w : Bytes) → (b ≡ true → v ≡ w) → o ≡ Some v → cond b (Some w) o ≡ Some v
pair_says true o v w same old = ap (λ (x : Bytes). Some x) (sym (same refl))
pair_says false o v w same old = old

-- a log that holds a pair says so, whether its pair in doubt counts or not
doubt_says : (held : Nodes) (doubt : Option Pair) (h : Hash) (v : Bytes) → map.get held h ≡ Some v → ((pair : Pair)
    → doubt ≡ Some pair → h ≡ pair.0 → v ≡ pair.1)
    → map.get (with_pair held doubt) h ≡ Some v
doubt_says held None h v old allows = old
doubt_says held (Some pair) h v old allows =
    get-insert nat_list_cmp_total held pair.0 pair.1 h
    ∙ pair_says (eq_by_cmp (slice_cmp nat_cmp) h pair.0) (map.get held h) v pair.1 (λ e. allows pair refl (same_key h pair.0 e)) old

image_says : (held : Nodes) (doubt : Option Pair) (file : List ℕ) (h : Hash) (v : Bytes) → HoldsOrDoubts file held doubt
    → map.get held h ≡ Some v
    → ((pair : Pair) → doubt ≡ Some pair → h ≡ pair.0 → v ≡ pair.1) → last_of (entries_of file) h ≡ Some v
image_says held doubt file h v (inl same) old allows = sym (ap (λ (m : Nodes). map.get m h) (sym same)
    ∙ last-of-nodes (entries_of file) h) ∙ old
image_says held doubt file h v (inr more) old allows = sym (ap (λ (m : Nodes). map.get m h) (sym more)
    ∙ last-of-nodes (entries_of file) h) ∙ doubt_says held doubt h v old allows

pub at_file : (files : Files) (k : ℕ) (found : Option (List ℕ)) → file_in files k ≡ found
    → entries_at files k ≡ option_map_or entries_of found []
at_file files k found e = ap (λ (o : Option (List ℕ)). option_map_or entries_of o []) e

nothing_said : (files : Files) (h : Hash) (v : Bytes) (k : ℕ) → entries_at files k ≡ [] → Agrees files h v k
unfolding last_of
nothing_said files h v k none = inl (ap (λ (es : List (List ℕ)). last_of es h) none)

-- every log from that of the pair on agrees with it
later_agrees : (live undone : List ℕ) (held : ℕ → Nodes) (doubt : ℕ → Option Pair) (files : Files) (n k : ℕ) (h : Hash) (v : Bytes)
    → IsStopped live undone held doubt files → IsKept live undone held doubt → IsTrue (is_among live n) → map.get (held n) h ≡ Some v
    → n ≤ k → IsTrue (is_among (live_in files) k)
    → (is_among live k ≡ true) ⊎ (is_among live k ≡ false) → (is_among undone k ≡ true) ⊎ (is_among undone k ≡ false) → Agrees files h v k
later_agrees live undone held doubt files n k h v stopped kept is_live has le named (inl on) u =
    let log = stopped.logs k on in
    subst (λ (es : List (List ℕ)). (last_of es h ≡ None) ⊎ (last_of es h ≡ Some v)) (sym (at_file files k (Some log.0) log.1))
    (image_agrees (held k) (doubt k) log.0 h v log.2
    (held_agrees (map.get (held k) h) v (λ w is. kept.agree n k h v w is_live on has is))
    (λ pair is same. kept.allows k n pair v on is_live le is (subst (λ (x : Hash). map.get (held n) x ≡ Some v) same has)))
later_agrees live undone held doubt files n k h v stopped kept is_live has le named (inr off) (inl aside) =
    let below = kept.undone_below k n aside is_live in absurd (omega arith)
later_agrees live undone held doubt files n k h v stopped kept is_live has le named (inr off) (inr free) =
    let low = stopped.numbered n is_live in
    nothing_said files h v k (stopped.others k (omega arith) named off free)

-- over any files that a stop left, each pair of a live backend that is a record is recovered
pub pairs_recovered : (live undone : List ℕ) (held : ℕ → Nodes) (doubt : ℕ → Option Pair) (files : Files) (p : List ℕ
    → Bool) (found : Nodes)
    → IsStopped live undone held doubt files → IsKept live undone held doubt → IsRecovered p files found
    → (n : ℕ) (h : Hash) (v : Bytes) → IsTrue (is_among live n) → map.get (held n) h ≡ Some v → p (h ++ v) ≡ true
    → map.get found h ≡ Some v
pairs_recovered live undone held doubt files p found stopped kept recovered n h v is_live has r =
    let log = stopped.logs n is_live in
    let says : last_of (entries_at files n) h ≡ Some v =
    ap (λ (es : List (List ℕ)). last_of es h) (at_file files n (Some log.0) log.1)
    ∙ image_says (held n) (doubt n) log.0 h v log.2 has
    (λ pair is same. kept.allows n n pair v is_live is_live (omega arith) is (subst (λ (x : Hash). map.get (held n) x ≡ Some v) same
    has)) in
    ap (λ (m : Nodes). map.get m h) recovered.nodes
    ∙ reaches p files h v n 0 recovered.numbers map.empty recovered.rises (recovered.live n ∙ stopped.manifest n is_live) says
    (λ k le among. later_agrees live undone held doubt files n k h v stopped kept is_live has le (sym (recovered.live k) ∙ among)
    (cases_Bool (is_among live k)) (cases_Bool (is_among undone k))) r
