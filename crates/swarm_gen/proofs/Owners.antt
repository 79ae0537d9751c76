-- The items that no later item has the key of: what they are in each ledger.
use Rattle.std.specs.Prelude.{◌≡◌, ℕ, zero, suc, ◌+◌, ◌-◌, ◌%◌, ◌≤◌, ◌==◌, Bool, true, false, if◌then◌else◌, List, [], ◌∷◌, ◌++◌}
use Rattle.std.specs.Prelude.{map, not, refl}
use Rattle.std.proofs.Common.{sym, ap, ◌∙◌, subst, arith, append_assoc, append-nil}
use Rattle.std.specs.List.{AllByRecursion, range_with_len}
use Rattle.std.specs.List.Sorted.{IsStrictlySortedBy}
use Rattle.std.specs.Ordering.{match_ordering, ordering_reverse}
use Rattle.std.specs.declared.cmp.Ordering.{Ordering}
use Rattle.std.specs.declared.cmp.Ordering.TheVariants.{Less, Equal, Greater}
use Rattle.std.specs.Map.{keys_of}
use Rattle.std.proofs.lemmas.Cmp.{nat_list_cmp_total}
use Rattle.std.proofs.lemmas.List.{map-append}
use Rattle.ledger_spec.specs.Bytes.{Bytes, Hash, Half, Items, is_zero, is_nonzero}
use Rattle.ledger_spec.specs.Maps.{hash_cmp, insert_in, IsMap}
use Rattle.swarm_gen.specs.declared.plan.Plan.{Plan}
use Rattle.swarm_gen.specs.Ledgers.{key, eight, map_from, owners_of, set_by, state_of}

-- an entry with another value
abbrev pub on : {X : Type 0} → (ℕ → X) → Hash × ℕ → Hash × X
on f e = (e.0, f e.1)

-- the data of an item in ledger j
abbrev pub data_in : ℕ → ℕ → Bytes
data_in j i = eight (set_by i j)

insert_step : {X : Type 0} (f : ℕ → X) (k : Hash) (v : ℕ) (e : Hash × ℕ) (m m2 : List (Hash × ℕ)) (m3 : List (Hash × X)) (o : Ordering)
    → m3 ≡ map (on f) m2
    → match_ordering o ((k, f v) ∷ on f e ∷ map (on f) m) ((e.0, f v) ∷ map (on f) m) (on f e ∷ m3)
    ≡ map (on f) (match_ordering o ((k, v) ∷ e ∷ m) ((e.0, v) ∷ m) (e ∷ m2))
insert_step f k v e m m2 m3 Less h = refl
insert_step f k v e m m2 m3 Equal h = refl
insert_step {X} f k v e m m2 m3 Greater h = ap (λ (x : List (Hash × X)). on f e ∷ x) h

-- other values, and an entry more
inserted : {X : Type 0} (f : ℕ → X) (m : List (Hash × ℕ)) (k : Hash) (v : ℕ)
    → insert_in hash_cmp (map (on f) m) k (f v) ≡ map (on f) (insert_in hash_cmp m k v)
inserted f [] k v = refl
inserted f (e ∷ m) k v = insert_step f k v e m (insert_in hash_cmp m k v) (insert_in hash_cmp (map (on f) m) k (f v)) (hash_cmp k e.0)
    (inserted f m k v)

from_step : {X : Type 0} (f : ℕ → X) (m : List (Hash × ℕ)) (e : Hash × ℕ) (b : Bool)
    → (if b then map (on f) m else insert_in hash_cmp (map (on f) m) e.0 (f e.1))
    ≡ map (on f) (if b then m else insert_in hash_cmp m e.0 e.1)
from_step f m e true = refl
from_step f m e false = inserted f m e.0 e.1

from_mapped : {X : Type 0} (f : ℕ → X) (m es : List (Hash × ℕ)) → map_from (map (on f) m) (map (on f) es) ≡ map (on f) (map_from m es)
from_mapped f m [] = refl
from_mapped {X} f m (e ∷ es) =
    ap (λ (x : List (Hash × X)). map_from x (map (on f) es)) (from_step f m e (is_zero e.0))
    ∙ from_mapped f (if is_zero e.0 then m else insert_in hash_cmp m e.0 e.1) es

mapped_pairs : {X : Type 0} (half : Half) (plan : Plan) (f : ℕ → X) (is : List ℕ)
    → map (λ i. (key half plan i, f i)) is ≡ map (on f) (map (λ i. (key half plan i, i)) is)
mapped_pairs half plan f [] = refl
mapped_pairs {X} half plan f (i ∷ is) = ap (λ (x : List (Hash × X)). (key half plan i, f i) ∷ x) (mapped_pairs half plan f is)

-- the account state of a ledger, by the owners
pub state_is : (half : Half) (plan : Plan) (j : ℕ) → state_of half plan j ≡ map (on (data_in j)) (owners_of half plan)
state_is half plan j =
    ap (map_from []) (mapped_pairs half plan (data_in j) (range_with_len 1 plan.items))
    ∙ from_mapped (data_in j) [] (map (λ i. (key half plan i, i)) (range_with_len 1 plan.items))

-- the key stands above those of all these entries
abbrev pub Above : {X : Type 0} → Hash → List (Hash × X) → Type 0
Above k es = AllByRecursion (λ e. hash_cmp k e.0 ≡ Greater) es

above_mapped : {X : Type 0} (f : ℕ → X) (k : Hash) (es : List (Hash × ℕ)) → Above k es → Above k (map (on f) es)
above_mapped f k [] h = h
above_mapped f k (e ∷ es) h = (h.0, above_mapped f k es h.1)

self_step : (o : Ordering) → o ≡ ordering_reverse o → o ≡ Equal
self_step Less e = absurd cc
self_step Equal e = refl
self_step Greater e = absurd cc

equal_self : (k : Hash) → hash_cmp k k ≡ Equal
equal_self k = self_step (hash_cmp k k) (nat_list_cmp_total.antisymm k k)

-- an entry is set at its place, or behind all others
pub put_at : {X : Type 0} (xs : List (Hash × X)) (k : Hash) (old new : X) (ys : List (Hash × X)) → Above k xs
    → insert_in hash_cmp (xs ++ (k, old) ∷ ys) k new ≡ xs ++ (k, new) ∷ ys
put_at [] k old new ys h = rw (equal_self k) refl
put_at {X} (x ∷ xs) k old new ys h = rw h.0 (ap (λ (z : List (Hash × X)). x ∷ z) (put_at xs k old new ys h.1))

pub put_last : {X : Type 0} (xs : List (Hash × X)) (k : Hash) (v : X) → Above k xs → insert_in hash_cmp xs k v ≡ xs ++ (k, v) ∷ []
put_last [] k v h = refl
put_last {X} (x ∷ xs) k v h = rw h.0 (ap (λ (z : List (Hash × X)). x ∷ z) (put_last xs k v h.1))

at_key : (P : Hash → Type 0) (ys : List (Hash × ℕ)) (e : Hash × ℕ) (rest : List (Hash × ℕ)) → AllByRecursion P (keys_of (ys ++ e ∷ rest))
    → P e.0
at_key P [] e rest h = h.0
at_key P (y ∷ ys) e rest h = at_key P ys e rest h.1

-- in order, a key stands above those before it
pub above_before : (ys : List (Hash × ℕ)) (e : Hash × ℕ) (rest : List (Hash × ℕ)) → IsMap hash_cmp (ys ++ e ∷ rest) → Above e.0 ys
unfolding IsStrictlySortedBy
above_before [] e rest s = tt
above_before (y ∷ ys) e rest s = (
  nat_list_cmp_total.antisymm e.0 y.0 ∙ ap ordering_reverse (at_key (λ q. hash_cmp y.0 q ≡ Less) ys e rest s.0),
  above_before ys e
      rest s.1,
)

-- keys that aren't zero
abbrev pub AreKeys : List (Hash × ℕ) → Type 0
AreKeys es = AllByRecursion (λ e. is_zero e.0 ≡ false) es

keys_step : (k : Hash) (v : ℕ) (e : Hash × ℕ) (m m2 : List (Hash × ℕ)) (o : Ordering) → is_zero k ≡ false → is_zero e.0 ≡ false
    → AreKeys m → AreKeys m2
    → AreKeys (match_ordering o ((k, v) ∷ e ∷ m) ((e.0, v) ∷ m) (e ∷ m2))
keys_step k v e m m2 Less z y a b = (z, (y, a))
keys_step k v e m m2 Equal z y a b = (y, a)
keys_step k v e m m2 Greater z y a b = (y, b)

keys_insert : (m : List (Hash × ℕ)) (k : Hash) (v : ℕ) → is_zero k ≡ false → AreKeys m → AreKeys (insert_in hash_cmp m k v)
keys_insert [] k v z a = (z, tt)
keys_insert (e ∷ m) k v z a = keys_step k v e m (insert_in hash_cmp m k v) (hash_cmp k e.0) z a.0 a.1 (keys_insert m k v z a.1)

keys_from_step : (m : List (Hash × ℕ)) (e : Hash × ℕ) (b : Bool) → is_zero e.0 ≡ b → AreKeys m
    → AreKeys (if b then m else insert_in hash_cmp m e.0 e.1)
keys_from_step m e true z a = a
keys_from_step m e false z a = keys_insert m e.0 e.1 z a

keys_from : (m es : List (Hash × ℕ)) → AreKeys m → AreKeys (map_from m es)
keys_from m [] a = a
keys_from m (e ∷ es) a = keys_from (if is_zero e.0 then m else insert_in hash_cmp m e.0 e.1) es (keys_from_step m e (is_zero e.0) refl a)

pub owners_nonzero : (half : Half) (plan : Plan) → AreKeys (owners_of half plan)
owners_nonzero half plan = keys_from [] (map (λ i. (key half plan i, i)) (range_with_len 1 plan.items)) tt

nonzero_at : (ys : List (Hash × ℕ)) (e : Hash × ℕ) (rest : List (Hash × ℕ)) → AreKeys (ys ++ e ∷ rest) → is_zero e.0 ≡ false
nonzero_at [] e rest a = a.0
nonzero_at (y ∷ ys) e rest a = nonzero_at ys e rest a.1

-- the first ledger: one owner more
pub first_step : (half : Half) (plan : Plan) (ys rest : List (Hash × ℕ)) (k : Hash) (i : ℕ) (m next : Items)
    → owners_of half plan ≡ ys ++ (k, i) ∷ rest → m ≡ map (on (data_in 1)) ys
    → next ≡ m ++ (if is_nonzero k then (k, eight 1) ∷ [] else []) → next ≡ map (on (data_in 1)) (ys ++ (k, i) ∷ [])
first_step half plan ys rest k i m next split e is =
    let z : is_zero k ≡ false = nonzero_at ys (k, i) rest (subst (λ (x : List (Hash × ℕ)). AreKeys x) split (owners_nonzero half plan)) in
    is ∙ ap (λ b. m ++ (if not b then (k, eight 1) ∷ [] else [])) z ∙ ap (λ (x : Items). x ++ (k, eight 1) ∷ []) e
    ∙ sym (map-append (on (data_in 1)) ys ((k, i) ∷ []))

keys_mapped : {X : Type 0} (f : ℕ → X) (es : List (Hash × ℕ)) → keys_of (map (on f) es) ≡ keys_of es
keys_mapped f [] = refl
keys_mapped f (e ∷ es) = ap (λ ks. e.0 ∷ ks) (keys_mapped f es)

-- other values leave the keys in their order
pub sorted_mapped : {X : Type 0} (f : ℕ → X) (es : List (Hash × ℕ)) → IsMap hash_cmp es → IsMap hash_cmp (map (on f) es)
sorted_mapped f es s = subst (λ ks. IsStrictlySortedBy hash_cmp ks) (sym (keys_mapped f es)) s

-- what an item's data are, where the ledger changes it and where it doesn't
data_due : (i seq : ℕ) → 2 ≤ seq → ((i + seq) % 97 == 0) ≡ true → data_in seq i ≡ eight seq
data_due i zero low due = absurd (omega arith)
data_due i (suc zero) low due = absurd (omega arith)
data_due i (suc (suc j)) low due = ap (λ b. eight (if b then suc (suc j) else set_by i (suc j))) due

data_kept : (i seq : ℕ) → 2 ≤ seq → ((i + seq) % 97 == 0) ≡ false → data_in seq i ≡ data_in (seq - 1) i
data_kept i zero low due = absurd (omega arith)
data_kept i (suc zero) low due = absurd (omega arith)
data_kept i (suc (suc j)) low due =
    let n : suc (suc j) - 1 ≡ suc j = omega arith in
    ap (λ b. eight (if b then suc (suc j) else set_by i (suc j))) due ∙ sym (ap (λ m. data_in m i) n)

due_step : (seq : ℕ) (ys rest : List (Hash × ℕ)) (k : Hash) (i : ℕ) (b : Bool) → 2 ≤ seq → ((i + seq) % 97 == 0) ≡ b → Above k ys
    → (if b then insert_in hash_cmp (map (on (data_in seq)) ys ++ (k, data_in (seq - 1) i) ∷ map (on (data_in (seq - 1))) rest) k
    (eight seq)
    else map (on (data_in seq)) ys ++ (k, data_in (seq - 1) i) ∷ map (on (data_in (seq - 1))) rest)
    ≡ map (on (data_in seq)) ys ++ (k, data_in seq i) ∷ map (on (data_in (seq - 1))) rest
due_step seq ys rest k i true low due above =
    put_at (map (on (data_in seq)) ys) k (data_in (seq - 1) i) (eight seq) (map (on (data_in (seq - 1))) rest)
    (above_mapped (data_in seq) k ys above)
    ∙ ap (λ (x : Bytes). map (on (data_in seq)) ys ++ (k, x) ∷ map (on (data_in (seq - 1))) rest) (sym (data_due i seq low due))
due_step seq ys rest k i false low due above = ap (λ (x : Bytes). map (on (data_in seq)) ys
    ++ (k, x) ∷ map (on (data_in (seq - 1))) rest) (sym (data_kept i seq low due))

-- a later ledger: one owner more
pub advance_step : (half : Half) (plan : Plan) (seq : ℕ) (ys rest : List (Hash × ℕ)) (k : Hash) (i : ℕ) (m next : Items) → 2 ≤ seq
    → owners_of half plan ≡ ys ++ (k, i) ∷ rest
    → IsMap hash_cmp (owners_of half plan) → m ≡ map (on (data_in seq)) ys ++ map (on (data_in (seq - 1))) ((k, i) ∷ rest)
    → next ≡ (if (i + seq) % 97 == 0 then (if is_zero k then m else insert_in hash_cmp m k (eight seq)) else m)
    → next ≡ map (on (data_in seq)) (ys ++ (k, i) ∷ []) ++ map (on (data_in (seq - 1))) rest
advance_step half plan seq ys rest k i m next low split s e is =
    let z : is_zero k ≡ false = nonzero_at ys (k, i) rest (subst (λ (x : List (Hash × ℕ)). AreKeys x) split (owners_nonzero half plan)) in
    let above : Above k ys = above_before ys (k, i) rest (subst (λ (x : List (Hash × ℕ)). IsMap hash_cmp x) split s) in
    is ∙ ap (λ b. if (i + seq) % 97 == 0 then (if b then m else insert_in hash_cmp m k (eight seq)) else m) z
    ∙ ap (λ (x : Items). if (i + seq) % 97 == 0 then insert_in hash_cmp x k (eight seq) else x) e
    ∙ due_step seq ys rest k i ((i + seq) % 97 == 0) low refl above
    ∙ sym (append_assoc (map (on (data_in seq)) ys) ((k, data_in seq i) ∷ []) (map (on (data_in (seq - 1))) rest))
    ∙ ap (λ (x : Items). x ++ map (on (data_in (seq - 1))) rest) (sym (map-append (on (data_in seq)) ys ((k, i) ∷ [])))

-- what was yielded, and what is left, after one entry more
pub split_more : (all ys left rest : List (Hash × ℕ)) (e : Hash × ℕ) → ys ++ left ≡ all → left ≡ e ∷ rest → all ≡ ys ++ e ∷ rest
split_more all ys left rest e h k = sym h ∙ ap (λ (x : List (Hash × ℕ)). ys ++ x) k

pub split_on : (all ys rest : List (Hash × ℕ)) (e : Hash × ℕ) → all ≡ ys ++ e ∷ rest → (ys ++ e ∷ []) ++ rest ≡ all
split_on all ys rest e h = append_assoc ys (e ∷ []) rest ∙ sym h

pub split_end : (all ys left : List (Hash × ℕ)) → ys ++ left ≡ all → left ≡ [] → ys ≡ all
split_end all ys left h e = sym (append-nil ys) ∙ ap (λ (x : List (Hash × ℕ)). ys ++ x) (sym e) ∙ h
