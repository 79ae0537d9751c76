-- Lists whose elements are told of place by place.
use Rattle.std.specs.Prelude.{◌≡◌, ℕ, zero, suc, ◌+◌, ◌<◌, List, [], ◌∷◌, ◌++◌, map, take, drop, length, Vec, Option, None, Some, Result}
use Rattle.std.specs.Prelude.{Ok, IfOk, IsTrue, refl}
use Rattle.std.proofs.Common.{sym, ap, ◌∙◌, subst, arith, get_or, append_assoc, append-nil}
use Rattle.std.specs.List.{flat_map, range_with_len, slice_get, AllByRecursion}
use Rattle.std.specs.declared.alloc.Global.{Global}
use Rattle.std.proofs.lemmas.List.{length-map, map-append, take-append-drop}
use Rattle.nib_path.specs.Paths.{lies_under, nibble_of}
use Rattle.ledger_spec.specs.declared.Kind.{Kind}
use Rattle.ledger_spec.specs.Maps.{hash_cmp, IsMap}
use Rattle.ledger_spec.specs.Tree.{Entry}
use Rattle.shamap_node.specs.declared.parts.Item.{Item}
use Rattle.cow_map.specs.Gathered.{entries_of, nothing_held, ArePartsOf}
use Rattle.cow_map.proofs.shared.Gathered.{entries_append}
use Rattle.cow_map.proofs.shared.Keys.{under_branch}
use Rattle.std.proofs.Math.ListN.{get_or-map}
use Rattle.ledger_spec.specs.Bytes.{Half, Items, Lookup, branches}
use Rattle.cow_map.specs.Bodies.{CowTree}
use Rattle.cow_map.specs.Trees.{StandsFor}
use Rattle.cow_build.specs.Building.{EachStands, IsCut}

-- each map stands for what is told of it
pub each_stands : {P : Type 0} (maps : List CowTree) (parts : List P) (items : P → Items) → length maps ≡ length parts
    → ((i : ℕ) (m : CowTree) (p : P) → i < length parts → (half : Half) (stored : Lookup)
    → StandsFor half stored (get_or maps i m) (items (get_or parts i p)))
    → EachStands maps (map items parts)
each_stands [] [] items long each = tt
each_stands [] (p ∷ parts) items long each = absurd (omega arith)
each_stands (m ∷ maps) [] items long each = absurd (omega arith)
each_stands (m ∷ maps) (p ∷ parts) items long each =
    (each 0 m p (omega arith), each_stands maps parts items (omega arith) (λ i x y lt. each (suc i) x y (omega arith)))

-- what holds at each place holds of all
pub all_at_places : {M : Type 0} (P : M → Type 0) (maps : List M) → ((i : ℕ) (m : M) → i < length maps → P (get_or maps i m))
    → AllByRecursion P maps
all_at_places P [] each = tt
all_at_places P (m ∷ maps) each = (each 0 m (omega arith), all_at_places P maps (λ i x lt. each (suc i) x (omega arith)))

-- a result that is there
abbrev wrap : {M : Type 0} (E : Type 0) → M → Result M E
wrap E m = Ok m

-- what is told of a result that is there
pub told_at : {M E : Type 0} (P : M → Type 0) (built : List (Result M E)) (maps : List M) (i : ℕ) (m : M) → built ≡ map Ok maps
    → IfOk (get_or built i (Ok m)) P → P (get_or maps i m)
told_at {M} {E} P built maps i m e h =
    let at : get_or built i (Ok m) ≡ Ok (get_or maps i m) = ap (λ (x : List (Result M E)). get_or x i (Ok m)) e
    ∙ get_or-map (λ (x : M). wrap E x) maps i m in
    subst (λ (r : Result M E). IfOk r P) at h

pub same_length : {M E : Type 0} (built : List (Result M E)) (maps : List M) → built ≡ map Ok maps → length built ≡ length maps
same_length {M} {E} built maps e = ap length e ∙ length-map maps (λ (x : M). wrap E x)

all_front : {X : Type 0} (P : X → Type 0) (xs ys : List X) → AllByRecursion P (xs ++ ys) → AllByRecursion P xs
all_front P [] ys h = tt
all_front P (x ∷ xs) ys h = (h.0, all_front P xs ys h.1)

all_back : {X : Type 0} (P : X → Type 0) (xs ys : List X) → AllByRecursion P (xs ++ ys) → AllByRecursion P ys
all_back P [] ys h = h
all_back P (x ∷ xs) ys h = all_back P xs ys h.1

all_joined : {X : Type 0} (P : X → Type 0) (xs ys : List X) → AllByRecursion P xs → AllByRecursion P ys → AllByRecursion P (xs ++ ys)
all_joined P [] ys a b = b
all_joined P (x ∷ xs) ys a b = (a.0, all_joined P xs ys a.1 b)

-- what holds of all holds at each place
all_places : {X : Type 0} (P : X → Type 0) (xs : List X) → AllByRecursion P xs → (i : ℕ) (d : X) → i < length xs → P (get_or xs i d)
all_places P [] h i d lt = absurd (omega arith)
all_places P (x ∷ xs) h zero d lt = h.0
all_places P (x ∷ xs) h (suc i) d lt = all_places P xs h.1 i d (omega arith)

-- a list's items are a map
abbrev Rises : Vec Item Global → Type 0
Rises part = IsMap hash_cmp (entries_of part.items)

abbrev entries_in : Vec Item Global → Items
entries_in part = entries_of part.items

-- the lists at the front are built
pub record Builds (kind : Kind) (parts : List (Vec Item Global)) (maps : List CowTree) (rest : List (Vec Item Global)) : Type 0 where
  pub front : List (Vec Item Global)
  pub whole : front ++ rest ≡ parts
  pub stands : EachStands maps (map (λ part. entries_of part.items) front)
  pub kinds : AllByRecursion (λ m. m.kind ≡ kind) maps
  pub rising : AllByRecursion (λ part. IsMap hash_cmp (entries_of part.items)) rest

pub builds_start : (kind : Kind) (parts : List (Vec Item Global)) → AllByRecursion (λ part. IsMap hash_cmp (entries_of part.items)) parts
    → Builds kind parts [] parts
builds_start kind parts rising = record {
  front = [];
  whole = refl;
  stands = tt;
  kinds = tt;
  rising = rising;
}

-- the next n of them may be built
pub next_rise : (n : ℕ) (rest now : List (Vec Item Global)) → AllByRecursion (λ part. IsMap hash_cmp (entries_of part.items)) rest
    → now ≡ take n rest
    → (i : ℕ) (d : Vec Item Global) → i < length now → IsMap hash_cmp (entries_of (get_or now i d).items)
next_rise n rest now rising is =
    all_places Rises now
    (subst (AllByRecursion Rises) (sym is)
    (all_front Rises (take n rest) (drop n rest) (subst (AllByRecursion Rises) (sym (take-append-drop n rest)) rising)))

stands_joined : (ms ns : List CowTree) (ps qs : List Items) → EachStands ms ps → EachStands ns qs → EachStands (ms ++ ns) (ps ++ qs)
stands_joined [] ns [] qs a b = b
stands_joined [] ns (p ∷ ps) qs a b = absurd a
stands_joined (m ∷ ms) ns [] qs a b = absurd a
stands_joined (m ∷ ms) ns (p ∷ ps) qs a b = (a.0, stands_joined ms ns ps qs a.1 b)

pub builds_more : (kind : Kind) (parts rest now behind : List (Vec Item Global)) (maps built more : List CowTree) (n : ℕ)
    → now ≡ take n rest → behind ≡ drop n rest → AllByRecursion (λ m. m.kind ≡ kind) built
    → EachStands built (map (λ part. entries_of part.items) now) → more ≡ maps ++ built → Builds kind parts maps rest
    → Builds kind parts more behind
builds_more kind parts rest now behind maps built more n now_is behind_is kinds stands are builds =
    let both : now ++ behind ≡ rest = (λ i. now_is i ++ behind_is i) ∙ take-append-drop n rest in
    record {
      front = builds.front ++ now;
      whole = append_assoc builds.front now behind ∙ ap (λ xs. builds.front ++ xs) both ∙ builds.whole;
      stands = subst (λ ms. EachStands ms (map entries_in (builds.front ++ now))) (sym are)
          (subst (EachStands (maps ++ built)) (sym (map-append entries_in builds.front now))
          (stands_joined maps built (map entries_in builds.front) (map entries_in now) builds.stands stands));
      kinds = subst (AllByRecursion (λ m. m.kind ≡ kind)) (sym are) (all_joined (λ m. m.kind ≡ kind) maps built builds.kinds kinds);
      rising = subst (AllByRecursion Rises) (sym behind_is)
          (all_back Rises (take n rest) (drop n rest) (subst (AllByRecursion Rises) (sym (take-append-drop n rest)) builds.rising));
    }

pub builds_done : (kind : Kind) (parts : List (Vec Item Global)) (maps : List CowTree) (rest : List (Vec Item Global)) → length rest ≡ 0
    → Builds kind parts maps rest → EachStands maps (map (λ part. entries_of part.items) parts)
builds_done kind parts maps [] none_left builds =
    subst (λ ps. EachStands maps (map entries_in ps)) (sym (append-nil builds.front) ∙ builds.whole) builds.stands
builds_done kind parts maps (p ∷ rest) none_left builds = absurd (omega arith)

each_long : (maps : List CowTree) (ps : List Items) → EachStands maps ps → length maps ≡ length ps
each_long [] [] h = refl
each_long [] (p ∷ ps) h = absurd h
each_long (m ∷ maps) [] h = absurd h
each_long (m ∷ maps) (p ∷ ps) h = ap suc (each_long maps ps h.1)

-- as many maps as lists
pub maps_long : (maps : List CowTree) (parts : List (Vec Item Global)) → EachStands maps (map (λ part. entries_of part.items) parts)
    → length maps ≡ length parts
maps_long maps parts h = each_long maps (map entries_in parts) h ∙ length-map parts entries_in

-- the entries of the list at a place
abbrev entries_at : Option (Vec Item Global) → Items
entries_at None = []
entries_at (Some part) = entries_of part.items

-- the items of each first nibble
abbrev pub kids_of : List (Vec Item Global) → ℕ → Items
kids_of parts b = entries_at (slice_get parts b)

kind_at : (kind : Kind) (maps : List CowTree) → AllByRecursion (λ m. m.kind ≡ kind) maps → (b : ℕ) (m : CowTree)
    → slice_get maps b ≡ Some m → m.kind ≡ kind
kind_at kind [] h b m at = cc
kind_at kind (n ∷ maps) h zero m at = let same : n ≡ m = cc in ap (λ (x : CowTree). x.kind) (sym same) ∙ h.0
kind_at kind (n ∷ maps) h (suc b) m at = kind_at kind maps h.1 b m at

stands_told : (maps : List CowTree) (parts : List (Vec Item Global)) → EachStands maps (map (λ part. entries_of part.items) parts)
    → (b : ℕ) (m : CowTree) → slice_get maps b ≡ Some m
    → (half : Half) (stored : Lookup) → StandsFor half stored m (kids_of parts b)
stands_told [] parts h b m at half stored = cc
stands_told (n ∷ maps) [] h b m at half stored = absurd h
stands_told (n ∷ maps) (p ∷ parts) h zero m at half stored = let same : n ≡ m = cc in
    subst (λ (x : CowTree). StandsFor half stored x (entries_of p.items)) same (h.0 half stored)
stands_told (n ∷ maps) (p ∷ parts) h (suc b) m at half stored = stands_told maps parts h.1 b m at half stored

under_first : (b : ℕ) (items : List Item) → AllByRecursion (λ (x : Item). nibble_of x.key 0 ≡ b) items
    → AllByRecursion (λ (e : Entry). IsTrue (lies_under (b ∷ []) e.0)) (entries_of items)
under_first b [] h = tt
under_first b (x ∷ items) h = (under_branch [] x.key b 0 x.valid.key_size refl (omega arith) refl (sym h.0), under_first b items h.1)

-- the maps are those of sixteen parts
pub are_parts : (kind : Kind) (items : List Item) (parts : List (Vec Item Global)) (maps : List CowTree) → IsCut items parts
    → AllByRecursion (λ m. m.kind ≡ kind) maps
    → EachStands maps (map (λ part. entries_of part.items) parts) → ArePartsOf kind maps (kids_of parts)
are_parts kind items parts maps cut kinds stands = record {
  kinds = kind_at kind maps kinds;
  each = λ b m at half. stands_told maps parts stands b m at half nothing_held;
  first = λ b low. by b (slice_get parts b) refl;
}
  where
    by : (b : ℕ) (o : Option (Vec Item Global)) → slice_get parts b ≡ o
        → AllByRecursion (λ (e : Entry). IsTrue (lies_under (b ∷ []) e.0)) (entries_at o)
    by b None at = tt
    by b (Some part) at = under_first b part.items (cut.first b part at)

-- the lists from the a-th on, one behind the other
flat_from : (parts : List (Vec Item Global)) (a : ℕ) (kids : ℕ → Items) → ((i : ℕ) → kids (a + i) ≡ kids_of parts i)
    → flat_map kids (range_with_len a (length parts)) ≡ entries_of (flat_map (λ part. part.items) parts)
flat_from [] a kids at = refl
flat_from (p ∷ parts) a kids at =
    let start : a + 0 ≡ a = omega arith in
    let head : kids a ≡ entries_of p.items = ap kids (sym start) ∙ at 0 in
    let rest = flat_from parts (a + 1) kids (λ i. let next : a + 1 + i ≡ a + suc i = omega arith in ap kids next ∙ at (suc i)) in
    (λ i. head i ++ rest i) ∙ sym (entries_append p.items (flat_map (λ part. part.items) parts))

-- the items of all first nibbles are all items
pub kids_whole : (items : List Item) (parts : List (Vec Item Global)) → length parts ≡ 16 → IsCut items parts
    → flat_map (kids_of parts) branches ≡ entries_of items
kids_whole items parts sixteen cut =
    ap (λ n. flat_map (kids_of parts) (range_with_len 0 n)) (sym sixteen)
    ∙ flat_from parts 0 (kids_of parts) (λ i. let start : 0 + i ≡ i = omega arith in ap (kids_of parts) start) ∙ ap entries_of cut.whole
