-- Nodes that stand behind those of another list, and the parts of a map.
use Rattle.std.proofs.Common.{◌≡◌, ◌≢◌, ◌⊎◌, inl, inr, ℕ, zero, suc, ◌+◌, ◌-◌, ◌<◌, ◌≤◌, ◌==◌, Bool, true, false, not, if◌then◌else◌}
use Rattle.std.proofs.Common.{Option, None, Some, nat_eq}
use Rattle.std.proofs.Common.{List, [], ◌∷◌, ◌++◌, length, take, map, refl, sym, ap, ◌∙◌, subst, arith, IsTrue, slice_index_or}
use Rattle.std.proofs.Common.{append_assoc}
use Rattle.std.specs.Prelude.{slice_set}
use Rattle.std.specs.List.{slice_get, flat_map, range_with_len, starts_with, AllByRecursion}
use Rattle.std.specs.Option.{option_map}
use Rattle.std.proofs.lemmas.Bool.{and_parts, cases_eq, eqb-true}
use Rattle.std.proofs.lemmas.List.{get_or-set_same, get_or-set_other, length-map, map-append}
use Rattle.std.proofs.lemmas.Option.{slice_get_cases}
use Rattle.nib_path.specs.Paths.{nibbles, lies_under}
use Rattle.half_hash.specs.Half.{sha512_half}
use Rattle.ledger_spec.specs.declared.Kind.{Kind}
use Rattle.ledger_spec.specs.declared.ShapeFault.TheVariants.{LeafElsewhere, InnerAtBottom, LeafAtRoot}
use Rattle.ledger_spec.specs.Bytes.{Half, branches}
use Rattle.ledger_spec.specs.Tree.{Entry}
use Rattle.cow_map.specs.declared.link.Link.{Link}
use Rattle.cow_map.specs.declared.link.Link.TheVariants.{Empty, Unloaded, Own}
use Rattle.cow_map.specs.Bodies.{Body, leaf, inner, CowTree, IsBelow, IsBody, AreBodies}
use Rattle.cow_map.specs.Trees.{Found, none, one, fork, lacks, breaks, found_at, found_body, Forks, Holds, StandsAt}
use Rattle.cow_map.specs.Gathered.{nothing_held, moved_link, moved_body, branch_in, branch_at, ArePartsOf}
use Rattle.cow_map.proofs.Branches.{AllUnder, flat_split}
use Rattle.cow_map.proofs.Settling.{only_kid}
use Rattle.cow_map.proofs.shared.Planting.{empty_stands}
use Rattle.cow_map.proofs.shared.Standing.{Below, stands_into, stands_under, stands_grows}
use Rattle.cow_map.proofs.Standing.{stands_from}

-- the element at a place
pub get_told : {A : Type 0} (xs : List A) (i : ℕ) (x : A) → i < length xs → x ≡ slice_index_or xs i x → slice_get xs i ≡ Some x
get_told [] i x low e = absurd (omega arith)
get_told (y ∷ xs) zero x low e = ap Some (sym e)
get_told (y ∷ xs) (suc i) x low e = get_told xs i x (omega arith) e

-- a link moves with the list that it names a node of
pub below_moves : (m n k : ℕ) (link : Link) → IsBelow m link → m + n ≤ k → IsBelow k (moved_link n link)
below_moves m n k Empty low most = tt
below_moves m n k (Unloaded h) low most = tt
below_moves m n k (Own i) low most = omega arith

pub moved_at : (n : ℕ) (links : List Link) (b : ℕ)
    → slice_index_or (map (moved_link n) links) b Empty ≡ moved_link n (slice_index_or links b Empty)
moved_at n [] b = refl
moved_at n (l ∷ links) zero = refl
moved_at n (l ∷ links) (suc b) = moved_at n links b

-- the links of a node that moves name nodes below it
pub links_move : (n i k : ℕ) (links : List Link) → IsBody i (inner links) → i + n ≤ k → (b : ℕ)
    → IsBelow k (slice_index_or (map (moved_link n) links) b Empty)
links_move n i k links body most b =
    subst (IsBelow k) (sym (moved_at n links b)) (below_moves i n k (slice_index_or links b Empty) (body.1 b) most)

get_behind : {A : Type 0} (xs ys : List A) (i : ℕ) → slice_get (xs ++ ys) (i + length xs) ≡ slice_get ys i
get_behind [] ys i = let none_before : i + 0 ≡ i = omega arith in ap (slice_get ys) none_before
get_behind (x ∷ xs) ys i = let one_more : i + suc (length xs) ≡ suc (i + length xs) = omega arith in
    ap (slice_get (x ∷ xs ++ ys)) one_more ∙ get_behind xs ys i

get_mapped : {A B : Type 0} (f : A → B) (xs : List A) (i : ℕ) → slice_get (map f xs) i ≡ option_map f (slice_get xs i)
get_mapped f [] i = refl
get_mapped f (x ∷ xs) zero = refl
get_mapped f (x ∷ xs) (suc i) = get_mapped f xs i

take_more : {A : Type 0} (xs : List A) (i : ℕ) (x : A) → slice_get xs i ≡ Some x → take (i + 1) xs ≡ take i xs ++ x ∷ []
take_more [] i x e = cc
take_more (y ∷ xs) zero x e = let same : y ≡ x = cc in ap (λ z. z ∷ []) same
take_more (y ∷ xs) (suc i) x e = let one_more : suc i + 1 ≡ suc (i + 1) = omega arith in ap (λ m. take m (y ∷ xs)) one_more
    ∙ ap (λ zs. y ∷ zs) (take_more xs i x e)

-- one node more of the list that moves
pub append_more : (front now new other : List Body) (i n : ℕ) → now ≡ front ++ map (moved_body (length front)) (take i other)
    → n ≡ length front
    → ((body : Body) → slice_get other i ≡ Some body → new ≡ now ++ moved_body n body ∷ []) → i < length other
    → new ≡ front ++ map (moved_body (length front)) (take (i + 1) other)
append_more front now new other i n so_far at_n more low = elim ((slice_get_cases other i).1) [
  | inl at ↦ by at.0 at.2
  | inr past ↦ absurd (omega (arith, past.0))
]
  where
    by : (body : Body) → slice_get other i ≡ Some body → new ≡ front ++ map (moved_body (length front)) (take (i + 1) other)
    by body at =
        more body at ∙ ap (λ m. now ++ moved_body m body ∷ []) at_n ∙ ap (λ ns. ns ++ moved_body (length front) body ∷ []) so_far
        ∙ append_assoc front (map (moved_body (length front)) (take i other)) (moved_body (length front) body ∷ [])
        ∙ ap (λ ns. front ++ ns) (sym (map-append (moved_body (length front)) (take i other) (body ∷ [])))
        ∙ ap (λ ns. front ++ map (moved_body (length front)) ns) (sym (take_more other i body at))

-- what is found there
abbrev moved_found : ℕ → Found → Found
moved_found n none = none
moved_found n (one key bytes) = one key bytes
moved_found n (fork links) = fork (map (moved_link n) links)
moved_found n (lacks h) = lacks h
moved_found n (breaks fault) = breaks fault

moved_if : (n : ℕ) (t : Bool) (f g : Found) → (if t then moved_found n f else moved_found n g) ≡ moved_found n (if t then f else g)
moved_if n true f g = refl
moved_if n false f g = refl

body_moves : (n : ℕ) (path : List ℕ) (o : Option Body) → found_body path (option_map (moved_body n) o) ≡ moved_found n (found_body path o)
body_moves n path None = refl
body_moves n path (Some (leaf key bytes)) =
    ap (λ f. if length path == 0 then breaks LeafAtRoot else f)
    (moved_if n (not (lies_under path key)) (breaks (LeafElsewhere key)) (one key bytes))
    ∙ moved_if n (length path == 0) (breaks LeafAtRoot) (if not (lies_under path key) then breaks (LeafElsewhere key) else one key bytes)
body_moves n path (Some (inner links)) = moved_if n (length path == 64) (breaks InnerAtBottom) (fork links)

holds_moved : (n : ℕ) (below over : ℕ → Link → List Entry → Type 0) (path : List ℕ) (found : Found) (items : List Entry)
    → ((b : ℕ) (l : Link) (es : List Entry) → below b l es → over b (moved_link n l) es) → Holds below path found items
    → Holds over path (moved_found n found) items
holds_moved n below over path none items f h = h
holds_moved n below over path (one key bytes) items f h = h
holds_moved n below over path (fork links) items f h = record {
  width = length-map links (moved_link n) ∙ h.width;
  kids = h.kids;
  joined = h.joined;
  each = λ b low. subst (λ l. over b l (h.kids b)) (sym (moved_at n links b))
      (f b (slice_index_or links b Empty) (h.kids b) (h.each b low));
  enough = h.enough;
}
holds_moved n below over path (lacks g) items f h = h
holds_moved n below over path (breaks fault) items f h = h

module _ (half : Half) (kind : Kind) (front nodes : List Body) where
  abbrev after : List Body
  after = front ++ map (moved_body (length front)) nodes

  found_moves : (path : List ℕ) (link : Link)
      → found_at half nothing_held kind after path (moved_link (length front) link) ≡ moved_found (length front)
      (found_at half nothing_held kind nodes path link)
  found_moves path Empty = refl
  found_moves path (Unloaded h) = refl
  found_moves path (Own i) =
      ap (found_body path) (get_behind front (map (moved_body (length front)) nodes) i ∙ get_mapped (moved_body (length front)) nodes i)
      ∙ body_moves (length front) path (slice_get nodes i)

  -- behind the other list a link stands for the same
  pub stands_moves : (left : ℕ) (path : List ℕ) (link : Link) (items : List Entry)
      → StandsAt half nothing_held kind nodes left path link items
      → StandsAt half nothing_held kind after left path (moved_link (length front) link) items
  stands_moves zero path link items stands =
      stands_from half nothing_held kind after zero path (moved_link (length front) link) items _ (found_moves path link)
      (holds_moved (length front) (Below half nothing_held kind nodes zero path) (Below half nothing_held kind after zero path) path
      (found_at half nothing_held kind nodes path link) items (λ b l es h. h)
      (stands_into half nothing_held kind nodes zero path link items (found_at half nothing_held kind nodes path link) refl stands))
  stands_moves (suc left) path link items stands =
      stands_from half nothing_held kind after (suc left) path (moved_link (length front) link) items _ (found_moves path link)
      (holds_moved (length front) (Below half nothing_held kind nodes (suc left) path)
      (Below half nothing_held kind after (suc left) path) path (found_at half nothing_held kind nodes path link) items
      (λ b l es h. stands_moves left (path ++ b ∷ []) l es h)
      (stands_into half nothing_held kind nodes (suc left) path link items (found_at half nothing_held kind nodes path link) refl stands))

-- the parts of a list of which all is told
all_front : {X : Type 0} (P : X → Type 0) (xs ys : List X) → AllByRecursion P (xs ++ ys) → AllByRecursion P xs
all_front P [] ys h = tt
all_front P (x ∷ xs) ys h = (h.0, all_front P xs ys h.1)

all_back : {X : Type 0} (P : X → Type 0) (xs ys : List X) → AllByRecursion P (xs ++ ys) → AllByRecursion P ys
all_back P [] ys h = h
all_back P (x ∷ xs) ys h = all_back P xs ys h.1

-- a key has one first nibble
first_one : (ns : List ℕ) (b c : ℕ) → starts_with nat_eq ns (b ∷ []) ≡ true → starts_with nat_eq ns (c ∷ []) ≡ true → b ≡ c
first_one [] b c h k = cc
first_one (n ∷ ns) b c h k =
    let at_b : b ≡ n = eqb-true b n (and_parts (nat_eq b n) (starts_with nat_eq ns []) h).0 in
    let at_c : c ≡ n = eqb-true c n (and_parts (nat_eq c n) (starts_with nat_eq ns []) k).0 in
    at_b ∙ sym at_c

none_under : (b c : ℕ) → c ≢ b → (es : List Entry) → AllUnder (b ∷ []) es → AllUnder (c ∷ []) es → es ≡ []
none_under b c apart [] h k = refl
none_under b c apart (e ∷ es) h k = absurd (apart (first_one (nibbles e.0) c b k.0 h.0))

module _ (kids : ℕ → List Entry) (items : List Entry) (b : ℕ) (joined : items ≡ flat_map kids branches) (under : AllUnder (b ∷ []) items)
  where
    kid_under : (c : ℕ) → c < 16 → AllUnder (b ∷ []) (kids c)
    kid_under c low =
        let whole = subst (AllUnder (b ∷ [])) (joined ∙ flat_split kids c low) under in
        all_back (λ (e : Entry). IsTrue (lies_under (b ∷ []) e.0)) (flat_map kids (range_with_len 0 c)) (kids c)
        (all_front (λ (e : Entry). IsTrue (lies_under (b ∷ []) e.0)) (flat_map kids (range_with_len 0 c) ++ kids c)
        (flat_map kids (range_with_len (c + 1) (15 - c))) whole)

    -- where all keys have one first nibble, one branch has all
    only_branch_holds : b < 16 → ((c : ℕ) → c < 16 → AllUnder (c ∷ []) (kids c)) → items ≡ kids b
    only_branch_holds low each = joined
        ∙ only_kid kids b low (λ c in_16 apart. none_under b c apart (kids c) (kid_under c in_16) (each c in_16))

module _ (half : Half) (kind : Kind) (nodes : List Body) (left : ℕ) (items : List Entry) (b : ℕ) (low : b < 16)
    (under : AllUnder (b ∷ []) items) where
  abbrev Branch : Link → Type 0
  Branch link = StandsAt half nothing_held kind nodes left (b ∷ []) link items

  nothing_there : items ≡ [] → Branch Empty
  nothing_there none_of =
      subst (λ es. StandsAt half nothing_held kind nodes left (b ∷ []) Empty es) (sym none_of)
      (empty_stands half nothing_held kind nodes left (b ∷ []))

  own_branch : (i : ℕ) (o : Option Body) → slice_get nodes i ≡ o → StandsAt half nothing_held kind nodes (suc left) [] (Own i) items
      → Branch (branch_in b o)
  own_branch i None at stands =
      nothing_there (stands_into half nothing_held kind nodes (suc left) [] (Own i) items none (ap (found_body []) at) stands)
  own_branch i (Some (leaf key bytes)) at stands =
      absurd (stands_into half nothing_held kind nodes (suc left) [] (Own i) items (breaks LeafAtRoot) (ap (found_body []) at) stands)
  own_branch i (Some (inner links)) at stands =
      let forks : Forks (Below half nothing_held kind nodes (suc left) []) [] links items =
      stands_into half nothing_held kind nodes (suc left) [] (Own i) items (fork links) (ap (found_body []) at) stands in
      let all : items ≡ forks.kids b = only_branch_holds forks.kids items b forks.joined under low
      (λ c in_16. stands_under half nothing_held kind nodes left (c ∷ []) (slice_index_or links c Empty) (forks.kids c)
      (forks.each c in_16)) in
      subst (λ es. StandsAt half nothing_held kind nodes left (b ∷ []) (slice_index_or links b Empty) es) (sym all) (forks.each b low)

  -- what a map of keys with one first nibble stands for, its top's branch of that nibble does
  pub top_branch_stands : (top : Link) → StandsAt half nothing_held kind nodes (suc left) [] top items → Branch (branch_at b nodes top)
  top_branch_stands Empty stands = nothing_there (stands_into half nothing_held kind nodes (suc left) [] Empty items none refl stands)
  top_branch_stands (Unloaded h) stands =
      absurd (stands_into half nothing_held kind nodes (suc left) [] (Unloaded h) items (lacks h) refl stands)
  top_branch_stands (Own i) stands = own_branch i (slice_get nodes i) refl stands

-- what the first n parts stand for, the links of their branches do in the list that was made of them
abbrev pub AreGathered : Kind → List CowTree → List Body → List Link → ℕ → Type 0
AreGathered kind parts nodes links n =
    (kids : ℕ → List Entry) → ArePartsOf kind parts kids → (c : ℕ) → c < n
    → StandsAt sha512_half nothing_held kind nodes 63 (c ∷ []) (slice_index_or links c Empty) (kids c)

-- with one part more
pub gathered_more : (kind : Kind) (parts : List CowTree) (before after : List Body) (links changed : List Link) (b : ℕ) (link : Link)
    (m : CowTree) → slice_get parts b ≡ Some m → b < 16 → length links ≡ 16
    → AreBodies before → ((c : ℕ) → IsBelow (length before) (slice_index_or links c Empty))
    → after ≡ before ++ map (moved_body (length before)) m.nodes
    → link ≡ moved_link (length before) (branch_at b m.nodes m.top) → changed ≡ slice_set links b link
    → AreGathered kind parts before links b → AreGathered kind parts after changed (b + 1)
gathered_more kind parts before after links changed b link m at low width bodies below grown link_is are gathered kids parted c in_n =
    by (cases_eq c b)
  where
    within : b < length links
    within = omega (arith, width)

    whole : StandsAt sha512_half nothing_held kind m.nodes 64 [] m.top (kids b)
    whole = subst (λ k. StandsAt sha512_half nothing_held k m.nodes 64 [] m.top (kids b)) (parted.kinds b m at)
        (parted.each b m at sha512_half)

    here : StandsAt sha512_half nothing_held kind after 63 (b ∷ []) link (kids b)
    here =
        let branch = top_branch_stands sha512_half kind m.nodes 63 (kids b) b low (parted.first b low) m.top whole in
        subst (λ ns. StandsAt sha512_half nothing_held kind ns 63 (b ∷ []) link (kids b)) (sym grown)
        (subst (λ l. StandsAt sha512_half nothing_held kind (before ++ map (moved_body (length before)) m.nodes) 63 (b ∷ []) l (kids b))
        (sym link_is)
        (stands_moves sha512_half kind before m.nodes 63 (b ∷ []) (branch_at b m.nodes m.top) (kids b) branch))

    there : c ≢ b → StandsAt sha512_half nothing_held kind after 63 (c ∷ []) (slice_index_or links c Empty) (kids c)
    there apart =
        subst (λ ns. StandsAt sha512_half nothing_held kind ns 63 (c ∷ []) (slice_index_or links c Empty) (kids c)) (sym grown)
        (stands_grows sha512_half nothing_held kind before (map (moved_body (length before)) m.nodes) bodies 63 (c ∷ [])
        (slice_index_or links c Empty) (kids c) (below c) (gathered kids parted c (omega (arith, apart))))

    by : (c ≡ b) ⊎ (c ≢ b) → StandsAt sha512_half nothing_held kind after 63 (c ∷ []) (slice_index_or changed c Empty) (kids c)
    by (inl same) =
        let at_b : slice_index_or changed b Empty ≡ link = ap (λ ls. slice_index_or ls b Empty) are
        ∙ get_or-set_same links b link Empty within in
        subst (λ d. StandsAt sha512_half nothing_held kind after 63 (d ∷ []) (slice_index_or changed d Empty) (kids d)) (sym same)
        (subst (λ l. StandsAt sha512_half nothing_held kind after 63 (b ∷ []) l (kids b)) (sym at_b) here)
    by (inr apart) =
        let at_c : slice_index_or changed c Empty ≡ slice_index_or links c Empty = ap (λ ls. slice_index_or ls c Empty) are
        ∙ get_or-set_other links b c link Empty apart in
        subst (λ l. StandsAt sha512_half nothing_held kind after 63 (c ∷ []) l (kids c)) (sym at_c) (there apart)
