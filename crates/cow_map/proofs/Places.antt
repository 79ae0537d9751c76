-- The list of the links that places say.
use Rattle.std.proofs.Common.{◌≡◌, ◌≢◌, ◌⊎◌, inl, inr, ◌-◌, ℕ, zero, suc, ◌+◌, ◌<◌, ◌==◌, Bool, true, false, not, cond, List, [], ◌∷◌, length, replicate, refl, sym, ap, ◌∙◌}
use Rattle.std.proofs.Common.{arith, if◌then◌else◌, slice_index_or, count_by, map}
use Rattle.std.specs.Prelude.{slice_set}
use Rattle.std.proofs.lemmas.List.Recursion.{is_count_by}
use Rattle.std.proofs.Math.ListN.{length-set}
use Rattle.std.proofs.lemmas.Bool.{cases_eq}
use Rattle.std.proofs.lemmas.Bool.Decides.{nat_tests}
use Rattle.std.proofs.lemmas.Grind.{get_or-set_at}
use Rattle.std.proofs.lemmas.List.{get_or-set_other}
use Rattle.half_hash.specs.Zero.{zero_hash}
use Rattle.ledger_spec.specs.Bytes.{Hash}
use Rattle.cow_map.specs.declared.link.Link.{Link}
use Rattle.cow_map.specs.declared.link.Link.TheVariants.{Empty, Unloaded, Own}
use Rattle.cow_map.specs.Places.{place_link, links_from, links_of}
use Rattle.cow_map.specs.Trees.{link_to}
use Rattle.cow_map.specs.Ways.{is_link}

pub length_from : (table : List Hash) (b : ℕ) (places : List ℕ) → length (links_from table b places) ≡ length places
unfolding links_from
length_from table b [] = refl
length_from table b (p ∷ ps) = ap suc (length_from table (suc b) ps)

shift : (b c : ℕ) → suc b + c ≡ b + suc c
shift b c = omega arith

pub get_from : (table : List Hash) (b : ℕ) (places : List ℕ) (c : ℕ) → c < length places
    → slice_index_or (links_from table b places) c Empty ≡ place_link (slice_index_or places c 0) (slice_index_or table (b + c) zero_hash)
unfolding links_from
get_from table b [] c low = absurd (omega arith)
get_from table b (p ∷ ps) zero low = ap (λ n. place_link p (slice_index_or table n zero_hash)) (plain b)
  where
    plain : (b : ℕ) → b ≡ b + 0
    plain b = omega arith
get_from table b (p ∷ ps) (suc c) low =
    get_from table (suc b) ps c (omega arith)
    ∙ ap (λ n. place_link (slice_index_or ps c 0) (slice_index_or table n zero_hash)) (shift b c)

pub set_from : (table : List Hash) (b : ℕ) (places : List ℕ) (c place : ℕ)
    → links_from table b (slice_set places c place)
    ≡ slice_set (links_from table b places) c (place_link place (slice_index_or table (b + c) zero_hash))
unfolding links_from
set_from table b [] c place = refl
set_from table b (p ∷ ps) zero place =
    ap (λ n. place_link place (slice_index_or table n zero_hash) ∷ links_from table (suc b) ps) (plain b)
  where
    plain : (b : ℕ) → b ≡ b + 0
    plain b = omega arith
set_from table b (p ∷ ps) (suc c) place =
    ap (λ ls. place_link p (slice_index_or table b zero_hash) ∷ ls)
    (set_from table (suc b) ps c place
    ∙ ap (λ n. slice_set (links_from table (suc b) ps) c (place_link place (slice_index_or table n zero_hash))) (shift b c))

pub none_from : (table : List Hash) (b n : ℕ) → links_from table b (replicate n 0) ≡ replicate n Empty
unfolding links_from
none_from table b zero = refl
none_from table b (suc n) = ap (λ ls. Empty ∷ ls) (none_from table (suc b) n)

-- two lists of links are one where each link is
pub same_links : (ls ms : List Link) → length ls ≡ length ms
    → ((c : ℕ) → c < length ls → slice_index_or ls c Empty ≡ slice_index_or ms c Empty) → ls ≡ ms
same_links [] [] e each = refl
same_links [] (m ∷ ms) e each = absurd (omega (arith, e))
same_links (l ∷ ls) [] e each = absurd (omega (arith, e))
same_links (l ∷ ls) (m ∷ ms) e each =
    let first : l ≡ m = each 0 (omega arith) in
    let rest = same_links ls ms (omega (arith, e)) (λ c low. each (suc c) (omega (arith, low))) in
    ap (λ x. x ∷ ls) first ∙ ap (λ xs. m ∷ xs) rest

-- a place leads somewhere just where it isn't 0
leads_on : (place : ℕ) (hash : Hash) → is_link (place_link place hash) ≡ not (place == 0)
leads_on place hash = by (place == 0) (place == 1)
  where
    by : (none some : Bool) → is_link (if none then Empty else if some then Unloaded hash else Own (place - 2)) ≡ not none
    by true some = refl
    by false true = refl
    by false false = refl

count_in : List ℕ → ℕ
count_in [] = 0
count_in (p ∷ ps) = cond (not (p == 0)) (1 + count_in ps) (count_in ps)

links_in : List Link → ℕ
links_in [] = 0
links_in (l ∷ ls) = cond (is_link l) (1 + links_in ls) (links_in ls)

counts_in : (table : List Hash) (b : ℕ) (places : List ℕ) → links_in (links_from table b places) ≡ count_in places
unfolding links_from links_in count_in
counts_in table b [] = refl
counts_in table b (p ∷ ps) =
    ap (λ t. cond t (1 + links_in (links_from table (suc b) ps)) (links_in (links_from table (suc b) ps)))
    (leads_on p (slice_index_or table b zero_hash))
    ∙ ap (λ n. cond (not (p == 0)) (1 + n) n) (counts_in table (suc b) ps)

pub count_from : (table : List Hash) (b : ℕ) (places : List ℕ)
    → count_by is_link (links_from table b places) ≡ count_by (λ p. not (p == 0)) places
unfolding links_in count_in
count_from table b places =
    sym (is_count_by links_in is_link refl (λ l ls. refl) (links_from table b places)) ∙ counts_in table b places
    ∙ is_count_by count_in (λ p. not (p == 0)) refl (λ p ps. refl) places

get_at : (table : List Hash) (places : List ℕ) (c : ℕ) → c < length places
    → slice_index_or (links_of table places) c Empty ≡ place_link (slice_index_or places c 0) (slice_index_or table c zero_hash)
get_at table places c low =
    get_from table 0 places c low ∙ ap (λ n. place_link (slice_index_or places c 0) (slice_index_or table n zero_hash)) (same c)
  where
    same : (n : ℕ) → 0 + n ≡ n
    same n = omega arith

-- with another place for a branch
pub placed : (table : List Hash) (places : List ℕ) (links : List Link) (b place : ℕ) (link : Link) → links_of table places ≡ links
    → place_link place (slice_index_or table b zero_hash) ≡ link → links_of table (slice_set places b place) ≡ slice_set links b link
placed table places links b place link is said =
    set_from table 0 places b place
    ∙ ap (λ n. slice_set (links_of table places) b (place_link place (slice_index_or table n zero_hash))) (same b)
    ∙ ap (slice_set (links_of table places) b) said ∙ ap (λ ls. slice_set ls b link) is
  where
    same : (n : ℕ) → 0 + n ≡ n
    same n = omega arith

pub get_of : (table : List Hash) (places : List ℕ) (links : List Link) (b : ℕ) → links_of table places ≡ links → length places ≡ 16 → b < 16
    → place_link (slice_index_or places b 0) (slice_index_or table b zero_hash) ≡ slice_index_or links b Empty
get_of table places links b is count low =
    sym (get_at table places b (omega (arith, count, low))) ∙ ap (λ ls. slice_index_or ls b Empty) is

pub own_is : (place : ℕ) (hash : Hash) → (place ≡ 0 → ⊥) → (place ≡ 1 → ⊥) → Own (place - 2) ≡ place_link place hash
own_is place hash some other = by (place == 0) (place == 1) (grind (arith, nat_tests)) (grind (arith, nat_tests))
  where
    by : (t u : Bool) → t ≡ false → u ≡ false → Own (place - 2) ≡ (if t then Empty else if u then Unloaded hash else Own (place - 2))
    by false false e f = refl
    by true u e f = cc
    by false true e f = cc

pub own_at : (at place : ℕ) (hash : Hash) → place ≡ at + 2 → place_link place hash ≡ Own at
own_at at place hash is =
    sym (own_is place hash (λ e. absurd (omega (arith, is, e))) (λ e. absurd (omega (arith, is, e)))) ∙ ap Own (omega (arith, is))

map_get : {X : Type 0} (f : X → Link) (xs : List X) (d : X) (c : ℕ) → c < length xs
    → slice_index_or (map f xs) c Empty ≡ f (slice_index_or xs c d)
map_get f [] d c low = absurd (omega arith)
map_get f (x ∷ xs) d zero low = refl
map_get f (x ∷ xs) d (suc c) low = map_get f xs d c (omega (arith, low))

length_map : {X : Type 0} (f : X → Link) (xs : List X) → length (map f xs) ≡ length xs
length_map f [] = refl
length_map f (x ∷ xs) = ap suc (length_map f xs)

-- sixteen links that are each the map's of an element are the map of the list
pub mapped : {X : Type 0} (f : X → Link) (xs : List X) (d : X) (links : List Link) → length links ≡ 16 → length xs ≡ 16
    → ((c : ℕ) → c < 16 → slice_index_or links c Empty ≡ f (slice_index_or xs c d)) → links ≡ map f xs
mapped f xs d links count width each =
    same_links links (map f xs) (count ∙ sym width ∙ sym (length_map f xs)) (λ c low.
    each c (omega (arith, low, count)) ∙ sym (map_get f xs d c (omega (arith, low, count, width))))

pub of_hashes : (table hashes : List Hash) (places : List ℕ) → table ≡ hashes → length places ≡ 16 → length hashes ≡ 16
    → ((c : ℕ) → c < 16 → place_link (slice_index_or places c 0) (slice_index_or hashes c zero_hash)
    ≡ link_to (slice_index_or hashes c zero_hash))
    → links_of table places ≡ map link_to hashes
of_hashes table hashes places same count width each =
    mapped link_to hashes zero_hash (links_of table places) (length_from table 0 places ∙ count) width (λ c low.
    get_at table places c (omega (arith, low, count))
    ∙ ap (λ (t : List Hash). place_link (slice_index_or places c 0) (slice_index_or t c zero_hash)) same ∙ each c low)

-- with another table, which differs at one branch alone
pub tabled_is : (table other : List Hash) (places : List ℕ) (links : List Link) (b : ℕ) (hash : Hash) → links_of table places ≡ links
    → length places ≡ 16 → b < 16 → slice_index_or other b zero_hash ≡ hash
    → ((c : ℕ) → c < 16 → c ≢ b → slice_index_or other c zero_hash ≡ slice_index_or table c zero_hash)
    → links_of other (slice_set places b 1) ≡ slice_set links b (Unloaded hash)
tabled_is table other places links b hash is count low here others =
    same_links _ _
    (length_from other 0 (slice_set places b 1) ∙ length-set places b 1 ∙ sym (length_from table 0 places) ∙ ap length is
    ∙ sym (length-set links b (Unloaded hash)))
    (λ c in_all.
    let in_16 : c < 16 = omega (arith, in_all, length_from other 0 (slice_set places b 1), length-set places b 1, count) in
    get_at other (slice_set places b 1) c (omega (arith, in_16, length-set places b 1, count)) ∙ by c in_16 (cases_eq c b))
  where
    wide : length links ≡ 16
    wide = sym (ap length is) ∙ length_from table 0 places ∙ count

    by : (c : ℕ) → c < 16 → (c ≡ b) ⊎ (c ≢ b)
        → place_link (slice_index_or (slice_set places b 1) c 0) (slice_index_or other c zero_hash)
        ≡ slice_index_or (slice_set links b (Unloaded hash)) c Empty
    by c in_16 (inl same) =
        ap (λ p. place_link p (slice_index_or other c zero_hash)) (get_or-set_at places b c 1 0 same (omega (arith, low, count)))
        ∙ ap Unloaded (ap (λ n. slice_index_or other n zero_hash) same ∙ here)
        ∙ sym (get_or-set_at links b c (Unloaded hash) Empty same (omega (arith, low, wide)))
    by c in_16 (inr apart) =
        ap (λ p. place_link p (slice_index_or other c zero_hash)) (get_or-set_other places b c 1 0 apart)
        ∙ ap (place_link (slice_index_or places c 0)) (others c in_16 apart)
        ∙ get_of table places links c is count in_16
        ∙ sym (get_or-set_other links b c (Unloaded hash) Empty apart)
