-- How many links lead anywhere, and which one alone does.
use Rattle.std.proofs.Common.{◌≡◌, ◌≢◌, ◌⊎◌, inl, inr, ℕ, zero, suc, ◌+◌, ◌<◌, Bool, true, false, cond, if◌then◌else◌, Option, None, Some}
use Rattle.std.proofs.Common.{List, [], ◌∷◌, length, refl, sym, ap, ◌∙◌, arith, slice_index_or, count_by}
use Rattle.std.specs.List.{position, position_or_len}
use Rattle.std.proofs.lemmas.Bool.{cases_eq, eq-eqb, eqb-true, lt-ltb}
use Rattle.std.proofs.lemmas.List.Quantifiers.{position-Some}
use Rattle.std.proofs.lemmas.List.Recursion.{is_count_by, is_position_or_len}
use Rattle.cow_map.specs.declared.link.Link.{Link}
use Rattle.cow_map.specs.declared.link.Link.TheVariants.{Empty, Unloaded, Own}
use Rattle.cow_map.specs.declared.link.Only.{Only}
use Rattle.cow_map.specs.declared.link.Only.TheVariants as only
use Rattle.cow_map.specs.Ways.{is_link, is_only, only_branch}

-- how many of the first n links lead anywhere
abbrev pub CountsTo : List Link → ℕ → Only → Type 0
CountsTo links n only.Nowhere = (c : ℕ) → c < n → slice_index_or links c Empty ≡ Empty
CountsTo links n (only.One c) = (c < n) × (slice_index_or links c Empty ≢ Empty)
    × ((d : ℕ) → d < n → d ≢ c → slice_index_or links d Empty ≡ Empty)
CountsTo links n only.Many = ⊥

-- how many links lead anywhere
unfoldable pub links_in : List Link → ℕ
links_in [] = 0
links_in (l ∷ ls) = cond (is_link l) (1 + links_in ls) (links_in ls)

pub links_by : (ls : List Link) → links_in ls ≡ count_by is_link ls
unfolding links_in
links_by = is_count_by links_in is_link refl (λ l ls. refl)

-- where none leads anywhere
pub none_lead : (ls : List Link) → links_in ls ≡ 0 → (c : ℕ) → slice_index_or ls c Empty ≡ Empty
unfolding links_in
none_lead [] e c = refl
none_lead (Empty ∷ ls) e zero = refl
none_lead (Empty ∷ ls) e (suc c) = none_lead ls e c
none_lead (Unloaded h ∷ ls) e c = absurd (omega arith)
none_lead (Own i ∷ ls) e c = absurd (omega arith)

-- where one alone does
pub one_leads : (ls : List Link) → links_in ls ≡ 1 → (b : ℕ) × ((c : ℕ) → c ≢ b → slice_index_or ls c Empty ≡ Empty)
unfolding links_in
one_leads [] e = absurd (omega arith)
one_leads (Empty ∷ ls) e = let rest = one_leads ls e in (suc rest.0, λ c apart. shift ls rest.0 rest.1 c apart)
  where
    shift : (ls : List Link) (b : ℕ) → ((c : ℕ) → c ≢ b → slice_index_or ls c Empty ≡ Empty) → (c : ℕ) → c ≢ suc b
        → slice_index_or (Empty ∷ ls) c Empty ≡ Empty
    shift ls b f zero apart = refl
    shift ls b f (suc c) apart = f c (λ e. apart (ap suc e))
one_leads (Unloaded h ∷ ls) e = (0, λ c apart. first ls (omega arith) c apart)
  where
    first : (ls : List Link) → links_in ls ≡ 0 → (c : ℕ) → c ≢ 0 → slice_index_or (Unloaded h ∷ ls) c Empty ≡ Empty
    first ls none_of zero apart = absurd (apart refl)
    first ls none_of (suc c) apart = none_lead ls none_of c
one_leads (Own i ∷ ls) e = (0, λ c apart. first ls (omega arith) c apart)
  where
    first : (ls : List Link) → links_in ls ≡ 0 → (c : ℕ) → c ≢ 0 → slice_index_or (Own i ∷ ls) c Empty ≡ Empty
    first ls none_of zero apart = absurd (apart refl)
    first ls none_of (suc c) apart = none_lead ls none_of c

-- where all lead nowhere, none is counted
none_counted : (ls : List Link) → ((c : ℕ) → slice_index_or ls c Empty ≡ Empty) → links_in ls ≡ 0
unfolding links_in
none_counted [] empty = refl
none_counted (Empty ∷ ls) empty = none_counted ls (λ c. empty (suc c))
none_counted (Unloaded h ∷ ls) empty = let wrong : Unloaded h ≡ Empty = empty 0 in cc
none_counted (Own i ∷ ls) empty = let wrong : Own i ≡ Empty = empty 0 in cc

less_one : (c d : ℕ) → suc c ≡ suc d → c ≡ d
less_one c d e = omega arith

-- where one alone leads anywhere, one is counted
one_counted : (ls : List Link) (c : ℕ) → slice_index_or ls c Empty ≢ Empty → ((d : ℕ) → d ≢ c → slice_index_or ls d Empty ≡ Empty)
    → links_in ls ≡ 1
unfolding links_in
one_counted [] c some others = absurd (some refl)
one_counted (Empty ∷ ls) zero some others = absurd (some refl)
one_counted (Unloaded h ∷ ls) zero some others = let rest = none_counted ls (λ d. others (suc d) (λ e. absurd (omega arith))) in
    omega arith
one_counted (Own i ∷ ls) zero some others = let rest = none_counted ls (λ d. others (suc d) (λ e. absurd (omega arith))) in omega arith
one_counted (Empty ∷ ls) (suc c) some others = one_counted ls c some (λ d apart. others (suc d) (λ e. apart (less_one d c e)))
one_counted (Unloaded h ∷ ls) (suc c) some others = let wrong : Unloaded h ≡ Empty = others 0 (λ e. absurd (omega arith)) in cc
one_counted (Own i ∷ ls) (suc c) some others = let wrong : Own i ≡ Empty = others 0 (λ e. absurd (omega arith)) in cc

-- a link that leads somewhere
leads : (l : Link) → is_link l ≡ true → l ≢ Empty
leads Empty e = cc
leads (Unloaded h) e = λ is. cc
leads (Own i) e = λ is. cc

-- the branch of the first link that leads anywhere, or how many there are
first_in : List Link → ℕ
first_in [] = 0
first_in (l ∷ ls) = cond (is_link l) 0 (1 + first_in ls)

first_by : (ls : List Link) → first_in ls ≡ position_or_len is_link ls
unfolding first_in
first_by = is_position_or_len first_in is_link refl (λ l ls. refl)

first_low : (ls : List Link) (c : ℕ) → slice_index_or ls c Empty ≢ Empty → first_in ls < length ls
unfolding first_in
first_low [] c some = absurd (some refl)
first_low (Unloaded h ∷ ls) c some = omega arith
first_low (Own i ∷ ls) c some = omega arith
first_low (Empty ∷ ls) zero some = absurd (some refl)
first_low (Empty ∷ ls) (suc c) some = let low = first_low ls c some in omega arith

-- there is a first one where one leads anywhere
has_first : (ls : List Link) (c : ℕ) → slice_index_or ls c Empty ≢ Empty → position is_link ls ≡ Some (position_or_len is_link ls)
has_first ls c some =
    let low : position_or_len is_link ls < length ls = omega (arith, first_low ls c some, first_by ls) in
    ap (λ t. cond t (Some (position_or_len is_link ls)) None) (lt-ltb (position_or_len is_link ls) (length ls) low)

is_one : (ls : List Link) → links_in ls ≡ 1 → is_only ls ≡ true
is_one ls e = eq-eqb (count_by is_link ls) 1 (sym (links_by ls) ∙ e)

pub only_one : (ls : List Link) (c : ℕ) → slice_index_or ls c Empty ≢ Empty → ((d : ℕ) → d ≢ c → slice_index_or ls d Empty ≡ Empty)
    → is_only ls ≡ true
only_one ls c some others = is_one ls (one_counted ls c some others)

-- the one that alone leads anywhere
module _ (ls : List Link) (c : ℕ) where
  pub branch_alone : slice_index_or ls c Empty ≢ Empty → ((d : ℕ) → d ≢ c → slice_index_or ls d Empty ≡ Empty) → only_branch ls ≡ Some c
  branch_alone some others =
      let at = position_or_len is_link ls in
      let first = has_first ls c some in
      let is = position-Some is_link ls at Empty first in
      ap (λ t. if t then position is_link ls else None) (only_one ls c some others) ∙ first
      ∙ ap Some (same at (leads (slice_index_or ls at Empty) is.1) (cases_eq at c))
    where
      same : (i : ℕ) → slice_index_or ls i Empty ≢ Empty → (i ≡ c) ⊎ (i ≢ c) → i ≡ c
      same i leads_on (inl e) = e
      same i leads_on (inr apart) = absurd (leads_on (others i apart))

  pub alone_at : only_branch ls ≡ Some c → (slice_index_or ls c Empty ≢ Empty) × ((d : ℕ) → d ≢ c → slice_index_or ls d Empty ≡ Empty)
  alone_at is = by (is_only ls) refl
    where
      move : (b : ℕ) → ((d : ℕ) → d ≢ b → slice_index_or ls d Empty ≡ Empty) → slice_index_or ls c Empty ≢ Empty → (c ≡ b) ⊎ (c ≢ b)
          → (d : ℕ) → d ≢ c → slice_index_or ls d Empty ≡ Empty
      move b others some (inl same) d apart = others d (λ e. apart (e ∙ sym same))
      move b others some (inr other) d apart = absurd (some (others c other))

      by : (t : Bool) → is_only ls ≡ t → (slice_index_or ls c Empty ≢ Empty) × ((d : ℕ) → d ≢ c → slice_index_or ls d Empty ≡ Empty)
      by false at = let wrong : None ≡ Some c = sym (ap (λ t. if t then position is_link ls else None) at) ∙ is in cc
      by true at =
          let first : position is_link ls ≡ Some c = sym (ap (λ t. if t then position is_link ls else None) at) ∙ is in
          let some = leads (slice_index_or ls c Empty) (position-Some is_link ls c Empty first).1 in
          let one = one_leads ls (links_by ls ∙ eqb-true (count_by is_link ls) 1 at) in
          (some, move one.0 one.1 some (cases_eq c one.0))

-- none alone where none leads anywhere, or two do
pub branch_nowhere : (ls : List Link) → ((c : ℕ) → slice_index_or ls c Empty ≡ Empty) → only_branch ls ≡ None
branch_nowhere ls empty = by (only_branch ls) refl
  where
    by : (o : Option ℕ) → only_branch ls ≡ o → only_branch ls ≡ None
    by None is = is
    by (Some c) is = absurd ((alone_at ls c is).0 (empty c))

pub branch_many : (ls : List Link) (c d : ℕ) → d ≢ c → slice_index_or ls c Empty ≢ Empty → slice_index_or ls d Empty ≢ Empty
    → only_branch ls ≡ None
branch_many ls c d apart some more = by (only_branch ls) refl
  where
    no : (b : ℕ) → ((e : ℕ) → e ≢ b → slice_index_or ls e Empty ≡ Empty) → (c ≡ b) ⊎ (c ≢ b) → ⊥
    no b others (inl same) = more (others d (λ e. apart (e ∙ sym same)))
    no b others (inr other) = some (others c other)

    by : (o : Option ℕ) → only_branch ls ≡ o → only_branch ls ≡ None
    by None is = is
    by (Some b) is = absurd (no b (alone_at ls b is).1 (cases_eq c b))
