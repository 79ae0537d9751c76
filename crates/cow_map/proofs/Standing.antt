-- What a link stands for, while the list of nodes grows and entries change.
use Rattle.std.proofs.Common.{◌≡◌, ◌≢◌, ℕ, zero, suc, ◌<◌, ◌≤◌, ◌==◌, Bool, true, false, List, length, Option, None, Some}
use Rattle.std.proofs.Common.{refl, sym, ap, ◌∙◌, subst, arith, slice_index_or}
use Rattle.std.specs.Prelude.{slice_set}
use Rattle.std.specs.List.{flat_map}
use Rattle.std.proofs.lemmas.List.{get_or-set_same, get_or-set_other}
use Rattle.std.proofs.lemmas.Bool.Decides.{nat_tests}
use Rattle.std.proofs.Math.ListN.{length-set}
use Rattle.ledger_spec.specs.declared.Kind.{Kind}
use Rattle.ledger_spec.specs.Bytes.{Bytes, Half, Lookup, branches}
use Rattle.ledger_spec.specs.Tree.{Entry}
use Rattle.cow_map.specs.declared.link.Link.{Link}
use Rattle.cow_map.specs.declared.link.Link.TheVariants.{Empty, Unloaded, Own}
use Rattle.cow_map.specs.Bodies.{Body}
use Rattle.ledger_spec.specs.Rules.{fault_of}
use Rattle.ledger_spec.specs.Findings.{sight_of}
use Rattle.cow_map.specs.Edits.{IsSub}
use Rattle.cow_map.specs.Trees.{Found, lacks, found_seen, found_at, fewest, Forks, Holds, StandsAt}
use Rattle.cow_map.proofs.Branches.{with_kid, kid_same, kid_other}
use Rattle.cow_map.proofs.shared.Standing.{Below, stands_into}

pub stands_holds : (half : Half) (stored : Lookup) (kind : Kind) (nodes : List Body) (left : ℕ) (path : List ℕ) (link : Link)
    (items : List Entry)
    → StandsAt half stored kind nodes left path link items ≡ Holds (Below half stored kind nodes left path) path
    (found_at half stored kind nodes path link) items
unfolding StandsAt
stands_holds half stored kind nodes zero path link items = refl
stands_holds half stored kind nodes (suc left) path link items = refl

-- from what is found, and to it
pub stands_from : (half : Half) (stored : Lookup) (kind : Kind) (nodes : List Body) (left : ℕ) (path : List ℕ) (link : Link)
    (items : List Entry) (found : Found)
    → found_at half stored kind nodes path link ≡ found → Holds (Below half stored kind nodes left path) path found items
    → StandsAt half stored kind nodes left path link items
unfolding StandsAt
stands_from half stored kind nodes zero path link items found is h =
    subst (λ f. Holds (Below half stored kind nodes zero path) path f items) (sym is) h
stands_from half stored kind nodes (suc left) path link items found is h =
    subst (λ f. Holds (Below half stored kind nodes (suc left) path) path f items) (sym is) h

-- what a link leads to over a smaller source, where it stands for something there
pub found_small : (half : Half) (small stored : Lookup) (kind : Kind) (nodes : List Body) (left : ℕ) (path : List ℕ) (link : Link)
    (items : List Entry) → IsSub small stored
    → StandsAt half small kind nodes left path link items
    → found_at half small kind nodes path link ≡ found_at half stored kind nodes path link
found_small half small stored kind nodes left path Empty items sub stands = refl
found_small half small stored kind nodes left path (Own i) items sub stands = refl
found_small half small stored kind nodes left path (Unloaded h) items sub stands = by (small h) refl
  where
    by : (o : Option Bytes) → small h ≡ o
        → found_at half small kind nodes path (Unloaded h) ≡ found_at half stored kind nodes path (Unloaded h)
    by None is = absurd (stands_into half small kind nodes left path (Unloaded h) items (lacks h)
        (ap (λ o. found_seen h (sight_of half (λ n. fault_of n None kind path) o)) is) stands)
    by (Some form) is =
        ap (λ o. found_seen h (sight_of half (λ n. fault_of n None kind path) o)) is
        ∙ sym (ap (λ o. found_seen h (sight_of half (λ n. fault_of n None kind path) o)) (sub h form is))

-- what the branches hold, with another link at one
pub each_set : (over : ℕ → Link → List Entry → Type 0) (links : List Link) (kids : ℕ → List Entry) (b : ℕ) (link : Link) (x : List Entry)
    → b < length links → over b link x
    → (c : ℕ) → (c ≢ b → over c (slice_index_or links c Empty) (kids c))
    → over c (slice_index_or (slice_set links b link) c Empty) (with_kid b x kids c)
each_set over links kids b link x within here c others = by (c == b) refl
  where
    by : (t : Bool) → (c == b) ≡ t → over c (slice_index_or (slice_set links b link) c Empty) (with_kid b x kids c)
    by true is =
        let same : c ≡ b = grind (arith, nat_tests) in
        let P : ℕ → Type 0 = λ n. over n (slice_index_or (slice_set links b link) n Empty) (with_kid b x kids n) in
        subst P (sym same) (subst (λ es. over b (slice_index_or (slice_set links b link) b Empty) es) (sym (kid_same b x kids))
        (subst (λ l. over b l x) (sym (get_or-set_same links b link Empty within)) here))
    by false is =
        let other : c ≢ b = grind (arith, nat_tests) in
        subst (λ es. over c (slice_index_or (slice_set links b link) c Empty) es) (sym (kid_other b c x kids other))
        (subst (λ l. over c l (kids c)) (sym (get_or-set_other links b c link Empty other)) (others other))

-- with another link at a branch, which holds other entries
pub forks_set : (over : ℕ → Link → List Entry → Type 0) (path : List ℕ) (links : List Link) (kids : ℕ → List Entry) (b : ℕ) (link : Link)
    (x next : List Entry)
    → length links ≡ 16 → b < 16 → ((c : ℕ) → c < 16 → c ≢ b → over c (slice_index_or links c Empty) (kids c)) → over b link x
    → next ≡ flat_map (with_kid b x kids) branches → fewest path ≤ length next → Forks over path (slice_set links b link) next
forks_set over path links kids b link x next width in_16 others here joined enough =
    let within : b < length links = omega (arith, width) in
    record {
      width = length-set links b link ∙ width;
      kids = with_kid b x kids;
      joined = joined;
      each = λ c low. each_set over links kids b link x within here c (others c low);
      enough = enough;
    }
