-- Numbers of logs that were made, are gone or are in doubt, as a manifest lists them.
use Rattle.std.proofs.Common.{◌≡◌, ◌≢◌, ◌⊎◌, inl, inr, ◌<◌, ◌+◌, ◌^◌, ℕ, Bool, true, false, not, cond, ◌||◌, List, [], ◌∷◌, ◌++◌}
use Rattle.std.proofs.Common.{Option, None, Some}
use Rattle.std.proofs.Common.{◌==◌, IsTrue, refl, sym, subst, ap, ◌∙◌, arith}
use Rattle.std.proofs.lemmas.List.{append-nil}
use Rattle.std.proofs.lemmas.Bool.{eqb-true, eq-eqb}
use Rattle.node_backend.specs.Numbers.{is_among, without}
use Rattle.node_backend.proofs.shared.Lists.{among_append, among_last, among_without}
use Rattle.log_shelf.specs.Entries.{number_bytes, number_in}
use Rattle.log_shelf.specs.Logs.{MayDoubtEntry, with_doubted}
use Rattle.log_shelf.specs.Manifests.{made_entry, gone_entry, noted, live_after, live_of, is_listed}
use Rattle.log_shelf.proofs.Entries.{number_in-text, length-number_bytes}

-- what a manifest's entry does
number_in-bytes : (n : ℕ) → n < 2 ^ 64 → number_in (number_bytes n) ≡ n
number_in-bytes n small = ap number_in (sym (append-nil (number_bytes n))) ∙ number_in-text n [] small

pub noted-made : (live : List ℕ) (n : ℕ) → n < 2 ^ 64 → noted live (made_entry n) ≡ live ++ n ∷ []
unfolding noted
noted-made live n small = rw (length-number_bytes n, number_in-bytes n small) refl

pub noted-gone : (live : List ℕ) (n : ℕ) → n < 2 ^ 64 → noted live (gone_entry n) ≡ without live n
unfolding noted
noted-gone live n small = rw (length-number_bytes n, number_in-bytes n small) refl

pub live_after-more : (live : List ℕ) (entries : List (List ℕ)) (entry : List ℕ)
    → live_after live (entries ++ entry ∷ []) ≡ noted (live_after live entries) entry
live_after-more live [] entry = refl
live_after-more live (e ∷ entries) entry = live_after-more (noted live e) entries entry

pub or_right : (a b : Bool) → b ≡ true → (a || b) ≡ true
or_right true b p = refl
or_right false b p = p

pub or_left : (a b : Bool) → a ≡ true → (a || b) ≡ true
or_left a b p = rw p refl

or_split : (a b : Bool) → (a || b) ≡ true → (a ≡ true) ⊎ (b ≡ true)
or_split true b p = inl refl
or_split false b p = inr p

-- a number of a list with one more was there, or is the new one
pub among_last_or : (n k : ℕ) (xs : List ℕ) → IsTrue (is_among (xs ++ n ∷ []) k) → IsTrue (is_among xs k) ⊎ (n ≡ k)
among_last_or n k [] h =
    elim (n == k) as (λ b. (n == k) ≡ b → (b || false) ≡ true → (false ≡ true) ⊎ (n ≡ k)) [
      | true ↦ λ e _. inr (eqb-true n k e)
      | false ↦ λ e r. inl r
    ] refl h
among_last_or n k (x ∷ xs) h =
    elim (x == k) as (λ b. (b || is_among (xs ++ n ∷ []) k) ≡ true → ((b || is_among xs k) ≡ true) ⊎ (n ≡ k)) [
      | true ↦ λ _. inl refl
      | false ↦ λ r. among_last_or n k xs r
    ] h

-- a number that is left was there, and is another one
pub without_split : (n k : ℕ) (xs : List ℕ) → IsTrue (is_among (without xs n) k) → IsTrue (is_among xs k) × (k ≢ n)
without_split n k [] h = absurd (cc)
without_split n k (x ∷ xs) h =
    elim (x == n) as (λ b. (x == n) ≡ b → IsTrue (is_among (cond (not b) (x ∷ without xs n) (without xs n)) k)
    → (((x == k) || is_among xs k) ≡ true) × (k ≢ n)) [
      | true ↦ λ e r. let i = without_split n k xs r in (or_right (x == k) (is_among xs k) i.0, i.1)
      | false ↦ λ e r. elim (x == k) as (λ b. (x == k) ≡ b → (b || is_among (without xs n) k) ≡ true → ((b || is_among xs k) ≡ true)
          × (k ≢ n)) [
            | true ↦ λ f _. (refl, λ (q : k ≡ n). absurd (cc (eq-eqb x n (eqb-true x k f ∙ q), e)))
            | false ↦ λ f t. without_split n k xs t
          ] refl r
    ] refl h

-- the live numbers of a list that grows
pub among-made : (live all : List ℕ) (n k : ℕ) → ((m : ℕ) → IsTrue (is_among live m) → IsTrue (is_among all m))
    → IsTrue (is_among live k) ⊎ (n ≡ k)
    → IsTrue (is_among (all ++ n ∷ []) k)
among-made live all n k sub (inl old) = among_append n k all (sub k old)
among-made live all n k sub (inr new) = subst (λ (m : ℕ). IsTrue (is_among (all ++ n ∷ []) m)) new (among_last n all)

pub above_zero : (live : List ℕ) (made n k : ℕ) → ((m : ℕ) → IsTrue (is_among live m) → 0 < m) → n ≡ made + 1
    → IsTrue (is_among live k) ⊎ (n ≡ k) → 0 < k
above_zero live made n k above step (inl old) = above k old
above_zero live made n k above step (inr new) = omega arith

-- a listed number is listed still
pub listed_in : (live undone next aside : List ℕ) (k : ℕ) → (IsTrue (is_among live k) → IsTrue (is_listed next aside k))
    → (IsTrue (is_among undone k) → IsTrue (is_among aside k)) → IsTrue (is_listed live undone k) → IsTrue (is_listed next aside k)
listed_in live undone next aside k first second h = elim (or_split (is_among live k) (is_among undone k) h) [
  | inl l ↦ first l
  | inr u ↦ or_right (is_among next k) (is_among aside k) (second u)
]

pub named_in : (a b c : Bool) → (IsTrue a → IsTrue b) → IsTrue (a || c) → IsTrue (b || c)
named_in a b c f h = elim (or_split a c h) [ inl l ↦ or_left b c (f l) | inr r ↦ or_right b c r ]

-- what is named where an entry in doubt is none, the one before or this one
pub doubt_names : (P : ℕ → Type 0) (told after : List (List ℕ)) (before later : Option (List ℕ)) (entry : List ℕ)
    → ((k : ℕ) → IsTrue (is_among (live_of told) k) → P k) → ((k : ℕ) → IsTrue (is_among (live_of (with_doubted told before)) k) → P k)
    → ((k : ℕ) → IsTrue (is_among (live_of (told ++ entry ∷ [])) k) → P k) → after ≡ told → MayDoubtEntry before entry later
    → (k : ℕ) → IsTrue (is_among (live_of (with_doubted after later)) k) → P k
doubt_names P told after before later entry sure old new same may k h = at may
  where
    here : (d : Option (List ℕ)) → later ≡ d → IsTrue (is_among (live_of (with_doubted told d)) k)
    here d is = subst (λ (es : List (List ℕ)). IsTrue (is_among (live_of (with_doubted es d)) k)) same
        (subst (λ (o : Option (List ℕ)). IsTrue (is_among (live_of (with_doubted after o)) k)) is h)

    at : MayDoubtEntry before entry later → P k
    at (inl none) = sure k (here None none)
    at (inr (inl is)) = old k (here before is)
    at (inr (inr is)) = new k (here (Some entry) is)

-- an entry in doubt keeps the live ones, where it is none, the one before or this one
pub doubt_keeps : (live : List ℕ) (told after : List (List ℕ)) (before later : Option (List ℕ)) (entry : List ℕ)
    → ((k : ℕ) → IsTrue (is_among live k) → IsTrue (is_among (live_of told) k)) → ((k : ℕ) → IsTrue (is_among live k)
    → IsTrue (is_among (live_of (with_doubted told before)) k))
    → ((k : ℕ) → IsTrue (is_among live k) → IsTrue (is_among (live_of (told ++ entry ∷ [])) k)) → after ≡ told
    → MayDoubtEntry before entry later
    → (k : ℕ) → IsTrue (is_among live k) → IsTrue (is_among (live_of (with_doubted after later)) k)
doubt_keeps live told after before later entry sure old new same (inl none) k h = rw (same, none) (sure k h)
doubt_keeps live told after before later entry sure old new same (inr (inl is)) k h = rw (same, is) (old k h)
doubt_keeps live told after before later entry sure old new same (inr (inr is)) k h = rw (same, is) (new k h)

-- a number of the first list stays there, or is the one that goes into the second
pub kept_or_left : (live next undone aside : List ℕ) (n k : ℕ) → next ≡ without live n → aside ≡ undone ++ n ∷ [] → IsTrue (is_among live k)
    → IsTrue (is_listed next aside k)
kept_or_left live next undone aside n k left kept l =
    elim (k == n) as (λ b. (k == n) ≡ b → IsTrue (is_listed next aside k)) [
      | true ↦ λ e. or_right (is_among next k) (is_among aside k) (subst (λ (xs : List ℕ). IsTrue (is_among xs k)) (sym kept)
          (subst (λ (j : ℕ). IsTrue (is_among (undone ++ n ∷ []) j)) (sym (eqb-true k n e)) (among_last n undone)))
      | false ↦ λ e. or_left (is_among next k) (is_among aside k) (subst (λ (xs : List ℕ). IsTrue (is_among xs k)) (sym left)
          (among_without n k live (λ (same : k ≡ n). absurd (cc (eq-eqb k n same, e))) l))
    ] refl

pub not_there : (live : List ℕ) (n k : ℕ) → is_among live n ≡ false → k ≡ n → IsTrue (is_among live k) → ⊥
not_there live n k none same l = cc (subst (λ (j : ℕ). IsTrue (is_among live j)) same l, none)
