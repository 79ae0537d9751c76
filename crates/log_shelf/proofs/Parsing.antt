-- Entries as code finds them in a file.
use Rattle.std.proofs.Common.{◌≡◌, ◌≢◌, ◌∙◌, sym, ap, refl, ℕ, suc, ◌<◌, ◌≤◌, List, [], ◌∷◌, ◌++◌, length, take, drop, get_or, arith}
use Rattle.std.proofs.Common.{Bool, true, false, Option, Some, None, cond}
use Rattle.std.specs.Prelude.{◌&&◌, ◌==◌}
use Rattle.std.proofs.lemmas.Bool.Decides.{nat_tests}
use Rattle.node_backend.specs.Numbers.{without}
use Rattle.log_shelf.specs.Entries.{number_in, is_whole, front_of, entries_of}
use Rattle.log_shelf.specs.Manifests.{noted, live_after}
use Rattle.std.specs.List.{filter}
use Rattle.std.specs.List.Sorted.{IsNonDecreasingBy}
use Rattle.std.specs.Option.{option_map_or}
use Rattle.ledger_spec.specs.Bytes.{Nodes}
use Rattle.log_shelf.specs.Backends.{nodes_after}
use Rattle.log_shelf.specs.Rooms.{Files, file_in}
use Rattle.log_shelf.specs.Recovery.{Rises, entries_at}
use Rattle.log_shelf.proofs.Entries.{front_of-closed, front_of-shorter, entries_of-some, entries_of-none, entries_of-nil}

-- too few bytes are no entry
pub front_of-few : (bytes : List ℕ) → length bytes < 9 → front_of bytes ≡ None
unfolding front_of
front_of-few [] h = refl
front_of-few (g ∷ rest) h = grind (arith, nat_tests)

-- nor is a closed gate
pub front_of-other : (bytes : List ℕ) → 9 ≤ length bytes → get_or bytes 0 0 ≢ 1 → front_of bytes ≡ None
front_of-other [] h other = absurd (omega arith)
front_of-other (g ∷ rest) h other = front_of-closed g rest other

-- nor what is cut short
pub front_of-cut : (bytes : List ℕ) → 9 ≤ length bytes → length (drop 8 (drop 1 bytes)) < number_in (drop 1 bytes) → front_of bytes ≡ None
unfolding front_of
front_of-cut [] h less = absurd (omega arith)
front_of-cut (g ∷ rest) h less = grind (arith, nat_tests)

pub front_of-whole : (bytes : List ℕ) → 9 ≤ length bytes → get_or bytes 0 0 ≡ 1 → number_in (drop 1 bytes) ≤ length (drop 8 (drop 1 bytes))
    → front_of bytes ≡ Some (
      take (number_in (drop 1 bytes)) (drop 8 (drop 1 bytes)),
      drop (number_in (drop 1 bytes)) (drop 8 (drop 1
          bytes)),
    )
unfolding front_of
front_of-whole [] h gate fits = absurd (omega arith)
front_of-whole (g ∷ rest) h gate fits = let whole : (g == 1 && is_whole rest) ≡ true = grind (arith, nat_tests) in rw whole refl

-- what an entry of the manifest says, as code finds it
pub noted-few : (live entry : List ℕ) → length entry < 9 → noted live entry ≡ live
unfolding noted
noted-few live [] h = refl
noted-few live (kind ∷ rest) h = grind (arith, nat_tests)

pub noted-one : (live entry : List ℕ) → 9 ≤ length entry → get_or entry 0 0 ≡ 1 → noted live entry ≡ live ++ number_in (drop 1 entry) ∷ []
unfolding noted
noted-one live [] h is = absurd (omega arith)
noted-one live (kind ∷ rest) h is = grind (arith, nat_tests)

pub noted-two : (live entry : List ℕ) → 9 ≤ length entry → get_or entry 0 0 ≡ 2
    → noted live entry ≡ without live (number_in (drop 1 entry))
unfolding noted
noted-two live [] h is = absurd (omega arith)
noted-two live (kind ∷ rest) h is = grind (arith, nat_tests)

pub noted-none : (live entry : List ℕ) → 9 ≤ length entry → get_or entry 0 0 ≢ 1 → get_or entry 0 0 ≢ 2 → noted live entry ≡ live
unfolding noted
noted-none live [] h a b = absurd (omega arith)
noted-none live (kind ∷ rest) h a b = grind (arith, nat_tests)

-- the same as code comes to it, step by step
pub found-cut : (bytes rest behind : List ℕ) (n : ℕ) → 9 ≤ length bytes → rest ≡ drop 1 bytes → n ≡ number_in rest
    → behind ≡ drop 8 rest → length behind < n → front_of bytes ≡ None
found-cut bytes rest behind n h p q r less =
    let number : n ≡ number_in (drop 1 bytes) = q ∙ ap number_in p in
    let left : behind ≡ drop 8 (drop 1 bytes) = r ∙ ap (drop 8) p in
    front_of-cut bytes h (omega (arith, number, ap length left))

pub found-whole : (bytes rest behind a b : List ℕ) (n : ℕ) → 9 ≤ length bytes → get_or bytes 0 0 ≡ 1 → rest ≡ drop 1 bytes
    → n ≡ number_in rest → behind ≡ drop 8 rest → n ≤ length behind
    → a ≡ take n behind → b ≡ drop n behind → Some (a, b) ≡ front_of bytes
found-whole bytes rest behind a b n h gate p q r fits s t =
    let number : n ≡ number_in (drop 1 bytes) = q ∙ ap number_in p in
    let left : behind ≡ drop 8 (drop 1 bytes) = r ∙ ap (drop 8) p in
    let found = front_of-whole bytes h gate (omega (arith, number, ap length left)) in
    cc

pub noted-found-one : (live entry rest now : List ℕ) (n : ℕ) → 9 ≤ length entry → get_or entry 0 0 ≡ 1 → rest ≡ drop 1 entry
    → n ≡ number_in rest → now ≡ live ++ n ∷ [] → now ≡ noted live entry
noted-found-one live entry rest now n h is p q r =
    r ∙ (ap (λ (k : ℕ). live ++ k ∷ []) (q ∙ ap number_in p) ∙ sym (noted-one live entry h is))

pub noted-found-two : (live entry rest now : List ℕ) (n : ℕ) → 9 ≤ length entry → get_or entry 0 0 ≡ 2 → rest ≡ drop 1 entry
    → n ≡ number_in rest → now ≡ without live n → now ≡ noted live entry
noted-found-two live entry rest now n h is p q r = r ∙ (ap (without live) (q ∙ ap number_in p) ∙ sym (noted-two live entry h is))

-- a loop over the entries has the live numbers of those that it passed
pub live-step : (all live now : List ℕ) (rest entry behind : List ℕ) → live_after live (entries_of rest) ≡ all
    → Some (entry, behind) ≡ front_of rest → now ≡ noted live entry
    → live_after now (entries_of behind) ≡ all
live-step all live now rest entry behind is front noted-is =
    ap (λ (xs : List ℕ). live_after xs (entries_of behind)) noted-is
    ∙ (sym (ap (live_after live) (entries_of-some rest (entry, behind) (sym front))) ∙ is)

pub live-end : (all live rest : List ℕ) → live_after live (entries_of rest) ≡ all → None ≡ front_of rest → live ≡ all
live-end all live rest is front = sym (ap (live_after live) (entries_of-none rest (sym front))) ∙ is

pub front-shorter : (rest entry behind : List ℕ) → Some (entry, behind) ≡ front_of rest → length behind < length rest
front-shorter rest entry behind front = front_of-shorter rest (entry, behind) (sym front)

-- records that are set one after another
one_more : (b : Bool) (p : List ℕ → Bool) (held : Nodes) (e : List ℕ) (es : List (List ℕ))
    → nodes_after held (cond b (e ∷ es) es) ≡ nodes_after (nodes_after held (cond b (e ∷ []) [])) es
one_more true p held e es = refl
one_more false p held e es = refl

pub nodes-step : (p : List ℕ → Bool) (all held now : Nodes) (rest entry behind : List ℕ)
    → nodes_after held (filter p (entries_of rest)) ≡ all → Some (entry, behind) ≡ front_of rest
    → now ≡ nodes_after held (filter p (entry ∷ [])) → nodes_after now (filter p (entries_of behind)) ≡ all
nodes-step p all held now rest entry behind is front set =
    ap (λ (m : Nodes). nodes_after m (filter p (entries_of behind))) set
    ∙ (sym (one_more (p entry) p held entry (filter p (entries_of behind)))
    ∙ (sym (ap (λ (es : List (List ℕ)). nodes_after held (filter p es)) (entries_of-some rest (entry, behind) (sym front))) ∙ is))

pub nodes-end : (p : List ℕ → Bool) (all held : Nodes) (rest : List ℕ) → nodes_after held (filter p (entries_of rest)) ≡ all
    → None ≡ front_of rest → held ≡ all
nodes-end p all held rest is front = sym (ap (λ (es : List (List ℕ)). nodes_after held (filter p es)) (entries_of-none rest (sym
    front))) ∙ is

-- numbers that were sorted rise
pub rises_from : (low : ℕ) (xs : List ℕ) → IsNonDecreasingBy (λ (n : ℕ). n) xs → (0 < length xs → low ≤ get_or xs 0 0) → Rises low xs
rises_from low [] mono first = tt
rises_from low (x ∷ xs) mono first = (
  first (omega arith),
  rises_from x xs (λ i j d le less. mono (suc i) (suc j) d (omega arith) (omega arith)) (λ l. mono 0 1 0 (omega
      arith) (omega arith)),
)

-- a log without a disk has no entries
pub none-at : (files : Files) (n : ℕ) (bytes : List ℕ) → bytes ≡ [] → None ≡ file_in files n → entries_of bytes ≡ entries_at files n
none-at files n bytes nothing none = ap entries_of nothing ∙ (entries_of-nil
    ∙ ap (λ (o : Option (List ℕ)). option_map_or entries_of o []) none)

pub some-at : (files : Files) (n : ℕ) (bytes seen : List ℕ) → bytes ≡ seen → Some seen ≡ file_in files n
    → entries_of bytes ≡ entries_at files n
some-at files n bytes seen same some = ap entries_of same ∙ ap (λ (o : Option (List ℕ)). option_map_or entries_of o []) some
