-- Lines that a core takes stay so where one is added behind them.
use Rattle.std.specs.Prelude.{◌≡◌, ◌≢◌, ℕ, suc, ◌+◌, ◌-◌, ◌<◌, ◌≤◌, ◌^◌, List, [], ◌∷◌, ◌++◌, length, map, drop, refl, slice_index}
use Rattle.std.specs.Prelude.{Bool, true, false, IsTrue, if◌then◌else◌}
use Rattle.std.proofs.Common.{sym, ap, ◌∙◌, arith, length-append, subst, get_or}
use Rattle.std.specs.List.{range_with_len, All, Contains, filter}
use Rattle.std.proofs.lemmas.List.{map-append}
use Rattle.std.proofs.lemmas.List.Elements.{All-nil, All-cons, All-push, All-weaker, Contains-append_left}
use Rattle.std.proofs.lemmas.Bool.{and_from}
use borrow.Author.Tests.{lt-ltb}
use Rattle.ledger_spec.specs.Bytes.{are_bytes}
use Rattle.std.proofs.lemmas.List.FromFn.{length-range_with_len, get_or-range_with_len}
use Rattle.ledger_machine.specs.declared.commands.Line.{Line}
use Rattle.ledger_machine.specs.Commands.{IsInRange}
use Rattle.ledger_machine.specs.Scripts.{Rises}
use Rattle.script_form.specs.Servable.{WaitsForEarlier}
use Rattle.swarm_gen.specs.Serving.{AreLines}
use Rattle.map_changes.proofs.shared.Walking.{range_more}

-- numbers one after another rise, and so with the next one
rises_more : (n : ℕ) (xs : List Line) (l : Line) → map (λ x. x.number) xs ≡ range_with_len (n + 1) (length xs)
    → l.number ≡ n + length xs + 1 → Rises n (xs ++ l ∷ [])
rises_more n [] l same is = (omega (arith, is), tt)
rises_more n (x ∷ xs) l same is =
    let first : x.number ≡ n + 1 = ap (λ (ns : List ℕ). get_or ns 0 0) same in
    let rest : map (λ y. y.number) xs ≡ range_with_len (n + 1 + 1) (length xs) = ap (λ (ns : List ℕ). drop 1 ns) same in (
      omega (arith, first),
      subst (λ m. Rises m (xs ++ l ∷ [])) (sym first) (rises_more (n + 1) xs l rest (omega (arith, is))),
    )

numbers_more : (xs : List Line) (l : Line) → map (λ x. x.number) xs ≡ range_with_len 1 (length xs) → l.number ≡ length xs + 1
    → map (λ x. x.number) (xs ++ l ∷ []) ≡ range_with_len 1 (length (xs ++ l ∷ []))
numbers_more xs l same is =
    let next : l.number ≡ 1 + length xs = omega (arith, is) in
    map-append (λ (x : Line). x.number) xs (l ∷ []) ∙ ap (λ (ns : List ℕ). ns ++ l.number ∷ []) same
    ∙ ap (λ (m : ℕ). range_with_len 1 (length xs) ++ m ∷ []) next ∙ range_more 1 (length xs)
    ∙ ap (range_with_len 1) (sym (length-append xs (l ∷ [])))

-- each number but zero up to the last is among them
among : (n k : ℕ) → k ≢ 0 → k ≤ n → Contains (range_with_len 1 n) k
among n k some most =
    let within : k - 1 < n = omega (arith, some, most) in
    let back : 1 + (k - 1) ≡ k = omega (arith, some) in (
      k - 1,
      subst (λ m. k - 1 < m) (sym (length-range_with_len 1 n)) within,
      get_or-range_with_len 1 n (k - 1) k within ∙ back,
    )

-- who waits for an earlier line waits for it still, and so does who comes behind them
waits_more : (xs : List Line) (l : Line) → All (WaitsForEarlier xs) xs → WaitsForEarlier (xs ++ l ∷ []) l
    → All (WaitsForEarlier (xs ++ l ∷ [])) (xs ++ l ∷ [])
waits_more xs l all new =
    All-push (WaitsForEarlier (xs ++ l ∷ [])) xs l
    (All-weaker (WaitsForEarlier xs) (WaitsForEarlier (xs ++ l ∷ []))
    (λ y waits some. (
      (waits some).0,
      subst (λ (ns : List ℕ). Contains ns y.after) (sym (map-append (λ (x : Line). x.number) xs (l ∷ [])))
          (Contains-append_left (map (λ x. x.number) xs) (map (λ x. x.number) (l ∷ [])) y.after (waits some).1),
    )) xs all) new

pub none_lines : AreLines []
none_lines = record {
  servable = record {
    actors_known = All-nil (λ (l : Line). l.actor < 64);
    numbers_rise = tt;
    in_range = All-nil (λ (l : Line). IsInRange l.command);
    waiting = All-nil (WaitsForEarlier []);
    few = omega arith;
  };
  numbers = refl;
}

pub lines_more : (xs : List Line) (l : Line) → AreLines xs → l.actor < 64 → l.number ≡ length xs + 1 → l.number < 2 ^ 32
    → l.after ≤ length xs → IsInRange l.command → AreLines (xs ++ l ∷ [])
lines_more xs l lines actor number few earlier range =
    let s = lines.servable in
    let waits : WaitsForEarlier (xs ++ l ∷ []) l = λ some. (
      omega (arith, number, earlier),
      subst (λ (ns : List ℕ). Contains ns l.after) (sym (map-append (λ (x : Line). x.number) xs (l ∷ [])))
          (Contains-append_left (map (λ x. x.number) xs) (map (λ x. x.number) (l ∷ [])) l.after
          (subst (λ (ns : List ℕ). Contains ns l.after) (sym lines.numbers) (among (length xs) l.after some earlier))),
    ) in
    record {
      servable = record {
        actors_known = All-push (λ (x : Line). x.actor < 64) xs l s.actors_known actor;
        numbers_rise = rises_more 0 xs l lines.numbers (omega (arith, number));
        in_range = All-push (λ (x : Line). IsInRange x.command) xs l s.in_range range;
        waiting = waits_more xs l s.waiting waits;
        few = omega (arith, length-append xs (l ∷ []), number, few);
      };
      numbers = numbers_more xs l lines.numbers number;
    }

pub bytes_from : (bs : List ℕ) → ((k : ℕ) → k < length bs → slice_index bs k < 256) → IsTrue (are_bytes bs)
bytes_from [] h = refl
bytes_from (b ∷ bs) h =
    let small : b < 256 = h 0 (omega arith) in
    and_from _ _ (lt-ltb b 256 small) (bytes_from bs (λ k l. h (suc k) (omega arith)))

-- what passes a test passes it
pass_more : {X : Type 0} (p : X → Bool) (x : X) (xs : List X) (b : Bool) → p x ≡ b → All (λ y. IsTrue (p y)) xs
    → All (λ y. IsTrue (p y)) (if b then x ∷ xs else xs)
pass_more p x xs true is all = All-cons (λ y. IsTrue (p y)) x xs is all
pass_more p x xs false is all = all

pub all_pass : {X : Type 0} (p : X → Bool) (xs : List X) → All (λ x. IsTrue (p x)) (filter p xs)
all_pass p [] = All-nil (λ x. IsTrue (p x))
all_pass p (x ∷ xs) = pass_more p x (filter p xs) (p x) refl (all_pass p xs)
