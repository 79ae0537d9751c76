-- The status of a journal without faults.
use Rattle.std.proofs.Common.{◌≡◌, ℕ, List, [], ◌∷◌, Bool, true, false, cond, if◌then◌else◌, Option, Some, Contains}
use Rattle.std.proofs.Common.{length, refl, sym, ◌∙◌, subst, arith, inl, inr, ◌<◌, ◌-◌, ◌^◌, ◌+◌}
use Rattle.std.proofs.lemmas.Bool.{ne_eqb}
use Rattle.std.specs.Prelude.{◌||◌, ◌==◌, nat_lt}
use Rattle.run_io.specs.Bytes.{Rose}
use Rattle.std.specs.Borrow.{Bor}
use Rattle.std.specs.List.{list_any}
use Rattle.ledger_spec.specs.Bytes.{Bytes, Half}
use Rattle.ledger_machine.specs.declared.journal.Entry.{Entry}
use Rattle.ledger_machine.specs.declared.commands.Reply.{Reply}
use Rattle.ledger_machine.specs.declared.commands.Reply.TheVariants as says
use Rattle.ledger_machine.specs.Collisions.{is_clash, ShowsIn, IsShown}
use Rattle.ledger_laws.proofs.shared.SoundForms.{in_head, in_tail}
use Rattle.store_core.specs.Journal.{CoreView, IsJournal, faults_in, fault_count, RoseBy}
use Rattle.top_call.specs.declared.status.TheConstants.{FINE, SINK_FAILED, STORE_FAILED, CLASHED, NO_MEMORY}
use Rattle.top_call.specs.Output.{status_of, met_fault, is_fault, shows_clash, wanted_memory}
use Rattle.top_call.specs.Top.{IsOneOf, HasStatus, HasSaid, CountsFrom, IsCalm, EndsWell}

no_fault_here : (r : Reply) → fault_count r ≡ 0 → is_fault r ≡ false
no_fault_here says.Fault e = absurd (omega arith)
no_fault_here _ e = refl

no_fault_met : (journal : List Entry) → faults_in journal ≡ 0 → list_any met_fault journal ≡ false
no_fault_met [] e = refl
no_fault_met (x ∷ journal) e = rw (no_fault_here x.reply (omega (arith, e))) (no_fault_met journal (omega (arith, e)))

-- the status of a journal without faults, where no call was missed
fault_free : (journal : List Entry) (missed : ℕ) → faults_in journal ≡ 0 → missed ≡ 0
    → IsOneOf (status_of journal missed) (FINE ∷ CLASHED ∷ NO_MEMORY ∷ [])
fault_free journal missed none all =
    rw (no_fault_met journal none, all)
    (elim (list_any shows_clash journal) as (λ b. IsOneOf (cond b 7 (cond (list_any wanted_memory journal) 8 0)) (0 ∷ 7 ∷ 8 ∷ [])) [
      | true ↦ refl
      | false ↦ elim (list_any wanted_memory journal) as (λ b. IsOneOf (cond b 8 0) (0 ∷ 7 ∷ 8 ∷ [])) [ true ↦ refl | false ↦ refl ]
    ])

-- each status of a journal
status_one : (journal : List Entry) (missed : ℕ)
    → IsOneOf (status_of journal missed) (FINE ∷ SINK_FAILED ∷ STORE_FAILED ∷ CLASHED ∷ NO_MEMORY ∷ [])
status_one journal missed = at (list_any shows_clash journal) (list_any met_fault journal || nat_lt 0 missed)
    (list_any wanted_memory journal)
  where
    at : (a b c : Bool) → IsOneOf (if a then 7 else if b then 6 else if c then 8 else 0) (0 ∷ 5 ∷ 6 ∷ 7 ∷ 8 ∷ [])
    at true b c = refl
    at false true c = refl
    at false false true = refl
    at false false false = refl

-- a store whose count of faults didn't rise answered none
calm_faults : (n opened now : ℕ) → RoseBy n opened now → now ≡ opened → now < 2 ^ 64 - 1 → n ≡ 0
calm_faults n opened now (inl few) same below = omega (arith, few, same)
calm_faults n opened now (inr top) same below = absurd (omega (arith, top, below))

pub calm_free : (half : Half) (told : Bool) (handed : ℕ) (c : CoreView) → IsJournal half told c → CountsFrom handed c → IsCalm handed c
    → IsOneOf (status_of c.journal c.missed) (FINE ∷ CLASHED ∷ NO_MEMORY ∷ [])
calm_free half told handed c kept from calm =
    let still : c.faults ≡ c.opened = omega (arith, from.0, from.1, calm.0) in
    let none = calm_faults (faults_in c.journal + (c.missed + length c.failed)) c.opened c.faults kept.faults still calm.1 in
    fault_free c.journal c.missed (omega (arith, none)) (omega (arith, none))

-- what isn't a clash
but_clashed : (n : ℕ) → IsOneOf n (FINE ∷ CLASHED ∷ NO_MEMORY ∷ []) → (n ≡ CLASHED → ⊥) → IsOneOf n (FINE ∷ NO_MEMORY ∷ [])
but_clashed n is other =
    let no : (7 == n) ≡ false = ne_eqb 7 n (λ e. other (sym e)) in
    elim (0 == n) as (λ a. (a || ((7 == n) || ((8 == n) || false))) ≡ true → (a || ((8 == n) || false)) ≡ true) [
      | true ↦ λ h. refl
      | false ↦ λ h. subst (λ b. (b || ((8 == n) || false)) ≡ true) no h
    ] is

-- what a clash or a zero hash shows
shown_of : (half : Half) (forms : List Bytes) (r : Reply) → is_clash r ≡ true → ShowsIn half forms r → IsShown half forms
shown_of half forms (says.Clash h old new) is shows = inl (record {
  one = old;
  other = new;
  first = shows.first;
  second = shows.second;
  different = shows.different;
  same = shows.old_hash ∙ sym shows.new_hash;
})
shown_of half forms (says.ZeroHash form) is shows = inr (record { form = form; among = shows.0; zero = shows.1 })
shown_of half forms _ is shows = cc

-- a journal that shows a clash shows it
shown_by : (half : Half) (forms : List Bytes) (journal : List Entry) → ((e : Entry) → Contains journal e → ShowsIn half forms e.reply)
    → list_any shows_clash journal ≡ true → IsShown half forms
shown_by half forms [] each e = cc
shown_by half forms (x ∷ journal) each e =
    at (is_clash x.reply) refl e (shown_by half forms journal (λ y among. each y (in_tail x y journal among)))
  where
    at : (b : Bool) → is_clash x.reply ≡ b → (b || list_any shows_clash journal) ≡ true
        → (list_any shows_clash journal ≡ true → IsShown half forms) → IsShown half forms
    at true is e later = shown_of half forms x.reply is (each x (in_head x journal))
    at false is e later = later e

-- the status of a clash is a clash's
clash_shown : (journal : List Entry) (missed : ℕ) → status_of journal missed ≡ CLASHED → list_any shows_clash journal ≡ true
clash_shown journal missed e =
    at (list_any shows_clash journal) (list_any met_fault journal || nat_lt 0 missed) (list_any wanted_memory journal) e
  where
    at : (a b c : Bool) → ◌≡◌ {A = ℕ} (if a then 7 else if b then 6 else if c then 8 else 0) 7 → a ≡ true
    at true b c e = refl
    at false true c e = absurd (omega (arith, e))
    at false false true e = absurd (omega (arith, e))
    at false false false e = absurd (omega (arith, e))

-- of a journal whose text was printed
pub said_status : (half : Half) (told : Bool) (n : ℕ) (c : CoreView) → IsJournal half told c → n ≡ status_of c.journal c.missed
    → HasStatus half told n c
said_status half told n c kept is = record {
  one_of = subst (λ m. IsOneOf m (FINE ∷ SINK_FAILED ∷ STORE_FAILED ∷ CLASHED ∷ NO_MEMORY ∷ [])) (sym is) (status_one c.journal c.missed);
  said = inl is;
  collision = λ t e along. shown_by half _ c.journal ((kept.machine t).clashes along) (clash_shown c.journal c.missed (sym is ∙ e));
}

-- where the sink failed
pub failed_status : (half : Half) (told : Bool) (n : ℕ) (c : CoreView) → n ≡ SINK_FAILED → HasStatus half told n c
failed_status half told n c is = record {
  one_of = subst (λ m. IsOneOf m (FINE ∷ SINK_FAILED ∷ STORE_FAILED ∷ CLASHED ∷ NO_MEMORY ∷ [])) (sym is) refl;
  said = inr (subst (λ m. IsOneOf m (SINK_FAILED ∷ NO_MEMORY ∷ [])) (sym is) refl);
  collision = λ t e along. absurd (omega (arith, is, e));
}

-- where memory was wanted in printing
pub memory_status : (half : Half) (told : Bool) (n : ℕ) (c : CoreView) → n ≡ NO_MEMORY → HasStatus half told n c
memory_status half told n c is = record {
  one_of = subst (λ m. IsOneOf m (FINE ∷ SINK_FAILED ∷ STORE_FAILED ∷ CLASHED ∷ NO_MEMORY ∷ [])) (sym is) refl;
  said = inr (subst (λ m. IsOneOf m (SINK_FAILED ∷ NO_MEMORY ∷ [])) (sym is) refl);
  collision = λ t e along. absurd (omega (arith, is, e));
}

-- how a run ends whose text was printed
pub said_ends : (half : Half) (told : Bool) (words : List (Bor (List ℕ))) (left : Option Bytes) (n handed : ℕ) (c : CoreView)
    → IsJournal half told c → CountsFrom handed c → IsCalm handed c → n ≡ status_of c.journal c.missed
    → EndsWell half told words left n (Some c)
said_ends half told words left n handed c kept from calm is =
    let answered : IsOneOf n (FINE ∷ CLASHED ∷ NO_MEMORY ∷ []) =
    subst (λ m. IsOneOf m (FINE ∷ CLASHED ∷ NO_MEMORY ∷ [])) (sym is) (calm_free half told handed c kept from calm) in
    record {
      answered = λ w asks has. answered;
      fine = λ t w asks has none. but_clashed n answered
          (λ clashed. none.1 (shown_by half _ c.journal ((kept.machine t).clashes none.0)
          (clash_shown c.journal c.missed (sym is ∙ clashed))));
    }

-- and where memory was wanted
pub memory_ends : (half : Half) (told : Bool) (words : List (Bor (List ℕ))) (left : Option Bytes) (n : ℕ) (core : Option CoreView)
    → n ≡ NO_MEMORY → EndsWell half told words left n core
memory_ends half told words left n core is = record {
  answered = λ w asks has. subst (λ m. IsOneOf m (FINE ∷ CLASHED ∷ NO_MEMORY ∷ [])) (sym is) refl;
  fine = λ t w asks has none. subst (λ m. IsOneOf m (FINE ∷ NO_MEMORY ∷ [])) (sym is) refl;
}

-- by what the status says
pub status_from : (half : Half) (told : Bool) (n : ℕ) (c : CoreView) (before now : ℕ) → IsJournal half told c → HasSaid n c before now
    → HasStatus half told n c
status_from half told n c before now kept (inl own) = said_status half told n c kept own
status_from half told n c before now kept (inr (inl sink)) = failed_status half told n c sink.0
status_from half told n c before now kept (inr (inr memory)) = memory_status half told n c memory

pub ends_from : (half : Half) (told : Bool) (words : List (Bor (List ℕ))) (left : Option Bytes) (n handed : ℕ) (c : CoreView)
    (before now : ℕ)
    → IsJournal half told c → CountsFrom handed c → IsCalm handed c → (Rose before now → ⊥) → HasSaid n c before now
    → EndsWell half told words left n (Some c)
ends_from half told words left n handed c before now kept from calm still (inl own) =
    said_ends half told words left n handed c kept from calm own
ends_from half told words left n handed c before now kept from calm still (inr (inl sink)) = absurd (still sink.1)
ends_from half told words left n handed c before now kept from calm still (inr (inr memory)) =
    memory_ends half told words left n (Some c) memory
