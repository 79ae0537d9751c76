-- The first cause of a line, in the order in which causes are tried.
use Rattle.std.proofs.Common.{◌≡◌, ℕ, zero, suc, ◌-◌, ◌<◌, ◌≤◌, List, get_or}
use Rattle.std.proofs.Common.{refl, sym, ◌∙◌, ap, subst, arith}
use Rattle.ledger_spec.specs.Bytes.{Bytes}
use Rattle.script_form.specs.declared.cause.Cause.{Cause}
use Rattle.script_form.specs.declared.cause.Cause.TheVariants as cause
use Rattle.script_form.specs.declared.trying.TheConstants.{ORDER}
use Rattle.script_form.specs.Causes.{TextHas}
use Rattle.script_form.specs.Causes.{place_of}
use Rattle.script_form.specs.Judging.{IsFineText}

-- where a cause of a text stands in the order
abbrev pub place_in : Cause → ℕ
place_in c = place_of c - 1

order_has : (c : Cause) → 0 < place_of c → (d : Cause) → get_or ORDER (place_in c) d ≡ c
order_has cause.ScriptTooLong some d = absurd (omega arith)
order_has cause.NotPrintable some d = refl
order_has cause.LineTooLong some d = refl
order_has cause.NoActor some d = refl
order_has cause.BadAfter some d = refl
order_has cause.UnknownCommand some d = refl
order_has cause.ArgumentCount some d = refl
order_has cause.BadNumber some d = refl
order_has cause.BadHex some d = refl
order_has cause.BadKindOrId some d = refl
order_has cause.ZeroTarget some d = refl
order_has cause.BadRecord some d = refl
order_has cause.DataTooLong some d = refl
order_has cause.TooManyCommands some d = refl

pub place_few : (c : Cause) → place_of c ≤ 13
place_few cause.ScriptTooLong = omega arith
place_few cause.NotPrintable = omega arith
place_few cause.LineTooLong = omega arith
place_few cause.NoActor = omega arith
place_few cause.BadAfter = omega arith
place_few cause.UnknownCommand = omega arith
place_few cause.ArgumentCount = omega arith
place_few cause.BadNumber = omega arith
place_few cause.BadHex = omega arith
place_few cause.BadKindOrId = omega arith
place_few cause.ZeroTarget = omega arith
place_few cause.BadRecord = omega arith
place_few cause.DataTooLong = omega arith
place_few cause.TooManyCommands = omega arith

seat_of : (i : ℕ) (x : Cause) → i < 13 → place_in (get_or ORDER i x) ≡ i
seat_of zero x lt = refl
seat_of (suc zero) x lt = refl
seat_of (suc (suc zero)) x lt = refl
seat_of (suc (suc (suc zero))) x lt = refl
seat_of (suc (suc (suc (suc zero)))) x lt = refl
seat_of (suc (suc (suc (suc (suc zero))))) x lt = refl
seat_of (suc (suc (suc (suc (suc (suc zero)))))) x lt = refl
seat_of (suc (suc (suc (suc (suc (suc (suc zero))))))) x lt = refl
seat_of (suc (suc (suc (suc (suc (suc (suc (suc zero)))))))) x lt = refl
seat_of (suc (suc (suc (suc (suc (suc (suc (suc (suc zero))))))))) x lt = refl
seat_of (suc (suc (suc (suc (suc (suc (suc (suc (suc (suc zero)))))))))) x lt = refl
seat_of (suc (suc (suc (suc (suc (suc (suc (suc (suc (suc (suc zero))))))))))) x lt = refl
seat_of (suc (suc (suc (suc (suc (suc (suc (suc (suc (suc (suc (suc zero)))))))))))) x lt = refl
seat_of (suc (suc (suc (suc (suc (suc (suc (suc (suc (suc (suc (suc (suc i))))))))))))) x lt = absurd (omega arith)

-- no cause of a text stands before the first that was met
pub none_before : (earlier : List ℕ) (text : Bytes) (i : ℕ) (x c : Cause) → i < 13 → c ≡ get_or ORDER i x
    → ((k : ℕ) (d : Cause) → k < i → TextHas earlier text (get_or ORDER k d) → ⊥)
    → (d : Cause) → place_of d < place_of c → TextHas earlier text d → ⊥
none_before earlier text i x c lt is none d less has = at d less has
  where
    seat : place_in c ≡ i
    seat = ap place_in is ∙ seat_of i x lt

    met : (d : Cause) → 0 < place_of d → place_of d < place_of c → TextHas earlier text d → ⊥
    met d some less has =
        let few : place_in d < i = omega (arith, seat, some, less) in
        let P : Cause → Type 0 = λ a. TextHas earlier text a in
        none (place_in d) d few (subst P (sym (order_has d some d)) has)

    at : (d : Cause) → place_of d < place_of c → TextHas earlier text d → ⊥
    at cause.ScriptTooLong less has = has
    at cause.NotPrintable less has = met cause.NotPrintable (omega arith) less has
    at cause.LineTooLong less has = met cause.LineTooLong (omega arith) less has
    at cause.NoActor less has = met cause.NoActor (omega arith) less has
    at cause.BadAfter less has = met cause.BadAfter (omega arith) less has
    at cause.UnknownCommand less has = met cause.UnknownCommand (omega arith) less has
    at cause.ArgumentCount less has = met cause.ArgumentCount (omega arith) less has
    at cause.BadNumber less has = met cause.BadNumber (omega arith) less has
    at cause.BadHex less has = met cause.BadHex (omega arith) less has
    at cause.BadKindOrId less has = met cause.BadKindOrId (omega arith) less has
    at cause.ZeroTarget less has = met cause.ZeroTarget (omega arith) less has
    at cause.BadRecord less has = met cause.BadRecord (omega arith) less has
    at cause.DataTooLong less has = met cause.DataTooLong (omega arith) less has
    at cause.TooManyCommands less has = met cause.TooManyCommands (omega arith) less has

-- a text without any of the causes in the order is fine
pub all_met : (earlier : List ℕ) (text : Bytes) (i : ℕ) → 13 ≤ i
    → ((k : ℕ) (d : Cause) → k < i → TextHas earlier text (get_or ORDER k d) → ⊥) → IsFineText earlier text
all_met earlier text i le none d has = at d has
  where
    met : (d : Cause) → 0 < place_of d → TextHas earlier text d → ⊥
    met d some has =
        let P : Cause → Type 0 = λ a. TextHas earlier text a in
        none (place_in d) d (omega (arith, le, place_few d)) (subst P (sym (order_has d some d)) has)

    at : (d : Cause) → TextHas earlier text d → ⊥
    at cause.ScriptTooLong has = has
    at cause.NotPrintable has = met cause.NotPrintable (omega arith) has
    at cause.LineTooLong has = met cause.LineTooLong (omega arith) has
    at cause.NoActor has = met cause.NoActor (omega arith) has
    at cause.BadAfter has = met cause.BadAfter (omega arith) has
    at cause.UnknownCommand has = met cause.UnknownCommand (omega arith) has
    at cause.ArgumentCount has = met cause.ArgumentCount (omega arith) has
    at cause.BadNumber has = met cause.BadNumber (omega arith) has
    at cause.BadHex has = met cause.BadHex (omega arith) has
    at cause.BadKindOrId has = met cause.BadKindOrId (omega arith) has
    at cause.ZeroTarget has = met cause.ZeroTarget (omega arith) has
    at cause.BadRecord has = met cause.BadRecord (omega arith) has
    at cause.DataTooLong has = met cause.DataTooLong (omega arith) has
    at cause.TooManyCommands has = met cause.TooManyCommands (omega arith) has
