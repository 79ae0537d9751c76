use Rattle.std.proofs.Common.{◌≡◌, ℕ, true, Some, Ok, Err, refl, sym, ap, ◌∙◌, subst}
use Rattle.std.specs.Option.{option_map}
use Rattle.std.specs.declared.vec.Vec.{Vec}
use Rattle.std.specs.declared.alloc.Global.{Global}
use Rattle.std.proofs.lemmas.Result.{err_from_is_err_and}
use Rattle.json.specs.Value.{value_view as view}
use Rattle.ledger_spec.specs.Bytes.{Bytes}
use Rattle.audit_core.specs.Said.{digits_of, headed}
use Rattle.page_audit.specs.Documents.{number_in}
use Rattle.page_audit.specs.Pages.{Paged, numbered}
use Rattle.page_audit.proofs.Paging.{opened_on}
use Rattle.page_audit.proofs.pages.PageAudit.opened.Goals as goal

pub returns-in_err-named-clause-cause : goal.returns-in_err-named-clause-cause
returns-in_err-named-clause-cause c =
    let p = err_from_is_err_and c.from_residual-in_err-named.result c.from_residual-in_err-named.ensures.1 in
    rw (p.1, p.2)
    (λ cause is. let h = c.in_ok-audit.ensures.ok in
    let fresh : Paged = record { said = h.0; hash = c.in-Some.hash; more = true } in
    let bytes : Some c.in-Some-2.bytes.items ≡ digits_of c.in-Some-header_of.text.now =
    ap (option_map (λ (v : Vec ℕ Global). v.items)) (sym c.in-Some-2.is) ∙ c.in_ok-bytes.ensures ∙ ap digits_of c.as_bytes.ensures.value in
    opened_on (view c.args.object.now) c.in-Some.hash c.in-Some-header_of.text.now c.in-Some-2.bytes.items h.0 c.in-Some.ensures
    c.in-Some-header_of.ensures bytes (ap (λ (b : Bytes). headed (Some b)) (sym c.deref.ensures.value) ∙ h.1)
    ∙ subst (λ (n : ℕ). numbered fresh (number_in n (view c.args.object.now)) ≡ Err cause)
    (c.seq.ensures (λ b. b) h.0 (h.2 (λ b. b))) (c.in_err-named.ensures.cause cause fresh is))

pub returns-clause-ok : goal.returns-clause-ok
returns-clause-ok c =
    let h = c.in_ok-audit.ensures.ok in
    let fresh : Paged = record { said = h.0; hash = c.in-Some.hash; more = true } in
    let bytes : Some c.in-Some-2.bytes.items ≡ digits_of c.in-Some-header_of.text.now =
    ap (option_map (λ (v : Vec ℕ Global). v.items)) (sym c.in-Some-2.is) ∙ c.in_ok-bytes.ensures ∙ ap digits_of c.as_bytes.ensures.value in (
      fresh,
      opened_on (view c.args.object.now) c.in-Some.hash c.in-Some-header_of.text.now c.in-Some-2.bytes.items h.0 c.in-Some.ensures
          c.in-Some-header_of.ensures bytes (ap (λ (b : Bytes). headed (Some b)) (sym c.deref.ensures.value) ∙ h.1)
          ∙ subst (λ (n : ℕ). numbered fresh (number_in n (view c.args.object.now)) ≡ Ok fresh)
          (c.seq.ensures (λ b. b) h.0 (h.2 (λ b. b))) (c.in_ok-named.ensures.ok fresh),
      λ half. record { said = h.2 half; hash = refl; more = refl },
    )
