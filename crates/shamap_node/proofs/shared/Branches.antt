-- What has an inner node is its form, of 516 bytes. For proofs of other crates.
use Rattle.std.proofs.Common.{◌≡◌, ◌==◌, true, false}
use Rattle.std.proofs.Common.{length, drop, nat_eq, IsTrue, Some, None, sym, ap, ◌∙◌, inl, inr}
use Rattle.std.specs.List.{list_any, starts_with}
use Rattle.std.specs.Option.{is_some}
use Rattle.std.proofs.lemmas.Bool.{cases_Bool, eq-eqb, eqb-true}
use Rattle.half_hash.specs.Zero.{is_nonzero}
use Rattle.ledger_spec.specs.Bytes.{Bytes, hashes_of}
use Rattle.ledger_spec.specs.Forms.{inner_of, inner_prefix}
use Rattle.ledger_spec.proofs.shared.Inners.{not_inner_length, not_inner_prefix, not_inner_empty, inner_of_is}

-- what has an inner node is its form, and the node is that of the sixteen hashes
pub whole : (b : Bytes) → IsTrue (is_some (inner_of b)) → (length b ≡ 516) × (inner_of b ≡ Some (hashes_of 16 (drop 4 b)))
whole b some = elim (cases_Bool (length b == 516)) [
  | inl is ↦ (eqb-true (length b) 516 is, by_prefix (eqb-true (length b) 516 is))
  | inr other ↦ absurd (never (not_inner_length b (λ e. differ (sym (eq-eqb (length b) 516 e) ∙ other))))
]
  where
    differ : true ≡ false → ⊥
    differ e = cc

    never : inner_of b ≡ None → ⊥
    never e = differ (sym some ∙ ap is_some e)

    by_branches : length b ≡ 516 → starts_with nat_eq b inner_prefix ≡ true → inner_of b ≡ Some (hashes_of 16 (drop 4 b))
    by_branches size prefix = elim (cases_Bool (list_any is_nonzero (hashes_of 16 (drop 4 b)))) [
      | inl is ↦ inner_of_is b prefix size is
      | inr other ↦ absurd (never (not_inner_empty b other))
    ]

    by_prefix : length b ≡ 516 → inner_of b ≡ Some (hashes_of 16 (drop 4 b))
    by_prefix size = elim (cases_Bool (starts_with nat_eq b inner_prefix)) [
      | inl is ↦ by_branches size is
      | inr other ↦ absurd (never (not_inner_prefix b other))
    ]
