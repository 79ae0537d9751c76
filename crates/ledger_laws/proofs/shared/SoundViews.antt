-- Hashes that are found among others, and the order of actors' numbers. For proofs of other crates.
use Rattle.std.proofs.Common.{◌≡◌, Bool, true, false, ◌||◌, List, [], ◌∷◌}
use Rattle.std.proofs.Common.{Contains, refl, sym, arith}
use Rattle.std.specs.List.{list_any}
use Rattle.std.specs.Cmp.{IsTotalOrder}
use Rattle.std.specs.Cmp.Lexicographic.{same_text}
use Rattle.std.proofs.lemmas.Cmp.{nat_cmp_total, then_total}
use Rattle.std.proofs.lemmas.List.Elements.{Contains-append_right}
use Rattle.ledger_spec.specs.Maps.{numbered_cmp}
use Rattle.ledger_spec.specs.Bytes.{Hash, same_bytes}

-- the order of an actor's numbers is total
pub numbered_total : IsTotalOrder numbered_cmp
numbered_total = then_total
    (record {
      antisymm = λ x y. nat_cmp_total.antisymm x.0 y.0;
      trans = λ x y z. nat_cmp_total.trans x.0 y.0 z.0;
      congr = λ x y z. nat_cmp_total.congr x.0 y.0 z.0;
    })
    (record {
      antisymm = λ x y. nat_cmp_total.antisymm x.1 y.1;
      trans = λ x y z. nat_cmp_total.trans x.1 y.1 z.1;
      congr = λ x y z. nat_cmp_total.congr x.1 y.1 z.1;
    })

-- what is found among hashes is one of them
pub among : (t : Hash) (ts : List Hash) → list_any (same_bytes t) ts ≡ true → Contains ts t
among t [] e = cc
among t (x ∷ ts) e = first (same_bytes t x) refl (among t ts) e
  where
    first : (b : Bool) → same_bytes t x ≡ b → (list_any (same_bytes t) ts ≡ true → Contains ts t)
        → (b || list_any (same_bytes t) ts) ≡ true → Contains (x ∷ ts) t
    first true same rest found = (0, omega arith, sym (same_text t x (sym same)))
    first false other rest found = Contains-append_right (x ∷ []) ts t (rest found)
