use Rattle.std.proofs.Common.{Some, None, List, [], ◌∷◌, subst}
use Rattle.std.specs.declared.ops.Bound.TheVariants.{Excluded, Unbounded}
use Rattle.std.specs.BTreeMap.Range.{IsRangeOf}
use Rattle.ledger_spec.specs.Maps.{hash_cmp}
use Rattle.ledger_spec.specs.Bytes.{Hash}
use Rattle.log_shelf.specs.declared.index.Place64.{Place64}
use Rattle.log_shelf.proofs.Indexes.{none_next, first_next, start_after}
use Rattle.log_shelf.proofs.index.Index.next.Goals as goal

-- the range of all entries is empty, so no hash is stored
pub returns-in_err-hash-in-None : goal.returns-in_err-hash-in-None
returns-in_err-hash-in-None c =
    let r : IsRangeOf hash_cmp (start_after None) Unbounded c.self.inside.entries [] =
    subst (λ (es : List (Hash × Place64)). IsRangeOf hash_cmp Unbounded Unbounded c.self.inside.entries es)
    (c.in_err-hash-in-None.ensures.steps.0) (c.range.ensures.in_range tt) in
    rw (c.from_residual.ensures, c.in-None.is, ← c.self.view_is) (none_next c.self.inside.entries None r)

-- the range behind the last hash is empty, so no stored hash comes after it
pub returns-in_err-hash-in-Some : goal.returns-in_err-hash-in-Some
returns-in_err-hash-in-Some c =
    let r : IsRangeOf hash_cmp (start_after (Some c.in-Some.last.now)) Unbounded c.self.inside.entries [] =
    subst (λ (es : List (Hash × Place64)). IsRangeOf hash_cmp (Excluded c.in-Some.last.now) Unbounded c.self.inside.entries es)
    (c.in_err-hash-in-Some.ensures.steps.0) (c.range-in-Some.ensures.in_range tt) in
    rw (c.from_residual-in_err-hash-in-Some.ensures, c.in-Some.is, ← c.self.view_is)
    (none_next c.self.inside.entries (Some c.in-Some.last.now) r)

-- entries rise, so the first of all has the least hash that is stored
pub returns-in_ok-hash-in-None : goal.returns-in_ok-hash-in-None
returns-in_ok-hash-in-None c =
    let r : IsRangeOf hash_cmp (start_after None) Unbounded c.self.inside.entries
    ((c.in_ok-hash-in-None.hash.now, c.in_ok-hash-in-None.field-0-1.now) ∷ c.next.new.self) =
    subst (λ (es : List (Hash × Place64)). IsRangeOf hash_cmp Unbounded Unbounded c.self.inside.entries es)
    (c.in_ok-hash-in-None.ensures.steps) (c.range.ensures.in_range tt) in
    rw (c.in-None.is, ← c.self.view_is) (first_next c.self.inside.entries None _ _ r)

-- entries rise, so the first one behind the last hash has the least of those that come after it
pub returns-in_ok-hash-in-Some : goal.returns-in_ok-hash-in-Some
returns-in_ok-hash-in-Some c =
    let r : IsRangeOf hash_cmp (start_after (Some c.in-Some.last.now)) Unbounded c.self.inside.entries
    ((c.in_ok-hash-in-Some.hash.now, c.in_ok-hash-in-Some.field-0-1.now) ∷ c.next-in-Some.new.self) =
    subst (λ (es : List (Hash × Place64)). IsRangeOf hash_cmp (Excluded c.in-Some.last.now) Unbounded c.self.inside.entries es)
    (c.in_ok-hash-in-Some.ensures.steps) (c.range-in-Some.ensures.in_range tt) in
    rw (c.in-Some.is, ← c.self.view_is) (first_next c.self.inside.entries (Some c.in-Some.last.now) _ _ r)
