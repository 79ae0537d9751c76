use Rattle.std.proofs.Common.{◌≡◌, subst, arith}
use Rattle.ledger_spec.specs.Bytes.{Hash}
use Rattle.cow_build.specs.Building.{IsLeastRepeated}
use Rattle.cow_build.proofs.Rising.{rising_any, times_moved, none_found, some_found, repeated_moved}
use Rattle.cow_build.proofs.order.order.Goals as goal

pub returns-in-None-clause-rising : goal.returns-in-None-clause-rising
returns-in-None-clause-rising c =
    rising_any c.sort.new.items.items c.in_ok-sort.ensures.sorted
    (none_found c.sort.new.items.items c.deref.result.now c.in_ok-key.field-0 c.deref.ensures.value c.in-None.is c.in_ok-key.ensures)

pub returns-in-None-clause-once : goal.returns-in-None-clause-once
returns-in-None-clause-once c key =
    let once = none_found c.sort.new.items.items c.deref.result.now c.in_ok-key.field-0 c.deref.ensures.value c.in-None.is
    c.in_ok-key.ensures key in
    omega (arith, once, times_moved c.args.items.now.items c.sort.new.items.items key c.in_ok-sort.ensures.permutation)

-- sorting moves items but keeps how often each key stands, so the least repeated key is also that of the items given
pub returns-in-Some-clause-repeated : goal.returns-in-Some-clause-repeated
returns-in-Some-clause-repeated c = λ key e.
    let found = some_found c.sort.new.items.items c.deref.result.now c.in_ok-key.field-0 c.in-Some.key c.deref.ensures.value c.in-Some.is
    c.in_ok-key.ensures in
    let same : c.in-Some.key ≡ key = cc in
    repeated_moved c.args.items.now.items c.sort.new.items.items key c.in_ok-sort.ensures.permutation
    (subst (λ (q : Hash). IsLeastRepeated c.sort.new.items.items q) same found)
