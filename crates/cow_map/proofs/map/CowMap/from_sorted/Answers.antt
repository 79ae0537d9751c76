use Rattle.std.proofs.Common.{◌≡◌, ◌<◌, ◌==◌, ℕ, Bool, false, [], List, length, vec_len, arith, sym, subst, ◌∙◌}
use Rattle.std.proofs.lemmas.Bool.{eqb-false}
use Rattle.shamap_node.specs.declared.parts.Item.{Item}
use Rattle.cow_map.specs.Trees.{fewest, StandsAt}
use Rattle.cow_map.specs.Gathered.{entries_of}
use Rattle.cow_map.specs.Taking.{EndUnder, Gathers}
use Rattle.cow_map.proofs.Taking.{root_end, root_takes}
use Rattle.cow_map.proofs.map.CowMap.from_sorted.Goals as goal

some_left : (n m : ℕ) (t : Bool) → n ≡ m → t ≡ (n == 0) → t ≡ false → 0 < m
some_left n m t size is none = let other : (n == 0) ≡ false = sym is ∙ none in let apart = eqb-false n 0 other in omega (arith, size, apart)

pub inner_of-requires-clause-enough : goal.inner_of-requires-clause-enough
inner_of-requires-clause-enough c =
    let some : 0 < length c.args.items.items = some_left (vec_len c.args.items) (length c.args.items.items) c.is_empty.result c.args.items.ok.0
    c.is_empty.ensures c.if-is_empty.false in
    subst (λ p. EndUnder (fewest p) p c.args.items.items) (sym c.root.ensures) (root_end c.args.items.items some)

-- all items lie under the root, so all are taken, and the top stands for them
pub returns-clause-stands : goal.returns-clause-stands
returns-clause-stands c half stored =
    let g = subst (λ p. Gathers p c.args.items.items c.inner_of.new.rest.items c.inner_of.new.arena c.in_ok-top.top) c.root.ensures
    c.in_ok-top.ensures.gathers in
    subst (λ (xs : List Item). StandsAt half stored c.args.kind c.inner_of.new.arena 64 [] c.in_ok-top.top (entries_of xs))
    (root_takes c.args.items.items c.inner_of.new.rest.items c.inner_of.new.arena c.in_ok-top.top g) (g.stands half stored c.args.kind)
