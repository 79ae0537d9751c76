use Rattle.std.proofs.Common.{arith, sym, ◌<◌, ◌++◌, ◌∷◌, [], subst}
use Rattle.root_pass.specs.declared.pass.Pass.{Pass}
use Rattle.root_pass.specs.Rows.{IsBehind}
use Rattle.root_pass.specs.Passed.{SeenBy, Waits}
use Rattle.root_pass.proofs.Turning.{parts_above}
use Rattle.root_pass.proofs.Passing.{first_waits, next_waits}
use Rattle.root_pass.proofs.pass.Pass.add.Goals.{in-Some+else-not-is_less, in_default}
use Rattle.root_pass.proofs.pass.Pass.add.Goals as goal

-- keys of which one is less part above the bottom
pub settle-requires-clause-few : goal.settle-requires-clause-few
settle-requires-clause-few g c κs within =
    let above : c.common-same.result < 64 = parts_above c.in-Some.last.key c.args.key.now c.common-same.result
    c.known-in-Some.ensures c.known.ensures c.common-same.ensures.few c.common-same.ensures.fork c.if-not-is_less.ensures in
    omega (arith, above)

-- an item more: the last one has its place, and the new one waits
pub returns-clause-passed : goal.returns-clause-passed
returns-clause-passed g c items seen =
    let half = g.H.NodeHash.half in
    let After : Pass → Type 0 = λ p. IsBehind items c.args.key.now
    × Waits half p.kind p.rows (items ++ (c.args.key.now, c.args.bytes.now) ∷ [])
    (record { key = c.args.key.now; hash = c.leaf_hash-hash.result }) in
    elim c.match-self.branch [
      | in-Some+else-not-is_less w ↦ (let waits = subst (SeenBy half c.args.self.now.kind c.args.self.now.rows items) w.in-Some.is seen in
          subst After (sym w.self-is)
          (next_waits half c.args.self.now.kind c.args.self.now.rows w.settle.new.rows items w.in-Some.last c.args.key.now c.args.bytes.now
          c.leaf_hash-hash.result w.common-same.result waits c.leaf_hash-hash.ensures c.known.ensures
          (parts_above w.in-Some.last.key c.args.key.now w.common-same.result w.known-in-Some.ensures c.known.ensures
          w.common-same.ensures.few w.common-same.ensures.fork w.if-not-is_less.ensures)
          w.common-same.ensures.fork w.if-not-is_less.ensures w.settle.ensures.depth
          (w.settle.ensures.full c.args.self.now.kind items waits)))
      | in_default w ↦ (let empty = subst (SeenBy half c.args.self.now.kind c.args.self.now.rows items) w.in_default.is seen in
          subst After (sym w.self-is)
          (first_waits half c.args.self.now.kind c.args.self.now.rows items c.args.key.now c.args.bytes.now c.leaf_hash-hash.result empty
          c.leaf_hash-hash.ensures c.known.ensures))
    ]

-- the last item is the one that waits
pub returns-then-not-is_less-clause-before : goal.returns-then-not-is_less-clause-before
returns-then-not-is_less-clause-before g c items seen =
    let waits = subst (SeenBy g.H.NodeHash.half c.args.self.now.kind c.args.self.now.rows items) c.in-Some.is seen in
    record { front = waits.front; bytes = waits.bytes; items_are = waits.items_are }
