use Rattle.std.proofs.Common.{ℕ, ◌+◌, ◌*◌, List}
use Rattle.ledger_spec.specs.Bytes.{Lookup}
use Rattle.ledger_spec.specs.Tree.{Entry}
use Rattle.cow_map.specs.declared.link.Link.{Link}
use Rattle.cow_map.specs.declared.link.Link.TheVariants.{Empty, Unloaded, Own}
use Rattle.cow_map.specs.Sealing.{Stand, SealsFront, AreNamed}
use Rattle.cow_map.proofs.seal.+sealing.Given as goal

abbrev pub place : Link → ℕ
place Empty = 0
place (Unloaded h) = 0
place (Own i) = 2 * i + 2

abbrev pub decreases-seal_link : goal.decreases-seal_link
decreases-seal_link g l = place l.link.now

abbrev pub decreases-sealed_inner : goal.decreases-sealed_inner
decreases-sealed_inner g l = 2 * l.at + 1

abbrev pub invariant-sealed_inner-loop-b : goal.invariant-sealed_inner-loop-b
invariant-sealed_inner-loop-b g l =
    ((stored : Lookup) (left : ℕ) (path : List ℕ) (kids : ℕ → List Entry)
    → Stand g.H.NodeHash.half stored l.kind l.arena left path l.links kids
    → SealsFront g.H.NodeHash.half l.kind l.arena l.links l.initial.forms.items l.forms.items l.made.bytes.items l.b stored left)
    × (AreNamed g.H.NodeHash.half l.initial.forms.items → AreNamed g.H.NodeHash.half l.forms.items)
