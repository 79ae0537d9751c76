use Rattle.std.proofs.Common.{sym, subst}
use Rattle.map_changes.specs.Tracking.{AreHashes}
use Rattle.map_changes.proofs.versions.VersionsShared.has_form_of.Goals as goal

-- the hashes that it keeps are right
pub returns : goal.returns
returns g c =
    rw (← c.self.view_is)
    (c.in_ok-same.ensures g.H.NodeHash.half
    (subst (AreHashes g.H.NodeHash.half c.self.inside.tree.kind c.self.inside.tree.nodes) (sym c.deref.ensures.value)
    c.self.invariant.hashes))
