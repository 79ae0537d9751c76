use Rattle.std.proofs.Common.{◌≡◌, drop}
use Rattle.json.specs.Value.{items_view}
use Rattle.audit_core.specs.Keeping.{Keeps}
use Rattle.audit_core.specs.Said.{Said}
use Rattle.page_audit.specs.Pages.{with_items}
use Rattle.page_audit.proofs.pages.add_items.Given as goal

-- what is said so far goes on by what is left
abbrev pub invariant-loop-element : goal.invariant-loop-element
invariant-loop-element g l =
    (s : Said) → Keeps g.H.NodeHash.half l.fn.audit s → (t : Said) × Keeps g.H.NodeHash.half l.audit t
    × (with_items s (items_view l.list) ≡ with_items t (items_view (drop l.element-index l.list)))
