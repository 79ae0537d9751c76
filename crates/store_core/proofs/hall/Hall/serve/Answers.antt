use Rattle.std.proofs.Common.{◌≡◌, ℕ, map, refl, sym, subst}
use Rattle.ledger_spec.specs.Bytes.{Hash}
use Rattle.ledger_machine.specs.declared.commands.Command.{Command}
use Rattle.ledger_machine.specs.declared.commands.Command.TheVariants as command
use Rattle.shamap_node.specs.Nodes.{held}
use Rattle.core_machine.specs.Commands.{IsNoCheck, IsQuiet}
use Rattle.ledger_laws.proofs.shared.Views.{LeavesViews}
use Rattle.store_core.proofs.Pinning.{views_kept}
use Rattle.store_core.proofs.Serving.{answers_quiet, section_same, section_step}
use Rattle.store_core.proofs.hall.Hall.serve.Goals as goal

-- what is neither `view` nor `unview` leaves the views, and what is no check searches nothing
leaves_views : (c : Command) → ((v : ℕ) (t : Hash) → c ≡ command.View v t → ⊥) → ((v : ℕ) → c ≡ command.Unview v → ⊥) → LeavesViews c
leaves_views (command.View v t) view unview = absurd (view v t refl)
leaves_views (command.Unview v) view unview = absurd (unview v refl)
leaves_views c view unview = tt

no_check : (c : Command) → ((t : Hash) → c ≡ command.Check t → ⊥) → IsNoCheck c
no_check (command.Check t) other = absurd (other t refl)
no_check c other = tt

pub turn_section-requires-clause-no_check : goal.turn_section-requires-clause-no_check
turn_section-requires-clause-no_check g c κs within = no_check c.args.command.now c.in_default.not-Check

-- any other command leaves the views, and what is stored under their ledgers' hashes
pub invariant_of-self : goal.invariant_of-self
invariant_of-self g c told =
    views_kept c.search_section.result (λ r. r.0) (λ r. map (λ a. held a.value) r.1.items) g.H.NodeHash.half
    c.self.inside.machine.state c.search_section.new.self.state c.args.actor c.args.command.now c.self.inside.views.entries
    (subst LeavesViews (sym c.in-Check.is) tt)
    (section_step c.search_section.result (λ r. r.0) (λ r. map (λ a. held a.value) r.1.items) g.H.NodeHash.half g.Sh.B.Backend.tells _
    c.self.inside.machine c.args.actor c.args.command.now c.args.part c.args.searches.now c.search_section.new.searches
    c.search_section.new.self
    c.search_section.ensures told)
    (section_same c.search_section.result (λ r. r.0) (λ r. map (λ a. held a.value) r.1.items) g.H.NodeHash.half g.Sh.B.Backend.tells _
    c.self.inside.machine c.args.actor c.args.command.now c.args.part c.args.searches.now c.search_section.new.searches
    c.search_section.new.self
    c.search_section.ensures told)
    (c.self.invariant told)

pub invariant_of-self-in_default : goal.invariant_of-self-in_default
invariant_of-self-in_default g c told =
    views_kept c.turn_section.result (λ r. r.0) (λ r. map (λ a. held a.value) r.1.items) g.H.NodeHash.half
    c.self.inside.machine.state c.turn_section.new.self.state c.args.actor c.args.command.now c.self.inside.views.entries
    (leaves_views c.args.command.now c.in_default.not-View c.in_default.not-Unview)
    (section_step c.turn_section.result (λ r. r.0) (λ r. map (λ a. held a.value) r.1.items) g.H.NodeHash.half g.Sh.B.Backend.tells _
    c.self.inside.machine c.args.actor c.args.command.now c.args.part c.args.searches.now c.args.searches.now c.turn_section.new.self
    (c.turn_section.ensures c.args.searches.now (rw (← c.self.view_is) at c.requires.searches)) told)
    (section_same c.turn_section.result (λ r. r.0) (λ r. map (λ a. held a.value) r.1.items) g.H.NodeHash.half g.Sh.B.Backend.tells _
    c.self.inside.machine c.args.actor c.args.command.now c.args.part c.args.searches.now c.args.searches.now c.turn_section.new.self
    (c.turn_section.ensures c.args.searches.now (rw (← c.self.view_is) at c.requires.searches)) told)
    (c.self.invariant told)

pub returns-in-View-clause-does : goal.returns-in-View-clause-does
returns-in-View-clause-does g c =
    answers_quiet g.H.NodeHash.half g.Sh.B.Backend.tells c.args.self.now.desk c.args.actor c.args.command.now c.args.part
    c.args.searches.now c.view.result.0 (map (λ a. held a.value) c.view.result.1.items) c.view.new.self.desk
    (subst IsQuiet (sym c.in-View.is) tt) c.requires.searches c.known.ensures.nodes c.view.ensures

pub returns-in-Unview-clause-does : goal.returns-in-Unview-clause-does
returns-in-Unview-clause-does g c =
    answers_quiet g.H.NodeHash.half g.Sh.B.Backend.tells c.args.self.now.desk c.args.actor c.args.command.now c.args.part
    c.args.searches.now c.unview.result.0 (map (λ a. held a.value) c.unview.result.1.items) c.unview.new.self.desk
    (subst IsQuiet (sym c.in-Unview.is) tt) c.requires.searches c.known.ensures.nodes c.unview.ensures

-- what the section says
pub returns-in-Check-clause-does : goal.returns-in-Check-clause-does
returns-in-Check-clause-does g c = rw (← c.self.view_is) c.search_section.ensures

pub returns-in_default : goal.returns-in_default
returns-in_default g c = record {
  does = rw (← c.self.view_is) (c.turn_section.ensures c.args.searches.now (rw (← c.self.view_is) at c.requires.searches));
  views = λ none. rw (← c.self.view_is) refl;
}
