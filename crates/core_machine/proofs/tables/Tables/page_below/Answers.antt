-- what the store gives is the state's
use Rattle.std.proofs.Common.{◌≡◌, IsTrue, refl, subst}
use Rattle.ledger_spec.specs.Findings.{items_of}
use Rattle.ledger_spec.specs.Pages.{after_key}
use Rattle.map_cursor.specs.Shown.{items_in}
use Rattle.ledger_machine.specs.declared.commands.PageReply.TheVariants as pages
use Rattle.ledger_machine.specs.declared.commands.Reply.TheVariants as says
use Rattle.ledger_machine.specs.Reading.{IsPage}
use Rattle.ledger_machine.specs.State.{State}
use Rattle.path_proof.specs.Paths.{held_nodes}
use Rattle.path_proof.specs.Sources.{AreHeld}
use Rattle.rotating_store.specs.Sources.{own_nodes}
use Rattle.rotating_store.specs.Stores.{nodes_of}
use Rattle.std.specs.FinMap as finite
use Rattle.core_machine.proofs.shared.Entries.{IsOver}
use Rattle.core_machine.proofs.Paging.{is_page}
use Rattle.core_machine.proofs.Viewing.{filed_by}
use Rattle.core_machine.proofs.tables.Tables.page_below.Goals as goal

-- all that the store holds is forms under their own hashes
pub new-filed-requires-clause-filed : goal.new-filed-requires-clause-filed
new-filed-requires-clause-filed g c κs within =
    let is : IsOver c.self.inside.store c.args.self.now.state =
    rw (← c.self.view_is) (record { nodes = refl; born = refl; epoch = refl }) in
    filed_by g.H.NodeHash.half g.Sh.B.Backend.tells c.args.self.now.state c.self.inside.store is c.requires.filed

pub returns-clause-page : goal.returns-clause-page
returns-clause-page g c told =
    let s : State = c.args.self.now.state in
    let is : IsOver c.self.inside.store s = rw (← c.self.view_is) (record { nodes = refl; born = refl; epoch = refl }) in
    let held : AreHeld g.H.NodeHash.half g.Sh.B.Backend.tells (finite.get (own_nodes g.H.NodeHash.half (nodes_of c.self.inside.store)))
    (held_nodes c.in-Ok.page.used.items) = rw (← c.new-filed.ensures.same) c.in-Ok.ensures.tells.held in
    let own : IsTrue g.Sh.B.Backend.tells → items_in c.in-Ok.page.leaves.items ≡ after_key c.args.after.now c.from-most.result
    (items_of g.H.NodeHash.half (finite.get (own_nodes g.H.NodeHash.half (nodes_of c.self.inside.store))) c.args.kind c.args.root.now) =
    rw (← c.new-filed.ensures.same) c.in-Ok.ensures.tells.own in
    let paged = is_page g.H.NodeHash.half c.self.inside.store s c.args.kind c.args.after.now c.from-most.result c.args.root.now
    g.Sh.B.Backend.tells c.in-Ok.page.leaves (held_nodes c.in-Ok.page.used.items) told is (c.requires.filed told) c.requires.kind
    held own c.in-Ok.ensures.tells.page c.in-Ok.ensures.tells.maps.law in
    subst (λ n. IsPage g.H.NodeHash.half s c.args.kind c.args.after.now n c.args.root.now (says.Page (pages.Items c.in-Ok.page.leaves))
    (held_nodes c.in-Ok.page.used.items)) c.from-most.ensures paged
