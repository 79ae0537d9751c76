-- all that is stored are forms under their own hashes, so the store gives what is held; and it was only read
use Rattle.std.proofs.Common.{rules}
use Rattle.std.proofs.Common.{◌≡◌, IfOk, IsTrue, refl, sym, ap, subst}
use Rattle.std.specs.FinMap as finite
use Rattle.ledger_spec.specs.Bytes.{Nodes}
use Rattle.core_machine.specs.Desks.{Desk}
use Rattle.core_machine.proofs.shared.Entries.{IsOver}
use Rattle.core_machine.proofs.Turns.{keeps_was_read}
use Rattle.core_machine.proofs.Viewing.{form_stands, only_reads}
use Rattle.core_machine.proofs.tables.Tables.form_at.Goals as goal

pub returns : goal.returns
returns g c =
    let d : Desk = c.args.self.now in
    let is : IsOver c.self.inside.store d.state = rw (← c.self.view_is) (record { nodes = refl; born = refl; epoch = refl }) in
    let exact = λ (told : IsTrue g.Sh.B.Backend.tells). subst (λ (n : Nodes). IfOk c.bytes_at.result (λ b. b ≡ finite.get n c.args.h.now))
    (sym is.nodes) (c.bytes_at.ensures.found told) in
    record {
      form = record {
        exact = exact;
        own = form_stands g.H.NodeHash.half g.Sh.B.Backend.tells d.state c.args.h.now c.bytes_at.result c.requires exact;
        unread = c.bytes_at.ensures.unread;
      };
      reads = only_reads _ _ _ _ c.self.inside.store c.bytes_at.new.store c.self.view_is refl is
          (ap (λ (x : Desk). x.faults) c.self.view_is) c.bytes_at.ensures.read;
      fault = search rules;
    }

pub invariant_of-self : goal.invariant_of-self
invariant_of-self g c = (
  c.self.invariant.0,
  keeps_was_read g.Sh.B.Backend.tells c.self.inside.book c.self.inside.rotator c.self.inside.store c.self.invariant.1
      g.H.NodeHash.half c.bytes_at.new.store c.bytes_at.ensures.read,
)
