-- the rotation is told, and then the form is written
use Rattle.std.proofs.Common.{refl}
use Rattle.ledger_spec.specs.Bytes.{Bytes}
use Rattle.ledger_machine.specs.State.{State}
use Rattle.ledger_machine.specs.Steps.{IsAfter}
use Rattle.rotating_store.specs.Puts.{Puts, TellsWrongHash}
use Rattle.core_machine.specs.Desks.{state_of}
use Rattle.core_machine.specs.Telling.{KeepsTurning}
use Rattle.core_machine.proofs.Copies.{put_backs}
use Rattle.core_machine.proofs.Kept.{keeps_by, told_keeps, under_own}
use Rattle.core_machine.proofs.Turns.{keeps_shaded, keeps_put, just_told, hears_shaded, shaded_slices, told_shaded, on_ok}
use Rattle.core_machine.proofs.tables.Tables.keep.Goals as goal

-- the hash is told and shaded as the form is put
pub invariant_of-self-2 : goal.invariant_of-self-2
invariant_of-self-2 g c =
    let tells = g.Sh.B.Backend.tells in
    let h = c.args.form.now.hash in
    let told : KeepsTurning tells c.self.inside.book c.shade.new.self c.self.inside.store =
    keeps_shaded tells c.self.inside.book c.self.inside.rotator c.self.inside.store c.self.invariant.1 c.shade.new.self h
    c.in-Ok.ensures.told (λ e. (c.in-Ok.ensures.idle e).1) in (
      c.self.invariant.0,
      keeps_put tells c.self.inside.book c.shade.new.self c.self.inside.store told h _ c.put_hashed-put.result c.put_hashed-put.new.self
          c.put_hashed-put.ensures.puts
          (just_told c.self.inside.rotator c.shade.new.self h c.in-Ok.ensures.told (λ e. (c.in-Ok.ensures.idle e).1)),
    )

-- the form's hash is the one that it is put under
pub kept-requires : goal.kept-requires
kept-requires g c =
    under_own g.H.NodeHash.half c.args.form.now.form c.put_hashed-put.result
    (rw (← c.requires, ← c.bytes.ensures) c.put_hashed-put.ensures.wrong)

-- the store's put, over the state in which the rotation was told
pub returns-clause-keeps : goal.returns-clause-keeps
returns-clause-keeps g c told =
    let half = g.H.NodeHash.half in
    let form : Bytes = c.args.form.now.form in
    let puts : Puts c.self.inside.store (half form) form c.put_hashed-put.result c.put_hashed-put.new.self =
    rw (← c.requires, ← c.bytes.ensures) (c.put_hashed-put.ensures.puts told) in
    let wrong : TellsWrongHash half (half form) form c.put_hashed-put.result =
    rw (← c.requires, ← c.bytes.ensures) c.put_hashed-put.ensures.wrong in
    let mid : State =
    state_of c.self.inside.store c.self.inside.wanted.entries c.self.inside.views.entries c.self.inside.book c.shade.new.self in
    let after : IsAfter c.args.self.now.state mid = rw (← c.self.view_is) refl in
    rw c.kept.ensures
    (told_keeps half c.args.self.now.state mid after form _ _
    (keeps_by half c.self.inside.store c.put_hashed-put.new.self mid (record { nodes = refl; born = refl; epoch = refl }) form
    c.put_hashed-put.result puts wrong))

pub returns-clause-hears : goal.returns-clause-hears
returns-clause-hears g c =
    rw (← c.self.view_is) (hears_shaded c.self.inside.rotator c.shade.new.self c.args.form.now.hash c.in-Ok.ensures.told
    (λ e. (c.in-Ok.ensures.idle e).1))

pub returns-clause-told : goal.returns-clause-told
returns-clause-told g c =
    rw (← c.self.view_is)
    (on_ok c.kept.result (told_shaded c.self.inside.rotator c.shade.new.self c.self.inside.book c.args.form.now.hash
    c.self.invariant.1.step c.in-Ok.ensures.told))

-- nothing is listed, and a form that is put is new, or nothing is written
pub returns-clause-stays : goal.returns-clause-stays
returns-clause-stays g c =
    rw (← c.self.view_is) (record {
      later = c.put_hashed-put.ensures.store.later;
      listed = refl;
      epoch = c.put_hashed-put.ensures.store.past.0;
      slices = shaded_slices c.self.inside.rotator c.shade.new.self c.args.form.now.hash c.in-Ok.ensures.told
          (λ e. (c.in-Ok.ensures.idle e).1);
      copies = λ told. put_backs c.self.inside.store c.args.form.now.hash _ c.put_hashed-put.result c.put_hashed-put.new.self
          (c.put_hashed-put.ensures.puts told);
    })
