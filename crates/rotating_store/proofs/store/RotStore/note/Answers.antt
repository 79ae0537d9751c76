use Rattle.std.proofs.Common.{refl}
use Rattle.rotating_store.specs.Stores.{merged}
use Rattle.rotating_store.proofs.Checking.{noted_then, carried_without}
use Rattle.rotating_store.proofs.store.RotStore.note.Goals as goal

-- the hash is none of the unchecked ones afterwards; nothing else is touched
pub returns : goal.returns
returns g c = record {
  noted = rw (← c.self.view_is) record {
    notes = λ q has. noted_then g.Sh.B.Backend.tells
        (merged (g.Sh.B.Backend.held c.self.inside.writable) (g.Sh.B.Backend.held c.self.inside.archive))
        c.self.inside.unchecked c.remove.new.self c.args.h.now q c.remove.ensures has;
    rest = refl;
  };
}

pub invariant_of-self : goal.invariant_of-self
invariant_of-self g c = (
  c.self.invariant.0,
  c.self.invariant.1,
  λ tells. carried_without _ _ _ c.args.h.now (c.self.invariant.2 tells) c.remove.ensures,
)
