use Rattle.std.proofs.Common.{IsTrue, map, drop}
use Rattle.core_machine.specs.Desks.{Stays, KeepsRest}
use Rattle.core_machine.specs.Telling.{Hears}
use Rattle.core_machine.proofs.KeepingAll.{AreKept}
use Rattle.core_machine.proofs.tables.Tables.keep_all.Given as goal

-- the forms up to here are stored, and no clash was met
abbrev pub invariant-loop-form : goal.invariant-loop-form
invariant-loop-form g l = record {
  kept : IsTrue g.Sh.B.Backend.tells
      → AreKept g.H.NodeHash.half l.fn.self.state (map (λ f. f.form) l.forms) (map (λ f. f.form) (drop l.form-index l.forms)) l.self.state;
  hears : Hears l.fn.self.state.shaded (map (λ f. f.hash) l.forms) l.self.state.shaded;
  rest : KeepsRest l.fn.self.state l.self.state;
  stays : Stays g.Sh.B.Backend.tells l.fn.self l.self;
}
