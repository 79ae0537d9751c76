use Rattle.std.proofs.Common.{Some, ap, ◌∙◌}
use Rattle.std.specs.Option.{option_map}
use Rattle.store_core.specs.Halls.{root_of}
use Rattle.store_core.specs.declared.jobs.View.{View}
use Rattle.store_core.proofs.hall.Hall.root_for.Goals as goal

-- the header of the entry that is found
pub returns-in-Some : goal.returns-in-Some
returns-in-Some g c =
    rw (← c.self.view_is)
    (ap Some c.root_in.ensures ∙ ap (option_map (λ (x : View). root_of c.args.kind x.header)) c.in-Some.ensures.value)

pub returns-in-None : goal.returns-in-None
returns-in-None g c =
    rw (← c.self.view_is) (ap (option_map (λ (x : View). root_of c.args.kind x.header)) c.in-None.ensures.value)
