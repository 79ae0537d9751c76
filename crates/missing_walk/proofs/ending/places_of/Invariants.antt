use Rattle.std.proofs.Common.{◌≡◌, take}
use Rattle.std.specs.Prelude.{map}
use Rattle.missing_walk.specs.Searching.{place_of}
use Rattle.missing_walk.proofs.ending.places_of.Given as goal

abbrev pub invariant-loop-todo : goal.invariant-loop-todo
invariant-loop-todo l = l.places ≡ map place_of (take l.todo-index l.todos)
