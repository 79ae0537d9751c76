-- The step of each command keeps a state sound, its row leaves the open views but for those of `view` and `unview`, and each root behind it
-- was one before, or is what it opened or listed. For proofs of other crates; they stand in EachCommand, with the other proofs that go
-- through all commands.
pub use Rattle.ledger_laws.proofs.EachCommand.{step_sound, answer_views, row_stands}
