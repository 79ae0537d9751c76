use Rattle.std.proofs.Common.{ap}
use Rattle.std.proofs.lemmas.Result.{err_from_is_err_and}
use Rattle.run_words.specs.Options.{texts}
use Rattle.run_words.proofs.Lines.{command_says, command_only, no_options_say}
use Rattle.run_words.proofs.words.read_words.Goals as goal

pub returns-in_err-read_options-in-replay-clause-says : goal.returns-in_err-read_options-in-replay-clause-says
returns-in_err-read_options-in-replay-clause-says c =
    let p = err_from_is_err_and c.from_residual.result c.from_residual.ensures.1 in
    rw p.1 (no_options_say (texts c.args.words.now) (texts c.in-Some.options.now) c.in-Some.command.now.now
    (ap texts c.in-Some.ensures.cases.0) c.in_err-read_options-in-replay.ensures)

-- the words behind the command are no options, so the line says nothing whatever its command is
pub returns-in_err-read_options-in-swarm-clause-says : goal.returns-in_err-read_options-in-swarm-clause-says
returns-in_err-read_options-in-swarm-clause-says c =
    let p = err_from_is_err_and c.from_residual-in_err-read_options-in-swarm.result
    c.from_residual-in_err-read_options-in-swarm.ensures.1 in
    rw p.1 (no_options_say (texts c.args.words.now) (texts c.in-Some.options.now) c.in-Some.command.now.now
    (ap texts c.in-Some.ensures.cases.0) c.in_err-read_options-in-swarm.ensures)

pub returns-in_ok-read_options-in-replay-clause-says : goal.returns-in_ok-read_options-in-replay-clause-says
returns-in_ok-read_options-in-replay-clause-says c =
    command_says (texts c.args.words.now) (texts c.in-Some.options.now) c.in-Some.command.now.now _ _ c.replay.result
    (ap texts c.in-Some.ensures.cases.0) c.in-replay.is c.in_ok-read_options-in-replay.ensures c.replay.ensures

pub returns-in_ok-read_options-in-swarm-clause-says : goal.returns-in_ok-read_options-in-swarm-clause-says
returns-in_ok-read_options-in-swarm-clause-says c =
    command_says (texts c.args.words.now) (texts c.in-Some.options.now) c.in-Some.command.now.now _ _ c.swarm.result
    (ap texts c.in-Some.ensures.cases.0) c.in-swarm.is c.in_ok-read_options-in-swarm.ensures c.swarm.ensures

pub returns-in_ok-read_options-in-replay-clause-only : goal.returns-in_ok-read_options-in-replay-clause-only
returns-in_ok-read_options-in-replay-clause-only c =
    command_only (texts c.args.words.now) (texts c.in-Some.options.now) c.in-Some.command.now.now _ _ c.replay.result
    (ap texts c.in-Some.ensures.cases.0) c.in-replay.is c.in_ok-read_options-in-replay.ensures c.replay.ensures

pub returns-in_ok-read_options-in-swarm-clause-only : goal.returns-in_ok-read_options-in-swarm-clause-only
returns-in_ok-read_options-in-swarm-clause-only c =
    command_only (texts c.args.words.now) (texts c.in-Some.options.now) c.in-Some.command.now.now _ _ c.swarm.result
    (ap texts c.in-Some.ensures.cases.0) c.in-swarm.is c.in_ok-read_options-in-swarm.ensures c.swarm.ensures

pub returns-in_err-read_options-in-stop-clause-says : goal.returns-in_err-read_options-in-stop-clause-says
returns-in_err-read_options-in-stop-clause-says c =
    let p = err_from_is_err_and c.from_residual-in_err-read_options-in-stop.result
    c.from_residual-in_err-read_options-in-stop.ensures.1 in
    rw p.1 (no_options_say (texts c.args.words.now) (texts c.in-Some.options.now) c.in-Some.command.now.now
    (ap texts c.in-Some.ensures.cases.0) c.in_err-read_options-in-stop.ensures)

pub returns-in_ok-read_options-in-stop-clause-says : goal.returns-in_ok-read_options-in-stop-clause-says
returns-in_ok-read_options-in-stop-clause-says c =
    command_says (texts c.args.words.now) (texts c.in-Some.options.now) c.in-Some.command.now.now _ _ c.stop.result
    (ap texts c.in-Some.ensures.cases.0) c.in-stop.is c.in_ok-read_options-in-stop.ensures c.stop.ensures

pub returns-in_ok-read_options-in-stop-clause-only : goal.returns-in_ok-read_options-in-stop-clause-only
returns-in_ok-read_options-in-stop-clause-only c =
    command_only (texts c.args.words.now) (texts c.in-Some.options.now) c.in-Some.command.now.now _ _ c.stop.result
    (ap texts c.in-Some.ensures.cases.0) c.in-stop.is c.in_ok-read_options-in-stop.ensures c.stop.ensures
