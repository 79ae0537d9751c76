use Rattle.run_words.proofs.Reading.{awaited_reads, free_reads}
use Rattle.run_words.proofs.options.Reader.read_word.Goals as goal

pub returns-in-Some-clause-gives : goal.returns-in-Some-clause-gives
returns-in-Some-clause-gives c =
    (awaited_reads c.args.word.now c.as_bytes.result.now c.args.self.now.given c.set.new.self c.in-Some.setting c.args.self.now.awaiting
    c.set.result c.in-Some.is c.as_bytes.ensures.value c.set.ensures).0

pub returns-in-Some-clause-none : goal.returns-in-Some-clause-none
returns-in-Some-clause-none c =
    (awaited_reads c.args.word.now c.as_bytes.result.now c.args.self.now.given c.set.new.self c.in-Some.setting c.args.self.now.awaiting
    c.set.result c.in-Some.is c.as_bytes.ensures.value c.set.ensures).1

pub returns-in-None-clause-gives : goal.returns-in-None-clause-gives
returns-in-None-clause-gives c =
    (free_reads c.args.word.now c.args.self.now.given c.read_option.new.self.given c.args.self.now.awaiting
    c.read_option.new.self.awaiting c.read_option.result c.in-None.is c.read_option.ensures.gives c.read_option.ensures.none).0

pub returns-in-None-clause-none : goal.returns-in-None-clause-none
returns-in-None-clause-none c =
    (free_reads c.args.word.now c.args.self.now.given c.read_option.new.self.given c.args.self.now.awaiting
    c.read_option.new.self.awaiting c.read_option.result c.in-None.is c.read_option.ensures.gives c.read_option.ensures.none).1
