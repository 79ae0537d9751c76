use Rattle.std.proofs.Common.{ℕ, List, Option, ap, Bor}
use Rattle.std.specs.Option.{option_map}
use Rattle.run_words.proofs.Reading.{switch_reads, joined_reads, switch_refuses, setting_reads, none_refuses, no_digits, some_digits}
use Rattle.run_words.proofs.options.Reader.read_option.Goals as goal

pub returns-in_default-clause-none : goal.returns-in_default-clause-none
returns-in_default-clause-none c = none_refuses c.args.word.now c.cut.result.0.now _ c.args.self.now.given c.cut.ensures
    c.in_default.ensures.is

pub returns-then-is_some-clause-none : goal.returns-then-is_some-clause-none
returns-then-is_some-clause-none c =
    switch_refuses c.args.word.now c.cut.result.0.now _ c.args.self.now.given c.in-Some.option c.in-Switch.switch c.cut.ensures
    (some_digits c.cut.result.1 c.if-is_some.ensures) c.in-Switch.is c.in-Some.ensures.only

-- a switch is one word and was off, so the words give what the rest gives with it on
pub returns-else-is_some-clause-gives : goal.returns-else-is_some-clause-gives
returns-else-is_some-clause-gives c =
    (switch_reads c.args.word.now c.cut.result.0.now _ c.args.self.now.given c.turn_on.new.self c.in-Some.option c.in-Switch.switch
    c.args.self.now.awaiting c.turn_on.result
    c.requires c.cut.ensures (no_digits c.cut.result.1 c.if-is_some.ensures) c.in-Switch.is c.in-Some.ensures.is c.in-Some.ensures.only
    c.turn_on.ensures).0

-- the switch is on already, and each option stands at most once
pub returns-else-is_some-clause-none : goal.returns-else-is_some-clause-none
returns-else-is_some-clause-none c =
    (switch_reads c.args.word.now c.cut.result.0.now _ c.args.self.now.given c.turn_on.new.self c.in-Some.option c.in-Switch.switch
    c.args.self.now.awaiting c.turn_on.result
    c.requires c.cut.ensures (no_digits c.cut.result.1 c.if-is_some.ensures) c.in-Switch.is c.in-Some.ensures.is c.in-Some.ensures.only
    c.turn_on.ensures).1

-- name and digits joined by `=` are one option, so the words give what the rest gives with this number set
pub returns-in-Some-digits-clause-gives : goal.returns-in-Some-digits-clause-gives
returns-in-Some-digits-clause-gives c =
    (joined_reads c.args.word.now c.cut.result.0.now c.in-Some-digits.digits.now c.as_bytes.result.now _ c.args.self.now.given
    c.set.new.self c.in-Some.option c.in-Setting.setting c.args.self.now.awaiting c.set.result
    c.requires c.cut.ensures (ap (λ (x : Option (Bor (List ℕ))). option_map (λ d. d.now) x) c.in-Some-digits.is) c.as_bytes.ensures.value
    c.in-Setting.is c.in-Some.ensures.is c.in-Some.ensures.only c.set.ensures).0

-- what stands behind `=` is no number within 64 bits, or this setting has one already
pub returns-in-Some-digits-clause-none : goal.returns-in-Some-digits-clause-none
returns-in-Some-digits-clause-none c =
    (joined_reads c.args.word.now c.cut.result.0.now c.in-Some-digits.digits.now c.as_bytes.result.now _ c.args.self.now.given
    c.set.new.self c.in-Some.option c.in-Setting.setting c.args.self.now.awaiting c.set.result
    c.requires c.cut.ensures (ap (λ (x : Option (Bor (List ℕ))). option_map (λ d. d.now) x) c.in-Some-digits.is) c.as_bytes.ensures.value
    c.in-Setting.is c.in-Some.ensures.is c.in-Some.ensures.only c.set.ensures).1

pub returns-in-None-clause-gives : goal.returns-in-None-clause-gives
returns-in-None-clause-gives c =
    setting_reads c.args.word.now c.cut.result.0.now _ c.args.self.now.given c.in-Some.option c.in-Setting.setting c.cut.ensures
    (ap (λ (x : Option (Bor (List ℕ))). option_map (λ d. d.now) x) c.in-None.is) c.in-Setting.is c.in-Some.ensures.is
