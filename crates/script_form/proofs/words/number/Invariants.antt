use Rattle.std.proofs.Common.{◌≡◌, ◌≤◌, take}
use Rattle.std.specs.Prelude.{IsTrue}
use Rattle.std.specs.List.{list_all}
use Rattle.std.specs.Char.{is_ascii_digit}
use Rattle.script_form.specs.Words.{decimal_behind}
use Rattle.script_form.proofs.words.number.Given as goal

abbrev pub invariant-loop-digit : goal.invariant-loop-digit
invariant-loop-digit l = record {
  value : l.value ≡ decimal_behind 0 (take l.digit-index l.word);
  within : l.value ≤ l.most;
  digits : IsTrue (list_all is_ascii_digit (take l.digit-index l.word));
}
