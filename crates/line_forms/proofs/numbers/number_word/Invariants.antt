use Rattle.std.proofs.Common.{◌≡◌, ◌<◌, ◌^◌, take}
use Rattle.std.specs.Str.Parse.{AllDigits, digits_value}
use Rattle.line_forms.proofs.numbers.number_word.Given as goal

abbrev pub invariant-loop-place : goal.invariant-loop-place
invariant-loop-place l = record {
  digits : AllDigits 10 (take l.place l.text);
  value : l.value ≡ digits_value 10 (take l.place l.text);
  fits : l.value < 2 ^ 64;
}
