-- The number that the digits so far are.
use Rattle.std.proofs.Common.{◌≡◌, take}
use Rattle.std.specs.Str.Parse.{AllDigits, digits_value}
use Rattle.record_rows.proofs.words.short_number.Given as goal

abbrev pub invariant-loop-byte : goal.invariant-loop-byte
invariant-loop-byte l = record { digits : AllDigits 10 (take l.byte-index l.word); value : l.number ≡ digits_value 10 (take l.byte-index l.word) }
