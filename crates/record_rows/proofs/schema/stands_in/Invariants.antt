-- The word is one of all exactly if it is one of the rest.
use Rattle.std.proofs.Common.{◌≡◌, drop}
use Rattle.record_rows.specs.Readings.{is_null_word}
use Rattle.record_rows.proofs.NullWords.{texts}
use Rattle.record_rows.proofs.schema.stands_in.Given as goal

abbrev pub invariant-loop-one : goal.invariant-loop-one
invariant-loop-one l = is_null_word (texts (drop l.one-index l.words)) l.word ≡ is_null_word (texts l.words) l.word
