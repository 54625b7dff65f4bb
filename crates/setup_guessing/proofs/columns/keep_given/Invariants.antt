-- The columns that were passed are as they are given, and those to come will be.
use Rattle.std.proofs.Common.{◌≡◌, ◌++◌, drop, map, take}
use Rattle.setup_guessing.specs.Columns.{with_given}
use Rattle.setup_guessing.proofs.columns.keep_given.Given as goal

abbrev pub invariant-loop-named : goal.invariant-loop-named
invariant-loop-named l = take l.named-index l.columns ++ map (with_given l.given) (drop l.named-index l.columns) ≡ map (with_given l.given) l.initial.columns
