-- The hash of the words so far.
use Rattle.std.proofs.Common.{◌≡◌, take}
use Rattle.std.specs.List.{fold}
use Rattle.membership.specs.Xxh64.{with_word}
use Rattle.membership.proofs.hashing.hash_words.Given as goal

abbrev pub invariant-loop-word : goal.invariant-loop-word
invariant-loop-word l = l.hash ≡ fold with_word l.initial.hash (take l.word-index l.words)
