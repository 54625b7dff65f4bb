-- The bytes of the word that are the number's.
use Rattle.std.proofs.Common.{◌<◌, ◌^◌, arith, refl, rules}
use Rattle.vortex_row.specs.Keys.{inverted}
use Rattle.vortex_row.proofs.NumberWords.{word-inverted, word-magnitude}
use Rattle.vortex_row.proofs.decode.numbers.magnitude_at_once.Goals as goal
use Rattle.vortex_row.proofs.ByteLaws.{inverted-length}

pub returns-then-number-width-gt0 : goal.returns-then-number-width-gt0
returns-then-number-width-gt0 c =
    let long = inverted-length c.args.invert c.args.bytes.now in
    let there = c.in-Some.ensures.0 in
    let some = c.if-width-eq0.false in
    let word : c.in-Some.word < 2 ^ 64 = search rules in
    let turned : c.inverted_word-word.result < 2 ^ 64 = search rules in
    word-magnitude c.args.width _ (inverted c.args.invert c.args.bytes.now) c.inverted_word-word.result _ (omega arith) c.requires (omega arith) turned
    (word-inverted c.args.invert c.args.bytes.now c.in-Some.word c.inverted_word-word.result word c.in-Some.ensures.1 c.inverted_word-word.ensures) refl
    (omega arith) c.if-number-width-gt0.true
