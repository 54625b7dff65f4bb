-- The word ends within the text, behind an ASCII byte.
use Rattle.std.proofs.Common.{◌≡◌, ◌≢◌, arith}
use Rattle.std.specs.List.{prefix_len}
use Rattle.filter_sql.specs.Tokens.{is_word_byte}
use Rattle.filter_sql.proofs.Cuts.{cut_behind, word_end, word_some, word_within}
use Rattle.filter_sql.proofs.lex.word.Goals as goal

pub range-requires-clause-end_boundary : goal.range-requires-clause-end_boundary
range-requires-clause-end_boundary c =
    let counted : c.word_len-count.result ≡ prefix_len is_word_byte c.args.text.now = rw c.as_bytes.ensures.value at c.word_len-count.ensures in
    let some : c.word_len-count.result ≢ 0 = word_some c.args.text.now _ counted c.requires in
    cut_behind c.args.text.now _ c.utf8.text (omega arith) (word_within c.args.text.now _ counted) (word_end c.args.text.now _ counted some)

pub past-requires-clause-ascii : goal.past-requires-clause-ascii
past-requires-clause-ascii c =
    let counted : c.word_len-count.result ≡ prefix_len is_word_byte c.args.text.now = rw c.as_bytes.ensures.value at c.word_len-count.ensures in
    word_end c.args.text.now _ counted (word_some c.args.text.now _ counted c.requires)

pub name-requires-clause-ascii : goal.name-requires-clause-ascii
name-requires-clause-ascii c =
    let counted : c.word_len-count.result ≡ prefix_len is_word_byte c.args.text.now = rw c.as_bytes.ensures.value at c.word_len-count.ensures in
    word_end c.args.text.now _ counted (word_some c.args.text.now _ counted c.requires)
