-- The digits end within the text.
use Rattle.std.proofs.Common.{◌≡◌}
use Rattle.std.specs.Char.{is_ascii_digit}
use Rattle.std.specs.List.{prefix_len}
use Rattle.filter_sql.proofs.Cuts.{digits_end, digits_within}
use Rattle.filter_sql.proofs.lex.after_digits.Goals as goal

pub past-requires-clause-within : goal.past-requires-clause-within
past-requires-clause-within c =
    let counted : c.digits_len-count.result ≡ prefix_len is_ascii_digit c.args.text.now = rw c.as_bytes.ensures.value at c.digits_len-count.ensures in
    digits_within _ _ counted

pub past-requires-clause-ascii : goal.past-requires-clause-ascii
past-requires-clause-ascii c =
    let counted : c.digits_len-count.result ≡ prefix_len is_ascii_digit c.args.text.now = rw c.as_bytes.ensures.value at c.digits_len-count.ensures in
    digits_end _ _ counted c.if-count-eq0.false
