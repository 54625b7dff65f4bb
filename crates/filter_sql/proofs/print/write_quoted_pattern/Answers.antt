use Rattle.std.proofs.Common.{refl}
use Rattle.std.proofs.Output.{has_written_append, has_written_of_eq}
use Rattle.like_patterns.specs.Texts.{pattern_text}
use Rattle.filter_sql.proofs.Characters.{quoted_characters}
use Rattle.filter_sql.proofs.print.write_quoted_pattern.Goals as goal

pub returns : goal.returns
returns g c plain ok =
    let opened = c.in_ok-write_str.ensures.writes plain refl in
    let inner = c.in_ok-write_doubled.ensures opened.plain refl in
    let closed = c.write_str-2.ensures.writes inner.plain ok in
    has_written_of_eq _ _ _ _ _ (quoted_characters (pattern_text c.args.pattern.now)) (has_written_append _ _ _ _ _ _ opened (has_written_append _ _ _ _ _ _ inner closed))
