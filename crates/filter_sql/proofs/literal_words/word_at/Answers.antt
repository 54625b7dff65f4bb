-- The word that stands there, or none.
use Rattle.std.proofs.Common.{◌∙◌, None, ap, arith, option_map, sym}
use Rattle.filter_sql.specs.LiteralWords.{word_tree}
use Rattle.filter_sql.proofs.WordLaws.{word_there}
use Rattle.filter_sql.proofs.literal_words.word_at.Goals as goal

pub returns-in-Some : goal.returns-in-Some
returns-in-Some c =
    ap (option_map word_tree) (c.as_ref.ensures.value ∙ c.in-Some.ensures.lookup.4 (omega arith) None) ∙ sym (word_there c.args.words.now c.args.place)

pub returns-in-None : goal.returns-in-None
returns-in-None c = ap (option_map word_tree) (c.in-None.ensures.lookup.4 (omega arith) None) ∙ sym (word_there c.args.words.now c.args.place)
