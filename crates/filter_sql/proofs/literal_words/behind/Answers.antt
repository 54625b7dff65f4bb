-- The words from a place on.
use Rattle.std.proofs.Common.{◌∙◌, ◌-◌, ◌≤◌, ap, arith, drop, length, length-drop, option_map, sym}
use Rattle.std.proofs.lemmas.List.{drop-map, take_all}
use Rattle.filter_sql.specs.LiteralWords.{word_tree, word_trees}
use Rattle.filter_sql.proofs.literal_words.behind.Goals as goal

pub returns-then-count-words : goal.returns-then-count-words
returns-then-count-words c =
    let words = c.args.words.now in
    let k = c.args.count in
    let short : length (drop k words) ≤ length words - k = omega (arith, length-drop k words) in
    ap word_trees (take_all (length words - k) (drop k words) short) ∙ sym (drop-map (option_map word_tree) k words)
