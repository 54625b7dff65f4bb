-- None of the keywords so far is the word.
use Rattle.std.proofs.Common.{◌≡◌, drop, map}
use Rattle.std.specs.List.{find}
use Rattle.std.specs.Char.{to_ascii_lowercase}
use Rattle.std.specs.Str.{bytes_eq}
use Rattle.filter_sql.specs.Tokens.{all_keywords, keyword_named, keyword_text}
use Rattle.filter_sql.proofs.lex.keyword_named.Given as goal

abbrev pub invariant-loop-keyword : goal.invariant-loop-keyword
invariant-loop-keyword l = find (λ k. bytes_eq (map to_ascii_lowercase l.word) (keyword_text k)) (drop l.keyword-index all_keywords) ≡ keyword_named l.word
