use Rattle.std.proofs.Common.{◌≡◌, map, take}
use Rattle.std.specs.Prelude.{All}
use Rattle.csv_columns.specs.Names.{IsLine, texts}
use Rattle.zone_map.proofs.preparing.null_words.Given as goal

abbrev pub invariant-loop-word : goal.invariant-loop-word
invariant-loop-word l = record {
  words : texts l.nulls.items ≡ map (λ word. word.now) (take l.word-index l.words);
  lines : All IsLine (map (λ word. word.now) (take l.word-index l.words));
}
