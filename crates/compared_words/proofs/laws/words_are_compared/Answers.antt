use Rattle.std.specs.Float.{binary32, binary64}
use Rattle.logical_types.specs.declared.logical.LogicalType.TheVariants.{Float32, Float64}
use Rattle.compared_words.proofs.Compared.{decimals, floats, values}
use Rattle.compared_words.proofs.laws.words_are_compared.Goals as goal

pub returns : goal.returns
returns c =
    let decided = c.decisions_are_right.ensures in
    let stand = c.comparisons_stand.ensures.values in
    let say = c.shapes_say_words.ensures in
    let types = c.shapes_say_types.ensures.says in
    let sort = c.decimal_bytes_sort_as_numbers.ensures in
    record {
      values = values decided stand say types sort;
      doubles = floats decided stand say types sort binary64 Float64 (λ word z e. e);
      singles = floats decided stand say types sort binary32 Float32 (λ word z e. e);
      decimals = decimals decided stand say types sort;
    }
