-- The loop writes the next of the texts that it joins, and the check of validity chooses the text.
use Rattle.std.proofs.Common.{◌≡◌, ◌∙◌, [], drop, codes, false, refl, arith, rules}
use Rattle.std.proofs.Output.{has_written_append}
use Rattle.std.proofs.lemmas.List.{drop_all}
use Rattle.vortex_dtype.specs.TypeOf.{type_of}
use Rattle.vortex_value.specs.Breaches.{is_valid}
use Rattle.vortex_value.specs.Values.RawOf.{lent_raw}
use Rattle.vortex_value.proofs.TextSteps.{value_trees_at}
use Rattle.vortex_value.proofs.ValidityLaws.{is_valid-only}
use Rattle.vortex_value.proofs.Writes.{left_none, left_part}
use Rattle.vortex_value.proofs.display.+raw_text.Goals as goal

pub write_raw_items-loop-index-preserved : goal.write_raw_items-loop-index-preserved
write_raw_items-loop-index-preserved g t c plain =
    let i = c.loop-index.index in
    let v = c.index-items-index.result in
    let left = rw (value_trees_at i c.args.items.now v c.loop-index-test.true c.index-items-index.is) at (c.loop-index.invariant plain) in
    let separator = c.in_ok-write_separator.ensures left.wrote.plain refl in
    let item = rw c.as_ref.ensures.value at (c.write_raw_part.ensures separator.plain (search rules)) in
    left_part _ i _ _ _ _ (codes ", ") _ _ _ _ left separator refl item

pub write_raw_items-returns : goal.write_raw_items-returns
write_raw_items-returns g t c plain ok =
    let opened = c.write_str.ensures.writes plain (search rules) in
    let none : drop c.loop-index.index c.args.items.now ≡ [] = drop_all c.loop-index.index c.args.items.now (omega arith) in
    let all = left_none _ c.loop-index.index _ _ (codes ", ") _ _ (rw none refl) (c.loop-index.invariant opened.plain) in
    has_written_append _ _ _ _ _ _ opened (has_written_append _ _ _ _ _ _ all (c.write_str-2.ensures.writes all.plain ok))

pub write_text-returns-then-is_compatible : goal.write_text-returns-then-is_compatible
write_text-returns-then-is_compatible g t c plain ok =
    rw (is_valid-only _ _ c.is_compatible.result c.is_compatible.ensures, c.if-is_compatible.true) (c.write_part.ensures plain ok)

pub write_text-returns-else-is_compatible : goal.write_text-returns-else-is_compatible
write_text-returns-else-is_compatible g t c plain ok =
    rw (is_valid-only _ _ c.is_compatible.result c.is_compatible.ensures, c.if-is_compatible.false) (c.write_invalid.ensures plain ok)

pub write_text-write_invalid-requires : goal.write_text-write_invalid-requires
write_text-write_invalid-requires g t c κs within =
    let u = type_of c.args.dtype.now in
    let v = lent_raw c.args.value in
    let invalid : is_valid u v ≡ false = is_valid-only u v c.is_compatible.result c.is_compatible.ensures ∙ c.if-is_compatible.false in
    search (rules, invalid)
