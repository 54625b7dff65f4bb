use Rattle.std.proofs.Common.{◌≡◌, true, rules, ◌∙◌}
use Rattle.vortex_dtype.specs.Parts.{is_utf8_type}
use Rattle.vortex_value.specs.Values.Scalars.{scalar_type}
use Rattle.vortex_value.specs.declared.values.ScalarValue.{Utf8}
use Rattle.vortex_filter.proofs.PatternLaws.{match_said, text_held}
use Rattle.vortex_filter.proofs.pattern.truth_of_match.Goals as goal

pub returns-in-Some-Utf8 : goal.returns-in-Some-Utf8
returns-in-Some-Utf8 c =
    let typed : is_utf8_type (scalar_type c.args.value.now) ≡ true = search rules in
    let held : c.in-Some-Utf8.field-0.now ≡ Utf8 c.as_str.result.now = search rules in
    c.of.ensures ∙ match_said c.args.case c.args.pattern.now c.args.value.now c.as_str.result.now c.is_match.result typed
    (text_held c.args.value.now c.value.result c.in-Some-Utf8.field-0 c.as_str.result.now c.value.ensures c.in-Some-Utf8.is held) c.as_str.utf8 c.is_match.ensures
