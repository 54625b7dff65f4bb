-- The order of the keys is that of the contents.
use Rattle.std.proofs.Common.{nat_cmp, ap₂, ◌∙◌}
use Rattle.std.specs.Cmp.Lexicographic.{slice_cmp}
use Rattle.law_callers.proofs.KeySteps.{by_key-is}
use Rattle.law_callers.proofs.keyed.Keyed.compare.Goals as goal

pub returns : goal.returns
returns c =
    c.compare_keys.ensures ∙ ap₂ (slice_cmp nat_cmp) c.as_slice.ensures.value c.as_slice-2.ensures.value
    ∙ by_key-is c.keys_are_ordered.ensures c.args.self.now c.args.other.now
