use Rattle.std.proofs.Common.{◌≡◌}
use Rattle.std.specs.List.{flat_map}
use Rattle.std.specs.Str.{encode_utf8_all}
use Rattle.vortex_value.specs.Texts.{escaped_char}
use Rattle.vortex_value.proofs.display.leaves.are_kept.Given as goal

abbrev pub invariant-loop-character : goal.invariant-loop-character
invariant-loop-character l = flat_map escaped_char l.yielded ≡ encode_utf8_all l.yielded
