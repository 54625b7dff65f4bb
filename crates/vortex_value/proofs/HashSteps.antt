-- Steps of the hash of raw values: how many places a tuple has.
use Rattle.std.proofs.Common.{◌≡◌, suc, List, [], ◌∷◌, length, Option, refl, ap}
use Rattle.vortex_value.specs.Values.Content.{contents}
use Rattle.vortex_value.specs.Hashing.{place_count}
use Rattle.vortex_value.specs.Values.RawOf.{value_trees}
use Rattle.vortex_value.specs.declared.values.ScalarValue.{ScalarValue}
use Rattle.vortex_value.proofs.ValueSteps.{value_tree-Tuple, value_tree-Union, value_tree-Variant, variant_tree-parts, union_tree-parts}

pub place_count-value_trees : (vs : List (Option ScalarValue)) → place_count (contents (value_trees vs)) ≡ length vs
place_count-value_trees [] = refl
place_count-value_trees (v ∷ vs) = ap suc (place_count-value_trees vs)

pub ruleset shown = (place_count-value_trees, value_tree-Tuple, value_tree-Union, value_tree-Variant, variant_tree-parts, union_tree-parts)
