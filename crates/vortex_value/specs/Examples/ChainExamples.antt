-- Worked cases of chains and of leaves, each a theorem. Types, values and contents are written in the words of
-- ValueExamples.
use Rattle.std.specs.Prelude.{[], ◌∷◌, refl, codes}
use Rattle.vortex_value.specs.CastAnswers.{IsLeaf}
use Rattle.vortex_value.specs.Casts.{a_null, integers, structs}
use Rattle.vortex_value.specs.Chains.{Runs}
use Rattle.vortex_value.specs.Values.Content.{null, text, tagged, typed}
use Rattle.vortex_value.specs.Values.RawTree.{absent}
use Rattle.vortex_value.specs.Examples.ValueExamples.{i32, boolean, u32, or_null, a_and_b, unsorted_map, sorted_map, tuple, int, parts, number, i32_valid}

-- A null of an unsorted map becomes one of a sorted map by way of truth values, with a number beside it. The direct cast
-- is refused, since the maps would come to be sorted.
pub null_of_a_map_by_way_of_booleans : Runs (a_and_b unsorted_map i32) (tuple (absent ∷ int 7 ∷ [])) (a_and_b (or_null boolean) i32) (a_and_b sorted_map i32 ∷ []) (tuple (absent ∷ int 7 ∷ []))
null_of_a_map_by_way_of_booleans = record {
  starts = (refl, (i32_valid 7 tt, tt));
  ends = (refl, (i32_valid 7 tt, tt));
  same = refl;
  steps = (
    structs (a_null tt (λ h. h), (integers tt tt, tt)),
    record { value = tuple (absent ∷ int 7 ∷ []); valid = (refl, (i32_valid 7 tt, tt)); same = refl },
    (structs (a_null tt (λ h. h), (integers tt tt, tt)), record { value = tuple (absent ∷ int 7 ∷ []); valid = (refl, (i32_valid 7 tt, tt)); same = refl }, tt),
  );
}

-- leaves: nulls, strings, variants that hold anything, and unions that hold a leaf
pub leaves : IsLeaf null × IsLeaf (text (codes "a")) × IsLeaf (typed u32 (parts [])) × IsLeaf (tagged 5 (tagged 9 (number 1)))
leaves = (tt, tt, tt, tt)

pub sequences_are_no_leaves : ¬ (IsLeaf (parts [])) × ¬ (IsLeaf (tagged 5 (parts (number 1 ∷ []))))
sequences_are_no_leaves = ((λ h. h), (λ h. h))
