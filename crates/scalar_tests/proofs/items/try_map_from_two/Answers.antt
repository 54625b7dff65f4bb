use Rattle.vortex_value.specs.Lemmas.ItemLaws.{all_given}
use Rattle.vortex_value.specs.Makers.{IsValidEntry}
use Rattle.scalar_tests.proofs.items.try_map_from_two.Goals as goal

pub try_map-made-requires : goal.try_map-made-requires
try_map-made-requires g c = λ it given. (tt, tt, λ run trigger from. all_given IsValidEntry (λ s x t step. step) run)
