use Rattle.vortex_value.specs.Lemmas.ItemLaws.{all_given}
use Rattle.vortex_value.specs.Makers.{IsValidEntry}
use Rattle.scalar_tests.proofs.items.map_from_two.Goals as goal

pub map-made-requires : goal.map-made-requires
map-made-requires g c = λ it given. (tt, tt, λ run trigger from. all_given IsValidEntry (λ s x t step. step) run)
