use Rattle.vortex_value.specs.Lemmas.ItemLaws.{all_given}
use Rattle.vortex_value.specs.Values.Scalars.{IsValid}
use Rattle.scalar_tests.proofs.items.struct_from_two.Goals as goal

pub struct_-made-requires : goal.struct_-made-requires
struct_-made-requires g c = λ it given. (tt, tt, λ run trigger from. all_given IsValid (λ s x t step. step) run)
