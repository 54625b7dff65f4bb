use Rattle.vortex_value.specs.Values.Content.{content}
use Rattle.vortex_value.specs.Lemmas.EqualityLaws.{equal-Decides, typed_equal-Decides}
use Rattle.vortex_value.specs.Values.RawOf.{union_tree, value_tree}
use Rattle.vortex_value.specs.Values.Refs.{ref_content, ref_type}
use Rattle.vortex_value.specs.Values.Scalars.{scalar_content, scalar_type}
use Rattle.vortex_value.proofs.laws.equality.Goals as goal

pub returns-clause-values : goal.returns-clause-values
returns-clause-values c = λ x y. equal-Decides (content (value_tree x)) (content (value_tree y))

pub returns-clause-unions : goal.returns-clause-unions
returns-clause-unions c = λ x y. equal-Decides (content (union_tree x)) (content (union_tree y))

pub returns-clause-scalars : goal.returns-clause-scalars
returns-clause-scalars c = λ x y. typed_equal-Decides (scalar_type x) (scalar_type y) (scalar_content x) (scalar_content y)

pub returns-clause-borrowed : goal.returns-clause-borrowed
returns-clause-borrowed c = λ x y. typed_equal-Decides (ref_type x) (ref_type y) (ref_content x) (ref_content y)
