use Rattle.std.proofs.lemmas.Cmp.{on_equiv}
use Rattle.vortex_value.specs.Values.Content.{content, typed}
use Rattle.vortex_value.specs.Lemmas.EqualityLaws.{equal-equiv, equality_is_an_equivalence}
use Rattle.vortex_value.specs.Values.RawOf.{union_tree, value_tree}
use Rattle.vortex_value.specs.Values.Refs.{ref_content, ref_type}
use Rattle.vortex_value.specs.Values.Scalars.{scalar_content, scalar_type}
use Rattle.vortex_value.proofs.laws.equality_is_an_equivalence.Goals as goal

pub returns-clause-contents : goal.returns-clause-contents
returns-clause-contents c = equality_is_an_equivalence

pub returns-clause-values : goal.returns-clause-values
returns-clause-values c = on_equiv (λ v. content (value_tree v)) equal-equiv

pub returns-clause-unions : goal.returns-clause-unions
returns-clause-unions c = on_equiv (λ u. content (union_tree u)) equal-equiv

pub returns-clause-scalars : goal.returns-clause-scalars
returns-clause-scalars c = on_equiv (λ x. typed (scalar_type x) (scalar_content x)) equal-equiv

pub returns-clause-borrowed : goal.returns-clause-borrowed
returns-clause-borrowed c = on_equiv (λ x. typed (ref_type x) (ref_content x)) equal-equiv
