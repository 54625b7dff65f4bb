use Rattle.vortex_value.specs.Lemmas.EqualityLaws.{typed_equal-Decides}
use Rattle.vortex_leaves.specs.ViewWords.{bool_view_content, bool_view_type, bytes_view_content, bytes_view_type, number_view_content, number_view_type, text_view_content, text_view_type}
use Rattle.vortex_leaves.proofs.laws.equality.Goals as goal

pub returns-clause-truths : goal.returns-clause-truths
returns-clause-truths c = λ x y. typed_equal-Decides (bool_view_type x) (bool_view_type y) (bool_view_content x) (bool_view_content y)

pub returns-clause-strings : goal.returns-clause-strings
returns-clause-strings c = λ x y. typed_equal-Decides (text_view_type x) (text_view_type y) (text_view_content x) (text_view_content y)

pub returns-clause-bytes : goal.returns-clause-bytes
returns-clause-bytes c = λ x y. typed_equal-Decides (bytes_view_type x) (bytes_view_type y) (bytes_view_content x) (bytes_view_content y)

pub returns-clause-integers : goal.returns-clause-integers
returns-clause-integers c = λ x y. typed_equal-Decides (number_view_type x) (number_view_type y) (number_view_content x) (number_view_content y)
