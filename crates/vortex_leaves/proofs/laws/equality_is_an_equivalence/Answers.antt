use Rattle.vortex_leaves.specs.ViewLaws.{view_equiv}
use Rattle.vortex_leaves.specs.ViewWords.{bool_view_content, bool_view_type, bytes_view_content, bytes_view_type, number_view_content, number_view_type, text_view_content, text_view_type}
use Rattle.vortex_leaves.proofs.laws.equality_is_an_equivalence.Goals as goal

pub returns-clause-truths : goal.returns-clause-truths
returns-clause-truths c = view_equiv bool_view_type bool_view_content

pub returns-clause-strings : goal.returns-clause-strings
returns-clause-strings c = view_equiv text_view_type text_view_content

pub returns-clause-bytes : goal.returns-clause-bytes
returns-clause-bytes c = view_equiv bytes_view_type bytes_view_content

pub returns-clause-integers : goal.returns-clause-integers
returns-clause-integers c = view_equiv number_view_type number_view_content
