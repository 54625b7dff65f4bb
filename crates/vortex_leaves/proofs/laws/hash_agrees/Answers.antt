use Rattle.vortex_leaves.specs.ViewWords.{bool_view_content, bool_view_type, bytes_view_content, bytes_view_type, number_view_content, number_view_type, text_view_content, text_view_type}
use Rattle.vortex_leaves.specs.ViewLaws.{view_alike}
use Rattle.vortex_leaves.proofs.laws.hash_agrees.Goals as goal

pub returns-clause-truths : goal.returns-clause-truths
returns-clause-truths c = (view_alike bool_view_type bool_view_content).fed

pub returns-clause-strings : goal.returns-clause-strings
returns-clause-strings c = (view_alike text_view_type text_view_content).fed

pub returns-clause-bytes : goal.returns-clause-bytes
returns-clause-bytes c = (view_alike bytes_view_type bytes_view_content).fed

pub returns-clause-integers : goal.returns-clause-integers
returns-clause-integers c = (view_alike number_view_type number_view_content).fed
