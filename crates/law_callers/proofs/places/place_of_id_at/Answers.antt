-- What the law says of the id at the place.
use Rattle.std.proofs.Common.{◌∙◌}
use Rattle.law_callers.proofs.places.place_of_id_at.Goals as goal

pub returns : goal.returns
returns c = c.tag_to_child_index.ensures ∙ (c.places_are_inverse.ensures _ _ _ c.requires.distinct).0 c.child_index_to_tag.ensures
