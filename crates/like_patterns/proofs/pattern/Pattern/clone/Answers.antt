-- The copies are of the same shapes, so they are the same parts, and in runs.
use Rattle.std.proofs.Common.{◌∙◌, ap, map}
use Rattle.like_patterns.specs.declared.case.Case.TheVariants.{Sensitive}
use Rattle.like_patterns.specs.Pieces.{parts_of, piece_shape}
use Rattle.like_patterns.proofs.Copying.{same_parts, same_runs}
use Rattle.like_patterns.proofs.pattern.Pattern.clone.Goals as goal

pub invariant_of-result : goal.invariant_of-result
invariant_of-result c = same_runs c.in_ok-pieces.pieces.items c.self.inside.pieces.items (c.in_ok-pieces.ensures ∙ ap (map piece_shape) c.deref.ensures.value) c.self.invariant

pub returns : goal.returns
returns c = same_parts c.in_ok-pieces.pieces.items c.self.inside.pieces.items (c.in_ok-pieces.ensures ∙ ap (map piece_shape) c.deref.ensures.value) ∙ c.self.view_is
