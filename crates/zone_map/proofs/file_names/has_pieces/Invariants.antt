-- What is left of the text is text.
use denote.Text.{Utf8}
use denote.Shadow.{shadow}
use Rattle.zone_map.proofs.file_names.has_pieces.Given as goal

abbrev pub invariant-loop-piece : goal.invariant-loop-piece
invariant-loop-piece l =
    (goal.iterator-loop-piece).can_next l.piece-iterator
    × (goal.iterator-loop-piece).is_finite l.piece-iterator
    × shadow (Utf8 l.rest)
