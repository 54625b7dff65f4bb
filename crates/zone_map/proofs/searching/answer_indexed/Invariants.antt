-- The lines have the front that is given.
use Rattle.zone_map.proofs.searching.answer_indexed.Given as goal

abbrev pub ghosts-write_lines : goal.ghosts-write_lines
ghosts-write_lines g a = record { text = a.front.text.items; has_number = a.front.has_number }
