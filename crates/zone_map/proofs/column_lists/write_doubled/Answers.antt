use Rattle.std.proofs.Common.{sym, ◌∙◌, ap, arith}
use Rattle.std.proofs.Output.{has_written_of_eq}
use Rattle.std.proofs.lemmas.Iterator.{YieldsList-from_chars}
use Rattle.std.proofs.lemmas.Iterator.Consumers.{YieldsList-end}
use Rattle.std.proofs.lemmas.List.{map-id}
use Rattle.std.specs.List.{flat_map}
use Rattle.filter_sql.specs.Pieces.{quotable}
use Rattle.filter_sql.proofs.Characters.{doubled_characters}
use Rattle.zone_map.proofs.column_lists.write_doubled.Goals as goal

pub returns : goal.returns
returns g c plain ok =
    let end = YieldsList-end (YieldsList-from_chars c.args.name.now c.utf8.name cc) c.loop-letter.yielded _ c.loop-letter.yielded_by _ _ c.in-None.is c.next.ensures.steps in
    has_written_of_eq _ _ _ _ _ (ap (flat_map (quotable 34)) (sym (map-id c.loop-letter.yielded) ∙ end.0) ∙ doubled_characters 34 c.args.name.now (omega arith) c.utf8.name) (c.loop-letter.invariant plain)
