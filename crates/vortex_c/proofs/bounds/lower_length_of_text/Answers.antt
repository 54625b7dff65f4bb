use Rattle.vortex_c.proofs.Beginnings.{text_lower_or_whole}
use Rattle.vortex_c.proofs.bounds.lower_length_of_text.Goals as goal

pub returns-clause-bound : goal.returns-clause-bound
returns-clause-bound c =
    let f = c.floor_char_boundary.ensures in
    text_lower_or_whole c.args.text.now c.args.max_length c.floor_char_boundary.result c.utf8.text f.bound f.boundary f.nearest
