-- The type is of no logical type.
use Rattle.std.proofs.Common.{sym}
use Rattle.vortex_dtype.specs.TypeOf.{type_of}
use Rattle.filter_sql.proofs.WordLaws.{is_none}
use Rattle.filter_sql.proofs.literal_words.is_logical.Goals as goal

pub returns-in-None : goal.returns-in-None
returns-in-None c = sym (is_none c.shapes_say_types.ensures.says c.shapes_say_types.ensures.whole (type_of c.args.dtype.now) c.in-None.ensures.none)
