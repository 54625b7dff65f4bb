-- The request that a parsed command makes.
use Rattle.std.specs.Prelude.{Option, None, Some}
use Rattle.vortex_pvalue.specs.Whole.{ptype_of, whole_of}
use Rattle.rows.specs.Grammar.{Request, cast, bound_request, hex_named}
use Rattle.rows.specs.declared.commands.Command.{Command}
use Rattle.rows.specs.declared.commands.Command.TheVariants.{Cast, Bound}

-- the request that the command is, if its digits represent bytes
abbrev pub request_of : Command → Option Request
request_of (Cast number to) = Some (cast (ptype_of number) (whole_of number) to)
request_of (Bound side length digits) = bound_request side (Some length) (hex_named digits.now)

-- the request of the command, if there is one
abbrev pub asked_by : Option Command → Option Request
asked_by None = None
asked_by (Some command) = request_of command
