-- Where the faults of a text are.
use Rattle.std.specs.Prelude.{ℕ, ◌≤◌, Option, Some, None, IfSome}
use Rattle.filter_sql.specs.declared.error.ParseError.{ParseError}
use Rattle.filter_sql.specs.declared.error.ParseError.TheVariants.{OutOfMemory, Expected, NoColumn, TypesDiffer, NoLiteral, NumberTooLong, BadText, TooDeep}

-- the offset of a fault, if it has one
abbrev pub place_of : ParseError → Option ℕ
place_of OutOfMemory = None
place_of (Expected place expected) = Some place
place_of (NoColumn place) = Some place
place_of (TypesDiffer place) = Some place
place_of (NoLiteral place) = Some place
place_of (NumberTooLong place) = Some place
place_of (BadText place) = Some place
place_of (TooDeep place) = Some place

-- the fault lies in a text of this length or right behind it, or is no fault of the text
abbrev pub IsPlaced : ℕ → ParseError → Type 0
IsPlaced end e = IfSome (place_of e) (λ place. place ≤ end)
