-- SQL's three truth values.
use Rattle.std.specs.Prelude.{Bool, true, false}
use Rattle.vortex_filter.specs.declared.truth.Truth.{Truth}
use Rattle.vortex_filter.specs.declared.truth.Truth.TheVariants.{False, Unknown, True}

-- True or False
abbrev pub truth_of : Bool → Truth
truth_of true = True
truth_of false = False

-- False if one of the two is, else Unknown if one is
abbrev pub truth_and : Truth → Truth → Truth
truth_and False _ = False
truth_and _ False = False
truth_and True True = True
truth_and _ _ = Unknown

-- True if one of the two is, else Unknown if one is
abbrev pub truth_or : Truth → Truth → Truth
truth_or True _ = True
truth_or _ True = True
truth_or False False = False
truth_or _ _ = Unknown

abbrev pub truth_not : Truth → Truth
truth_not False = True
truth_not Unknown = Unknown
truth_not True = False

-- whether a row of this truth matches: not if it is Unknown
abbrev pub is_true : Truth → Bool
is_true True = true
is_true _ = false
