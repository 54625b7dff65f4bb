-- Kinds by their codes.
use Rattle.std.specs.Prelude.{Option}
use Rattle.arrow_columns.specs.Kinds.{kind_with}
use Rattle.arrow_columns.specs.declared.kinds.Kind.{Kind}
use Rattle.column_items.specs.declared.codes.KindCode.{KindCode}

-- the kind with a code, and of decimals with a precision and a scale
abbrev pub kind_of_code : KindCode → Option Kind
kind_of_code c = kind_with c.code c.precision c.scale
