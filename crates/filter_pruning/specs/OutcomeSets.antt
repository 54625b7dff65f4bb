-- Sets of truth values.
use Rattle.std.specs.Prelude.{Bool, true, false, ◌&&◌, ◌||◌, not}
use Rattle.filter_pruning.specs.declared.outcomes.Outcomes.{Outcomes}
use Rattle.vortex_filter.specs.declared.truth.Truth.{Truth}
use Rattle.vortex_filter.specs.declared.truth.Truth.TheVariants.{False, Unknown, True}

-- whether t is possible
abbrev pub allows : Outcomes → Truth → Bool
allows o False = o.may_be_false
allows o Unknown = o.may_be_unknown
allows o True = o.may_be_true

abbrev pub any : Outcomes
any = record { may_be_false = true; may_be_unknown = true; may_be_true = true }

abbrev pub only : Truth → Outcomes
only False = record { may_be_false = true; may_be_unknown = false; may_be_true = false }
only Unknown = record { may_be_false = false; may_be_unknown = true; may_be_true = false }
only True = record { may_be_false = false; may_be_unknown = false; may_be_true = true }

-- whether nothing but True is possible
abbrev pub is_only_true : Outcomes → Bool
is_only_true o = not (o.may_be_false || o.may_be_unknown)

-- what two filters are together, by And
abbrev pub outcomes_and : Outcomes → Outcomes → Outcomes
outcomes_and a b = record {
  may_be_false = a.may_be_false || b.may_be_false;
  may_be_unknown = (a.may_be_unknown && (b.may_be_unknown || b.may_be_true)) || (a.may_be_true && b.may_be_unknown);
  may_be_true = a.may_be_true && b.may_be_true;
}

-- what two filters are together, by Or
abbrev pub outcomes_or : Outcomes → Outcomes → Outcomes
outcomes_or a b = record {
  may_be_false = a.may_be_false && b.may_be_false;
  may_be_unknown = (a.may_be_unknown && (b.may_be_unknown || b.may_be_false)) || (a.may_be_false && b.may_be_unknown);
  may_be_true = a.may_be_true || b.may_be_true;
}

abbrev pub outcomes_not : Outcomes → Outcomes
outcomes_not a = record { may_be_false = a.may_be_true; may_be_unknown = a.may_be_unknown; may_be_true = a.may_be_false }
