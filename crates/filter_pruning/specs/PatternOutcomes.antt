-- What it can be that the strings of a zone match a pattern: by how what stands before its first wildcard stands to the bounds.
use Rattle.std.specs.Prelude.{ℕ, Bool, true, false, ◌&&◌, ◌||◌, not, List, [], ◌∷◌, encode_utf8_all, length, take, Option, Some, None, is_some, if◌then◌else◌}
use Rattle.std.specs.Cmp.Lexicographic.{slice_cmp}
use Rattle.std.specs.Ordering.{is_some_and, is_eq, is_gt, is_lt, nat_cmp}
use Rattle.std.specs.Str.{all_scalars}
use Rattle.std.specs.declared.cmp.Ordering.{Ordering}
use Rattle.like_patterns.specs.declared.case.Case.{Case}
use Rattle.like_patterns.specs.declared.case.Case.TheVariants.{Sensitive, Insensitive}
use Rattle.like_patterns.specs.Patterns.{Part, literal, any_character, any_string, leading}
use Rattle.vortex_dtype.specs.Parts.{is_utf8_type}
use Rattle.vortex_value.specs.Values.Content.{Content, text}
use Rattle.vortex_cells.specs.Cells.{Cell}
use Rattle.vortex_statistics.specs.Statistics.{Known, KnownBound, may_be_null, may_be_value}
use Rattle.filter_pruning.specs.declared.outcomes.Outcomes.{Outcomes}
use Rattle.filter_pruning.specs.Orders.{rules_out}
use Rattle.filter_pruning.specs.OutcomeSets.{any}

-- ---- patterns

-- whether the pattern has neither `_` nor `%`
abbrev pub has_no_wildcard : List Part → Bool
has_no_wildcard [] = true
has_no_wildcard (literal c ∷ parts) = has_no_wildcard parts
has_no_wildcard (any_character ∷ parts) = false
has_no_wildcard (any_string ∷ parts) = false

-- whether the pattern is one string
abbrev pub is_exact : List Part → Bool
is_exact parts = has_no_wildcard parts && all_scalars (leading parts)

-- the same, if letters have a case
abbrev pub is_whole : Case → List Part → Bool
is_whole Sensitive parts = is_exact parts
is_whole Insensitive parts = false

-- the bytes that all begins with which matches the pattern: of what stands before the first wildcard, if letters have a case
abbrev pub front : Case → List Part → List ℕ
front Sensitive parts = encode_utf8_all (leading parts)
front Insensitive parts = []

-- ---- bounds

-- what the front is compared with: all of the bytes if it is the whole pattern, and else as many
abbrev pub compared_bytes : Bool → List ℕ → List ℕ → List ℕ
compared_bytes true p bs = bs
compared_bytes false p bs = take (length p) bs

-- how the front stands to that, if the content is a string
abbrev pub content_front_order : Bool → List ℕ → Content → Option Ordering
content_front_order whole p (text bs) = Some (slice_cmp nat_cmp p (compared_bytes whole p bs))
content_front_order whole p _ = None

-- the same of a cell
abbrev pub cell_front_order : Bool → List ℕ → Cell → Option Ordering
cell_front_order whole p x = if is_utf8_type x.typed then content_front_order whole p x.content else None

-- the same of a bound; `None` if it is not there
abbrev pub bound_front_order : Bool → List ℕ → Option KnownBound → Option Ordering
bound_front_order whole p None = None
bound_front_order whole p (Some b) = cell_front_order whole p b.value

-- ---- outcomes

-- Never: no value is a string. The orders say how the front stands to the bounds. No string matches if the front is below what
-- it is compared with of the lower bound, or above that of the upper one. Each matches if the front is the whole pattern, and
-- both bounds.
abbrev pub pattern_outcomes_by : Bool → Bool → Bool → Bool → Option Ordering → Option Ordering → Outcomes
pattern_outcomes_by whole has_nulls has_values never lower upper = record {
  may_be_false = has_values && not (never || (whole && (is_some_and is_eq lower && is_some_and is_eq upper)));
  may_be_unknown = has_nulls || (has_values && not (is_some lower || is_some upper));
  may_be_true = has_values && not (never || (is_some_and is_lt lower || is_some_and is_gt upper));
}

-- whether no value is a string, since a bound without parts is none
abbrev pub never_matches : Bool → List ℕ → Known → Bool
never_matches whole p s = rules_out s.lower (bound_front_order whole p s.lower) || rules_out s.upper (bound_front_order whole p s.upper)

-- a test for a pattern with this front
abbrev pub front_outcomes : Bool → List ℕ → Known → Outcomes
front_outcomes whole p s =
    pattern_outcomes_by whole (may_be_null s) (may_be_value s) (never_matches whole p s) (bound_front_order whole p s.lower) (bound_front_order whole p s.upper)

-- a test for a pattern; of the column nothing may be known
abbrev pub pattern_outcomes : Option Known → Case → List Part → Outcomes
pattern_outcomes None case parts = any
pattern_outcomes (Some s) case parts = front_outcomes (is_whole case parts) (front case parts) s
