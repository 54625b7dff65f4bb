-- Which strings match a pattern of `like`, and of `ilike`.
use Rattle.std.specs.Prelude.{◌≡◌, ◌↔◌, ℕ, ◌&&◌, Bool, List, IsUtf8, encode_utf8_all, if◌then◌else◌}
use Rattle.std.specs.Str.{chars, is_utf8}
use Rattle.like_patterns.specs.declared.case.Case.{Case}
use Rattle.like_patterns.specs.declared.case.Case.TheVariants.{Sensitive}
use Rattle.like_patterns.specs.Patterns.{Part, is_like, leading}
use Rattle.vortex_dtype.specs.Parts.{is_utf8_type}
use Rattle.vortex_dtype.specs.TypeTree.{utf8_type}
use Rattle.vortex_dtype.specs.declared.nullability.Nullability.{Nullability}
use Rattle.vortex_dtype.specs.declared.nullability.Nullability.TheVariants.{NonNullable}
use Rattle.vortex_value.specs.Values.Content.{Content, text}
use Rattle.vortex_cells.specs.Cells.{Cell}
use Rattle.vortex_filter.specs.declared.truth.Truth.{Truth}
use Rattle.vortex_filter.specs.declared.truth.Truth.TheVariants.{True, Unknown}
use Rattle.vortex_filter.specs.Prefixes.{prefix_truth}
use Rattle.vortex_filter.specs.Truths.{truth_of}

-- whether the bytes are the UTF-8 of a string that the pattern matches
abbrev pub are_like : Case → List Part → List ℕ → Bool
are_like case parts bs = is_utf8 bs && is_like case parts (chars bs)

-- the same of a content: Unknown if it is no string
abbrev pub match_truth : Case → List Part → Content → Truth
match_truth case parts (text bs) = truth_of (are_like case parts bs)
match_truth case parts _ = Unknown

-- whether the cell matches the pattern: Unknown if it is null, or not of the type of strings
abbrev pub pattern_truth : Case → List Part → Cell → Truth
pattern_truth case parts x = if is_utf8_type x.typed then match_truth case parts x.content else Unknown

-- ---- laws

-- a string as a cell
abbrev pub string_cell : List ℕ → Cell
string_cell bs = record { typed = utf8_type NonNullable; content = text bs }

-- A string in UTF-8 matches a pattern as its characters do.
abbrev pub StringsMatch : Type 0
StringsMatch = (case : Case) (parts : List Part) (n : Nullability) (bs : List ℕ) → IsUtf8 bs
    → pattern_truth case parts (record { typed = utf8_type n; content = text bs }) ≡ truth_of (is_like case parts (chars bs))

-- A test for a pattern is Unknown of just the cells of which one for a string as a prefix is.
abbrev pub PatternsKnow : Type 0
PatternsKnow = (case : Case) (parts : List Part) (prefix : List ℕ) (x : Cell)
    → (pattern_truth case parts x ≡ Unknown) ↔ (prefix_truth x (string_cell prefix) ≡ Unknown)

-- What matches a pattern begins with the characters before its first `_` or `%`, if letters have a case.
abbrev pub PatternsBegin : Type 0
PatternsBegin = (parts : List Part) (x : Cell) → pattern_truth Sensitive parts x ≡ True
    → prefix_truth x (string_cell (encode_utf8_all (leading parts))) ≡ True
