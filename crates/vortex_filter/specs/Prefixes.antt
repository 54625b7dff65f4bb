-- Which strings and bytes begin with a prefix.
use Rattle.std.specs.Prelude.{nat_eq, Bool, length, take, Option, Some, None, if◌then◌else◌}
use Rattle.std.specs.Cmp.Lexicographic.{slice_cmp}
use Rattle.std.specs.List.{starts_with}
use Rattle.std.specs.Ordering.{nat_cmp}
use Rattle.std.specs.declared.cmp.Ordering.{Ordering}
use Rattle.vortex_value.specs.Equality.{same_type}
use Rattle.vortex_value.specs.Values.Content.{Content, text, string}
use Rattle.vortex_cells.specs.Cells.{Cell}
use Rattle.vortex_filter.specs.declared.truth.Truth.{Truth}
use Rattle.vortex_filter.specs.declared.truth.Truth.TheVariants.{Unknown}
use Rattle.vortex_filter.specs.Truths.{truth_of}

-- whether the first content begins with the second, if both are strings or both bytes
abbrev pub begins : Content → Content → Option Bool
begins (text bs) (text p) = Some (starts_with nat_eq bs p)
begins (string bs) (string p) = Some (starts_with nat_eq bs p)
begins _ _ = None

-- the same of two cells, if their types are the same up to nullability
abbrev pub cell_begins : Cell → Cell → Option Bool
cell_begins x p = if same_type x.typed p.typed then begins x.content p.content else None

abbrev pub begins_truth : Option Bool → Truth
begins_truth None = Unknown
begins_truth (Some b) = truth_of b

-- whether the cell begins with the prefix: Unknown if one of them is null, or neither a string nor bytes
abbrev pub prefix_truth : Cell → Cell → Truth
prefix_truth x p = begins_truth (cell_begins x p)

-- how the prefix stands to as many bytes of the beginning, if both are strings or both bytes
abbrev pub prefix_order : Content → Content → Option Ordering
prefix_order (text bs) (text p) = Some (slice_cmp nat_cmp p (take (length p) bs))
prefix_order (string bs) (string p) = Some (slice_cmp nat_cmp p (take (length p) bs))
prefix_order _ _ = None

-- the same of a cell and a prefix, if their types are the same up to nullability
abbrev pub cell_prefix_order : Cell → Cell → Option Ordering
cell_prefix_order x p = if same_type x.typed p.typed then prefix_order x.content p.content else None
