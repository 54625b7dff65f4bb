-- What is hashed and inserted of a value.
use Rattle.std.proofs.Common.{◌≡◌, refl}
use Rattle.vortex_value.specs.Values.Content.{content}
use Rattle.vortex_value.specs.Values.RawTree.{RawTree, absent, is_absent}
use Rattle.vortex_value.specs.Values.Refs.{ref_raw}
use Rattle.vortex_value.specs.declared.refs.ScalarRef.{ScalarRef}
use Rattle.vortex_cells.specs.Cells.{cell_of_ref, is_null_cell, is_null_content}

raw_null : (v : RawTree) → is_null_content (content v) ≡ is_absent v
raw_null absent = refl
raw_null _ = refl

-- whether a borrowed scalar is null
pub ref_null : (x : ScalarRef) → is_null_cell (cell_of_ref x) ≡ is_absent (ref_raw x)
ref_null x = raw_null (ref_raw x)
