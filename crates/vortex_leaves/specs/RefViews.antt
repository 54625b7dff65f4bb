-- What contracts say of views that hold a borrowed scalar.
use Rattle.std.specs.Prelude.{◌&&◌, ℕ, Bool, List, Option, Result}
use Rattle.std.specs.Cmp.Lexicographic.{slice_cmp}
use Rattle.std.specs.Hash.{HashWrites}
use Rattle.std.specs.Option.{option_cmp}
use Rattle.std.specs.Ordering.{nat_cmp, on}
use Rattle.std.specs.declared.cmp.Ordering.{Ordering}
use Rattle.vortex_dtype.specs.TypeTree.{TypeTree}
use Rattle.vortex_dtype.specs.declared.error.VortexError.{VortexError}
use Rattle.vortex_value.specs.Equality.{equal, same_type}
use Rattle.vortex_value.specs.Hashing.{typed_feed}
use Rattle.vortex_value.specs.Texts.{text_of}
use Rattle.vortex_value.specs.Values.RawTree.{RawTree}
use Rattle.vortex_value.specs.Values.Refs.{IsRefOf, IsValidRef, ref_content, ref_raw, ref_type}
use Rattle.vortex_value.specs.declared.refs.ScalarRef.{ScalarRef}
use Rattle.vortex_leaves.specs.Leaves.{AnswersView, bytes_in}

-- r answers a call that views a value of a type, by a view that holds them as a borrowed scalar
abbrev pub AnswersRefView : {X : Type 0} → (X → ScalarRef) → (TypeTree → Bool) → TypeTree → RawTree → Result X VortexError → Type 0
AnswersRefView held = AnswersView (λ t v x. IsRefOf t v (held x)) (λ x. IsValidRef (held x))

-- the types are the same up to nullability, and the contents equal
abbrev pub ref_equal : ScalarRef → ScalarRef → Bool
ref_equal x y = same_type (ref_type x) (ref_type y) && equal (ref_content x) (ref_content y)

-- what a borrowed scalar feeds a hasher
abbrev pub ref_feed : ScalarRef → HashWrites
ref_feed x = typed_feed (ref_type x) (ref_content x)

-- what a borrowed scalar prints
abbrev pub ref_text : ScalarRef → List ℕ
ref_text x = text_of (ref_type x) (ref_raw x)

-- the bytes of a borrowed string, or those that a borrowed scalar of bytes holds; a null has none
abbrev pub ref_bytes : ScalarRef → Option (List ℕ)
ref_bytes x = bytes_in (ref_raw x)

-- a null is below all others, and the others go by their bytes, a proper beginning below
abbrev pub bytes_cmp : ScalarRef → ScalarRef → Ordering
bytes_cmp = on ref_bytes (option_cmp (slice_cmp nat_cmp))
