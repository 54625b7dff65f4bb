-- The laws of the order of views of strings and of bytes, which both go by their bytes. They stand here because trait
-- implementations cite them.
use Rattle.std.proofs.Common.{◌≡◌, ◌&&◌, ◌||◌, Bool, true, false, Some, refl}
use Rattle.std.specs.Cmp.Lexicographic.{slice_cmp, nat_list_cmp_total, texts_ties}
use Rattle.std.specs.Option.{option_cmp}
use Rattle.std.specs.Ordering.{nat_cmp, is_eq}
use Rattle.vortex_dtype.specs.Parts.{is_binary_type, is_utf8_type}
use Rattle.vortex_dtype.specs.TypeTree.{TypeTree, binary_type, utf8_type, erase}
use Rattle.vortex_dtype.specs.declared.nullability.Nullability.TheVariants.{NonNullable}
use Rattle.vortex_value.specs.Equality.{equal, same_type}
use Rattle.vortex_value.specs.Order.{order}
use Rattle.vortex_value.specs.Values.Content.{content}
use Rattle.vortex_value.specs.Values.RawTree.{RawTree, absent, raw_text, raw_bytes}
use Rattle.vortex_value.specs.Values.Refs.{ref_content, ref_raw, ref_type}
use Rattle.vortex_value.specs.declared.refs.ScalarRef.{ScalarRef}
use Rattle.vortex_leaves.specs.LeafOrders.{IsPartOrder, part_order}
use Rattle.vortex_leaves.specs.Leaves.{bytes_in, may_be_bytes, may_be_text}
use Rattle.vortex_leaves.specs.RefViews.{ref_bytes}
use Rattle.vortex_leaves.specs.TextViews.{bytes_ref, text_ref}
use Rattle.vortex_leaves.specs.declared.binary.BinaryScalar.{BinaryScalar}
use Rattle.vortex_leaves.specs.declared.utf8.Utf8Scalar.{Utf8Scalar}

-- both are null or a string, or both null or bytes
abbrev are_alike : RawTree → RawTree → Bool
are_alike v w = (may_be_text v && may_be_text w) || (may_be_bytes v && may_be_bytes w)

or_true : (b : Bool) → (b || true) ≡ true
or_true true = refl
or_true false = refl

strings_alike : (v w : RawTree) → may_be_text v ≡ true → may_be_text w ≡ true → are_alike v w ≡ true
strings_alike v w g h = rw (g, h)

bytes_alike : (v w : RawTree) → may_be_bytes v ≡ true → may_be_bytes w ≡ true → are_alike v w ≡ true
bytes_alike v w g h = rw (g, h) (or_true (may_be_text v && may_be_text w))

order_of_contents : (v w : RawTree) → are_alike v w ≡ true → order (content v) (content w) ≡ Some (option_cmp (slice_cmp nat_cmp) (bytes_in v) (bytes_in w))
order_of_contents absent absent h = refl
order_of_contents absent (raw_text c) h = refl
order_of_contents absent (raw_bytes c) h = refl
order_of_contents (raw_text b) absent h = refl
order_of_contents (raw_text b) (raw_text c) h = refl
order_of_contents (raw_bytes b) absent h = refl
order_of_contents (raw_bytes b) (raw_bytes c) h = refl
order_of_contents _ _ h = cc

equality_of_contents : (v w : RawTree) → are_alike v w ≡ true → equal (content v) (content w) ≡ is_eq (option_cmp (slice_cmp nat_cmp) (bytes_in v) (bytes_in w))
equality_of_contents absent absent h = refl
equality_of_contents absent (raw_text c) h = refl
equality_of_contents absent (raw_bytes c) h = refl
equality_of_contents (raw_text b) absent h = refl
equality_of_contents (raw_text b) (raw_text c) h = texts_ties b c
equality_of_contents (raw_bytes b) absent h = refl
equality_of_contents (raw_bytes b) (raw_bytes c) h = texts_ties b c
equality_of_contents _ _ h = cc

-- views that hold borrowed scalars of one type up to nullability, whose raw values are alike, are ordered as their bytes are
by_bytes : {X : Type 0} (viewed : X → ScalarRef)
    → ((x y : X) → same_type (ref_type (viewed x)) (ref_type (viewed y)) ≡ true) → ((x y : X) → are_alike (ref_raw (viewed x)) (ref_raw (viewed y)) ≡ true)
    → IsPartOrder (λ (x : X). ref_type (viewed x)) (λ (x : X). ref_content (viewed x)) (λ (x : X). ref_bytes (viewed x)) (slice_cmp nat_cmp)
by_bytes viewed one_type alike = part_order (record {
  total = nat_list_cmp_total;
  one_type = one_type;
  ordered = λ x y. order_of_contents (ref_raw (viewed x)) (ref_raw (viewed y)) (alike x y);
  tied = λ x y. equality_of_contents (ref_raw (viewed x)) (ref_raw (viewed y)) (alike x y);
})

-- types of strings, and types of bytes, are the same up to nullability
erased_string : (t : TypeTree) → is_utf8_type t ≡ true → erase t ≡ utf8_type NonNullable
erased_string (utf8_type n) h = refl
erased_string _ h = cc

same_strings : (s t : TypeTree) → is_utf8_type s ≡ true → is_utf8_type t ≡ true → same_type s t ≡ true
same_strings s t g h = rw (erased_string s g, erased_string t h)

erased_bytes : (t : TypeTree) → is_binary_type t ≡ true → erase t ≡ binary_type NonNullable
erased_bytes (binary_type n) h = refl
erased_bytes _ h = cc

same_bytes : (s t : TypeTree) → is_binary_type s ≡ true → is_binary_type t ≡ true → same_type s t ≡ true
same_bytes s t g h = rw (erased_bytes s g, erased_bytes t h)

pub text_order : IsPartOrder (λ (x : Utf8Scalar). ref_type (text_ref x)) (λ (x : Utf8Scalar). ref_content (text_ref x)) (λ (x : Utf8Scalar). ref_bytes (text_ref x)) (slice_cmp nat_cmp)
text_order = by_bytes text_ref
    (λ x y. same_strings (ref_type (text_ref x)) (ref_type (text_ref y)) x.kind y.kind)
    (λ x y. strings_alike (ref_raw (text_ref x)) (ref_raw (text_ref y)) x.holds y.holds)

pub bytes_order : IsPartOrder (λ (x : BinaryScalar). ref_type (bytes_ref x)) (λ (x : BinaryScalar). ref_content (bytes_ref x)) (λ (x : BinaryScalar). ref_bytes (bytes_ref x)) (slice_cmp nat_cmp)
bytes_order = by_bytes bytes_ref
    (λ x y. same_bytes (ref_type (bytes_ref x)) (ref_type (bytes_ref y)) x.kind y.kind)
    (λ x y. bytes_alike (ref_raw (bytes_ref x)) (ref_raw (bytes_ref y)) x.holds y.holds)
