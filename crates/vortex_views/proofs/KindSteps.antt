-- The trees of raw values of each kind with parts.
use Rattle.std.proofs.Common.{◌≡◌, Vec, Box, Option, Global, rules}
use Rattle.vortex_value.specs.Values.RawOf.{value_tree}
use Rattle.vortex_value.specs.declared.scalars.Scalar.{Scalar}
use Rattle.vortex_value.specs.declared.unions.UnionValue.{UnionValue}
use Rattle.vortex_value.specs.declared.values.ScalarValue.{ScalarValue, Tuple, Union, Variant, the_lemmas}
use Rattle.vortex_views.specs.ExtensionParts.{is_nested, is_of_kind}
use Rattle.vortex_views.specs.ViewKinds.{is_variant_type}
use Rattle.vortex_dtype.specs.Parts.{is_union_type}
use Rattle.vortex_dtype.specs.TypeTree.{TypeTree}

pub is_of_kind-Tuple : (t : TypeTree) (vs : Vec (Option ScalarValue) Global) → is_of_kind t (value_tree (Tuple vs)) ≡ is_nested t
is_of_kind-Tuple t vs = search (rules, the_lemmas)

pub is_of_kind-Union : (t : TypeTree) (u : UnionValue) → is_of_kind t (value_tree (Union u)) ≡ is_union_type t
is_of_kind-Union t u = search (rules, the_lemmas)

pub is_of_kind-Variant : (t : TypeTree) (s : Box Scalar Global) → is_of_kind t (value_tree (Variant s)) ≡ is_variant_type t
is_of_kind-Variant t s = search (rules, the_lemmas)

pub ruleset shown = (is_of_kind-Tuple, is_of_kind-Union, is_of_kind-Variant)
