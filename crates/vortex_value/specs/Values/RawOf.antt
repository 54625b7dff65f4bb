-- The trees of declared raw values and scalars.
use Rattle.std.specs.Prelude.{List, [], ◌∷◌, map, Option, Some, None, option_map}
use Rattle.std.specs.Borrow.{Bor}
use Rattle.std.specs.Option.{option_copied}
use Rattle.vortex_dtype.specs.TypeOf.{type_of}
use Rattle.vortex_pvalue.specs.Whole.{ptype_of, whole_of}
use Rattle.vortex_value.specs.Values.RawTree.{RawTree, absent, raw_bool, raw_integer, raw_text, raw_bytes, raw_tuple, raw_union, raw_variant, RawTrees, no_raws, raw_then}
use Rattle.vortex_value.specs.declared.scalars.Scalar.{Scalar, fold-Scalar}
use Rattle.vortex_value.specs.declared.unions.UnionValue.{UnionValue, fold-UnionValue}
use Rattle.vortex_value.specs.declared.values.ScalarValue.{ScalarValue, fold-ScalarValue}
use Rattle.vortex_value.specs.declared.values.ScalarValue.TheOpen.{ScalarValue-F, Scalar-F, UnionValue-F}

-- an optional tree as a tree
abbrev pub raw_or_absent : Option RawTree → RawTree
raw_or_absent None = absent
raw_or_absent (Some v) = v

-- a list of optional trees as the list that a tree holds
abbrev pub as_raw_trees : List (Option RawTree) → RawTrees
as_raw_trees [] = no_raws
as_raw_trees (v ∷ vs) = raw_then (raw_or_absent v) (as_raw_trees vs)

-- the tree of one level of a raw value: a scalar inside is the tree of a variant, a union's value that of a union
abbrev pub value_step : ScalarValue-F RawTree RawTree RawTree → RawTree
value_step (ScalarValue-F.Bool b) = raw_bool b
value_step (ScalarValue-F.Primitive p) = raw_integer (ptype_of p) (whole_of p)
value_step (ScalarValue-F.Utf8 t) = raw_text t
value_step (ScalarValue-F.Binary b) = raw_bytes b
value_step (ScalarValue-F.Tuple vs) = raw_tuple (as_raw_trees vs.items)
value_step (ScalarValue-F.Union u) = u
value_step (ScalarValue-F.Variant s) = s.value

abbrev pub scalar_step : Scalar-F RawTree RawTree RawTree → RawTree
scalar_step s = raw_variant (type_of s.dtype) (raw_or_absent s.value)

abbrev pub union_step : UnionValue-F RawTree RawTree RawTree → RawTree
union_step u = raw_union u.type_id (raw_or_absent (option_map (λ b. b.value) u.child))

-- the tree of a raw value
abbrev pub value_tree : ScalarValue → RawTree
value_tree = fold-ScalarValue RawTree RawTree RawTree value_step scalar_step union_step

-- the tree of the variant that a scalar makes
abbrev pub variant_tree : Scalar → RawTree
variant_tree = fold-Scalar RawTree RawTree RawTree value_step scalar_step union_step

-- the tree of a union's value
abbrev pub union_tree : UnionValue → RawTree
union_tree = fold-UnionValue RawTree RawTree RawTree value_step scalar_step union_step

-- the tree of an optional raw value
abbrev pub raw_of : Option ScalarValue → RawTree
raw_of v = raw_or_absent (option_map value_tree v)

-- the tree of an optional raw value that is lent
abbrev pub lent_raw : Option (Bor ScalarValue) → RawTree
lent_raw v = raw_of (option_copied v)

-- the trees of several
abbrev pub value_trees : List (Option ScalarValue) → RawTrees
value_trees vs = as_raw_trees (map (option_map value_tree) vs)
