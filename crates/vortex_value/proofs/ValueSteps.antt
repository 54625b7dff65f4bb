-- What the folds over raw values give at each node with parts, and the lists of their trees.
use Rattle.std.proofs.Common.{◌≡◌, ◌≢◌, suc, false, List, [], ◌∷◌, length, Option, Some, None, option_map, Vec, Box, Global, refl, ap, ◌∙◌, rules, arith}
use Rattle.std.proofs.lemmas.Bool.{and_right}
use Rattle.vortex_dtype.specs.TypeOf.{type_of}
use Rattle.vortex_value.specs.Values.Content.{content, contents}
use Rattle.vortex_value.specs.Equality.{equal, all_equal}
use Rattle.vortex_value.specs.Values.RawOf.{raw_or_absent, value_tree, variant_tree, union_tree, raw_of, value_trees}
use Rattle.vortex_value.specs.Values.RawTree.{raw_tuple, raw_union, raw_variant, count}
use Rattle.vortex_value.specs.declared.scalars.Scalar.{Scalar}
use Rattle.vortex_value.specs.declared.unions.UnionValue.{UnionValue}
use Rattle.vortex_value.specs.declared.values.ScalarValue.{ScalarValue, Tuple, Union, Variant, the_lemmas}

pub value_tree-Tuple : (vs : Vec (Option ScalarValue) Global) → value_tree (Tuple vs) ≡ raw_tuple (value_trees vs.items)
value_tree-Tuple vs = search (rules, the_lemmas)

pub value_tree-Union : (u : UnionValue) → value_tree (Union u) ≡ union_tree u
value_tree-Union u = search (rules, the_lemmas)

pub value_tree-Variant : (s : Box Scalar Global) → value_tree (Variant s) ≡ variant_tree s.value
value_tree-Variant s = search (rules, the_lemmas)

-- the parts of a scalar's tree
pub variant_tree-parts : (s : Scalar) → variant_tree s ≡ raw_variant (type_of s.dtype) (raw_of s.value)
variant_tree-parts s = search (rules, the_lemmas)

-- the parts of the tree of a union's value
pub union_tree-parts : (u : UnionValue) → union_tree u ≡ raw_union u.type_id (raw_or_absent (option_map (λ b. value_tree b.value) u.child))
union_tree-parts u = search (rules, the_lemmas)

-- the same, by the tree of the optional child
pub union_tree-child : (u : UnionValue) → union_tree u ≡ raw_union u.type_id (raw_of (option_map (λ b. b.value) u.child))
union_tree-child u = union_tree-parts u ∙ ap (raw_union u.type_id) (same u.child)
  where
    same : (child : Option (Box ScalarValue Global)) → raw_or_absent (option_map (λ b. value_tree b.value) child) ≡ raw_of (option_map (λ b. b.value) child)
    same None = refl
    same (Some b) = refl

-- as many trees as values
pub count-value_trees : (vs : List (Option ScalarValue)) → count (value_trees vs) ≡ length vs
count-value_trees [] = refl
count-value_trees (v ∷ vs) = ap suc (count-value_trees vs)

-- tuples of different lengths are not equal
pub all_equal-lengths : (vs ws : List (Option ScalarValue)) → length vs ≢ length ws → all_equal (contents (value_trees vs)) (contents (value_trees ws)) ≡ false
all_equal-lengths [] [] h = absurd (h refl)
all_equal-lengths [] (w ∷ ws) h = refl
all_equal-lengths (v ∷ vs) [] h = refl
all_equal-lengths (v ∷ vs) (w ∷ ws) h = and_right (equal (content (raw_of v)) (content (raw_of w))) _ (all_equal-lengths vs ws (omega arith))

pub ruleset shown = (value_tree-Tuple, value_tree-Union, value_tree-Variant, variant_tree-parts, union_tree-parts)
