-- A step of a copy of a tuple, and what a call gives, seen in another way.
use Rattle.std.proofs.Common.{◌≡◌, List, [], ◌∷◌, ◌++◌, map, Option, Some, option_map, Result, Ok, Err, IfOk, Vec, Global, refl, ap, ◌∙◌}
use Rattle.vortex_dtype.specs.TypeOf.{type_of}
use Rattle.vortex_dtype.specs.TypeTree.{TypeTree}
use Rattle.vortex_dtype.specs.Lemmas.TypeLevels.{type_of-List, type_of-Struct}
use Rattle.vortex_dtype.specs.declared.types.DType.{DType}
use Rattle.vortex_value.specs.Values.RawOf.{as_raw_trees, raw_of, value_tree, value_trees, variant_tree}
use Rattle.vortex_value.specs.Values.RawTree.{raw_tuple, raw_variant}
use Rattle.vortex_value.specs.declared.scalars.Scalar.{Scalar}
use Rattle.vortex_value.specs.declared.values.ScalarValue.{ScalarValue, Tuple}
use Rattle.vortex_value.proofs.ValueSteps.{value_tree-Tuple, variant_tree-parts}

map_more : (xs : List (Option ScalarValue)) (x : Option ScalarValue) → map (option_map value_tree) (xs ++ x ∷ []) ≡ map (option_map value_tree) xs ++ option_map value_tree x ∷ []
map_more [] x = refl
map_more (y ∷ ys) x = ap (λ ts. option_map value_tree y ∷ ts) (map_more ys x)

-- a copied tuple adds the tree of its parts
pub adds_tuple : (before after vs : List (Option ScalarValue)) (parts : Vec (Option ScalarValue) Global) → map (option_map value_tree) parts.items ≡ map (option_map value_tree) vs
    → after ≡ before ++ Some (Tuple parts) ∷ [] → map (option_map value_tree) after ≡ map (option_map value_tree) before ++ Some (raw_tuple (value_trees vs)) ∷ []
adds_tuple before after vs parts same h =
    ap (map (option_map value_tree)) h ∙ map_more before (Some (Tuple parts))
    ∙ ap (λ v. map (option_map value_tree) before ++ Some v ∷ []) (value_tree-Tuple parts ∙ ap (λ ts. raw_tuple (as_raw_trees ts)) same)

-- a scalar of this type that holds these parts
pub held_tuple : (s : Scalar) (d : DType) (t : TypeTree) (parts : Vec (Option ScalarValue) Global) → s ≡ record { dtype = d; value = Some (Tuple parts) } → type_of d ≡ t
    → variant_tree s ≡ raw_variant t (raw_tuple (value_trees parts.items))
held_tuple s d t parts h e = variant_tree-parts s ∙ ap (λ x. raw_variant (type_of x.dtype) (raw_of x.value)) h ∙ ap (λ x. raw_variant x (value_tree (Tuple parts))) e ∙ ap (raw_variant t) (value_tree-Tuple parts)

-- what holds of each thing of the one kind holds of what the call gives
pub given_as : {A E : Type 0} {P Q : A → Type 0} (r : Result A E) → ((x : A) → P x → Q x) → IfOk r P → IfOk r Q
given_as (Ok x) f h = f x h
given_as (Err e) f h = tt

-- the types of lists and structs by those of their parts
pub ruleset levels = (type_of-List, type_of-Struct)
