-- The raw values that the elements of a Vec give are valid parts of a list.
use Rattle.std.proofs.Common.{◌≡◌, List, [], ◌∷◌, ◌++◌, map, Option, Vec, Global, refl, ap, sym, ◌∙◌, arith, rules}
use Rattle.std.proofs.lemmas.List.{map-append}
use Rattle.std.proofs.lemmas.List.Elements.{All-push, All-tail}
use Rattle.std.specs.List.{All}
use Rattle.vortex_dtype.specs.TypeTree.{TypeTree, list_type}
use Rattle.vortex_dtype.specs.declared.nullability.Nullability.{Nullability}
use Rattle.vortex_value.specs.Validity.{EachValid, Valid}
use Rattle.vortex_value.specs.Values.RawOf.{raw_of, value_tree, value_trees}
use Rattle.vortex_value.specs.Values.RawTree.{RawTree, raw_tuple, RawTrees, no_raws, raw_then}
use Rattle.vortex_value.specs.declared.values.ScalarValue.{ScalarValue, Tuple, the_lemmas}
use Rattle.vortex_array.specs.Conversions.{given_each}

-- the parts that a tuple of these holds
abbrev parts_of : List RawTree → RawTrees
parts_of [] = no_raws
parts_of (v ∷ vs) = raw_then v (parts_of vs)

value_trees-parts : (vs : List (Option ScalarValue)) → value_trees vs ≡ parts_of (map raw_of vs)
value_trees-parts [] = refl
value_trees-parts (v ∷ vs) = ap (raw_then (raw_of v)) (value_trees-parts vs)

given_each-parts : {T : Type 0} (given : T → RawTree) (xs : List T) → given_each given xs ≡ parts_of (map given xs)
given_each-parts given [] = refl
given_each-parts given (x ∷ xs) = ap (raw_then (given x)) (given_each-parts given xs)

-- raw values that are what these elements give, one by one, are the parts that they give
pub trees_given : {T : Type 0} (given : T → RawTree) (vs : List (Option ScalarValue)) (xs : List T) → map raw_of vs ≡ map given xs → value_trees vs ≡ given_each given xs
trees_given given vs xs h = value_trees-parts vs ∙ ap parts_of h ∙ sym (given_each-parts given xs)

-- raw values that are each valid for a type are valid parts of a list of it
pub each_valid : (t : TypeTree) (vs : List (Option ScalarValue)) → All (λ v. Valid t (raw_of v)) vs → EachValid t (value_trees vs)
each_valid t [] valid = tt
each_valid t (v ∷ vs) valid = (valid 0 v (omega arith), each_valid t vs (All-tail (λ x. Valid t (raw_of x)) v vs valid))

-- one element more
pub given_more : {T : Type 0} (t : TypeTree) (given : T → RawTree) (vs : List (Option ScalarValue)) (xs : List T) (v : Option ScalarValue) (x : T) → map raw_of vs ≡ map given xs
    → All (λ w. Valid t (raw_of w)) vs → raw_of v ≡ given x → Valid t (raw_of v) → (map raw_of (vs ++ v ∷ []) ≡ map given (xs ++ x ∷ [])) × All (λ w. Valid t (raw_of w)) (vs ++ v ∷ [])
given_more t given vs xs v x same valid gives fits =
    let left : map raw_of vs ++ raw_of v ∷ [] ≡ map given xs ++ given x ∷ [] = ap (λ ws. ws ++ raw_of v ∷ []) same ∙ ap (λ w. map given xs ++ w ∷ []) gives in
    (map-append raw_of vs (v ∷ []) ∙ (left ∙ sym (map-append given xs (x ∷ []))), All-push (λ w. Valid t (raw_of w)) vs v valid fits)

pub tuple_tree : (vs : Vec (Option ScalarValue) Global) → value_tree (Tuple vs) ≡ raw_tuple (value_trees vs.items)
tuple_tree vs = search (rules, the_lemmas)

-- the tuple of valid parts is a valid list
pub list_valid : (t d : TypeTree) (n : Nullability) (v : RawTree) (vs : RawTrees) → d ≡ list_type t n → v ≡ raw_tuple vs → EachValid t vs → Valid d v
list_valid t d n v vs typed value valid = rw (typed, value) valid

pub ruleset givens = (tuple_tree, list_valid, trees_given, each_valid)
