-- Children of the fields' types make valid structs.
use Rattle.std.proofs.Common.{◌≡◌, ◌<◌, ◌+◌, ◌==◌, ℕ, suc, Bool, true, false, not, cond, if◌then◌else◌, List, [], ◌∷◌, length, map, Option, Some, None, option_map, position, get_or, refl, sym, ap, ◌∙◌, subst, arith}
use Rattle.std.proofs.lemmas.Bool.{cond-true, not-false}
use Rattle.std.proofs.lemmas.Bool.Decides.{Decides-eqb}
use Rattle.std.proofs.lemmas.List.{length-map}
use Rattle.std.proofs.lemmas.List.Elements.{All-tail}
use Rattle.std.proofs.lemmas.Slice.Zip.{length-zip}
use Rattle.std.specs.List.{All, zip, position_or_len}
use Rattle.vortex_dtype.specs.Parts.{fields_in, listed_types}
use Rattle.vortex_dtype.specs.TypeEquality.{tree_eq}
use Rattle.vortex_dtype.specs.Lemmas.TypeLaws.{tree_eq-Decides}
use Rattle.vortex_dtype.specs.TypeOf.{type_of}
use Rattle.vortex_dtype.specs.TypeTree.{TypeTree, struct_type, TypeTrees, no_types, type_then}
use Rattle.vortex_dtype.specs.declared.error.VortexError.{VortexError}
use Rattle.vortex_dtype.specs.declared.error.VortexError.TheVariants.{WrongChild}
use Rattle.vortex_dtype.specs.declared.types.DType.{DType}
use Rattle.vortex_value.specs.Makers.{child_trees, fields_cause, struct_cause, wrong_field}
use Rattle.vortex_value.specs.Values.RawTree.{raw_tuple}
use Rattle.vortex_value.specs.Values.Scalars.{IsValid, scalar_raw, scalar_type}
use Rattle.vortex_value.specs.Validity.{FieldsValid, Valid}
use Rattle.vortex_value.specs.declared.scalars.Scalar.{Scalar}
use Rattle.vortex_value.proofs.ListMakers.{none_passes}

-- whether a child is not exactly of its field's type
abbrev pub misfits : TypeTree × Scalar → Bool
misfits pair = not (tree_eq (scalar_type pair.1) pair.0)

fields_valid : (ts : TypeTrees) (xs : List Scalar) → length (listed_types ts) ≡ length xs
    → ((k : ℕ) (d : TypeTree × Scalar) → k < length (zip (listed_types ts) xs) → misfits (get_or (zip (listed_types ts) xs) k d) ≡ false)
    → All IsValid xs → FieldsValid ts (child_trees xs)
fields_valid no_types [] same fits valid = tt
fields_valid no_types (x ∷ xs) same fits valid = absurd (omega (arith, same))
fields_valid (type_then t ts) [] same fits valid = absurd (omega (arith, same))
fields_valid (type_then t ts) (x ∷ xs) same fits valid =
    let right = not-false (tree_eq (scalar_type x) t) (fits 0 (t, x) (omega arith)) in
    let head = subst (λ u. Valid u (scalar_raw x)) ((tree_eq-Decides (scalar_type x) t).0 right) (valid 0 x (omega arith)) in
    (head, fields_valid ts xs (omega (arith, same)) (λ k d below. fits (suc k) d (omega arith)) (All-tail IsValid x xs valid))

fits_only : (b : Bool) (o : Option ℕ) (f : ℕ → VortexError) (e : VortexError) → (if b then option_map f o else Some e) ≡ None → (b ≡ true) × (o ≡ None)
fits_only true None f e h = (refl, refl)
fits_only true (Some i) f e h = cc
fits_only false o f e h = cc

-- the children make a valid struct
pub struct_valid : (t : TypeTree) (xs : List Scalar) → struct_cause (fields_in t) xs ≡ None → All IsValid xs → Valid t (raw_tuple (child_trees xs))
struct_valid (struct_type names ts n) xs h valid =
    let fits = fits_only _ (wrong_field (listed_types ts) xs) _ _ h in
    fields_valid ts xs ((Decides-eqb (length (listed_types ts)) (length xs)).0 fits.0) (none_passes misfits (zip (listed_types ts) xs) fits.1) valid
struct_valid _ xs h valid = cc

-- a place in a list of pairs is the same once the first parts are mapped

paired : {A B C : Type 0} (f : A → B) (p : B × C → Bool) (xs : List A) (ys : List C)
    → position_or_len (λ pair. p (f pair.0, pair.1)) (zip xs ys) ≡ position_or_len p (zip (map f xs) ys)
paired f p [] ys = refl
paired f p (x ∷ xs) [] = refl
paired f p (x ∷ xs) (y ∷ ys) = ap (λ n. cond (not (p (f x, y))) (1 + n) 0) (paired f p xs ys)

wrong_field_of : (dtypes : List DType) (xs : List Scalar)
    → position (λ pair. not (tree_eq (scalar_type pair.1) (type_of pair.0))) (zip dtypes xs) ≡ wrong_field (map type_of dtypes) xs
wrong_field_of dtypes xs =
    let place = paired type_of misfits dtypes xs in
    let size : length (zip dtypes xs) ≡ length (zip (map type_of dtypes) xs) = rw (length-zip dtypes xs, length-zip (map type_of dtypes) xs, length-map dtypes type_of) refl in
    rw (place, size) refl

-- where there are as many children as fields, the first misfit decides
pub fields_decide : (dtypes : List DType) (types : List TypeTree) (xs : List Scalar) (place : Option ℕ) → map type_of dtypes ≡ types
    → position (λ pair. not (tree_eq (scalar_type pair.1) (type_of pair.0))) (zip dtypes xs) ≡ place
    → length types ≡ length xs → option_map WrongChild place ≡ fields_cause types xs
fields_decide dtypes types xs place trees h same =
    let found : wrong_field types xs ≡ place = ap (λ ts. wrong_field ts xs) (sym trees) ∙ (sym (wrong_field_of dtypes xs) ∙ h) in
    ap (option_map WrongChild) (sym found) ∙ sym (cond-true (length types == length xs) _ _ ((Decides-eqb (length types) (length xs)).1 same))
