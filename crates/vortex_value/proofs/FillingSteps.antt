-- Steps of the recursions over types that fill them.
use Rattle.std.proofs.Common.{◌≡◌, ◌≤◌, subst, ◌+◌, map, take, Box, Vec, Global, ◌++◌, ◌&&◌, ◌||◌, ◌<◌, ℕ, zero, suc, Bool, true, false, List, [], ◌∷◌, length, Option, Some, None, option_map, drop, get_or, drop-cons, refl, sym, ap, ◌∙◌, arith}
use Rattle.std.specs.Cmp.{first_so, second_so}
use Rattle.std.specs.Option.{is_some, IsSome}
use Rattle.std.proofs.lemmas.List.{take_more}
use Rattle.std.proofs.lemmas.Option.{some_pair_parts}
use Rattle.vortex_dtype.specs.TypeOf.{fields_of, type_of, dtype_trees, as_type_trees, variants_of}
use Rattle.vortex_dtype.specs.Lemmas.TypeSize.{type_size, types_size, type_size-at}
use Rattle.vortex_dtype.specs.TypeTree.{TypeTree, TypeTrees, fixed_size_list_type, struct_type, union_type, says_nullable}
use Rattle.vortex_dtype.specs.declared.nullability.Nullability.{Nullability}
use Rattle.vortex_dtype.specs.declared.nullability.Nullability.TheVariants.{NonNullable, Nullable}
use Rattle.vortex_dtype.specs.declared.types.DType.{DType, FixedSizeList, Struct, Union}
use Rattle.vortex_dtype.specs.declared.types.StructFields.{StructFields}
use Rattle.vortex_dtype.specs.declared.types.UnionVariants.{UnionVariants}
use Rattle.vortex_value.specs.Values.Content.{Content, Contents, sequence, tagged}
use Rattle.vortex_value.specs.Values.RawOf.{raw_of, value_trees, union_tree, value_tree}
use Rattle.vortex_value.specs.Values.RawTree.{RawTree, raw_union, count}
use Rattle.vortex_value.specs.declared.unions.UnionValue.{UnionValue}
use Rattle.vortex_value.specs.declared.values.ScalarValue.{ScalarValue, Tuple, Union as union_value}
use Rattle.vortex_value.specs.Steps.Filling.{EachFills, FillFields, Fills, FillsFirst, child_filling, first_of}
use Rattle.vortex_value.specs.Zero.{and_rest, filling, fillings, null_or, places_of}
use Rattle.vortex_value.proofs.FillingLaws.{IsFilledInside, null_or-other, elements_fill, fields_fill, child_fills}
use Rattle.vortex_dtype.specs.Lemmas.TypeLevels.{type_of-FixedSizeList, type_of-Struct, type_of-Union}
use Rattle.vortex_value.proofs.ValueSteps.{value_tree-Tuple, value_tree-Union, count-value_trees}

-- something fills a type that takes no null where something else does, and one that takes it always
pub is_some-null_or : (nulls : Bool) (n : Nullability) (other : Option Content) → is_some (null_or nulls n other) ≡ (nulls && says_nullable n) || is_some other
is_some-null_or true Nullable other = refl
is_some-null_or true NonNullable other = refl
is_some-null_or false n other = refl

-- so many places, more than none, are filled where one is
pub is_some-places_of : (size : ℕ) (o : Option Content) → (size ≡ 0 → ⊥) → is_some (places_of size o) ≡ is_some o
is_some-places_of zero o h = absurd (h refl)
is_some-places_of (suc n) None h = refl
is_some-places_of (suc n) (Some c) h = refl

pub is_some-and_rest : (o : Option Content) (p : Option Contents) → is_some (and_rest o p) ≡ is_some o && is_some p
is_some-and_rest None p = refl
is_some-and_rest (Some c) None = refl
is_some-and_rest (Some c) (Some cs) = refl

pub is_some-option_map : {A B : Type 0} (f : A → B) (o : Option A) → is_some (option_map f o) ≡ is_some o
is_some-option_map f None = refl
is_some-option_map f (Some x) = refl

-- a type among several is no larger than they all
pub type_size_item : (ts : List DType) (i : ℕ) (t : DType) → i < length ts → t ≡ get_or ts i t → type_size (type_of t) ≤ types_size (dtype_trees ts)
type_size_item ts i t h is = subst (λ (d : DType). type_size (type_of d) ≤ types_size (dtype_trees ts)) (sym is) (type_size-at ts i t h)

-- nor is the first variant's
pub first_smaller : (ids : List ℕ) (ts : List TypeTree) (id : ℕ) (t : TypeTree) → Some (id, t) ≡ first_of ids ts → type_size t ≤ types_size (as_type_trees ts)
first_smaller [] ts id t e = cc
first_smaller (i ∷ is) [] id t e = cc
first_smaller (i ∷ is) (u ∷ us) id t e = let same = some_pair_parts id i t u e in let one = same.1 in rw one (omega arith)

-- where the first is filled, the rest decides
pub rest_decides : (o : Option Content) (p : Option Contents) (all : Bool) → is_some o ≡ true → is_some (and_rest o p) ≡ all → is_some p ≡ all
rest_decides None p all h e = cc
rest_decides (Some c) None all h e = e
rest_decides (Some c) (Some cs) all h e = e

-- the types from place i on
pub fillings_at : (nulls : Bool) (i : ℕ) (ts : List DType) (t : DType) → i < length ts → t ≡ get_or ts i t
    → fillings nulls (dtype_trees (drop i ts)) ≡ and_rest (filling nulls (type_of t)) (fillings nulls (dtype_trees (drop (suc i) ts)))
fillings_at nulls i ts t h is = rw (drop-cons ts i t, ← is)

-- what fills a union is what fills its first variant
pub union_filling : (nulls : Bool) (names : List (List ℕ)) (ts : List TypeTree) (ids : List ℕ) (n : Nullability)
    → filling nulls (union_type names (as_type_trees ts) ids n) ≡ null_or nulls n (child_filling (filling nulls) (first_of ids ts))
union_filling nulls names [] [] n = refl
union_filling nulls names [] (i ∷ is) n = refl
union_filling nulls names (t ∷ ts) [] n = refl
union_filling nulls names (t ∷ ts) (i ∷ is) n = refl

-- Steps of the recursion that fills types.

-- a place that is filled asks that one is
pub place_filled : (i size : ℕ) (o : Option Content) → i < size → IsSome (places_of size o) → IsSome o
place_filled i zero o h s = absurd (omega arith)
place_filled i (suc n) None h s = s
place_filled i (suc n) (Some c) h s = refl

first_filled : (o : Option Content) (p : Option Contents) → IsSome (and_rest o p) → IsSome o
first_filled o p s = first_so _ _ (sym (is_some-and_rest o p) ∙ s)

rest_filled : (o : Option Content) (p : Option Contents) → IsSome (and_rest o p) → IsSome p
rest_filled o p s = second_so _ _ (sym (is_some-and_rest o p) ∙ s)

-- each of the types that are filled is filled
pub field_filled : (nulls : Bool) (ts : List DType) (i : ℕ) (t : DType) → i < length ts → t ≡ get_or ts i t → IsSome (fillings nulls (dtype_trees ts)) → IsSome (filling nulls (type_of t))
field_filled nulls [] i t h is s = absurd (omega arith)
field_filled nulls (u ∷ us) zero t h is s = rw is (first_filled (filling nulls (type_of u)) (fillings nulls (dtype_trees us)) s)
field_filled nulls (u ∷ us) (suc i) t h is s = field_filled nulls us i t (omega arith) is (rest_filled (filling nulls (type_of u)) (fillings nulls (dtype_trees us)) s)

-- what fills a type whose null does not fills its parts
pub struct_asks : (nulls : Bool) (names : List (List ℕ)) (ts : TypeTrees) (n : Nullability) → IsFilledInside nulls (struct_type names ts n) → IsSome (filling nulls (struct_type names ts n)) → IsSome (fillings nulls ts)
struct_asks nulls names ts n free s = sym (is_some-option_map sequence (fillings nulls ts)) ∙ ap is_some (sym (null_or-other nulls n (option_map sequence (fillings nulls ts)) free)) ∙ s

pub union_asks : (nulls : Bool) (names : List (List ℕ)) (ts : List TypeTree) (ids : List ℕ) (n : Nullability) → IsFilledInside nulls (union_type names (as_type_trees ts) ids n)
    → IsSome (filling nulls (union_type names (as_type_trees ts) ids n)) → IsSome (child_filling (filling nulls) (first_of ids ts))
union_asks nulls names ts ids n free s =
    ap is_some (sym (null_or-other nulls n (child_filling (filling nulls) (first_of ids ts)) free)) ∙ sym (ap is_some (union_filling nulls names ts ids n)) ∙ s

-- one more
pub places-push : (nulls : Bool) (e : TypeTree) (vs : List (Option ScalarValue)) (v : Option ScalarValue) → EachFills nulls e (value_trees vs) → Fills nulls e (raw_of v) → EachFills nulls e (value_trees (vs ++ v ∷ []))
places-push nulls e [] v h f = (f, tt)
places-push nulls e (u ∷ us) v h f = (h.0, places-push nulls e us v h.1 f)

pub fields-push : (nulls : Bool) (ts : List DType) (t : DType) (vs : List (Option ScalarValue)) (v : Option ScalarValue) → FillFields nulls (dtype_trees ts) (value_trees vs) → Fills nulls (type_of t) (raw_of v)
    → FillFields nulls (dtype_trees (ts ++ t ∷ [])) (value_trees (vs ++ v ∷ []))
fields-push nulls [] t [] v h f = (f, tt)
fields-push nulls [] t (u ∷ us) v h f = absurd h
fields-push nulls (s ∷ ss) t [] v h f = absurd h
fields-push nulls (s ∷ ss) t (u ∷ us) v h f = (h.0, fields-push nulls ss t us v h.1 f)

pub first_fills : (nulls : Bool) (names : List (List ℕ)) (ts : List TypeTree) (ids : List ℕ) (n : Nullability) (v : RawTree) → FillsFirst nulls (first_of ids ts) v
    → IsFilledInside nulls (union_type names (as_type_trees ts) ids n) → Fills nulls (union_type names (as_type_trees ts) ids n) v
first_fills nulls names (t ∷ ts) (id ∷ ids) n (raw_union i v) f h = rw f.0 (child_fills nulls names t (as_type_trees ts) id ids n v f.1 h)
first_fills nulls names [] [] n v f h = absurd f
first_fills nulls names [] (id ∷ ids) n v f h = absurd f
first_fills nulls names (t ∷ ts) [] n v f h = absurd f
first_fills nulls names (t ∷ ts) (id ∷ ids) n _ f h = absurd f

-- What the recursion asks and answers at each kind of declared type.

pub struct_asks_of : (nulls : Bool) (d : DType) (f : StructFields) (n : Nullability) (ts : List DType) → d ≡ Struct f n → IsFilledInside nulls (type_of d)
    → IsSome (filling nulls (type_of d)) → map type_of ts ≡ (fields_of f).types → IsSome (fillings nulls (dtype_trees ts))
struct_asks_of nulls d f n ts is free s parts =
    let shown : type_of d ≡ struct_type (fields_of f).names (as_type_trees (fields_of f).types) n = ap type_of is ∙ type_of-Struct f n in
    let some = struct_asks nulls (fields_of f).names (as_type_trees (fields_of f).types) n (rw shown at free) (rw shown at s) in
    rw parts some

pub union_asks_of : (nulls : Bool) (d : DType) (v : UnionVariants) (n : Nullability) → d ≡ Union v n → IsFilledInside nulls (type_of d)
    → IsSome (filling nulls (type_of d)) → IsSome (child_filling (filling nulls) (first_of (variants_of v).type_ids (variants_of v).types))
union_asks_of nulls d v n is free s =
    let shown : type_of d ≡ union_type (variants_of v).names (as_type_trees (variants_of v).types) (variants_of v).type_ids n = ap type_of is ∙ type_of-Union v n in
    union_asks nulls (variants_of v).names (variants_of v).types (variants_of v).type_ids n (rw shown at free) (rw shown at s)

pub child_asks : (fill : TypeTree → Option Content) (o : Option (ℕ × TypeTree)) (id : ℕ) (t : TypeTree) → Some (id, t) ≡ o → IsSome (child_filling fill o) → IsSome (fill t)
child_asks fill None id t e s = cc
child_asks fill (Some first) id t e s =
    let same = some_pair_parts id first.0 t first.1 e in
    rw same.1 (sym (is_some-option_map (tagged first.0) (fill first.1)) ∙ s)

pub fixed_fills : (nulls : Bool) (d : DType) (e : Box DType Global) (x : DType) (size : ℕ) (n : Nullability) (vs : Vec (Option ScalarValue) Global) → d ≡ FixedSizeList e size n → x ≡ e.value
    → IsFilledInside nulls (type_of d) → length vs.items ≡ size → EachFills nulls (type_of x) (value_trees vs.items) → Fills nulls (type_of d) (value_tree (Tuple vs))
fixed_fills nulls d e x size n vs is same free counted f =
    let shown : type_of d ≡ fixed_size_list_type (type_of e.value) size n = ap type_of is ∙ type_of-FixedSizeList e size n in
    let sized : count (value_trees vs.items) ≡ size = count-value_trees vs.items ∙ counted in
    let inside : EachFills nulls (type_of e.value) (value_trees vs.items) = rw same at f in
    let whole = elements_fill nulls (type_of e.value) n (value_trees vs.items) inside (rw shown at free) in
    rw (shown, value_tree-Tuple vs) (rw sized at whole)

pub struct_fills : (nulls : Bool) (d : DType) (f : StructFields) (n : Nullability) (ts : List DType) (vs : Vec (Option ScalarValue) Global) → d ≡ Struct f n → IsFilledInside nulls (type_of d)
    → map type_of ts ≡ (fields_of f).types → FillFields nulls (dtype_trees ts) (value_trees vs.items) → Fills nulls (type_of d) (value_tree (Tuple vs))
struct_fills nulls d f n ts vs is free parts h =
    let shown : type_of d ≡ struct_type (fields_of f).names (as_type_trees (fields_of f).types) n = ap type_of is ∙ type_of-Struct f n in
    let whole = fields_fill nulls (fields_of f).names (as_type_trees (fields_of f).types) n (value_trees vs.items) (rw parts at h) (rw shown at free) in
    rw (shown, value_tree-Tuple vs) whole

pub union_fills : (nulls : Bool) (d : DType) (v : UnionVariants) (n : Nullability) (u : UnionValue) → d ≡ Union v n → IsFilledInside nulls (type_of d)
    → FillsFirst nulls (first_of (variants_of v).type_ids (variants_of v).types) (union_tree u) → Fills nulls (type_of d) (value_tree (union_value u))
union_fills nulls d v n u is free f =
    let shown : type_of d ≡ union_type (variants_of v).names (as_type_trees (variants_of v).types) (variants_of v).type_ids n = ap type_of is ∙ type_of-Union v n in
    let whole = first_fills nulls (variants_of v).names (variants_of v).types (variants_of v).type_ids n (union_tree u) f (rw shown at free) in
    rw (shown, value_tree-Union u) whole

-- the types so far, and one more
pub fields_push_at : (nulls : Bool) (ts : List DType) (i : ℕ) (t : DType) (vs : List (Option ScalarValue)) (v : Option ScalarValue) → i < length ts → t ≡ get_or ts i t
    → FillFields nulls (dtype_trees (take i ts)) (value_trees vs) → Fills nulls (type_of t) (raw_of v) → FillFields nulls (dtype_trees (take (i + 1) ts)) (value_trees (vs ++ v ∷ []))
fields_push_at nulls ts i t vs v h is so_far f = rw (take_more ts i t h, ← is) (fields-push nulls (take i ts) t vs v so_far f)
