-- The steps of a cast, as they compute. They have the shape of the code; that they give what the table of casts says is
-- the lemma `cast_decided` in proofs.
use Rattle.std.specs.Prelude.{◌≡◌, ◌≢◌, ◌==◌, ◌&&◌, ◌||◌, ◌⊎◌, not, ℕ, ℤ, Bool, true, false, List, [], ◌∷◌, ◌++◌, Option, Some, None, Result, IfErr, MatchResult, if◌then◌else◌, length, option_map, IsSome, Vec}
use Rattle.std.specs.Global.{Global}
use Rattle.std.specs.Str.{bytes_eq}
use Rattle.vortex_dtype.specs.TypeOf.{MapParts, type_of}
use Rattle.vortex_dtype.specs.TypeTree.{TypeTree, bool_type, integer_type, utf8_type, binary_type, list_type, fixed_size_list_type, map_type, struct_type, union_type, variant_type, extension_type, TypeTrees, no_types, type_then, IsFlat, is_nullable, storage}
use Rattle.vortex_dtype.specs.declared.error.VortexError.{VortexError}
use Rattle.vortex_dtype.specs.declared.error.VortexError.TheVariants.{CannotCast, OutOfMemory}
use Rattle.vortex_dtype.specs.declared.types.DType.{DType}
use Rattle.vortex_pvalue.specs.Numbers.{in_range}
use Rattle.vortex_value.specs.Breaches.{breaches}
use Rattle.vortex_value.specs.CastAnswers.{IsLeaf, IsTakenWhole}
use Rattle.vortex_value.specs.Casts.{IsExtension}
use Rattle.vortex_value.specs.Equality.{same_type}
use Rattle.vortex_value.specs.Validity.{type_with}
use Rattle.vortex_value.specs.Values.Content.{content}
use Rattle.vortex_value.specs.Values.RawOf.{raw_of, value_trees}
use Rattle.vortex_value.specs.Values.RawTree.{RawTree, absent, raw_bool, raw_integer, raw_text, raw_bytes, raw_tuple, raw_union, raw_variant, RawTrees, no_raws, raw_then, count}
use Rattle.vortex_value.specs.declared.cast.refusals.Refusal.{Refusal}
use Rattle.vortex_value.specs.declared.cast.refusals.Refusal.TheVariants.{Impossible, NoMemory}
use Rattle.vortex_value.specs.declared.values.ScalarValue.{ScalarValue}

-- whether the type accepts the value
abbrev pub accepts : TypeTree → RawTree → Bool
accepts t v = length (breaches t v) == 0

-- whether keys that do not claim to be sorted would come to claim it
abbrev pub sorts : Bool → Bool → Bool
sorts from to = not from && to

-- whether a null of the one type may be a null of the other
abbrev pub takes_null : TypeTree → TypeTree → Bool
takes_null (map_type k v from n) (map_type l w to m) = not (sorts from to) && is_nullable (map_type l w to m)
takes_null s t = is_nullable t

-- whether a value that is present may be cast from the extension s, which stores u, to t as it is
abbrev pub may_unwrap : TypeTree → TypeTree → TypeTree → Bool
may_unwrap s u (extension_type id metadata t) = same_type s (extension_type id metadata t) || may_unwrap s u t
may_unwrap s u t = same_type u t

-- whether a value without parts is kept as it is: the two types are its own, up to nullability
abbrev pub keeps_its_kind : RawTree → TypeTree → TypeTree → Bool
keeps_its_kind (raw_bool b) (bool_type n) (bool_type m) = true
keeps_its_kind (raw_text bs) (utf8_type n) (utf8_type m) = true
keeps_its_kind (raw_bytes bs) (binary_type n) (binary_type m) = true
keeps_its_kind (raw_variant u v) (variant_type n) (variant_type m) = true
keeps_its_kind _ _ _ = false

-- what a value without parts becomes between types that are no extensions
abbrev pub leaf_to : RawTree → TypeTree → TypeTree → Option RawTree
leaf_to v s t = if keeps_its_kind v s t then Some v else None

-- the value itself, if the types allow it and the target accepts it
abbrev pub kept : Bool → TypeTree → RawTree → Option RawTree
kept allowed t v = if allowed && accepts t v then Some v else None

-- the value itself, if it may be cast from the extension s, which stores u, to t as it is
abbrev pub unwrapped : RawTree → TypeTree → TypeTree → TypeTree → Option RawTree
unwrapped v s u t = kept (may_unwrap s u t) t v

-- the number as a raw value of the target, if that is an integer type and has it
abbrev pub number_to : ℤ → TypeTree → Option RawTree
number_to z (integer_type k n) = if in_range k z then Some (raw_integer k z) else None
number_to z t = None

-- a value from one type to another: `bare` says what becomes of it between types that are no extensions
abbrev pub whole_to : (TypeTree → TypeTree → Option RawTree) → RawTree → TypeTree → TypeTree → Option RawTree
whole_to bare absent s t = if takes_null s t then Some absent else None
whole_to bare v (extension_type id metadata u) t = unwrapped v (extension_type id metadata u) u t
whole_to bare v s t = bare s (storage t)

-- if there is a type, it is what t stores, and s is no extension
abbrev pub IsBareTarget : TypeTree → TypeTree → Option DType → Type 0
IsBareTarget s t None = Unit {0}
IsBareTarget s t (Some stored) = ¬ (IsExtension s) × (type_of stored ≡ storage t)

-- what the parts become, if their number is the size
abbrev pub sized : ℕ → ℕ → Option RawTrees → Option RawTrees
sized number size made = if number == size then made else None

-- what the entries of a map become, unless its keys would come to claim that they are sorted
abbrev pub map_to : (MapParts → MapParts → Option RawTrees) → MapParts → MapParts → Option RawTrees
map_to entries s t = if sorts s.keys_sorted t.keys_sorted then None else entries s t

-- what so many parts become between two types, as elements, entries or fields
abbrev pub tuple_to : ℕ → (TypeTree → TypeTree → Option RawTrees) → (MapParts → MapParts → Option RawTrees)
    → (TypeTrees → TypeTrees → Option RawTrees) → TypeTree → TypeTree → Option RawTrees
tuple_to number each entries fields (list_type e n) (list_type f m) = each e f
tuple_to number each entries fields (list_type e n) (fixed_size_list_type f size m) = sized number size (each e f)
tuple_to number each entries fields (fixed_size_list_type e other n) (list_type f m) = each e f
tuple_to number each entries fields (fixed_size_list_type e other n) (fixed_size_list_type f size m) = sized number size (each e f)
tuple_to number each entries fields (map_type k v from n) (map_type l w to m) =
    entries (record { key = k; value = v; keys_sorted = from }) (record { key = l; value = w; keys_sorted = to })
tuple_to number each entries fields (struct_type names ss n) (struct_type others ts m) = fields ss ts
tuple_to number each entries fields _ _ = None

-- the two types, if there are both
abbrev pub two_types : Option TypeTree → Option TypeTree → Option (TypeTree × TypeTree)
two_types (Some s) (Some t) = Some (s, t)
two_types _ _ = None

-- the types that the id gives in two unions with equal ids in order
abbrev pub types_with : ℕ → TypeTree → TypeTree → Option (TypeTree × TypeTree)
types_with id (union_type names ss is n) (union_type others ts js m) = if bytes_eq is js then two_types (type_with id is ss) (type_with id js ts) else None
types_with id _ _ = None

-- what a child becomes between the two types of its id
abbrev pub child_to : (TypeTree → TypeTree → Option RawTree) → Option (TypeTree × TypeTree) → Option RawTree
child_to made None = None
child_to made (Some p) = made p.0 p.1

-- a first part and the others, if there are both
abbrev pub both : Option RawTree → Option RawTrees → Option RawTrees
both (Some v) (Some vs) = Some (raw_then v vs)
both _ _ = None

-- the tuple of two values, if there are both
abbrev pub pair : RawTree → RawTree → RawTree
pair x y = raw_tuple (raw_then x (raw_then y no_raws))

abbrev pub pair_to : Option RawTree → Option RawTree → Option RawTree
pair_to (Some x) (Some y) = Some (pair x y)
pair_to _ _ = None

-- what a value becomes between types that are no extensions
abbrev mutual
  pub bare_to : RawTree → TypeTree → TypeTree → Option RawTree
  bare_to (raw_integer k z) s t = number_to z t
  bare_to (raw_tuple vs) s t =
      option_map raw_tuple (tuple_to (count vs) (λ e f. each_to vs e f) (λ a b. map_to (λ m n. entries_to vs m n) a b) (λ ss ts. fields_to vs ss ts) s t)
  bare_to (raw_union id v) s t = option_map (raw_union id) (child_to (λ a b. whole_to (λ x y. bare_to v x y) v a b) (types_with id s t))
  bare_to v s t = leaf_to v s t

  -- what each becomes between two types
  pub each_to : RawTrees → TypeTree → TypeTree → Option RawTrees
  each_to no_raws s t = Some no_raws
  each_to (raw_then v vs) s t = both (whole_to (λ a b. bare_to v a b) v s t) (each_to vs s t)

  -- each a pair of a key and a value
  pub entries_to : RawTrees → MapParts → MapParts → Option RawTrees
  entries_to no_raws s t = Some no_raws
  entries_to (raw_then e es) s t = both (entry_to e s t) (entries_to es s t)

  pub entry_to : RawTree → MapParts → MapParts → Option RawTree
  entry_to (raw_tuple (raw_then x (raw_then y no_raws))) s t =
      pair_to (whole_to (λ a b. bare_to x a b) x s.key t.key) (whole_to (λ a b. bare_to y a b) y s.value t.value)
  entry_to _ s t = None

  -- what each becomes between the two types at its place, if there are equally many
  pub fields_to : RawTrees → TypeTrees → TypeTrees → Option RawTrees
  fields_to no_raws no_types no_types = Some no_raws
  fields_to (raw_then v vs) (type_then s ss) (type_then t ts) = both (whole_to (λ a b. bare_to v a b) v s t) (fields_to vs ss ts)
  fields_to _ _ _ = None

-- what a value becomes
abbrev pub cast_to : RawTree → TypeTree → TypeTree → Option RawTree
cast_to v = whole_to (λ a b. bare_to v a b) v

-- what the parts of a tuple become
abbrev pub parts_to : RawTrees → TypeTree → TypeTree → Option RawTrees
parts_to vs = tuple_to (count vs) (λ e f. each_to vs e f) (λ a b. map_to (λ m n. entries_to vs m n) a b) (λ ss ts. fields_to vs ss ts)

-- the error that a refusal becomes
abbrev pub error_of : Refusal → VortexError
error_of Impossible = CannotCast
error_of NoMemory = OutOfMemory

-- e refuses a step that makes `made`: there is no memory, or nothing to make
abbrev pub Refused : {B : Type 0} → Option B → Refusal → Type 0
Refused made e = (e ≡ NoMemory) ⊎ ((e ≡ Impossible) × (made ≡ None))

-- an answer of a step that makes `made`, if there is that: a value with its tree, or a refusal
abbrev pub Makes : {A B : Type 0} → (A → B) → Option B → Result A Refusal → Type 0
Makes tree made r = MatchResult r (λ x. made ≡ Some (tree x)) (λ e. Refused made e)

-- an answer of a step that makes these parts, if there are such
abbrev pub MakesParts : Option RawTrees → Result (Vec (Option ScalarValue) Global) Refusal → Type 0
MakesParts = Makes (λ vs. value_trees vs.items)

-- an answer of a step that appends `made` to what was there before, if there is that
abbrev pub Appends : List (Option ScalarValue) → List (Option ScalarValue) → Option RawTree → Result (Unit {0}) Refusal → Type 0
Appends before now made r =
    MatchResult r (λ _. (v : Option ScalarValue) × (now ≡ before ++ v ∷ []) × (made ≡ Some (raw_of v))) (λ e. Refused made e)

-- out of memory never comes for a type whose values take no memory
abbrev pub FlatNeverOutOfMemory : {A : Type 0} → TypeTree → Result A Refusal → Type 0
FlatNeverOutOfMemory t r = IsFlat t → IfErr r (λ e. e ≢ NoMemory)

-- out of memory comes only if there is something to make
abbrev pub OutOfMemoryOnlyIfMakeable : {A B : Type 0} → Option B → Result A Refusal → Type 0
OutOfMemoryOnlyIfMakeable made r = IfErr r (λ e. e ≡ NoMemory → IsSome made)

-- a cast of v from s to t that takes v whole is out of memory only if it is possible
abbrev pub WholeOutOfMemoryOnlyIfMakeable : {A : Type 0} → RawTree → TypeTree → TypeTree → Result A Refusal → Type 0
WholeOutOfMemoryOnlyIfMakeable v s t r = IsTakenWhole s (content v) → OutOfMemoryOnlyIfMakeable (cast_to v s t) r

-- a cast of a leaf between types that are no extensions is out of memory only if it is possible
abbrev pub LeafOutOfMemoryOnlyIfMakeable : {A : Type 0} → RawTree → TypeTree → TypeTree → Result A Refusal → Type 0
LeafOutOfMemoryOnlyIfMakeable v s t r = IsLeaf (content v) → OutOfMemoryOnlyIfMakeable (bare_to v s t) r
