-- Steps of the reading of values, down the type.
use Rattle.std.proofs.Common.{◌≡◌, ◌≢◌, ℕ, zero, suc, ◌+◌, ◌<◌, ◌≤◌, false, true, List, [], ◌∷◌, ◌++◌, length, length-append, map, drop, get_or, drop-cons, Option, Some as Present, Vec, Box, Global, refl, sym, subst, ap, ap₂, ◌∙◌, arith}
use Rattle.std.specs.Prelude.{Bool, Err, MatchResult, Ok, Result, if◌then◌else◌, ◌==◌}
use Rattle.std.proofs.lemmas.Option.{same_Some}
use Rattle.vortex_dtype.specs.Lemmas.TypeLevels.{type_of-List, type_of-FixedSizeList, type_of-Map, type_of-Struct, type_of-Union, type_of-Extension}
use Rattle.vortex_dtype.specs.Lemmas.TypeSize.{type_size, types_size}
use Rattle.vortex_dtype.specs.TypeOf.{as_type_trees, dtype_trees, ext_of, fields_of, map_of, type_of, variants_of}
use Rattle.vortex_dtype.specs.TypeTree.{TypeTree, null_type, bool_type, integer_type, utf8_type, binary_type, list_type, fixed_size_list_type, map_type, struct_type, union_type, variant_type, extension_type, TypeTrees, no_types, type_then, storage, IsNullable, is_nullable, nullability_of, says_nullable}
use Rattle.vortex_dtype.specs.declared.nullability.Nullability.{Nullability}
use Rattle.vortex_dtype.specs.declared.nullability.Nullability.TheVariants.{NonNullable, Nullable}
use Rattle.vortex_dtype.specs.declared.types.DType.{DType, List as List_, FixedSizeList, Map, Struct, Union, Extension}
use Rattle.vortex_dtype.specs.declared.types.ExtDType.{ExtDType}
use Rattle.vortex_dtype.specs.declared.types.MapDType.{MapDType}
use Rattle.vortex_dtype.specs.declared.types.StructFields.{StructFields}
use Rattle.vortex_dtype.specs.declared.types.UnionVariants.{UnionVariants}
use Rattle.vortex_value.specs.Lemmas.VariantPlaces.{type_with-position}
use Rattle.vortex_value.specs.Validity.{EachValid, EntriesValid, FieldsValid, HasType, Valid, ValidAt, type_with}
use Rattle.vortex_value.specs.Values.Content.{content}
use Rattle.vortex_value.specs.Values.RawOf.{raw_of, union_tree, value_tree, value_trees}
use Rattle.vortex_value.specs.declared.values.ScalarValue.{ScalarValue, Tuple, Union as Union_}
use Rattle.vortex_value.specs.declared.unions.UnionValue.{UnionValue}
use Rattle.vortex_value.specs.Values.RawTree.{RawTree, absent, raw_union, raw_variant, RawTrees, no_raws, raw_then}
use Rattle.vortex_value.proofs.ValueSteps.{value_tree-Tuple, value_tree-Union}
use Rattle.vortex_row.specs.Keys.{key}
use Rattle.vortex_row.specs.Reading.{ArePlain, AreKeys, AreSized, HasRead, HavePlain, IsChild, IsKey, IsPlain, IsPresent, IsStuck, Puts, Reads, entry_type}
use Rattle.vortex_row.specs.declared.reader.KeyDecodeError.{KeyDecodeError}
use Rattle.vortex_row.specs.declared.reader.KeyDecodeError.TheVariants.{Bad, NoMemory}
use Rattle.vortex_row.proofs.OrderLaws.{begins}
use Rattle.vortex_row.proofs.PartSteps.{SoFar, Takes, TupleOf, null-read, opens-none, opens-stuck, present-read, present-stuck, reads-as, so-far-end, so-far-more, so-far-none, so-far-open, so-far-stuck, some-keys, some_sized, tagged-opens, takes-field, tuple-opens, tuple-read}
use Rattle.vortex_row.proofs.StuckLaws.{Some}
use Rattle.vortex_cells.proofs.VariantSteps.{type_size_item}
use Rattle.vortex_row.proofs.ReaderSteps.{none-left}

pub ruleset by_place = (type_with-position)

-- the type with what does not count for its present values left out
abbrev pub bare : TypeTree → TypeTree
bare (bool_type n) = bool_type NonNullable
bare (integer_type k n) = integer_type k NonNullable
bare (utf8_type n) = utf8_type NonNullable
bare (binary_type n) = binary_type NonNullable
bare (list_type e n) = list_type e NonNullable
bare (fixed_size_list_type e size n) = fixed_size_list_type e size NonNullable
bare (map_type k w sorted n) = map_type k w false NonNullable
bare (struct_type names ts n) = struct_type [] ts NonNullable
bare (union_type names ts ids n) = union_type [] ts ids NonNullable
bare t = t

pub to_bare : (t : TypeTree) (v : RawTree) → IsPresent t v → IsPresent (bare t) v
to_bare t absent h = let p = h.present in absurd (cc)
to_bare (bool_type n) v h = record { valid = h.valid; present = refl }
to_bare (integer_type k n) v h = record { valid = h.valid; present = refl }
to_bare (utf8_type n) v h = record { valid = h.valid; present = refl }
to_bare (binary_type n) v h = record { valid = h.valid; present = refl }
to_bare (list_type e n) v h = record { valid = h.valid; present = refl }
to_bare (fixed_size_list_type e size n) v h = record { valid = h.valid; present = refl }
to_bare (map_type k w sorted n) v h = record { valid = h.valid; present = refl }
to_bare (struct_type names ts n) v h = record { valid = h.valid; present = refl }
to_bare (union_type names ts ids n) v h = record { valid = h.valid; present = refl }
to_bare null_type v h = h
to_bare (variant_type n) v h = h
to_bare (extension_type id metadata t) v h = h

pub from_bare : (t : TypeTree) (v : RawTree) → IsPresent (bare t) v → IsPresent t v
from_bare t absent h = let p = h.present in absurd (cc)
from_bare (bool_type n) v h = record { valid = h.valid; present = refl }
from_bare (integer_type k n) v h = record { valid = h.valid; present = refl }
from_bare (utf8_type n) v h = record { valid = h.valid; present = refl }
from_bare (binary_type n) v h = record { valid = h.valid; present = refl }
from_bare (list_type e n) v h = record { valid = h.valid; present = refl }
from_bare (fixed_size_list_type e size n) v h = record { valid = h.valid; present = refl }
from_bare (map_type k w sorted n) v h = record { valid = h.valid; present = refl }
from_bare (struct_type names ts n) v h = record { valid = h.valid; present = refl }
from_bare (union_type names ts ids n) v h = record { valid = h.valid; present = refl }
from_bare null_type v h = h
from_bare (variant_type n) v h = h
from_bare (extension_type id metadata t) v h = h

-- one kind of type
pub arm : {A : Type 0} (d t : TypeTree) (view : A → RawTree) (r : Result A KeyDecodeError) (old now : List ℕ) → d ≡ t → Reads (IsPresent (bare t)) view r old now → Reads (IsPresent d) view r old now
arm d t view r old now e h = subst (λ u. Reads (IsPresent u) view r old now) (sym e) (reads-as (bare t) t view r old now (record { to = from_bare t; from = to_bare t }) h)

-- a type whose present values have no keys

pub no_null_value : (v : RawTree) → ¬ (IsPlain (IsPresent null_type) v)
no_null_value absent h = let p = h.kind.present in cc
no_null_value _ h = h.kind.valid

pub no_variant_value : (n : Nullability) (v : RawTree) → ¬ (IsPlain (IsPresent (variant_type n)) v)
no_variant_value n absent h = let p = h.kind.present in cc
no_variant_value n (raw_variant t v) h = h.untyped
no_variant_value n _ h = h.kind.valid

-- the trees of types with parts

pub list-type : (d e : DType) (b : Box DType Global) (n : Nullability) → d ≡ List_ b n → e ≡ b.value → type_of d ≡ list_type (type_of e) n
list-type d e b n h k = ap type_of h ∙ type_of-List b n ∙ ap (λ x. list_type (type_of x) n) (sym k)

pub fixed-type : (d e : DType) (b : Box DType Global) (size : ℕ) (n : Nullability) → d ≡ FixedSizeList b size n → e ≡ b.value → type_of d ≡ fixed_size_list_type (type_of e) size n
fixed-type d e b size n h k = ap type_of h ∙ type_of-FixedSizeList b size n ∙ ap (λ x. fixed_size_list_type (type_of x) size n) (sym k)

pub map-type : (d : DType) (m : MapDType) (n : Nullability) → d ≡ Map m n → type_of d ≡ map_type (map_of m).key (map_of m).value (map_of m).keys_sorted n
map-type d m n h = ap type_of h ∙ type_of-Map m n

pub struct-type : (d : DType) (f : StructFields) (ts : List DType) (n : Nullability) → d ≡ Struct f n → map type_of ts ≡ (fields_of f).types → type_of d ≡ struct_type (fields_of f).names (dtype_trees ts) n
struct-type d f ts n h e = ap type_of h ∙ type_of-Struct f n ∙ ap (λ us. struct_type (fields_of f).names (as_type_trees us) n) (sym e)

pub union-type : (d : DType) (v : UnionVariants) (n : Nullability) → d ≡ Union v n → type_of d ≡ union_type (variants_of v).names (as_type_trees (variants_of v).types) (variants_of v).type_ids n
union-type d v n h = ap type_of h ∙ type_of-Union v n

pub extension-type : (d : DType) (x : ExtDType) (s : DType) → d ≡ Extension x → type_of s ≡ (ext_of x).storage → type_of d ≡ extension_type (ext_of x).id (ext_of x).metadata (type_of s)
extension-type d x s h e = ap type_of h ∙ type_of-Extension x ∙ ap (extension_type (ext_of x).id (ext_of x).metadata) (sym e)

-- parts so far

pub so-far-start : (All : RawTrees → Type 0) (ps : List (Option ScalarValue)) (old : List ℕ) → ps ≡ [] → SoFar All (value_trees ps) old All old
so-far-start All ps old e = subst (λ qs. SoFar All (value_trees qs) old All old) (sym e) (so-far-none All old)

pub so-far-next : (All : RawTrees → Type 0) (One : RawTree → Type 0) (Rest More : RawTrees → Type 0) (ps qs : List (Option ScalarValue)) (p : Option ScalarValue) (old now same later : List ℕ)
    → SoFar All (value_trees ps) old Rest now → same ≡ now → Takes Rest One More → HasRead One (raw_of p) same later → qs ≡ ps ++ p ∷ [] → SoFar All (value_trees qs) old More later
so-far-next All One Rest More ps qs p old now same later so again takes one e =
    so-far-more All One Rest More ps qs p old now later so takes (subst (λ xs. HasRead One (raw_of p) xs later) again one) e

-- what was read is shorter by a byte or more
pub read-shorter : (One : RawTree → Type 0) (v : RawTree) (old same now : List ℕ) → same ≡ old → HasRead One v same now → length now < length old
read-shorter One v old same now again h =
    let head = begins (content v) in
    let all = ap length h.is in
    let parts = length-append (key (content v)) now in
    let first = ap length head.is in
    let whole = ap length again in
    omega arith

pub none-each : (e : TypeTree) → Some (AreKeys (EachValid e))
none-each e = some-keys (EachValid e) (no_raws, record { kind = tt; held = tt; untyped = tt })

pub none-entries : (k w : TypeTree) → Some (AreKeys (EntriesValid k w))
none-entries k w = some-keys (EntriesValid k w) (no_raws, record { kind = tt; held = tt; untyped = tt })

-- an entry is no null
pub entry-stuck : (k w : TypeTree) (old now : List ℕ) → IsStuck (IsKey (IsPresent (entry_type k w))) old now → IsStuck (IsKey (Valid (entry_type k w))) old now
entry-stuck k w old now stuck = present-stuck (entry_type k w) old old now refl (λ n bs. absurd (cc)) stuck

pub not-memory : {A : Type 0} (f : KeyDecodeError) → f ≡ NoMemory → f ≡ Bad → A
not-memory f h k = absurd (cc)

-- tuples

pub part-stuck : (t : TypeTree) (All : RawTrees → Type 0) (One : RawTree → Type 0) (Rest More : RawTrees → Type 0) (vs : RawTrees) (old mid here same now : List ℕ) → TupleOf t All
    → old ≡ 23 ∷ mid → SoFar All vs mid Rest here → same ≡ here → Some (AreKeys All) → Some (AreKeys Rest) → Some (AreKeys More) → Takes Rest One More
    → (Rest no_raws → (bs : List ℕ) → here ≢ 0 ∷ bs) → IsStuck (IsKey One) same now → IsStuck (IsKey (IsPresent t)) old now
part-stuck t All One Rest More vs old mid here same now of e so again all rest more takes other stuck =
    opens-stuck t 23 (AreKeys All) old mid now (tuple-opens t All of) e all
    (so-far-stuck All One Rest More vs mid here now so rest more takes other (subst (λ xs. IsStuck (IsKey One) xs now) again stuck))

pub end-found : (t : TypeTree) (All Rest : RawTrees → Type 0) (ps : Vec (Option ScalarValue) Global) (old mid here now : List ℕ) → TupleOf t All → old ≡ 23 ∷ mid → SoFar All (value_trees ps.items) mid Rest here
    → Rest no_raws → here ≡ 0 ∷ now → HasRead (IsPresent t) (value_tree (Tuple ps)) old now
end-found t All Rest ps old mid here now of e so none f =
    subst (λ v. HasRead (IsPresent t) v old now) (sym (value_tree-Tuple ps))
    (tuple-read t All (value_trees ps.items) old mid now of e (so-far-end All Rest (value_trees ps.items) mid here now so none f))

pub end-missing : (t : TypeTree) (All Rest : RawTrees → Type 0) (vs : RawTrees) (old mid here same : List ℕ) → TupleOf t All → old ≡ 23 ∷ mid → SoFar All vs mid Rest here → same ≡ here
    → Some (AreKeys All) → Rest no_raws → ((v : RawTree) (ws : RawTrees) → ¬ (Rest (raw_then v ws))) → ((bs : List ℕ) → here ≢ 0 ∷ bs) → IsStuck (IsKey (IsPresent t)) old same
end-missing t All Rest vs old mid here same of e so again all none never other =
    opens-stuck t 23 (AreKeys All) old mid same (tuple-opens t All of) e all
    (subst (λ xs. IsStuck (AreKeys All) mid xs) (sym again) (so-far-open All Rest vs mid here so none never other))

pub head-missing : (t : TypeTree) (All : RawTrees → Type 0) (old now : List ℕ) → TupleOf t All → now ≡ old → ((bs : List ℕ) → old ≢ 23 ∷ bs) → IsStuck (IsKey (IsPresent t)) old now
head-missing t All old now of same other = opens-none t 23 (AreKeys All) old now (tuple-opens t All of) same other

-- the parts of each kind of type that are still to come

-- fewer values, if there are so many
pub fewer : (n m : ℕ) (e : TypeTree) → m ≤ n → HavePlain (AreSized n e) → Some (AreKeys (AreSized m e))
fewer n m e less h = go m less h.0 h.1
  where
    go : (m : ℕ) → m ≤ n → (vs : RawTrees) → ArePlain (AreSized n e) vs → Some (AreKeys (AreSized m e))
    go zero less vs plain = some-keys (AreSized 0 e) (no_raws, record { kind = record { count = refl; valid = tt }; held = tt; untyped = tt })
    go (suc m) less no_raws plain = let c = plain.kind.count in absurd (omega arith)
    go (suc m) less (raw_then v vs) plain = some-keys (AreSized (suc m) e) (some_sized (suc m) e v (record { kind = plain.kind.valid.0; held = plain.held.0; untyped = plain.untyped.0 }))

-- the fields after the first, if there are all
pub later-fields : (t : TypeTree) (ts : TypeTrees) → HavePlain (FieldsValid (type_then t ts)) → HavePlain (FieldsValid ts)
later-fields t ts h = go h.0 h.1
  where
    go : (vs : RawTrees) → ArePlain (FieldsValid (type_then t ts)) vs → HavePlain (FieldsValid ts)
    go no_raws plain = absurd plain.kind
    go (raw_then v vs) plain = (vs, record { kind = plain.kind.1; held = plain.held.1; untyped = plain.untyped.1 })

pub fields-from : (i : ℕ) (ts : List DType) → HavePlain (FieldsValid (dtype_trees ts)) → HavePlain (FieldsValid (dtype_trees (drop i ts)))
fields-from zero ts h = h
fields-from (suc i) [] h = h
fields-from (suc i) (t ∷ ts) h = fields-from i ts (later-fields (type_of t) (dtype_trees ts) h)

pub rest-fields : (i : ℕ) (ts : List DType) → HavePlain (FieldsValid (dtype_trees ts)) → Some (AreKeys (FieldsValid (dtype_trees (drop i ts))))
rest-fields i ts h = some-keys (FieldsValid (dtype_trees (drop i ts))) (fields-from i ts h)

pub takes-field_at : (i : ℕ) (ts : List DType) (t : DType) → i < length ts → t ≡ get_or ts i t → Takes (FieldsValid (dtype_trees (drop i ts))) (Valid (type_of t)) (FieldsValid (dtype_trees (drop (i + 1) ts)))
takes-field_at i ts t less is =
    let one : suc i ≡ i + 1 = omega arith in
    let e : drop i ts ≡ t ∷ drop (i + 1) ts = drop-cons ts i t less ∙ ap₂ (λ d n. d ∷ drop n ts) (sym is) one in
    subst (λ ds. Takes (FieldsValid (dtype_trees ds)) (Valid (type_of t)) (FieldsValid (dtype_trees (drop (i + 1) ts)))) (sym e) (takes-field (type_of t) (dtype_trees (drop (i + 1) ts)))

pub no-fields : (i : ℕ) (ts : List DType) → length ts ≤ i → FieldsValid (dtype_trees (drop i ts)) no_raws
no-fields i ts h = subst (λ ds. FieldsValid (dtype_trees ds) no_raws) (sym (none-left i ts h)) tt

pub never-fields : (i : ℕ) (ts : List DType) → length ts ≤ i → (v : RawTree) (ws : RawTrees) → ¬ (FieldsValid (dtype_trees (drop i ts)) (raw_then v ws))
never-fields i ts h v ws k = subst (λ ds. FieldsValid (dtype_trees ds) (raw_then v ws)) (none-left i ts h) k

pub some-field : (i : ℕ) (ts : List DType) (t : DType) → i < length ts → t ≡ get_or ts i t → ¬ (FieldsValid (dtype_trees (drop i ts)) no_raws)
some-field i ts t less is k =
    let e : drop i ts ≡ t ∷ drop (suc i) ts = drop-cons ts i t less ∙ ap (λ d. d ∷ drop (suc i) ts) (sym is) in
    subst (λ ds. FieldsValid (dtype_trees ds) no_raws) e k

-- no part is left where none is to come
pub none-sized : (n : ℕ) (e : TypeTree) → n ≡ 0 → AreSized n e no_raws
none-sized n e is = record { count = sym is; valid = tt }

pub never-sized : (n : ℕ) (e : TypeTree) → n ≡ 0 → (v : RawTree) (ws : RawTrees) → ¬ (AreSized n e (raw_then v ws))
never-sized n e is v ws h = let c = h.count in omega arith

pub more-sized : (n : ℕ) (e : TypeTree) → 0 < n → ¬ (AreSized n e no_raws)
more-sized n e some h = let c = h.count in omega arith

pub child-size : (id : ℕ) (ids : List ℕ) (ts : TypeTrees) (t : TypeTree) → type_with id ids ts ≡ Present t → type_size t ≤ types_size ts
child-size id [] ts t e = cc
child-size id (i ∷ is) no_types t e = cc
child-size id (i ∷ is) (type_then u us) t e = by_test (i == id) e (child-size id is us t)
  where
    by_test : (b : Bool) → (if b then Present u else type_with id is us) ≡ Present t → (type_with id is us ≡ Present t → type_size t ≤ types_size us) → type_size t ≤ types_size (type_then u us)
    by_test true h go = let same : t ≡ u = same_Some t u (sym h) in let size : type_size t ≡ type_size u = ap type_size same in omega arith
    by_test false h go = let rest = go h in omega arith

pub union-none : (ids : List ℕ) (ts : TypeTrees) (old now : List ℕ) → now ≡ old → ((bs : List ℕ) → old ≢ 24 ∷ bs) → IsStuck (IsKey (IsPresent (union_type [] ts ids NonNullable))) old now
union-none ids ts old now same other = opens-none (union_type [] ts ids NonNullable) 24 (IsChild ids ts) old now (tagged-opens ids ts) same other

pub id-stuck : (ids : List ℕ) (ts : TypeTrees) (old mid now : List ℕ) → old ≡ 24 ∷ mid → Some (IsChild ids ts) → IsStuck (IsChild ids ts) mid now → IsStuck (IsKey (IsPresent (union_type [] ts ids NonNullable))) old now
id-stuck ids ts old mid now e some stuck = opens-stuck (union_type [] ts ids NonNullable) 24 (IsChild ids ts) old mid now (tagged-opens ids ts) e some stuck

pub child-read : (id : ℕ) (ids : List ℕ) (ts : TypeTrees) (t : TypeTree) (v : RawTree) (old mid here now : List ℕ) → old ≡ 24 ∷ mid → mid ≡ id ∷ here → type_with id ids ts ≡ Present t → id < 256
    → HasRead (Valid t) v here now → HasRead (IsPresent (union_type [] ts ids NonNullable)) (raw_union id v) old now
child-read id ids ts t v old mid here now e f has small h = record {
  plain = record {
    kind = record { valid = subst (λ o. HasType o (λ u. ValidAt (storage u) v)) (sym has) h.plain.kind; present = refl };
    held = (small, h.plain.held);
    untyped = h.plain.untyped;
  };
  is = e ∙ ap (λ xs. 24 ∷ xs) (f ∙ ap (λ xs. id ∷ xs) h.is);
}

pub union-found : (id : ℕ) (ids : List ℕ) (ts : TypeTrees) (t : TypeTree) (child : Option ScalarValue) (u : UnionValue) (old mid here now : List ℕ) → old ≡ 24 ∷ mid → mid ≡ id ∷ here → type_with id ids ts ≡ Present t → id < 256
    → HasRead (Valid t) (raw_of child) here now → union_tree u ≡ raw_union id (raw_of child) → HasRead (IsPresent (union_type [] ts ids NonNullable)) (value_tree (Union_ u)) old now
union-found id ids ts t child u old mid here now e f has small h made =
    subst (λ v. HasRead (IsPresent (union_type [] ts ids NonNullable)) v old now) (sym (value_tree-Union u ∙ made)) (child-read id ids ts t (raw_of child) old mid here now e f has small h)

says : (n : Nullability) → says_nullable n ≡ true → n ≡ Nullable
says NonNullable f = cc
says Nullable f = refl

-- the test that a type takes a null
pub takes-null : (t : TypeTree) (b : Bool) → b ≡ is_nullable t → b ≡ true → IsNullable t
takes-null t b e h = says (nullability_of t) (sym e ∙ h)

pub null-taken : (t : TypeTree) (old now : List ℕ) (b c : Bool) → b ≡ is_nullable t → b ≡ true → (c ≡ true → old ≡ 1 ∷ now) → c ≡ true → HasRead (Valid t) absent old now
null-taken t old now b c e h taken k = null-read t old now (takes-null t b e h) (taken k)

-- a part that is put to the others

pub pushed : (One : RawTree → Type 0) (r : Result Unit KeyDecodeError) (parts more : List (Option ScalarValue)) (part : Option ScalarValue) (old now : List ℕ) → HasRead One (raw_of part) old now
    → MatchResult r (λ u. more ≡ parts ++ part ∷ []) (λ e. e ≡ NoMemory) → Puts One r parts more old now
pushed One (Ok u) parts more part old now h e = (part, e, h)
pushed One (Err f) parts more part old now h e = λ bad. not-memory f e bad

pub ruleset shown = (null-read, present-read, present-stuck, value_tree-Tuple, value_tree-Union, type_size_item, child-size, type_of-List, type_of-FixedSizeList, type_of-Map, type_of-Struct, type_of-Union, type_of-Extension)
