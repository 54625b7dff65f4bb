-- Steps of the tests for values that a type has.
use Rattle.std.proofs.Common.{◌≡◌, ◌≢◌, ◌<◌, ◌≤◌, ◌==◌, ◌⊎◌, inl, inr, ℕ, zero, suc, ◌+◌, List, [], ◌∷◌, length, drop, get_or, drop-cons, Some as Present, None, Bool, true, false, true≢false, refl, sym, subst, ap, ap₂, ◌∙◌, arith, pos}
use Rattle.std.proofs.lemmas.Bool.Decides.{nat_tests}
use Rattle.std.proofs.lemmas.Option.{same_Some, slice_get_within}
use Rattle.std.proofs.lemmas.Str.{IsUtf8-nil}
use Rattle.vortex_dtype.specs.Lemmas.TypeLevels.{type_of-Null, type_of-Variant, type_of-Bool, type_of-Primitive, type_of-Utf8, type_of-Binary, type_of-List, type_of-FixedSizeList, type_of-Map, type_of-Struct, type_of-Union, type_of-Extension}
use Rattle.vortex_dtype.specs.TypeOf.{dtype_trees, map_of, type_of}
use Rattle.vortex_dtype.specs.TypeTree.{TypeTree, null_type, bool_type, integer_type, utf8_type, binary_type, list_type, map_type, union_type, variant_type, extension_type, TypeTrees, no_types, type_then, IsNullable, is_nullable, says_nullable}
use Rattle.vortex_dtype.specs.declared.nullability.Nullability.{Nullability}
use Rattle.vortex_dtype.specs.declared.ptype.PType.{PType}
use Rattle.vortex_dtype.specs.declared.types.DType.{DType, Null, Bool as Bool_, Primitive, Utf8, Binary, List as List_, Map, Variant}
use Rattle.vortex_dtype.specs.declared.types.MapDType.{MapDType}
use Rattle.std.specs.Prelude.{Box, if◌then◌else◌, slice_get}
use Rattle.std.specs.Global.{Global}
use Rattle.vortex_value.specs.Validity.{FieldsValid, Valid, type_with}
use Rattle.vortex_value.specs.Values.RawTree.{RawTree, absent, raw_bool, raw_integer, raw_text, raw_bytes, raw_tuple, RawTrees, no_raws, raw_then}
use Rattle.vortex_cells.proofs.VariantSteps.{type_size_item}
use Rattle.vortex_row.specs.Reading.{ArePlain, AreSized, HasChild, HasOne, HasPlain, HavePlain, IsChild, IsPlain, IsPresent, Tells}
use Rattle.vortex_value.specs.Values.Content.{content}
use Rattle.vortex_row.specs.Keys.{key}
use Rattle.vortex_row.proofs.ByteLaws.{no_bytes}
use Rattle.vortex_row.proofs.PartSteps.{TupleOf, null_allowed, null_valid, parts-tuple, some_sized, tagged-join, tagged-opens, tuple-parts, zero_fits}
use Rattle.vortex_row.proofs.ReaderSteps.{none-left}
use Rattle.vortex_row.proofs.ValueSteps.{bare, child-size, fields-from, from_bare, later-fields, no_null_value, no_variant_value, takes-null, to_bare}

-- ---- the values of each kind of type

pub null-there : (t : TypeTree) (b : Bool) → b ≡ is_nullable t → b ≡ true → HasPlain (Valid t)
null-there t b e h = (absent, record { kind = null_valid t (takes-null t b e h); held = tt; untyped = tt })

pub present-of : (t : TypeTree) → is_nullable t ≡ false → (v : RawTree) → IsPlain (Valid t) v → HasPlain (IsPresent t)
present-of t none absent plain = let n : IsNullable t = null_allowed t plain.kind in absurd (true≢false (sym (ap says_nullable n) ∙ none))
present-of t none v plain = (v, record { kind = record { valid = plain.kind; present = refl }; held = plain.held; untyped = plain.untyped })

pub value-told : (t : TypeTree) (nullable b : Bool) → nullable ≡ is_nullable t → nullable ≡ false → Tells b (HasPlain (IsPresent t)) → Tells b (HasPlain (Valid t))
value-told t nullable true e f h = (h.0, record { kind = h.1.kind.valid; held = h.1.held; untyped = h.1.untyped })
value-told t nullable false e f h = λ p. h (present-of t (sym e ∙ f) p.0 p.1)

told-as : (b : Bool) (d t : TypeTree) → d ≡ t → Tells b (HasPlain (IsPresent t)) → Tells b (HasPlain (IsPresent d))
told-as b d t e h = subst (λ u. Tells b (HasPlain (IsPresent u))) (sym e) h

to-plain : (t : TypeTree) → HasPlain (IsPresent (bare t)) → HasPlain (IsPresent t)
to-plain t h = (h.0, record { kind = from_bare t h.0 h.1.kind; held = h.1.held; untyped = h.1.untyped })

from-plain : (t : TypeTree) → HasPlain (IsPresent t) → HasPlain (IsPresent (bare t))
from-plain t h = (h.0, record { kind = to_bare t h.0 h.1.kind; held = h.1.held; untyped = h.1.untyped })

pub tuple-told : (b : Bool) (d t : TypeTree) (All : RawTrees → Type 0) → d ≡ t → TupleOf (bare t) All → Tells b (HavePlain All) → Tells b (HasPlain (IsPresent d))
tuple-told b d t All e of h = told-as b d t e (go b h)
  where
    go : (b : Bool) → Tells b (HavePlain All) → Tells b (HasPlain (IsPresent t))
    go true h = to-plain t (parts-tuple (bare t) All of h)
    go false h = λ p. h (tuple-parts (bare t) All of (from-plain t p))

pub union-told : (b : Bool) (d : TypeTree) (names : List (List ℕ)) (ts : TypeTrees) (ids : List ℕ) (n : Nullability) → d ≡ union_type names ts ids n → Tells b (HasOne (IsChild ids ts)) → Tells b (HasPlain (IsPresent d))
union-told b d names ts ids n e h = told-as b d (union_type names ts ids n) e (go b h)
  where
    go : (b : Bool) → Tells b (HasOne (IsChild ids ts)) → Tells b (HasPlain (IsPresent (union_type names ts ids n)))
    go true h = let k = tagged-join ids ts h.0 h.1 in to-plain (union_type names ts ids n) (k.value, k.plain)
    go false h = λ p. let q = from-plain (union_type names ts ids n) p in let (s, child, is) = (tagged-opens ids ts).split q.0 q.1 in h (s, child)

pub extension-told : (b : Bool) (d t : TypeTree) (id metadata : List ℕ) → d ≡ extension_type id metadata t → Tells b (HasPlain (IsPresent t)) → Tells b (HasPlain (IsPresent d))
extension-told b d t id metadata e h = told-as b d (extension_type id metadata t) e (go b h)
  where
    go : (b : Bool) → Tells b (HasPlain (IsPresent t)) → Tells b (HasPlain (IsPresent (extension_type id metadata t)))
    go true h = (h.0, record { kind = record { valid = h.1.kind.valid; present = h.1.kind.present }; held = h.1.held; untyped = h.1.untyped })
    go false h = λ p. h (p.0, record { kind = record { valid = p.1.kind.valid; present = p.1.kind.present }; held = p.1.held; untyped = p.1.untyped })

pub none-told : (d : DType) → (d ≡ Null) ⊎ ((n : Nullability) × (d ≡ Variant n)) → ¬ (HasPlain (IsPresent (type_of d)))
none-told d (inl h) = let e : type_of d ≡ null_type = ap type_of h ∙ type_of-Null in subst (λ t. ¬ (HasPlain (IsPresent t))) (sym e) (λ p. no_null_value p.0 p.1)
none-told d (inr h) = let e : type_of d ≡ variant_type h.0 = ap type_of h.1 ∙ type_of-Variant h.0 in subst (λ t. ¬ (HasPlain (IsPresent t))) (sym e) (λ p. no_variant_value h.0 p.0 p.1)

there : (d t : TypeTree) → d ≡ t → HasPlain (IsPresent t) → HasPlain (IsPresent d)
there d t e h = told-as true d t e h

pub bool-there : (d : DType) (n : Nullability) → d ≡ Bool_ n → HasPlain (IsPresent (type_of d))
bool-there d n e = there (type_of d) (bool_type n) (ap type_of e ∙ type_of-Bool n) (raw_bool false, record { kind = record { valid = tt; present = refl }; held = tt; untyped = tt })

pub number-there : (d : DType) (k : PType) (n : Nullability) → d ≡ Primitive k n → HasPlain (IsPresent (type_of d))
number-there d k n e = there (type_of d) (integer_type k n) (ap type_of e ∙ type_of-Primitive k n) (raw_integer k (pos 0), record { kind = record { valid = (refl, zero_fits k); present = refl }; held = omega arith; untyped = tt })

pub text-there : (d : DType) (n : Nullability) → d ≡ Utf8 n → HasPlain (IsPresent (type_of d))
text-there d n e = there (type_of d) (utf8_type n) (ap type_of e ∙ type_of-Utf8 n) (raw_text [], record { kind = record { valid = tt; present = refl }; held = (no_bytes, IsUtf8-nil); untyped = tt })

pub bytes-there : (d : DType) (n : Nullability) → d ≡ Binary n → HasPlain (IsPresent (type_of d))
bytes-there d n e = there (type_of d) (binary_type n) (ap type_of e ∙ type_of-Binary n) (raw_bytes [], record { kind = record { valid = tt; present = refl }; held = no_bytes; untyped = tt })

pub list-there : (d : DType) (b : Box DType Global) (n : Nullability) → d ≡ List_ b n → HasPlain (IsPresent (type_of d))
list-there d b n e = there (type_of d) (list_type (type_of b.value) n) (ap type_of e ∙ type_of-List b n) (raw_tuple no_raws, record { kind = record { valid = tt; present = refl }; held = tt; untyped = tt })

pub map-there : (d : DType) (m : MapDType) (n : Nullability) → d ≡ Map m n → HasPlain (IsPresent (type_of d))
map-there d m n e =
    there (type_of d) (map_type (map_of m).key (map_of m).value (map_of m).keys_sorted n) (ap type_of e ∙ type_of-Map m n) (raw_tuple no_raws, record { kind = record { valid = tt; present = refl }; held = tt; untyped = tt })

-- ---- parts

pub none-sized_there : (n : ℕ) (e : TypeTree) → n ≡ 0 → HavePlain (AreSized n e)
none-sized_there n e is = (no_raws, record { kind = record { count = sym is; valid = tt }; held = tt; untyped = tt })

pub sized-told : (b : Bool) (n : ℕ) (e : TypeTree) → n ≢ 0 → Tells b (HasPlain (Valid e)) → Tells b (HavePlain (AreSized n e))
sized-told true n e some h = some_sized n e h.0 h.1
sized-told false n e some h = λ p. go p.0 p.1
  where
    go : (vs : RawTrees) → ArePlain (AreSized n e) vs → ⊥
    go no_raws plain = some (sym plain.kind.count)
    go (raw_then v vs) plain = h (v, record { kind = plain.kind.valid.0; held = plain.held.0; untyped = plain.untyped.0 })

pub sized-there : (n : ℕ) (e : TypeTree) → 0 < n → HavePlain (AreSized n e) → HasPlain (Valid e)
sized-there n e some h = go h.0 h.1
  where
    go : (vs : RawTrees) → ArePlain (AreSized n e) vs → HasPlain (Valid e)
    go no_raws plain = let none = plain.kind.count in absurd (omega arith)
    go (raw_then v vs) plain = (v, record { kind = plain.kind.valid.0; held = plain.held.0; untyped = plain.untyped.0 })

pub no_fields : HavePlain (FieldsValid no_types)
no_fields = (no_raws, record { kind = tt; held = tt; untyped = tt })

pub first-field : (t : TypeTree) (ts : TypeTrees) → HavePlain (FieldsValid (type_then t ts)) → HasPlain (Valid t)
first-field t ts h = go h.0 h.1
  where
    go : (vs : RawTrees) → ArePlain (FieldsValid (type_then t ts)) vs → HasPlain (Valid t)
    go no_raws plain = absurd plain.kind
    go (raw_then v vs) plain = (v, record { kind = plain.kind.0; held = plain.held.0; untyped = plain.untyped.0 })

pub then-fields : (t : TypeTree) (ts : TypeTrees) → HasPlain (Valid t) → HavePlain (FieldsValid ts) → HavePlain (FieldsValid (type_then t ts))
then-fields t ts one more =
    (raw_then one.0 more.0, record { kind = (one.1.kind, more.1.kind); held = (one.1.held, more.1.held); untyped = (one.1.untyped, more.1.untyped) })

at-field : (i : ℕ) (ts : List DType) (t : DType) → i < length ts → t ≡ get_or ts i t → drop i ts ≡ t ∷ drop (i + 1) ts
at-field i ts t less is = let next : suc i ≡ i + 1 = omega arith in drop-cons ts i t less ∙ ap₂ (λ d n. d ∷ drop n ts) (sym is) next

pub field-there : (i : ℕ) (ts : List DType) (t : DType) → i < length ts → t ≡ get_or ts i t → HavePlain (FieldsValid (dtype_trees ts)) → HasPlain (Valid (type_of t))
field-there i ts t less is h = first-field (type_of t) (dtype_trees (drop (i + 1) ts)) (subst (λ ds. HavePlain (FieldsValid (dtype_trees ds))) (at-field i ts t less is) (fields-from i ts h))

pub no-fields_there : (i : ℕ) (ts : List DType) (t : DType) → i < length ts → t ≡ get_or ts i t → ¬ (HasPlain (Valid (type_of t))) → ¬ (HavePlain (FieldsValid (dtype_trees ts)))
no-fields_there i ts t less is never h = never (field-there i ts t less is h)

pub fields-more : (i : ℕ) (ts : List DType) (t : DType) → i < length ts → t ≡ get_or ts i t → HasPlain (Valid (type_of t)) → (HavePlain (FieldsValid (dtype_trees (drop i ts))) → HavePlain (FieldsValid (dtype_trees ts)))
    → HavePlain (FieldsValid (dtype_trees (drop (i + 1) ts))) → HavePlain (FieldsValid (dtype_trees ts))
fields-more i ts t less is one all more =
    all (subst (λ ds. HavePlain (FieldsValid (dtype_trees ds))) (sym (at-field i ts t less is)) (then-fields (type_of t) (dtype_trees (drop (i + 1) ts)) one more))

pub fields-end : (i : ℕ) (ts : List DType) → length ts ≤ i → HavePlain (FieldsValid (dtype_trees (drop i ts)))
fields-end i ts past = subst (λ ds. HavePlain (FieldsValid (dtype_trees ds))) (sym (none-left i ts past)) (no_raws, record { kind = tt; held = tt; untyped = tt })

-- ---- children

pub child-told : (b : Bool) (id : ℕ) (ids : List ℕ) (ts : TypeTrees) (t : TypeTree) → type_with id ids ts ≡ Present t → Tells b (HasPlain (Valid t)) → Tells b (HasChild id ids ts)
child-told true id ids ts t e h = record { type = t; has = e; value = h }
child-told false id ids ts t e h = λ c. h (subst (λ u. HasPlain (Valid u)) (same_Some c.type t (sym c.has ∙ e)) c.value)

pub no-child_there : (id : ℕ) (ids : List ℕ) (ts : TypeTrees) → type_with id ids ts ≡ None → ¬ (HasChild id ids ts)
no-child_there id ids ts e c = let f = sym c.has ∙ e in cc

pub one-child : (id : ℕ) (ids : List ℕ) (ts : TypeTrees) → id < 256 → HasChild id ids ts → HasOne (IsChild ids ts)
one-child id ids ts small c =
    let k : RawTree = c.value.0 in (
      id ∷ key (content k),
      record { id = id; small = small; type = c.type; has = c.has; child = key (content k); is_key = record { value = k; plain = c.value.1; is = refl }; is = refl },
    )

-- no id of those before this place is of a type that has a value
abbrev pub NoneBefore : ℕ → List ℕ → TypeTrees → Type 0
NoneBefore n ids ts = (k id : ℕ) → k < n → slice_get ids k ≡ Present id → ¬ (HasChild id ids ts)

pub none-yet : (ids : List ℕ) (ts : TypeTrees) → NoneBefore 0 ids ts
none-yet ids ts k id less is = absurd (omega arith)

pub none-more : (n id : ℕ) (ids : List ℕ) (ts : TypeTrees) → NoneBefore n ids ts → slice_get ids n ≡ Present id → ¬ (HasChild id ids ts) → NoneBefore (n + 1) ids ts
none-more n id ids ts before at here k other less is c = elim (split_less k n less) [ inl below ↦ before k other below is c | inr same ↦ here (subst (λ i. HasChild i ids ts) (same_id same) c) ]
  where
    split_less : (a b : ℕ) → a < b + 1 → (a < b) ⊎ (a ≡ b)
    split_less zero zero h = inr refl
    split_less zero (suc b) h = inl (omega arith)
    split_less (suc a) zero h = absurd (omega arith)
    split_less (suc a) (suc b) h = elim (split_less a b (omega arith)) [ inl less ↦ inl (omega arith) | inr same ↦ inr (ap suc same) ]

    same_id : k ≡ n → other ≡ id
    same_id same = same_Some other id (sym is ∙ ap (slice_get ids) same ∙ at)

-- the place of an id that a type has
place-of : (id : ℕ) (ids : List ℕ) (ts : TypeTrees) (t : TypeTree) → type_with id ids ts ≡ Present t → (k : ℕ) × (slice_get ids k ≡ Present id)
place-of id [] ts t e = absurd (cc)
place-of id (i ∷ is) no_types t e = absurd (cc)
place-of id (i ∷ is) (type_then u us) t e = by_test (i == id) refl e (place-of id is us t)
  where
    by_test : (b : Bool) → (i == id) ≡ b → (if b then Present u else type_with id is us) ≡ Present t → (type_with id is us ≡ Present t → (k : ℕ) × (slice_get is k ≡ Present id)) → (k : ℕ) × (slice_get (i ∷ is) k ≡ Present id)
    by_test true test h go = let same : i ≡ id = grind (arith, nat_tests) in (0, ap Present same)
    by_test false test h go = let (k, is_id) = go h in (suc k, is_id)

pub no-children : (n : ℕ) (ids : List ℕ) (ts : TypeTrees) → length ids ≤ n → NoneBefore n ids ts → ¬ (HasOne (IsChild ids ts))
no-children n ids ts all none one =
    let h = one.1 in
    let (k, is_id) = place-of h.id ids ts h.type h.has in
    let within = slice_get_within ids k h.id is_id in
    none k h.id (omega arith) is_id (record { type = h.type; has = h.has; value = (h.is_key.value, h.is_key.plain) })

-- what a test says

pub told-so : (b : Bool) (P : Type 0) → b ≡ true → Tells b P → P
told-so true P e h = h
told-so false P e h = absurd (cc)

pub told-not : (b : Bool) (P : Type 0) → b ≡ false → Tells b P → ¬ P
told-not false P e h = h
told-not true P e h = absurd (cc)

-- ---- entries

pub entry-told : (b : Bool) (k w key value : TypeTree) → k ≡ key → w ≡ value → HasPlain (Valid k) → Tells b (HasPlain (Valid w)) → Tells b (HavePlain (FieldsValid (type_then key (type_then value no_types))))
entry-told true k w key value e f one h =
    then-fields key (type_then value no_types) (subst (λ t. HasPlain (Valid t)) e one)
    (then-fields value no_types (subst (λ t. HasPlain (Valid t)) f h) (no_raws, record { kind = tt; held = tt; untyped = tt }))
entry-told false k w key value e f one h =
    λ p. h (subst (λ t. HasPlain (Valid t)) (sym f) (first-field value no_types (later-fields key (type_then value no_types) p)))

pub no-entry : (k key : TypeTree) (ts : TypeTrees) → k ≡ key → ¬ (HasPlain (Valid k)) → ¬ (HavePlain (FieldsValid (type_then key ts)))
no-entry k key ts e never p = never (subst (λ t. HasPlain (Valid t)) (sym e) (first-field key ts p))

pub ruleset sizes = (bool-there, number-there, text-there, bytes-there, list-there, map-there, type_size_item, child-size, type_of-List, type_of-FixedSizeList, type_of-Map, type_of-Struct, type_of-Union, type_of-Extension)
