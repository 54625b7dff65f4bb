-- Which values fill a type, level by level, and that what fills a type is some valid value's content.
use Rattle.std.proofs.Common.{◌≡◌, ◌&&◌, ℕ, zero, suc, pos, Bool, true, false, List, [], ◌∷◌, Option, Some, None, option_map, refl, sym, ap, ◌∙◌, eq-eqb}
use Rattle.std.proofs.lemmas.Option.{none-some, same_Some}
use Rattle.vortex_dtype.specs.TypeTree.{TypeTree, null_type, bool_type, integer_type, utf8_type, binary_type, list_type, fixed_size_list_type, map_type, struct_type, union_type, variant_type, extension_type, TypeTrees, no_types, type_then, IsNullable, is_nullable, says_nullable, storage}
use Rattle.vortex_dtype.specs.declared.nullability.Nullability.{Nullability}
use Rattle.vortex_dtype.specs.declared.nullability.Nullability.TheVariants.{NonNullable, Nullable}
use Rattle.vortex_dtype.specs.declared.ptype.PType.{PType}
use Rattle.vortex_dtype.specs.declared.ptype.PType.TheVariants.{U8, U16, U32, U64, I8, I16, I32, I64}
use Rattle.vortex_pvalue.specs.Numbers.{InRange, in_range}
use Rattle.vortex_pvalue.specs.RangeLaws.{in_range_back}
use Rattle.vortex_value.specs.Casts.{Has}
use Rattle.vortex_value.specs.Values.Content.{Content, null, sequence, tagged, Contents, no_contents, content, contents}
use Rattle.vortex_value.specs.Values.RawTree.{RawTree, absent, raw_bool, raw_integer, raw_text, raw_bytes, raw_tuple, raw_union, raw_variant, RawTrees, no_raws, raw_then, count}
use Rattle.vortex_value.specs.Validity.{EachValid, FieldsValid}
use Rattle.vortex_value.specs.Steps.Filling.{Fills, EachFills, FillFields}
use Rattle.vortex_value.specs.Zero.{filling, fillings, null_or, repeated, places_of, and_rest}
use Rattle.vortex_value.proofs.MakerLaws.{null_valid}
use Rattle.vortex_value.proofs.ValidityLaws.{says_nullable-Decides}

-- no null stands for this type: it takes none, or nulls are not taken
abbrev pub IsFilledInside : Bool → TypeTree → Type 0
IsFilledInside nulls t = (nulls && is_nullable t) ≡ false

pub null_or-other : (nulls : Bool) (n : Nullability) (other : Option Content) → (nulls && says_nullable n) ≡ false → null_or nulls n other ≡ other
null_or-other true NonNullable other h = refl
null_or-other true Nullable other h = cc
null_or-other false n other h = refl

null_or-null : (n : Nullability) (other : Option Content) → n ≡ Nullable → null_or true n other ≡ Some null
null_or-null NonNullable other h = cc
null_or-null Nullable other h = refl

-- a type that takes nulls is filled by one
filling-null : (t : TypeTree) → IsNullable t → filling true t ≡ Some null
filling-null null_type h = refl
filling-null (bool_type n) h = null_or-null n _ h
filling-null (integer_type k n) h = null_or-null n _ h
filling-null (utf8_type n) h = null_or-null n _ h
filling-null (binary_type n) h = null_or-null n _ h
filling-null (list_type e n) h = null_or-null n _ h
filling-null (map_type k w sorted n) h = null_or-null n _ h
filling-null (fixed_size_list_type e size n) h = null_or-null n _ h
filling-null (struct_type names ts n) h = null_or-null n _ h
filling-null (union_type names (type_then t ts) (id ∷ ids) n) h = null_or-null n _ h
filling-null (union_type names ts ids n) h = null_or-null n _ h
filling-null (variant_type n) h = null_or-null n _ h
filling-null (extension_type id metadata t) h = filling-null t h

pub null_fills : (t : TypeTree) → IsNullable t → Fills true t absent
null_fills t h = record { valid = null_valid t h; same = filling-null t h }

-- values without parts

pub false_fills : (nulls : Bool) (n : Nullability) → IsFilledInside nulls (bool_type n) → Fills nulls (bool_type n) (raw_bool false)
false_fills nulls n h = record { valid = tt; same = null_or-other nulls n _ h }

pub zero_fills : (nulls : Bool) (k : PType) (n : Nullability) → InRange k (pos 0) → IsFilledInside nulls (integer_type k n) → Fills nulls (integer_type k n) (raw_integer k (pos 0))
zero_fills nulls k n r h = record { valid = (refl, r); same = null_or-other nulls n _ h }

pub text_fills : (nulls : Bool) (n : Nullability) → IsFilledInside nulls (utf8_type n) → Fills nulls (utf8_type n) (raw_text [])
text_fills nulls n h = record { valid = tt; same = null_or-other nulls n _ h }

pub bytes_fill : (nulls : Bool) (n : Nullability) → IsFilledInside nulls (binary_type n) → Fills nulls (binary_type n) (raw_bytes [])
bytes_fill nulls n h = record { valid = tt; same = null_or-other nulls n _ h }

pub no_elements_fill : (nulls : Bool) (e : TypeTree) (n : Nullability) → IsFilledInside nulls (list_type e n) → Fills nulls (list_type e n) (raw_tuple no_raws)
no_elements_fill nulls e n h = record { valid = tt; same = null_or-other nulls n _ h }

pub no_entries_fill : (nulls : Bool) (k w : TypeTree) (sorted : Bool) (n : Nullability) → IsFilledInside nulls (map_type k w sorted n) → Fills nulls (map_type k w sorted n) (raw_tuple no_raws)
no_entries_fill nulls k w sorted n h = record { valid = tt; same = null_or-other nulls n _ h }

pub variant_fills : (nulls : Bool) (n : Nullability) → IsFilledInside nulls (variant_type n) → Fills nulls (variant_type n) (raw_variant null_type absent)
variant_fills nulls n h = record { valid = (refl, refl); same = null_or-other nulls n _ h }

-- values with parts

each_valid : (nulls : Bool) (e : TypeTree) (vs : RawTrees) → EachFills nulls e vs → EachValid e vs
each_valid nulls e no_raws h = tt
each_valid nulls e (raw_then v vs) h = (h.0.valid, each_valid nulls e vs h.1)

each_same : (nulls : Bool) (e : TypeTree) (vs : RawTrees) (c : Content) → filling nulls e ≡ Some c → EachFills nulls e vs → contents vs ≡ repeated (count vs) c
each_same nulls e no_raws c f h = refl
each_same nulls e (raw_then v vs) c f h =
    let head : content v ≡ c = same_Some _ _ (sym h.0.same ∙ f) in
    let tail : contents vs ≡ repeated (count vs) c = each_same nulls e vs c f h.1 in
    rw (head, tail)

-- where there are no places nothing is asked of what fills one
pub no_places : (o : Option Content) → places_of 0 o ≡ Some (sequence no_contents)
no_places None = refl
no_places (Some c) = refl

places : (nulls : Bool) (e : TypeTree) (vs : RawTrees) → EachFills nulls e vs → places_of (count vs) (filling nulls e) ≡ Some (sequence (contents vs))
places nulls e no_raws h = no_places (filling nulls e)
places nulls e (raw_then v vs) h =
    let all : contents (raw_then v vs) ≡ repeated (suc (count vs)) (content v) = each_same nulls e (raw_then v vs) (content v) h.0.same h in
    rw (h.0.same, all)

pub elements_fill : (nulls : Bool) (e : TypeTree) (n : Nullability) (vs : RawTrees) → EachFills nulls e vs → IsFilledInside nulls (fixed_size_list_type e (count vs) n)
    → Fills nulls (fixed_size_list_type e (count vs) n) (raw_tuple vs)
elements_fill nulls e n vs f h = record {
  valid = (refl, each_valid nulls e vs f);
  same = null_or-other nulls n _ h ∙ places nulls e vs f;
}

fields_valid : (nulls : Bool) (ts : TypeTrees) (vs : RawTrees) → FillFields nulls ts vs → FieldsValid ts vs
fields_valid nulls no_types no_raws f = tt
fields_valid nulls (type_then t ts) (raw_then v vs) f = (f.0.valid, fields_valid nulls ts vs f.1)
fields_valid nulls _ _ f = absurd f

fields_same : (nulls : Bool) (ts : TypeTrees) (vs : RawTrees) → FillFields nulls ts vs → fillings nulls ts ≡ Some (contents vs)
fields_same nulls no_types no_raws f = refl
fields_same nulls (type_then t ts) (raw_then v vs) f = rw (f.0.same, fields_same nulls ts vs f.1)
fields_same nulls _ _ f = absurd f

pub fields_fill : (nulls : Bool) (names : List (List ℕ)) (ts : TypeTrees) (n : Nullability) (vs : RawTrees) → FillFields nulls ts vs → IsFilledInside nulls (struct_type names ts n)
    → Fills nulls (struct_type names ts n) (raw_tuple vs)
fields_fill nulls names ts n vs f h = record {
  valid = fields_valid nulls ts vs f;
  same = null_or-other nulls n _ h ∙ ap (option_map sequence) (fields_same nulls ts vs f);
}

pub child_fills : (nulls : Bool) (names : List (List ℕ)) (t : TypeTree) (ts : TypeTrees) (id : ℕ) (ids : List ℕ) (n : Nullability) (v : RawTree) → Fills nulls t v
    → IsFilledInside nulls (union_type names (type_then t ts) (id ∷ ids) n) → Fills nulls (union_type names (type_then t ts) (id ∷ ids) n) (raw_union id v)
child_fills nulls names t ts id ids n v f h = record {
  valid = rw (eq-eqb id id refl) f.valid;
  same = null_or-other nulls n _ h ∙ ap (option_map (tagged id)) f.same;
}

-- an extension is filled by what fills its storage

pub filling-storage : (nulls : Bool) (t : TypeTree) → filling nulls (storage t) ≡ filling nulls t
filling-storage nulls (extension_type id metadata t) = filling-storage nulls t
filling-storage nulls _ = refl

-- what fills a type is the content of a value that fills it

abbrev Filled : Bool → TypeTree → Type 0
Filled nulls t = (v : RawTree) × Fills nulls t v

or_null : (nulls : Bool) (t : TypeTree) → (IsFilledInside nulls t → Filled nulls t) → Filled nulls t
or_null false t go = go refl
or_null true t go = by_test (is_nullable t) refl
  where
    by_test : (b : Bool) → is_nullable t ≡ b → Filled true t
    by_test true h = (absent, null_fills t ((says_nullable-Decides _).0 h))
    by_test false h = go h

-- the rest of a row, where no null stands for the type
row : (nulls : Bool) (n : Nullability) (other : Option Content) (c : Content) → (nulls && says_nullable n) ≡ false → null_or nulls n other ≡ Some c → other ≡ Some c
row nulls n other c free h = sym (null_or-other nulls n other free) ∙ h

repeated_raw : ℕ → RawTree → RawTrees
repeated_raw zero v = no_raws
repeated_raw (suc n) v = raw_then v (repeated_raw n v)

count-repeated_raw : (n : ℕ) (v : RawTree) → count (repeated_raw n v) ≡ n
unfolding repeated_raw
count-repeated_raw zero v = refl
count-repeated_raw (suc n) v = ap suc (count-repeated_raw n v)

repeated_fills : (nulls : Bool) (e : TypeTree) (v : RawTree) → Fills nulls e v → (n : ℕ) → EachFills nulls e (repeated_raw n v)
unfolding repeated_raw
repeated_fills nulls e v f zero = tt
repeated_fills nulls e v f (suc n) = (f, repeated_fills nulls e v f n)

fixed_row : (nulls : Bool) (e : TypeTree) (size : ℕ) (n : Nullability) (c : Content) → ((d : Content) → filling nulls e ≡ Some d → Filled nulls e)
    → places_of size (filling nulls e) ≡ Some c → IsFilledInside nulls (fixed_size_list_type e size n) → Filled nulls (fixed_size_list_type e size n)
fixed_row nulls e size n c go h free = by_element (filling nulls e) refl size h free
  where
    by_element : (o : Option Content) → filling nulls e ≡ o → (k : ℕ) → places_of k o ≡ Some c → IsFilledInside nulls (fixed_size_list_type e k n) → Filled nulls (fixed_size_list_type e k n)
    by_element (Some d) is k p f =
        let v = go d is in
        let counted = count-repeated_raw k v.0 in
        (raw_tuple (repeated_raw k v.0), rw counted at (elements_fill nulls e n (repeated_raw k v.0) (repeated_fills nulls e v.0 v.1 k) f))
    by_element None is zero p f = (raw_tuple no_raws, elements_fill nulls e n no_raws tt f)
    by_element None is (suc k) p f = absurd (none-some c p)

abbrev FilledFields : Bool → TypeTrees → Type 0
FilledFields nulls ts = (vs : RawTrees) × FillFields nulls ts vs

struct_row : (nulls : Bool) (names : List (List ℕ)) (ts : TypeTrees) (n : Nullability) (c : Content) → ((cs : Contents) → fillings nulls ts ≡ Some cs → FilledFields nulls ts)
    → option_map sequence (fillings nulls ts) ≡ Some c → IsFilledInside nulls (struct_type names ts n) → Filled nulls (struct_type names ts n)
struct_row nulls names ts n c go h free = by_fields (fillings nulls ts) refl h
  where
    by_fields : (o : Option Contents) → fillings nulls ts ≡ o → option_map sequence o ≡ Some c → Filled nulls (struct_type names ts n)
    by_fields (Some cs) is p = let vs = go cs is in (raw_tuple vs.0, fields_fill nulls names ts n vs.0 vs.1 free)
    by_fields None is p = absurd (none-some c p)

union_row : (nulls : Bool) (names : List (List ℕ)) (t : TypeTree) (ts : TypeTrees) (id : ℕ) (ids : List ℕ) (n : Nullability) (c : Content)
    → ((d : Content) → filling nulls t ≡ Some d → Filled nulls t) → option_map (tagged id) (filling nulls t) ≡ Some c
    → IsFilledInside nulls (union_type names (type_then t ts) (id ∷ ids) n) → Filled nulls (union_type names (type_then t ts) (id ∷ ids) n)
union_row nulls names t ts id ids n c go h free = by_child (filling nulls t) refl h
  where
    by_child : (o : Option Content) → filling nulls t ≡ o → option_map (tagged id) o ≡ Some c → Filled nulls (union_type names (type_then t ts) (id ∷ ids) n)
    by_child (Some d) is p = let v = go d is in (raw_union id v.0, child_fills nulls names t ts id ids n v.0 v.1 free)
    by_child None is p = absurd (none-some c p)

both_rows : (nulls : Bool) (t : TypeTree) (ts : TypeTrees) (cs : Contents) → ((c : Content) → filling nulls t ≡ Some c → Filled nulls t)
    → ((ds : Contents) → fillings nulls ts ≡ Some ds → FilledFields nulls ts) → and_rest (filling nulls t) (fillings nulls ts) ≡ Some cs → FilledFields nulls (type_then t ts)
both_rows nulls t ts cs first rest h = by_parts (filling nulls t) refl (fillings nulls ts) refl h
  where
    by_parts : (o : Option Content) → filling nulls t ≡ o → (p : Option Contents) → fillings nulls ts ≡ p → and_rest o p ≡ Some cs → FilledFields nulls (type_then t ts)
    by_parts (Some c) i (Some ds) j q = let v = first c i in let vs = rest ds j in (raw_then v.0 vs.0, (v.1, vs.1))
    by_parts None i p j q = absurd (none-some cs q)
    by_parts (Some c) i None j q = absurd (none-some cs q)

-- zero is in the range of every kind
zero_tested : (k : PType) → in_range k (pos 0) ≡ true
zero_tested U8 = refl
zero_tested U16 = refl
zero_tested U32 = refl
zero_tested U64 = refl
zero_tested I8 = refl
zero_tested I16 = refl
zero_tested I32 = refl
zero_tested I64 = refl

zero_in_range : (k : PType) → InRange k (pos 0)
zero_in_range k = in_range_back k (pos 0) (zero_tested k)

mutual
  filled : (nulls : Bool) (t : TypeTree) (c : Content) → filling nulls t ≡ Some c → Filled nulls t
  filled nulls null_type c h = or_null nulls null_type (λ free. absurd (none-some c (row nulls Nullable _ c free h)))
  filled nulls (bool_type n) c h = or_null nulls (bool_type n) (λ free. (raw_bool false, false_fills nulls n free))
  filled nulls (integer_type k n) c h = or_null nulls (integer_type k n) (λ free. (raw_integer k (pos 0), zero_fills nulls k n (zero_in_range k) free))
  filled nulls (utf8_type n) c h = or_null nulls (utf8_type n) (λ free. (raw_text [], text_fills nulls n free))
  filled nulls (binary_type n) c h = or_null nulls (binary_type n) (λ free. (raw_bytes [], bytes_fill nulls n free))
  filled nulls (list_type e n) c h = or_null nulls (list_type e n) (λ free. (raw_tuple no_raws, no_elements_fill nulls e n free))
  filled nulls (map_type k w sorted n) c h = or_null nulls (map_type k w sorted n) (λ free. (raw_tuple no_raws, no_entries_fill nulls k w sorted n free))
  filled nulls (fixed_size_list_type e size n) c h =
      or_null nulls (fixed_size_list_type e size n) (λ free. fixed_row nulls e size n c (λ d. filled nulls e d) (row nulls n _ c free h) free)
  filled nulls (struct_type names ts n) c h =
      or_null nulls (struct_type names ts n) (λ free. struct_row nulls names ts n c (λ cs. filled_fields nulls ts cs) (row nulls n _ c free h) free)
  filled nulls (union_type names (type_then t ts) (id ∷ ids) n) c h =
      or_null nulls (union_type names (type_then t ts) (id ∷ ids) n) (λ free. union_row nulls names t ts id ids n c (λ d. filled nulls t d) (row nulls n _ c free h) free)
  filled nulls (union_type names ts ids n) c h = or_null nulls (union_type names ts ids n) (λ free. absurd (none-some c (row nulls n _ c free h)))
  filled nulls (variant_type n) c h = or_null nulls (variant_type n) (λ free. (raw_variant null_type absent, variant_fills nulls n free))
  filled nulls (extension_type id metadata t) c h = let v = filled nulls t c h in (v.0, record { valid = v.1.valid; same = v.1.same })

  filled_fields : (nulls : Bool) (ts : TypeTrees) (cs : Contents) → fillings nulls ts ≡ Some cs → FilledFields nulls ts
  filled_fields nulls no_types cs h = (no_raws, tt)
  filled_fields nulls (type_then t ts) cs h = both_rows nulls t ts cs (λ c. filled nulls t c) (λ ds. filled_fields nulls ts ds) h

-- what fills a type is the content of a valid value
pub filling-valid : (nulls : Bool) (t : TypeTree) (c : Content) → filling nulls t ≡ Some c → Has t c
filling-valid nulls t c h =
    let v = filled nulls t c h in
    record { value = v.0; valid = v.1.valid; same = same_Some _ _ (sym v.1.same ∙ h) }
