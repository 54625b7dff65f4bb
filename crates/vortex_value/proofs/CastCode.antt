-- What the code of a cast meets, one level at a time.
use Rattle.std.proofs.Common.{◌≡◌, ◌≢◌, ℕ, suc, ◌<◌, inl, inr, true, false, List, [], ◌∷◌, ◌++◌, length, get_or, drop, drop-cons, Option, Some, None, Result, Ok, Err, option_map, refl, sym, ap, ◌∙◌, arith, rules, IfErr, IsSome, subst}
use Rattle.std.proofs.lemmas.Bool.Decides.{Decides-eqb, Decides-like}
use Rattle.std.proofs.lemmas.List.{nil_from_length}
use Rattle.std.specs.Bool.{Decides}
use Rattle.std.specs.Result.{MatchResult}
use Rattle.vortex_dtype.specs.Lemmas.TypeLevels.{type_of-List, type_of-FixedSizeList, type_of-Map, type_of-Struct, type_of-Extension}
use Rattle.vortex_dtype.specs.TypeOf.{MapParts, type_of, dtype_trees}
use Rattle.vortex_dtype.specs.TypeTree.{TypeTree, null_type, bool_type, integer_type, utf8_type, binary_type, variant_type, extension_type, IsFlat, storage}
use Rattle.vortex_dtype.specs.declared.types.DType.{DType}
use Rattle.vortex_value.specs.Breaches.{breaches}
use Rattle.vortex_value.specs.CastAnswers.{IsLeaf, IsTakenWhole}
use Rattle.vortex_value.specs.Casts.{IsExtension}
use Rattle.vortex_value.specs.Steps.CastSteps.{Appends, Makes, Refused, OutOfMemoryOnlyIfMakeable, accepts, bare_to, both, cast_to, entry_to, fields_to, pair_to, keeps_its_kind, types_with, whole_to}
use Rattle.vortex_value.specs.Values.Content.{Content, content}
use Rattle.vortex_value.specs.Values.RawKinds.{TakesNoMemory}
use Rattle.vortex_value.specs.Values.RawTree.{RawTree, absent, raw_bool, raw_integer, raw_text, raw_bytes, raw_tuple, raw_union, raw_variant, RawTrees, no_raws, is_absent}
use Rattle.vortex_value.specs.Values.RawOf.{raw_of, union_tree, value_trees, value_tree}
use Rattle.vortex_value.specs.Validity.{Valid}
use Rattle.vortex_value.specs.declared.cast.refusals.Refusal.{Refusal}
use Rattle.vortex_value.specs.declared.cast.refusals.Refusal.TheVariants.{NoMemory}
use Rattle.vortex_value.specs.declared.unions.UnionValue.{UnionValue}
use Rattle.vortex_value.specs.declared.values.ScalarValue.{ScalarValue, the_lemmas}
use Rattle.vortex_value.proofs.ValidSteps.{two_places}
use Rattle.vortex_value.proofs.ValidityLaws.{valid_exactly_without_breach}
use Rattle.vortex_value.proofs.ValueSteps.{value_tree-Tuple, count-value_trees, union_tree-child}

-- a type accepts exactly the values that are valid for it
pub accepts-Decides : (t : TypeTree) (v : RawTree) → Decides (accepts t v) (Valid t v)
accepts-Decides t v =
    let exactly = valid_exactly_without_breach t v in
    Decides-like (accepts t v) (λ h. exactly.1 (nil_from_length (breaches t v) h)) (λ h. ap length (exactly.0 h)) (Decides-eqb (length (breaches t v)) 0)

flat_takes : (t : TypeTree) (v : RawTree) → IsFlat t → Valid t v → TakesNoMemory v
flat_takes t absent h p = tt
flat_takes t (raw_bool b) h p = tt
flat_takes t (raw_integer k z) h p = tt
flat_takes null_type v h p = absurd p
flat_takes (bool_type n) v h p = absurd p
flat_takes (integer_type k n) v h p = absurd p
flat_takes _ v h p = absurd h

-- what a flat type accepts takes no memory
pub flat_accepts : (t : TypeTree) (v : RawTree) → IsFlat t → accepts t v ≡ true → TakesNoMemory v
flat_accepts t v h p = flat_takes t v h ((accepts-Decides t v).0 p)

-- what stays and is of a flat type takes no memory
pub flat_keeps_its_kind : (v : RawTree) (s t : TypeTree) → IsFlat t → keeps_its_kind v s t ≡ true → TakesNoMemory v
flat_keeps_its_kind (raw_bool b) s t h e = tt
flat_keeps_its_kind (raw_integer k z) s t h e = tt
flat_keeps_its_kind absent s t h e = tt
flat_keeps_its_kind (raw_text bs) (utf8_type n) (utf8_type m) h e = absurd h
flat_keeps_its_kind (raw_bytes bs) (binary_type n) (binary_type m) h e = absurd h
flat_keeps_its_kind (raw_variant u v) (variant_type n) (variant_type m) h e = absurd h
flat_keeps_its_kind _ s t h e = cc

pub flat_storage : (t : TypeTree) → IsFlat t → IsFlat (storage t)
flat_storage (extension_type id metadata t) h = absurd h
flat_storage null_type h = h
flat_storage _ h = h

-- what the parts become that are done, and the rest
abbrev pub after : List (Option ScalarValue) → Option RawTrees → Option RawTrees
after [] made = made
after (v ∷ vs) made = both (Some (raw_of v)) (after vs made)

pub after-none : (vs : List (Option ScalarValue)) → after vs None ≡ None
after-none [] = refl
after-none (v ∷ vs) = rw (after-none vs)

pub after-all : (vs : List (Option ScalarValue)) → after vs (Some no_raws) ≡ Some (value_trees vs)
after-all [] = refl
after-all (v ∷ vs) = rw (after-all vs)

pub after-append : (vs : List (Option ScalarValue)) (v : Option ScalarValue) (made : Option RawTrees) → after (vs ++ v ∷ []) made ≡ after vs (both (Some (raw_of v)) made)
after-append [] v made = refl
after-append (w ∷ vs) v made = rw (after-append vs v made)

no_rest : (made : Option RawTree) → both made None ≡ None
no_rest None = refl
no_rest (Some v) = refl

-- the parts that are done, with one more
pub one_more : (vs : List (Option ScalarValue)) (v : Option ScalarValue) (all here rest : Option RawTrees) (made : Option RawTree) → all ≡ after vs here → here ≡ both made rest → made ≡ Some (raw_of v)
    → all ≡ after (vs ++ v ∷ []) rest
one_more vs v all here rest made a b m = a ∙ ap (after vs) (b ∙ ap (λ o. both o rest) m) ∙ sym (after-append vs v rest)

-- a part that is none leaves nothing
pub none_more : (vs : List (Option ScalarValue)) (all here rest : Option RawTrees) (made : Option RawTree) → all ≡ after vs here → here ≡ both made rest → made ≡ None → all ≡ None
none_more vs all here rest made a b m = a ∙ ap (after vs) (b ∙ ap (λ o. both o rest) m) ∙ after-none vs

-- at the end the parts that are done are all
pub all_done : (vs : List (Option ScalarValue)) (all here : Option RawTrees) → all ≡ after vs here → here ≡ Some no_raws → all ≡ Some (value_trees vs)
all_done vs all here a e = a ∙ ap (after vs) e ∙ after-all vs

-- the refusal of a part, passed on
pub passed_on : {A B C : Type 0} (tree : A → C) (part : Option B) (all : Option C) (r : Result A Refusal) (e : Refusal) → r ≡ Err e → Refused part e → (part ≡ None → all ≡ None) → Makes tree all r
passed_on tree part all (Ok x) e is h none = cc
passed_on tree part all (Err f) e is (inl m) none = inl cc
passed_on tree part all (Err f) e is (inr m) none = inr (cc, none m.1)

-- the same where a part was to be appended
pub passed_up : {B : Type 0} (before now : List (Option ScalarValue)) (part : Option B) (all : Option RawTree) (r : Result (Unit {0}) Refusal) (e : Refusal) → r ≡ Err e → Refused part e → (part ≡ None → all ≡ None)
    → Appends before now all r
passed_up before now part all (Ok x) e is h none = cc
passed_up before now part all (Err f) e is (inl m) none = inl cc
passed_up before now part all (Err f) e is (inr m) none = inr (cc, none m.1)

-- a part that was pushed is appended
pub appended : (before now : List (Option ScalarValue)) (v : Option ScalarValue) (made : Option RawTree) (r : Result (Unit {0}) Refusal)
    → MatchResult r (λ x. now ≡ before ++ v ∷ []) (λ e. e ≡ NoMemory) → made ≡ Some (raw_of v) → Appends before now made r
appended before now v made (Ok x) h is = (v, h, is)
appended before now v made (Err e) h is = inl h

-- the parts that are done, with the one that was appended
pub one_added : (before now : List (Option ScalarValue)) (all here rest : Option RawTrees) (made : Option RawTree) → all ≡ after before here → here ≡ both made rest
    → (v : Option ScalarValue) × (now ≡ before ++ v ∷ []) × (made ≡ Some (raw_of v)) → all ≡ after now rest
one_added before now all here rest made a b h = rw h.1 (one_more before h.0 all here rest made a b h.2)

-- the parts from place i on
pub parts_at : (vs : List (Option ScalarValue)) (i : ℕ) (v : Option ScalarValue) → i < length vs → v ≡ get_or vs i v → drop i vs ≡ v ∷ drop (suc i) vs
parts_at vs i v below is = rw (drop-cons vs i v, ← is)

-- a pair without a value
pub no_value : (key : Option RawTree) → pair_to key None ≡ None
no_value None = refl
no_value (Some v) = refl

-- an entry of two parts, and one of another number
pub entry_at : (vs : List (Option ScalarValue)) (x y : Option ScalarValue) (s t : MapParts) → length vs ≡ 2 → x ≡ get_or vs 0 x → y ≡ get_or vs 1 y
    → entry_to (raw_tuple (value_trees vs)) s t ≡ pair_to (cast_to (raw_of x) s.key t.key) (cast_to (raw_of y) s.value t.value)
entry_at vs x y s t two p q = rw (two_places vs x y two p q) refl

pub no_entry : (vs : List (Option ScalarValue)) (s t : MapParts) → length vs ≢ 2 → entry_to (raw_tuple (value_trees vs)) s t ≡ None
no_entry [] s t other = refl
no_entry (a ∷ []) s t other = refl
no_entry (a ∷ b ∷ []) s t other = absurd (other refl)
no_entry (a ∷ b ∷ c ∷ vs) s t other = refl

-- a key and a value that were appended to no parts make their pair
pub pair_added : (key value : Option RawTree) (before one two : List (Option ScalarValue)) (all : Option RawTree) → before ≡ []
    → (v : Option ScalarValue) × (one ≡ before ++ v ∷ []) × (key ≡ Some (raw_of v)) → (v : Option ScalarValue) × (two ≡ one ++ v ∷ []) × (value ≡ Some (raw_of v))
    → all ≡ pair_to key value → all ≡ Some (raw_tuple (value_trees two))
pair_added key value before one two all none p q a = a ∙ rw (p.2, q.2, q.1, p.1, none) refl

-- fields and types of other numbers
pub no_fields : (vs : List (Option ScalarValue)) (ss ts : List DType) → ¬ ((length vs ≡ length ss) × (length ss ≡ length ts)) → fields_to (value_trees vs) (dtype_trees ss) (dtype_trees ts) ≡ None
no_fields [] [] [] other = absurd (other (refl, refl))
no_fields (v ∷ vs) (s ∷ ss) (t ∷ ts) other = ap (both (cast_to (raw_of v) (type_of s) (type_of t))) (no_fields vs ss ts (λ h. other (ap suc h.0, ap suc h.1))) ∙ no_rest (cast_to (raw_of v) (type_of s) (type_of t))
no_fields _ _ _ other = refl

-- the first of the fields, and the rest
pub fields_at : (vs ws : List (Option ScalarValue)) (ss rs ts us : List DType) (v : Option ScalarValue) (s t : DType) → vs ≡ v ∷ ws → ss ≡ s ∷ rs → ts ≡ t ∷ us
    → fields_to (value_trees vs) (dtype_trees ss) (dtype_trees ts) ≡ both (cast_to (raw_of v) (type_of s) (type_of t)) (fields_to (value_trees ws) (dtype_trees rs) (dtype_trees us))
fields_at vs ws ss rs ts us v s t p q r = rw (p, q, r) refl

-- no fields left
pub fields_end : (vs : List (Option ScalarValue)) (ss ts : List DType) → length vs ≡ length ss → length ss ≡ length ts → length vs ≡ 0 → fields_to (value_trees vs) (dtype_trees ss) (dtype_trees ts) ≡ Some no_raws
fields_end [] [] [] p q h = refl
fields_end (v ∷ vs) ss ts p q h = absurd (omega arith)
fields_end [] (s ∷ ss) ts p q h = absurd (omega arith)
fields_end [] [] (t ∷ ts) p q h = absurd (omega arith)

-- a union's child goes between the two types of its id
pub union_at : (u : UnionValue) (s t a b : TypeTree) → types_with u.type_id s t ≡ Some (a, b)
    → bare_to (union_tree u) s t ≡ option_map (raw_union u.type_id) (cast_to (raw_of (option_map (λ c. c.value) u.child)) a b)
union_at u s t a b is = rw (union_tree-child u, is) refl

-- the union that holds what the child became, or no memory for it
pub made_union : (all : Option RawTree) (id : ℕ) (child : RawTree) (r : Result UnionValue Refusal)
    → MatchResult r (λ made. union_tree made ≡ raw_union id child) (λ e. e ≡ NoMemory) → all ≡ Some (raw_union id child) → Makes union_tree all r
made_union all id child (Ok x) h a = a ∙ ap Some (sym h)
made_union all id child (Err e) h a = inl h

not_absent : (v : ScalarValue) → is_absent (value_tree v) ≡ false
not_absent v = search (rules, the_lemmas)

below : (bare : TypeTree → TypeTree → Option RawTree) (v : RawTree) (s t : TypeTree) → is_absent v ≡ false → ¬ (IsExtension s) → whole_to bare v s t ≡ bare s (storage t)
below bare absent s t there plain = cc
below bare v (extension_type id metadata u) t there plain = absurd (plain tt)
below bare v s t there plain = refl

-- from a type that is no extension a value that is present goes to what the target stores
pub cast_below : (v : ScalarValue) (s t : TypeTree) → ¬ (IsExtension s) → cast_to (value_tree v) s t ≡ bare_to (value_tree v) s (storage t)
cast_below v s t plain = below (λ a b. bare_to (value_tree v) a b) (value_tree v) s t (not_absent v) plain

-- of a type that is no extension what is taken whole is a leaf
pub leaf_of : (s : TypeTree) (c : Content) → ¬ (IsExtension s) → IsTakenWhole s c → IsLeaf c
leaf_of s c plain (inl extension) = absurd (plain extension)
leaf_of s c plain (inr leaf) = leaf

pub ruleset shown = (type_of-List, type_of-FixedSizeList, type_of-Map, type_of-Struct, type_of-Extension, value_tree-Tuple, count-value_trees, flat_accepts, flat_keeps_its_kind, flat_storage, after-none, after-all, after-append)

-- the child of a leaf is one
pub leaf_child : (u : UnionValue) → IsLeaf (content (union_tree u)) → IsLeaf (content (raw_of (option_map (λ c. c.value) u.child)))
leaf_child u leaf = rw (union_tree-child u) at leaf

some_mapped : {A B : Type 0} (f : A → B) (o : Option A) → IsSome o → IsSome (option_map f o)
some_mapped f (Some x) some = refl
some_mapped f None some = some

-- where the child is there to make, so is the union
pub some_union : (id : ℕ) (all child : Option RawTree) → all ≡ option_map (raw_union id) child → IsSome child → IsSome all
some_union id all child same some = subst IsSome (sym same) (some_mapped (raw_union id) child some)

pub spares_some : (all : Option RawTree) (w : RawTree) (r : Result UnionValue Refusal) → all ≡ Some w → OutOfMemoryOnlyIfMakeable all r
spares_some all w (Ok x) is = tt
spares_some all w (Err e) is = λ memory. subst IsSome (sym is) refl

pub refused_as : {A : Type 0} (r : Result A Refusal) (e : Refusal) (P : Refusal → Type 0) → r ≡ Err e → P e → IfErr r P
refused_as (Ok x) e P is p = cc
refused_as (Err f) e P is p = let same : f ≡ e = cc in subst P (sym same) p
