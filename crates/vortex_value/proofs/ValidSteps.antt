-- Steps of the check of validity: what one level of a raw value and of a type is, and loops over parts.
use Rattle.std.proofs.Common.{◌≡◌, ◌≢◌, ℕ, suc, ◌+◌, ◌<◌, ◌==◌, ◌⊎◌, Bool, true, false, List, [], ◌∷◌, ◌++◌, length, Option, Some, None, Global, drop, get_or, drop-cons, add-one, refl, sym, ap, arith, true≢false, map, ⊎_elim}
use Rattle.std.proofs.lemmas.Bool.Decides.{nat_tests}
use Rattle.std.proofs.lemmas.List.{get_or_default}
use Rattle.std.specs.Option.{is_some}
use Rattle.vortex_dtype.specs.declared.nullability.Nullability.{Nullability}
use Rattle.vortex_dtype.specs.declared.types.DType.{DType}
use Rattle.vortex_dtype.specs.declared.error.Step.{Step}
use Rattle.vortex_dtype.specs.declared.error.Step.TheVariants.{Element, Entry, Key, Value}
use Rattle.vortex_dtype.specs.declared.error.Breach.TheVariants.{WrongLength}
use Rattle.vortex_dtype.specs.TypeOf.{as_type_trees, FieldParts, dtype_trees, struct_type_of, type_of}
use Rattle.vortex_dtype.specs.TypeTree.{TypeTree, TypeTrees, no_types, type_then, storage}
use Rattle.vortex_value.specs.Breaches.{Found, HasSteps, count_types, first, here, under, breaches, breaches_at, element_breaches, entry_breaches, breaches_of_entry, field_breaches}
use Rattle.vortex_value.specs.Steps.Faults.{Checks, HasPath, Shows}
use Rattle.vortex_value.specs.Values.RawOf.{raw_of, value_trees}
use Rattle.vortex_value.specs.Values.RawTree.{raw_tuple, no_raws, count}
use Rattle.vortex_value.specs.declared.validate.ValidityError.{ValidityError}
use Rattle.vortex_value.specs.declared.validate.ValidityError.TheVariants.{NoMemory, NoPath, First}
use Rattle.vortex_value.specs.declared.validate.Trace.{Trace}
use Rattle.vortex_value.specs.declared.values.ScalarValue.{ScalarValue}
use Rattle.vortex_dtype.specs.Lemmas.TypeLaws.{is_nullable-storage}
use Rattle.vortex_dtype.specs.Lemmas.TypeLevels.{type_of-List, type_of-FixedSizeList, type_of-Map, type_of-Struct, type_of-Union}
use Rattle.vortex_value.proofs.ValueSteps.{value_tree-Tuple, count-value_trees}

pub count_types-as_type_trees : (ts : List TypeTree) → count_types (as_type_trees ts) ≡ length ts
count_types-as_type_trees [] = refl
count_types-as_type_trees (t ∷ ts) = ap suc (count_types-as_type_trees ts)

pub Shows-more : (kept : Bool) (f : ValidityError) (fs gs : List Found) → Shows kept f fs → Shows kept f (fs ++ gs)
Shows-more kept NoMemory [] gs h = absurd h
Shows-more kept NoMemory (f ∷ fs) gs h = h
Shows-more kept NoPath [] gs h = absurd (h.1 refl)
Shows-more kept NoPath (f ∷ fs) gs h = (h.0, λ e. cc)
Shows-more kept (First steps breach) [] gs h = cc
Shows-more kept (First steps breach) (f ∷ fs) gs h = h

-- a path from one level up has steps
pub under-steps : (step : Step) (fs : List Found) → fs ≢ [] → HasSteps (first (under step fs))
under-steps step [] h = h refl
under-steps step (f ∷ fs) h = λ e. cc

pub none-under : (step : Step) (fs : List Found) → under step fs ≡ [] → fs ≡ []
none-under step [] h = refl
none-under step (f ∷ fs) h = cc

pub some-steps : (fs : List Found) → HasSteps (first fs) → fs ≢ []
some-steps [] h = absurd h
some-steps (f ∷ fs) h = λ e. cc

pub some-first : (fs : List Found) (f : Found) → first fs ≡ Some f → fs ≢ []
some-first [] f h = λ e. cc
some-first (g ∷ fs) f h = λ e. cc

-- the elements from place i on
pub elements_at : (e : TypeTree) (i : ℕ) (vs : List (Option ScalarValue)) (v : Option ScalarValue) → i < length vs → v ≡ get_or vs i v
    → element_breaches e i (value_trees (drop i vs)) ≡ under (Element i) (breaches_at (storage e) (raw_of v)) ++ element_breaches e (i + 1) (value_trees (drop (i + 1) vs))
elements_at e i vs v h is = rw (add-one, drop-cons vs i v, ← is)

-- the entries from place i on
pub entries_at : (k w : TypeTree) (i : ℕ) (vs : List (Option ScalarValue)) (v : Option ScalarValue) → i < length vs → v ≡ get_or vs i v
    → entry_breaches k w i (value_trees (drop i vs)) ≡ under (Entry i) (breaches_of_entry k w (raw_of v)) ++ entry_breaches k w (i + 1) (value_trees (drop (i + 1) vs))
entries_at k w i vs v h is = rw (add-one, drop-cons vs i v, ← is)

-- without values there are no fields
pub no_values : (i : ℕ) (ts : TypeTrees) → field_breaches i ts no_raws ≡ []
no_values i no_types = refl
no_values i (type_then t ts) = refl

-- no breach is left where the values or the fields are at an end
pub none_left : (i : ℕ) (ds : List DType) (vs : List (Option ScalarValue)) → (length vs ≡ 0) ⊎ (length ds ≡ 0) → field_breaches i (dtype_trees ds) (value_trees vs) ≡ []
none_left i [] [] h = refl
none_left i [] (v ∷ vs) h = refl
none_left i (d ∷ ds) [] h = refl
none_left i (d ∷ ds) (v ∷ vs) h = ⊎_elim (λ e. absurd (omega (arith, e))) (λ e. absurd (omega (arith, e))) h

-- the breaches of a struct with as many values as fields
pub struct_breaches : (f : FieldParts) (n : Nullability) (ds : List DType) (vs : List (Option ScalarValue)) → map type_of ds ≡ f.types → length vs ≡ length f.types
    → breaches_at (struct_type_of f n) (raw_tuple (value_trees vs)) ≡ field_breaches 0 (dtype_trees ds) (value_trees vs)
struct_breaches f n ds vs types lengths =
    let values = count-value_trees vs in
    let fields = count_types-as_type_trees f.types in
    let test : (count (value_trees vs) == count_types (as_type_trees f.types)) ≡ true = grind (arith, nat_tests) in
    rw (test, types) refl

-- a list of two is its two places
pub two_places : {A : Type 0} (xs : List A) (x y : A) → length xs ≡ 2 → x ≡ get_or xs 0 x → y ≡ get_or xs 1 y → xs ≡ x ∷ y ∷ []
two_places [] x y two a b = absurd (omega arith)
two_places (u ∷ []) x y two a b = absurd (omega arith)
two_places (u ∷ v ∷ []) x y two a b = rw (a, b)
two_places (u ∷ v ∷ w ∷ us) x y two a b = absurd (omega arith)

-- a tuple of another length is no entry
pub no_entry : (k w : TypeTree) (vs : List (Option ScalarValue)) → (length vs ≢ 2) → breaches_of_entry k w (raw_tuple (value_trees vs)) ≡ here WrongLength
no_entry k w [] h = refl
no_entry k w (u ∷ []) h = refl
no_entry k w (u ∷ v ∷ []) h = absurd (h refl)
no_entry k w (u ∷ v ∷ x ∷ vs) h = refl

-- the breaches of a pair
pub entry_of : (k w : TypeTree) (vs : List (Option ScalarValue)) (x y : Option ScalarValue) → length vs ≡ 2 → x ≡ get_or vs 0 x → y ≡ get_or vs 1 y
    → breaches_of_entry k w (raw_tuple (value_trees vs)) ≡ under Key (breaches k (raw_of x)) ++ under Value (breaches w (raw_of y))
entry_of k w vs x y two a b = rw (two_places vs x y two a b)

pub entry_with : (k w : TypeTree) (vs : List (Option ScalarValue)) (x : Option ScalarValue) → length vs ≡ 2 → x ≡ get_or vs 0 x
    → breaches_of_entry k w (raw_tuple (value_trees vs)) ≡ under Key (breaches k (raw_of x)) ++ under Value (breaches w (raw_of (get_or vs 1 None)))
entry_with k w vs x two a = entry_of k w vs x (get_or vs 1 None) two a (get_or_default vs 1 None (get_or vs 1 None) (omega arith))

pub Shows-some : (kept : Bool) (f : ValidityError) (fs : List Found) → Shows kept f fs → fs ≢ []
Shows-some kept NoMemory fs h = some-steps fs h
Shows-some kept NoPath fs h = h.1
Shows-some kept (First steps breach) fs h = some-first fs _ h

-- what a check of a part leaves where it passed, and where it did not
pub passed : (path before : Option Global) (r : Bool) (trace : Trace) (fs : List Found) → before ≡ path → Checks before r trace fs → r ≡ true → (trace.alloc ≡ path) × (fs ≡ [])
passed path before true trace fs same h e = rw (← same) h
passed path before false trace fs same h e = absurd (true≢false (sym e))

pub refused : (path before : Option Global) (r : Bool) (trace : Trace) (fs : List Found) → before ≡ path → Checks before r trace fs → r ≡ false → Checks path false trace fs
refused path before true trace fs same h e = absurd (true≢false e)
refused path before false trace fs same h e = rw (← same) h

-- the first breach of a part is the first of the whole
pub Checks-part : (path : Option Global) (r : Bool) (before after : Trace) (step : Step) (fs gs : List Found) → Checks path false before fs → Checks path r after (under step fs)
    → Checks path r after (under step fs ++ gs)
Checks-part path true before after step fs gs part h = absurd (Shows-some (is_some path) before.fault fs part (none-under step fs h.1))
Checks-part path false before after step fs gs part h = Shows-more (is_some path) after.fault (under step fs) gs h

Shows-path : (f : ValidityError) (fs : List Found) → Shows true f fs → HasPath f
Shows-path NoMemory fs h = tt
Shows-path NoPath fs h = cc
Shows-path (First steps breach) fs h = tt

-- a check that keeps the path leaves no error without one
pub Checks-path : (alloc : Global) (trace : Trace) (fs : List Found) → Checks (Some alloc) false trace fs → HasPath trace.fault
Checks-path alloc trace fs h = Shows-path trace.fault fs h

pub ruleset shown = (elements_at, entries_at, value_tree-Tuple, count-value_trees, type_of-List, type_of-FixedSizeList, type_of-Map, type_of-Struct, type_of-Union, is_nullable-storage, Shows-more, count_types-as_type_trees)
