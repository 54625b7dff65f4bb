-- Steps of refusals, up the type: of a whole by that of a part, if the others have values or have none.
use Rattle.std.proofs.Common.{◌≡◌, ◌≢◌, ℕ, ◌<◌, true, false, true≢false, List, [], ◌∷◌, Option, Some as Present, refl, sym, subst, ◌∙◌}
use Rattle.std.specs.Prelude.{Bool, Err, IfErr, IsErr, Ok, Result}
use Rattle.std.specs.Result.{IsErrAnd}
use Rattle.vortex_dtype.specs.TypeTree.{TypeTree, TypeTrees, extension_type, no_types, type_then, union_type, IsNullable, is_nullable}
use Rattle.vortex_dtype.specs.declared.nullability.Nullability.TheVariants.{NonNullable}
use Rattle.vortex_value.specs.Validity.{FieldsValid, Valid, type_with}
use Rattle.vortex_value.specs.Values.Content.{contents}
use Rattle.vortex_value.specs.Values.RawTree.{RawTree, RawTrees, no_raws, raw_then}
use Rattle.vortex_value.specs.declared.values.ScalarValue.{ScalarValue}
use Rattle.vortex_row.specs.Keys.{keys}
use Rattle.vortex_row.specs.Reading.{GoesBack, GoesBackIn, HasChild, HasOne, HasPlain, HasRead, HavePlain, IsChild, ArePlain, IsKey, IsPresent, IsStuck, PutsOne, ReadsOne, Refuses, Tells, bad_or_none, of_whole}
use Rattle.vortex_row.specs.declared.reader.KeyDecodeError.{KeyDecodeError}
use Rattle.vortex_row.specs.declared.reader.KeyDecodeError.TheVariants.{Bad, NoMemory}
use Rattle.vortex_row.specs.declared.reader.ValueError.{ValueError}
use Rattle.vortex_row.specs.declared.reader.ValueError.TheVariants.{Key, NoValue}
use Rattle.vortex_row.proofs.InhabitedSteps.{child-told, null-there, one-child, union-told, present-of}
use Rattle.vortex_row.proofs.PartSteps.{SameValues, SoFar, Takes, TupleOf, child-never, continue-child, opens-stuck, parts-tuple, present-stuck, some-key, some-keys, stuck-as, tagged-opens, tuple-parts}
use Rattle.vortex_row.proofs.StuckLaws.{stuck-here, stuck-later}
use Rattle.vortex_row.proofs.ValueSteps.{bare, end-missing, from_bare, head-missing, id-stuck, part-stuck, to_bare, union-none}

-- ---- refusals that are passed on

pub passed : {A : Type 0} (One : RawTree → Type 0) (view : A → RawTree) (r : Result A ValueError) (e : ValueError) (old now : List ℕ) → IsErr r × IsErrAnd r (λ f. f ≡ e) → Refuses One e old now → ReadsOne One view r old now
passed One view (Ok x) e old now h g = absurd (true≢false (sym h.0))
passed One view (Err f) e old now h g = subst (λ d. Refuses One d old now) (sym h.1) g

pub puts-passed : (One : RawTree → Type 0) (r : Result Unit ValueError) (e : ValueError) (parts more : List (Option ScalarValue)) (old now : List ℕ) → IsErr r × IsErrAnd r (λ f. f ≡ e) → Refuses One e old now → PutsOne One r parts more old now
puts-passed One (Ok u) e parts more old now h g = absurd (true≢false (sym h.0))
puts-passed One (Err f) e parts more old now h g = subst (λ d. Refuses One d old now) (sym h.1) g

pub told-on : {A : Type 0} (One : RawTree → Type 0) (r : Result A KeyDecodeError) (e : KeyDecodeError) (old now : List ℕ) → IsErr r × IsErrAnd r (λ f. f ≡ e) → Refuses One (Key e) old now → IfErr r (λ f. Refuses One (Key f) old now)
told-on One (Ok x) e old now h g = tt
told-on One (Err f) e old now h g = subst (λ d. Refuses One (Key d) old now) (sym h.1) g

pub no-memory : (One : RawTree → Type 0) (e : KeyDecodeError) (old now : List ℕ) → e ≡ NoMemory → Refuses One (Key e) old now
no-memory One e old now is = λ bad. absurd (memory_is_bad (sym is ∙ bad))
  where
    memory_is_bad : ◌≡◌ {A = KeyDecodeError} NoMemory Bad → ⊥
    memory_is_bad e = cc

-- ---- values of one type that are just those of another

same-there : (u t : TypeTree) → SameValues u t → HasPlain (IsPresent u) → HasPlain (IsPresent t)
same-there u t same h = (h.0, record { kind = same.to h.0 h.1.kind; held = h.1.held; untyped = h.1.untyped })

back : (u t : TypeTree) → SameValues u t → SameValues t u
back u t same = record { to = same.from; from = same.to }

refuses-as : (u t : TypeTree) (e : ValueError) (old now : List ℕ) → SameValues u t → Refuses (IsPresent u) e old now → Refuses (IsPresent t) e old now
refuses-as u t NoValue old now same h = λ p. h (same-there t u (back u t same) p)
refuses-as u t (Key f) old now same h = λ bad. (same-there u t same (h bad).0, stuck-as u t old now same (h bad).1)

pub reads-same : {A : Type 0} (u t : TypeTree) (view : A → RawTree) (r : Result A ValueError) (old now : List ℕ) → SameValues u t → ReadsOne (IsPresent u) view r old now → ReadsOne (IsPresent t) view r old now
reads-same u t view (Ok x) old now same h = record { plain = record { kind = same.to (view x) h.plain.kind; held = h.plain.held; untyped = h.plain.untyped }; is = h.is }
reads-same u t view (Err e) old now same h = refuses-as u t e old now same h

bare-same : (t : TypeTree) → SameValues (bare t) t
bare-same t = record { to = from_bare t; from = to_bare t }

-- one kind of type
pub arm-one : {A : Type 0} (d t : TypeTree) (view : A → RawTree) (r : Result A ValueError) (old now : List ℕ) → d ≡ t → ReadsOne (IsPresent (bare t)) view r old now → ReadsOne (IsPresent d) view r old now
arm-one d t view r old now e h = subst (λ u. ReadsOne (IsPresent u) view r old now) (sym e) (reads-same (bare t) t view r old now (bare-same t) h)

pub extension-arm : {A : Type 0} (d t : TypeTree) (id metadata : List ℕ) (view : A → RawTree) (r : Result A ValueError) (old now : List ℕ) → d ≡ extension_type id metadata t → ReadsOne (IsPresent t) view r old now → ReadsOne (IsPresent d) view r old now
extension-arm d t id metadata view r old now e h =
    subst (λ u. ReadsOne (IsPresent u) view r old now) (sym e)
    (reads-same t (extension_type id metadata t) view r old now
    (record { to = λ v p. record { valid = p.valid; present = p.present }; from = λ v p. record { valid = p.valid; present = p.present } }) h)

-- a kind that has values
pub arm-read : (d t : TypeTree) (v : RawTree) (old now : List ℕ) → d ≡ t → HasRead (IsPresent (bare t)) v old now → HasRead (IsPresent d) v old now
arm-read d t v old now e h = subst (λ u. HasRead (IsPresent u) v old now) (sym e) (record { plain = record { kind = from_bare t v h.plain.kind; held = h.plain.held; untyped = h.plain.untyped }; is = h.is })

pub arm-refused : {A : Type 0} (d t : TypeTree) (view : A → RawTree) (r : Result A ValueError) (e : KeyDecodeError) (old now : List ℕ) → d ≡ t → IsErr r × IsErrAnd r (λ f. f ≡ Key e) → HasPlain (IsPresent d)
    → (e ≡ Bad → IsStuck (IsKey (IsPresent (bare t))) old now) → ReadsOne (IsPresent d) view r old now
arm-refused d t view r e old now is h has stuck =
    passed (IsPresent d) view r (Key e) old now h
    (λ bad. (has, subst (λ u. IsStuck (IsKey (IsPresent u)) old now) (sym is) (stuck-as (bare t) t old now (bare-same t) (stuck bad))))

-- ---- where values are there or not

pub told : (b : Bool) (e : ValueError) (One : RawTree → Type 0) (old now : List ℕ) → e ≡ bad_or_none b → Tells b (HasPlain One) → IsStuck (IsKey One) old now → Refuses One e old now
told true e One old now is has stuck = subst (λ d. Refuses One d old now) (sym is) (λ bad. (has, stuck))
told false e One old now is none stuck = subst (λ d. Refuses One d old now) (sym is) none

-- what need not come is told by a byte that is bad
pub optional-stuck : (One : RawTree → Type 0) (part : ValueError) (e : KeyDecodeError) (start now later : List ℕ) → Refuses One part start now → GoesBack start part e now later → e ≡ Bad → IsStuck (IsKey One) start later
optional-stuck One NoValue e start now later h goes bad = subst (λ xs. IsStuck (IsKey One) start xs) (sym goes.1) (stuck-here (IsKey One) start (λ s zs rest k alike f. h (k.value, k.plain)))
optional-stuck One (Key f) e start now later h goes bad = subst (λ xs. IsStuck (IsKey One) start xs) (sym goes.1) (h (sym goes.0 ∙ bad)).1

-- a null may come in place of what does not
pub null-refused : (t : TypeTree) (nullable : Bool) (present : ValueError) (e : KeyDecodeError) (start now later : List ℕ) → nullable ≡ is_nullable t → nullable ≡ true → (IsNullable t → (bs : List ℕ) → start ≢ 1 ∷ bs)
    → Refuses (IsPresent t) present start now → GoesBack start present e now later → Refuses (Valid t) (Key e) start later
null-refused t nullable present e start now later is takes other h goes =
    λ bad. (null-there t nullable is takes, present-stuck t start start later refl other (optional-stuck (IsPresent t) present e start now later h goes bad))

pub present-refused : (t : TypeTree) (nullable : Bool) (present : ValueError) (start now : List ℕ) → nullable ≡ is_nullable t → nullable ≡ false → (IsNullable t → (bs : List ℕ) → start ≢ 1 ∷ bs)
    → Refuses (IsPresent t) present start now → Refuses (Valid t) present start now
present-refused t nullable NoValue start now is lacks other h = λ p. h (present-of t (sym is ∙ lacks) p.0 p.1)
present-refused t nullable (Key f) start now is lacks other h = λ bad.
    let (has, stuck) = h bad in
    ((has.0, record { kind = has.1.kind.valid; held = has.1.held; untyped = has.1.untyped }), present-stuck t start start now refl other stuck)

-- a kind that has values, where no null comes
pub kind-refused : (d t : TypeTree) (e : KeyDecodeError) (old mid now : List ℕ) → d ≡ t → HasPlain (IsPresent d) → mid ≡ old → (IsNullable d → (bs : List ℕ) → old ≢ 1 ∷ bs) → (e ≡ Bad → IsStuck (IsKey (IsPresent (bare t))) mid now)
    → Refuses (Valid d) (Key e) old now
kind-refused d t e old mid now is has same other stuck = λ bad. (
  (has.0, record { kind = has.1.kind.valid; held = has.1.held; untyped = has.1.untyped }),
  present-stuck d old mid now same other (subst (λ u. IsStuck (IsKey (IsPresent u)) mid now) (sym is) (stuck-as (bare t) t mid now (bare-same t) (stuck bad))),
)

pub puts-from : (One : RawTree → Type 0) (r : Result Unit ValueError) (parts more : List (Option ScalarValue)) (old mid now : List ℕ) → mid ≡ old → PutsOne One r parts more mid now → PutsOne One r parts more old now
puts-from One r parts more old mid now same h = subst (λ xs. PutsOne One r parts more xs now) same h

-- ---- tuples

tells-tuple : (b : Bool) (t : TypeTree) (All : RawTrees → Type 0) → TupleOf t All → Tells b (HavePlain All) → Tells b (HasPlain (IsPresent t))
tells-tuple true t All of h = parts-tuple t All of h
tells-tuple false t All of h = λ p. h (tuple-parts t All of p)

-- the first byte is not that of a tuple
pub head-refused : (b : Bool) (e : ValueError) (t : TypeTree) (All : RawTrees → Type 0) (old now : List ℕ) → TupleOf t All → e ≡ bad_or_none b → Tells b (HavePlain All) → now ≡ old → ((bs : List ℕ) → old ≢ 23 ∷ bs)
    → Refuses (IsPresent t) e old now
head-refused b e t All old now of is tells same other = told b e (IsPresent t) old now is (tells-tuple b t All of tells) (head-missing t All old now of same other)

takes-there : (Rest : RawTrees → Type 0) (One : RawTree → Type 0) (More : RawTrees → Type 0) → Takes Rest One More → HasPlain One → HavePlain More → HavePlain Rest
takes-there Rest One More takes one more = (
  raw_then one.0 more.0,
  record {
    kind = takes.join one.0 more.0 one.1.kind more.1.kind;
    held = (one.1.held, more.1.held);
    untyped = (one.1.untyped, more.1.untyped);
  },
)

-- with the parts so far there are all, if the others are there
all-there : (All Rest : RawTrees → Type 0) (vs : RawTrees) (old now : List ℕ) → SoFar All vs old Rest now → HavePlain Rest → HavePlain All
all-there All Rest vs old now so h = let k = so.go.join (keys (contents h.0)) (record { values = h.0; plain = h.1; is = refl }) in (k.values, k.plain)

module _ (t : TypeTree) (All : RawTrees → Type 0) (One : RawTree → Type 0) (Rest More : RawTrees → Type 0) (vs : RawTrees) (old mid here same now : List ℕ) (of : TupleOf t All) (e : old ≡ 23 ∷ mid)
    (so : SoFar All vs mid Rest here) (again : same ≡ here) (takes : Takes Rest One More) (other : Rest no_raws → (bs : List ℕ) → here ≢ 0 ∷ bs) where
  part-bad : HasPlain One → HavePlain More → IsStuck (IsKey One) same now → HasPlain (IsPresent t) × IsStuck (IsKey (IsPresent t)) old now
  part-bad one more stuck =
      let rest = takes-there Rest One More takes one more in
      let all = all-there All Rest vs mid here so rest in (
        parts-tuple t All of all,
        part-stuck t All One Rest More vs old mid here same now of e so again (some-keys All all) (some-keys Rest rest) (some-keys More more) takes other stuck,
      )

  -- a part is refused, and those after it have values or have none
  pub part-refused : (part : ValueError) (b : Bool) (r : ValueError) → (HavePlain All → HasPlain One) → (HavePlain All → HavePlain More) → Tells b (HavePlain More) → Refuses One part same now → r ≡ of_whole part b → Refuses (IsPresent t) r old now
  part-refused NoValue b r one more tells h is = subst (λ d. Refuses (IsPresent t) d old now) (sym is) (λ p. h (one (tuple-parts t All of p)))
  part-refused (Key NoMemory) b r one more tells h is = subst (λ d. Refuses (IsPresent t) d old now) (sym is) (no-memory (IsPresent t) NoMemory old now refl)
  part-refused (Key Bad) true r one more tells h is = subst (λ d. Refuses (IsPresent t) d old now) (sym is) (λ bad. part-bad (h refl).0 tells (h refl).1)
  part-refused (Key Bad) false r one more tells h is = subst (λ d. Refuses (IsPresent t) d old now) (sym is) (λ p. tells (more (tuple-parts t All of p)))

  -- a part is refused, and those after it have values if it has
  pub part-passed : (part : ValueError) → (HavePlain All → HasPlain One) → (HasPlain One → HavePlain More) → Refuses One part same now → Refuses (IsPresent t) part old now
  part-passed NoValue one more h = λ p. h (one (tuple-parts t All of p))
  part-passed (Key f) one more h = λ bad. part-bad (h bad).0 (more (h bad).0) (h bad).1

-- the end is not there
pub end-refused : (t : TypeTree) (All Rest : RawTrees → Type 0) (vs : RawTrees) (e : KeyDecodeError) (old mid here same : List ℕ) → TupleOf t All → old ≡ 23 ∷ mid → SoFar All vs mid Rest here → same ≡ here
    → Rest no_raws → ((v : RawTree) (ws : RawTrees) → ¬ (Rest (raw_then v ws))) → ((bs : List ℕ) → here ≢ 0 ∷ bs) → Refuses (IsPresent t) (Key e) old same
end-refused t All Rest vs e old mid here same of is so again none never other =
    let all = all-there All Rest vs mid here so (no_raws, record { kind = none; held = tt; untyped = tt }) in
    λ bad. (parts-tuple t All of all, end-missing t All Rest vs old mid here same of is so again (some-keys All all) none never other)

pub one-field_told : (b : Bool) (w value : TypeTree) → w ≡ value → Tells b (HasPlain (Valid w)) → Tells b (HavePlain (FieldsValid (type_then value no_types)))
one-field_told true w value e h =
    let one = subst (λ t. HasPlain (Valid t)) e h in
    (raw_then one.0 no_raws, record { kind = (one.1.kind, tt); held = (one.1.held, tt); untyped = (one.1.untyped, tt) })
one-field_told false w value e h = λ p. h (subst (λ t. HasPlain (Valid t)) (sym e) (first p.0 p.1))
  where
    first : (vs : RawTrees) → ArePlain (FieldsValid (type_then value no_types)) vs → HasPlain (Valid value)
    first no_raws plain = absurd plain.kind
    first (raw_then v vs) plain = (v, record { kind = plain.kind.0; held = plain.held.0; untyped = plain.untyped.0 })

-- ---- unions

module _ (ids : List ℕ) (ts : TypeTrees) where
  abbrev pub Tagged : TypeTree
  Tagged = union_type [] ts ids NonNullable

  pub head-union_refused : (b : Bool) (e : ValueError) (old now : List ℕ) → e ≡ bad_or_none b → Tells b (HasOne (IsChild ids ts)) → now ≡ old → ((bs : List ℕ) → old ≢ 24 ∷ bs) → Refuses (IsPresent Tagged) e old now
  head-union_refused b e old now is tells same other =
      told b e (IsPresent Tagged) old now is (union-told b Tagged [] ts ids NonNullable refl tells) (union-none ids ts old now same other)

  -- the id is not there, or no variant has it, or the variant with it has no value
  pub id-refused : (b : Bool) (e : ValueError) (old mid now : List ℕ) → e ≡ bad_or_none b → Tells b (HasOne (IsChild ids ts)) → old ≡ 24 ∷ mid → IsStuck (IsChild ids ts) mid now → Refuses (IsPresent Tagged) e old now
  id-refused true e old mid now is one first stuck = subst (λ d. Refuses (IsPresent Tagged) d old now) (sym is) (λ bad. (union-told true Tagged [] ts ids NonNullable refl one, id-stuck ids ts old mid now first one stuck))
  id-refused false e old mid now is none first stuck = subst (λ d. Refuses (IsPresent Tagged) d old now) (sym is) (union-told false Tagged [] ts ids NonNullable refl none)

  pub lacks-child : (id : ℕ) (t : TypeTree) (child : ValueError) (here now : List ℕ) → type_with id ids ts ≡ Present t → Refuses (Valid t) child here now → child ≡ NoValue → ¬ (HasChild id ids ts)
  lacks-child id t child here now has h is = child-told false id ids ts t has (subst (λ d. Refuses (Valid t) d here now) is h)

  -- the child with the id is refused
  pub child-refused : (id : ℕ) (t : TypeTree) (child r : ValueError) (old mid here now later : List ℕ) → old ≡ 24 ∷ mid → mid ≡ id ∷ here → type_with id ids ts ≡ Present t → id < 256 → Refuses (Valid t) child here now
      → GoesBackIn (HasOne (IsChild ids ts)) mid child r now later → Refuses (IsPresent Tagged) r old later
  child-refused id t NoValue r old mid here now later first next has small h goes =
      id-refused goes.0 r old mid later goes.1 goes.2 first (subst (λ xs. IsStuck (IsChild ids ts) mid xs) (sym goes.3) (child-never mid mid ids ts id here t refl next has h))
  child-refused id t (Key f) r old mid here now later first next has small h goes =
      subst (λ d. Refuses (IsPresent Tagged) d old later) (sym goes.0) (λ bad.
      let one = one-child id ids ts small (record { type = t; has = has; value = (h bad).0 }) in (
        union-told true Tagged [] ts ids NonNullable refl one,
        subst (λ xs. IsStuck (IsKey (IsPresent Tagged)) old xs) (sym goes.1)
            (opens-stuck Tagged 24 (IsChild ids ts) old mid now (tagged-opens ids ts) first one
            (stuck-later (id ∷ []) (IsChild ids ts) (IsKey (Valid t)) mid here now (continue-child id ids ts t small has) next (some-key (Valid t) (h bad).0) (h bad).1)),
      ))
