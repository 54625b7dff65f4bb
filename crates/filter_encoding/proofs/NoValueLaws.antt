-- Where the first literal stands that is no value of its logical type.
use Rattle.std.proofs.Common.{◌≡◌, ◌≢◌, ◌∙◌, ◌⊎◌, inl, inr, ℕ, zero, suc, ◌+◌, ◌*◌, ◌^◌, ◌<◌, ◌≤◌, arith, List, [], ◌∷◌, ◌++◌, ap, drop, drop-cons, get_or, length, length-append, map, refl, subst, sym, true≢false}
use Rattle.std.specs.Prelude.{Err, IsErr, Ok, Result}
use Rattle.std.specs.List.{AllByRecursion}
use Rattle.std.specs.Result.{IsErrAnd}
use Rattle.vortex_dtype.specs.TypeOf.{type_of}
use Rattle.vortex_dtype.specs.TypeTree.{TypeTree, extension_type}
use Rattle.vortex_dtype.specs.declared.types.DType.{DType}
use Rattle.vortex_value.specs.Size.{capped}
use Rattle.vortex_value.specs.Values.Content.{string, text}
use Rattle.vortex_value.specs.declared.scalars.Scalar.{Scalar}
use Rattle.vortex_row.specs.Keys.{key}
use Rattle.like_patterns.specs.declared.case.Case.{Case}
use Rattle.like_patterns.specs.Patterns.{Part}
use Rattle.vortex_cells.specs.Cells.{Cell, cell_of}
use Rattle.vortex_filter.specs.Formula.{Formula, both, comparison, constant, either, membership, negation, null_test, pattern_test, prefix_test, range}
use Rattle.vortex_filter.specs.declared.operator.CompareOperator.{CompareOperator}
use Rattle.statistics_bytes.proofs.CountBytes.{big_endian-length}
use Rattle.filter_encoding.specs.Encoding.{Behind, FirstAmong, FirstIn, HasValues, IsLogicallyValid, IsNoValueAt, Prepared, byte_string, extension_bytes, literal_bytes, node_bytes, type_bytes}
use Rattle.filter_encoding.specs.Lists.{count_bytes, each_bytes, listed}
use Rattle.filter_encoding.specs.Patterns.{case_bytes, part_bytes}
use Rattle.filter_encoding.specs.Steps.{IsNoValueOf, Passes}
use Rattle.filter_encoding.specs.declared.error.FilterEncodingError.{FilterEncodingError}
use Rattle.filter_encoding.specs.declared.error.FilterEncodingError.TheVariants.{BadBytes, NoEncoding, NotAValue, OutOfMemory}
use Rattle.filter_encoding.specs.declared.values.NoValue.{NoValue}
use Rattle.filter_encoding.proofs.ExtensionLaws.{no_extension_bytes}

-- ---- one after another

nothing_left : {A : Type 0} (i : ℕ) (xs : List A) → length xs ≤ i → drop i xs ≡ []
nothing_left zero [] h = refl
nothing_left zero (x ∷ xs) h = absurd (omega arith)
nothing_left (suc i) [] h = refl
nothing_left (suc i) (x ∷ xs) h = nothing_left i xs (omega arith)

front_at : {A X : Type 0} (view : A → X) (i : ℕ) (xs : List A) (x : A) → i < length xs → x ≡ get_or xs i x → map view (drop i xs) ≡ view x ∷ map view (drop (i + 1) xs)
front_at view i xs x less is =
    let one : suc i ≡ i + 1 = omega arith in
    ap (map view) (drop-cons xs i x less) ∙ ap (λ y. view y ∷ map view (drop (suc i) xs)) (sym is) ∙ ap (λ n. view x ∷ map view (drop n xs)) one

-- ---- types

pub extension_long : (id m : List ℕ) (u : TypeTree) (a b c n : ℕ) → a ≡ capped (length (key (text id))) → b ≡ capped (length (key (string m))) → c ≡ capped (a + b) → n ≡ capped (c + 2) → n ≡ capped (length (extension_bytes id m u))
extension_long id m u a b c n e f g h = omega (arith, e, f, g, h, length-append (key (text id)) (key (string m) ++ byte_string u), length-append (key (string m)) (byte_string u))

pub type_long : (id m : List ℕ) (u t : TypeTree) (n : ℕ) → t ≡ extension_type id m u → n ≡ capped (length (extension_bytes id m u)) → n ≡ capped (length (type_bytes t))
type_long id m u t n is e = subst (λ (s : TypeTree). n ≡ capped (length (type_bytes s))) (sym is) e

pub byte_long : (t : TypeTree) → ((id m : List ℕ) (u : TypeTree) → t ≢ extension_type id m u) → 1 ≡ capped (length (type_bytes t))
byte_long t none = subst (λ (bs : List ℕ). 1 ≡ capped (length bs)) (no_extension_bytes t none) (omega arith)

-- so many bytes come before the other types
abbrev pub AreCounted : ℕ → List TypeTree → List TypeTree → Type 0
AreCounted total types rest = (capped total ≡ total) × (capped (total + length (each_bytes type_bytes rest)) ≡ capped (length (listed type_bytes types)))

pub types_start : (types : List TypeTree) → AreCounted 8 types types
types_start types = (omega arith, omega (arith, big_endian-length 8 (length types), length-append (count_bytes (length types)) (each_bytes type_bytes types)))

pub types_step : (ds : List DType) (i : ℕ) (d : DType) (total piece now : ℕ) → i < length ds → d ≡ get_or ds i d → piece ≡ capped (length (type_bytes (type_of d))) → now ≡ capped (total + piece) → AreCounted total (map type_of ds) (map type_of (drop i ds))
    → AreCounted now (map type_of ds) (map type_of (drop (i + 1) ds))
types_step ds i d total piece now less is p e h =
    let rest = map type_of (drop (i + 1) ds) in
    let front : length (each_bytes type_bytes (map type_of (drop i ds))) ≡ length (type_bytes (type_of d)) + length (each_bytes type_bytes rest) =
    ap (λ (ts : List TypeTree). length (each_bytes type_bytes ts)) (front_at type_of i ds d less is) ∙ length-append (type_bytes (type_of d)) (each_bytes type_bytes rest) in
    (omega (arith, e), omega (arith, p, e, h.0, h.1, front))

pub types_end : (ds : List DType) (i total : ℕ) → length ds ≤ i → AreCounted total (map type_of ds) (map type_of (drop i ds)) → total ≡ capped (length (listed type_bytes (map type_of ds)))
types_end ds i total end h =
    let none : length (each_bytes type_bytes (map type_of (drop i ds))) ≡ 0 = ap (λ (es : List DType). length (each_bytes type_bytes (map type_of es))) (nothing_left i ds end) in
    omega (arith, h.0, h.1, none)

-- ---- literals

pub literal_refused : (x : Cell) (offset t place : ℕ) → t ≡ capped (length (type_bytes x.typed)) → place ≡ capped (offset + t) → ¬ (IsLogicallyValid x) → (n : ℕ) × (place ≡ capped (offset + n)) × IsNoValueAt x n
literal_refused x offset t place e f none = (length (type_bytes x.typed), omega (arith, e, f), (refl, none))

pub literal_passed : (x : Cell) (offset t place k end : ℕ) → t ≡ capped (length (type_bytes x.typed)) → place ≡ capped (offset + t) → k ≡ capped (length (key x.content)) → end ≡ capped (place + k) → end ≡ capped (offset + length (literal_bytes x))
literal_passed x offset t place k end e f g h = omega (arith, e, f, g, h, length-append (type_bytes x.typed) (key x.content))

module _ (x y : Cell) (offset : ℕ) where
  abbrev PassesTwo : Result ℕ NoValue → Type 0
  PassesTwo r = Passes (IsLogicallyValid x × IsLogicallyValid y) (length (each_bytes literal_bytes (x ∷ y ∷ []))) offset (FirstAmong (x ∷ y ∷ [])) r

  pub first_refused : (r : Result ℕ NoValue) (e : NoValue) → IsErr r × IsErrAnd r (λ f. f ≡ e) → (n : ℕ) × (e.offset ≡ capped (offset + n)) × IsNoValueAt x n → PassesTwo r
  first_refused (Ok end) e is h = absurd (true≢false (sym is.0))
  first_refused (Err d) e is h = (h.0, ap (λ (f : NoValue). f.offset) is.1 ∙ h.1, inl h.2)

  pub first_passed : (middle : ℕ) (r : Result ℕ NoValue) → IsLogicallyValid x × (middle ≡ capped (offset + length (literal_bytes x))) → Passes (IsLogicallyValid y) (length (literal_bytes y)) middle (IsNoValueAt y) r → PassesTwo r
  first_passed middle (Ok end) a h =
      ((a.0, h.0), omega (arith, a.1, h.1, length-append (literal_bytes x) (literal_bytes y ++ []), length-append (literal_bytes y) []))
  first_passed middle (Err e) a h = (length (literal_bytes x) + h.0, omega (arith, a.1, h.1), inr (a.0, (h.0, refl, inl h.2)))

-- the literals before the rest are values, and it begins at an offset
pub record Walked (offset end : ℕ) (xs rest : List Cell) : Type 0 where
  pub all : AllByRecursion IsLogicallyValid rest → AllByRecursion IsLogicallyValid xs
  pub fits : capped end ≡ end
  pub long : capped (end + length (each_bytes literal_bytes rest)) ≡ capped (offset + length (each_bytes literal_bytes xs))
  pub first : (m : ℕ) → FirstAmong rest m → (n : ℕ) × (capped (end + m) ≡ capped (offset + n)) × FirstAmong xs n

pub walked_none : (offset : ℕ) (xs : List Cell) → offset < 2 ^ 64 → Walked offset offset xs xs
walked_none offset xs small = record { all = λ a. a; fits = omega (arith, small); long = refl; first = λ m h. (m, refl, h) }

walked_more : (offset end next : ℕ) (xs rest : List Cell) (x : Cell) → Walked offset end xs (x ∷ rest) → IsLogicallyValid x → next ≡ capped (end + length (literal_bytes x)) → Walked offset next xs rest
walked_more offset end next xs rest x w valid e = record {
  all = λ a. w.all (valid, a);
  fits = omega (arith, e);
  long = omega (arith, e, w.long, length-append (literal_bytes x) (each_bytes literal_bytes rest));
  first = λ m h.
      let a = w.first (length (literal_bytes x) + m) (inr (valid, (m, refl, h))) in
      let here : capped (next + m) ≡ capped (end + (length (literal_bytes x) + m)) = omega (arith, e) in
      (a.0, here ∙ a.1, a.2);
}

pub walked_on : (ls : List Scalar) (i : ℕ) (l : Scalar) (offset end next : ℕ) → i < length ls → l ≡ get_or ls i l → Walked offset end (map cell_of ls) (map cell_of (drop i ls)) → IsLogicallyValid (cell_of l) × (next ≡ capped (end + length (literal_bytes (cell_of l))))
    → Walked offset next (map cell_of ls) (map cell_of (drop (i + 1) ls))
walked_on ls i l offset end next less is w h =
    walked_more offset end next (map cell_of ls) (map cell_of (drop (i + 1) ls)) (cell_of l) (subst (λ (rest : List Cell). Walked offset end (map cell_of ls) rest) (front_at cell_of i ls l less is) w) h.0 h.1

pub walked_refused : (ls : List Scalar) (i : ℕ) (l : Scalar) (offset end : ℕ) (all : Type 0) (count : ℕ) (r : Result ℕ NoValue) (e : NoValue) → IsErr r × IsErrAnd r (λ f. f ≡ e) → i < length ls → l ≡ get_or ls i l
    → Walked offset end (map cell_of ls) (map cell_of (drop i ls)) → (n : ℕ) × (e.offset ≡ capped (end + n)) × IsNoValueAt (cell_of l) n → Passes all count offset (FirstAmong (map cell_of ls)) r
walked_refused ls i l offset end all count (Ok z) e is less at w h = absurd (true≢false (sym is.0))
walked_refused ls i l offset end all count (Err d) e is less at w h =
    let here = subst (λ (rest : List Cell). Walked offset end (map cell_of ls) rest) (front_at cell_of i ls l less at) w in
    let a = here.first h.0 (inl h.2) in
    (a.0, ap (λ (f : NoValue). f.offset) is.1 ∙ h.1 ∙ a.1, a.2)

pub walked_all : (ls : List Scalar) (i offset end : ℕ) → length ls ≤ i → Walked offset end (map cell_of ls) (map cell_of (drop i ls)) → AllByRecursion IsLogicallyValid (map cell_of ls) × (end ≡ capped (offset + length (each_bytes literal_bytes (map cell_of ls))))
walked_all ls i offset end whole w =
    let last : Walked offset end (map cell_of ls) [] = subst (λ (rest : List Scalar). Walked offset end (map cell_of ls) (map cell_of rest)) (nothing_left i ls whole) w in
    (last.all tt, omega (arith, last.long, last.fits))

-- ---- filters

-- behind k bytes more
shifted : (all : Type 0) (k count whole offset start : ℕ) (At : ℕ → Type 0) (r : Result ℕ NoValue) → start ≡ capped (offset + k) → whole ≡ k + count → Passes all count start At r → Passes all whole offset (Behind k At) r
shifted all k count whole offset start At (Ok end) s w h = (h.0, omega (arith, s, w, h.1))
shifted all k count whole offset start At (Err e) s w h = (k + h.0, omega (arith, s, h.1), (h.0, refl, h.2))

-- what is found in a filter
abbrev pub FilterPasses : Formula → ℕ → Result ℕ NoValue → Type 0
FilterPasses f offset r = Passes (HasValues f) (length (node_bytes f)) offset (FirstIn f) r

module _ (k offset start : ℕ) (r : Result ℕ NoValue) where
  pub comparison_passes : (op : CompareOperator) (x : Cell) → start ≡ capped (offset + 9) → Passes (IsLogicallyValid x) (length (literal_bytes x)) start (IsNoValueAt x) r → FilterPasses (comparison k op x) offset r
  comparison_passes op x s h =
      shifted (IsLogicallyValid x) 9 (length (literal_bytes x)) (length (node_bytes (comparison k op x))) offset start (IsNoValueAt x) r s (omega (arith, length-append (count_bytes k) (literal_bytes x), big_endian-length 8 k)) h

  pub prefix_passes : (x : Cell) → start ≡ capped (offset + 9) → Passes (IsLogicallyValid x) (length (literal_bytes x)) start (IsNoValueAt x) r → FilterPasses (prefix_test k x) offset r
  prefix_passes x s h =
      shifted (IsLogicallyValid x) 9 (length (literal_bytes x)) (length (node_bytes (prefix_test k x))) offset start (IsNoValueAt x) r s (omega (arith, length-append (count_bytes k) (literal_bytes x), big_endian-length 8 k)) h

  pub membership_passes : (xs : List Cell) → start ≡ capped (offset + 17) → Passes (AllByRecursion IsLogicallyValid xs) (length (each_bytes literal_bytes xs)) start (FirstAmong xs) r → FilterPasses (membership k xs) offset r
  membership_passes xs s h =
      shifted (AllByRecursion IsLogicallyValid xs) 17 (length (each_bytes literal_bytes xs)) (length (node_bytes (membership k xs))) offset start (FirstAmong xs) r s
      (omega (arith, length-append (count_bytes k) (listed literal_bytes xs), length-append (count_bytes (length xs)) (each_bytes literal_bytes xs), big_endian-length 8 k, big_endian-length 8 (length xs))) h

  pub range_passes : (x y : Cell) → start ≡ capped (offset + 9) → Passes (IsLogicallyValid x × IsLogicallyValid y) (length (each_bytes literal_bytes (x ∷ y ∷ []))) start (FirstAmong (x ∷ y ∷ [])) r → FilterPasses (range k x y) offset r
  range_passes x y s h =
      shifted (IsLogicallyValid x × IsLogicallyValid y) 9 (length (each_bytes literal_bytes (x ∷ y ∷ []))) (length (node_bytes (range k x y))) offset start (FirstAmong (x ∷ y ∷ [])) r s
      (omega (arith, length-append (count_bytes k) (literal_bytes x ++ literal_bytes y), length-append (literal_bytes x) (literal_bytes y), length-append (literal_bytes x) (literal_bytes y ++ []), length-append (literal_bytes y) [], big_endian-length 8 k)) h

pub null_passes : (k offset end : ℕ) → end ≡ capped (offset + 9) → FilterPasses (null_test k) offset (Ok end)
null_passes k offset end e = (tt, omega (arith, e, big_endian-length 8 k))

each_three : (parts : List Part) → length (each_bytes part_bytes parts) ≡ 3 * length parts
each_three [] = refl
each_three (p ∷ parts) = omega (arith, each_three parts)

pub like_passes : (k : ℕ) (case : Case) (parts : List Part) (offset start end : ℕ) → start ≡ capped (offset + 18) → end ≡ capped (start + 3 * length parts) → FilterPasses (pattern_test k case parts) offset (Ok end)
like_passes k case parts offset start end s e = (
  tt,
  omega (arith, s, e, each_three parts, length-append (count_bytes k) (case_bytes case ++ listed part_bytes parts), length-append (count_bytes (length parts)) (each_bytes part_bytes parts), big_endian-length 8 k, big_endian-length 8 (length parts)),
)

module _ (f g : Formula) (whole offset start : ℕ) (s : start ≡ capped (offset + 1)) where
  abbrev FirstOf : ℕ → Type 0
  FirstOf n = Behind 1 (λ m. FirstIn f m) n ⊎ (HasValues f × Behind (1 + length (node_bytes f)) (λ m. FirstIn g m) n)

  left_refused : (r : Result ℕ NoValue) (e : NoValue) → IsErr r × IsErrAnd r (λ d. d ≡ e) → (n : ℕ) × (e.offset ≡ capped (start + n)) × FirstIn f n → Passes (HasValues f × HasValues g) whole offset FirstOf r
  left_refused (Ok end) e is h = absurd (true≢false (sym is.0))
  left_refused (Err d) e is h = (1 + h.0, ap (λ (x : NoValue). x.offset) is.1 ∙ omega (arith, s, h.1), inl (h.0, refl, h.2))

  left_passed : (middle : ℕ) (r : Result ℕ NoValue) → whole ≡ 1 + (length (node_bytes f) + length (node_bytes g)) → HasValues f × (middle ≡ capped (start + length (node_bytes f))) → FilterPasses g middle r → Passes (HasValues f × HasValues g) whole offset FirstOf r
  left_passed middle (Ok end) w a h = ((a.0, h.0), omega (arith, s, w, a.1, h.1))
  left_passed middle (Err e) w a h = (1 + length (node_bytes f) + h.0, omega (arith, s, a.1, h.1), inr (a.0, (h.0, refl, h.2)))

module _ (f g : Formula) (offset start : ℕ) (s : start ≡ capped (offset + 1)) where
  pub both_refused : (r : Result ℕ NoValue) (e : NoValue) → IsErr r × IsErrAnd r (λ d. d ≡ e) → (n : ℕ) × (e.offset ≡ capped (start + n)) × FirstIn f n → FilterPasses (both f g) offset r
  both_refused r e is h = left_refused f g (length (node_bytes (both f g))) offset start s r e is h

  pub both_passed : (middle : ℕ) (r : Result ℕ NoValue) → HasValues f × (middle ≡ capped (start + length (node_bytes f))) → FilterPasses g middle r → FilterPasses (both f g) offset r
  both_passed middle r a h = left_passed f g (length (node_bytes (both f g))) offset start s middle r (omega (arith, length-append (node_bytes f) (node_bytes g))) a h

  pub either_refused : (r : Result ℕ NoValue) (e : NoValue) → IsErr r × IsErrAnd r (λ d. d ≡ e) → (n : ℕ) × (e.offset ≡ capped (start + n)) × FirstIn f n → FilterPasses (either f g) offset r
  either_refused r e is h = left_refused f g (length (node_bytes (either f g))) offset start s r e is h

  pub either_passed : (middle : ℕ) (r : Result ℕ NoValue) → HasValues f × (middle ≡ capped (start + length (node_bytes f))) → FilterPasses g middle r → FilterPasses (either f g) offset r
  either_passed middle r a h = left_passed f g (length (node_bytes (either f g))) offset start s middle r (omega (arith, length-append (node_bytes f) (node_bytes g))) a h

pub negation_passes : (f : Formula) (offset start : ℕ) (r : Result ℕ NoValue) → start ≡ capped (offset + 1) → FilterPasses f start r → FilterPasses (negation f) offset r
negation_passes f offset start r s h = shifted (HasValues f) 1 (length (node_bytes f)) (length (node_bytes (negation f))) offset start (λ m. FirstIn f m) r s (omega arith) h

-- ---- what it says

none_among : (xs : List Cell) (n : ℕ) → FirstAmong xs n → AllByRecursion IsLogicallyValid xs → ⊥
none_among [] n h all = h
none_among (x ∷ xs) n (inl h) all = h.1 all.0
none_among (x ∷ xs) n (inr h) all = none_among xs h.1.0 h.1.2 all.1

among_within : (xs : List Cell) (n : ℕ) → FirstAmong xs n → n ≤ length (each_bytes literal_bytes xs)
among_within [] n h = absurd h
among_within (x ∷ xs) n (inl h) = omega (arith, h.0, length-append (type_bytes x.typed) (key x.content), length-append (literal_bytes x) (each_bytes literal_bytes xs))
among_within (x ∷ xs) n (inr h) = omega (arith, h.1.1, among_within xs h.1.0 h.1.2, length-append (literal_bytes x) (each_bytes literal_bytes xs))

-- a filter with such a literal has not values alone
pub none_in : (f : Formula) (n : ℕ) → FirstIn f n → HasValues f → ⊥
none_in (constant t) n h all = h
none_in (comparison k op x) n h all = h.2.1 all
none_in (null_test k) n h all = h
none_in (membership k xs) n h all = none_among xs h.0 h.2 all
none_in (range k x y) n h all = none_among (x ∷ y ∷ []) h.0 h.2 (all.0, (all.1, tt))
none_in (prefix_test k x) n h all = h.2.1 all
none_in (pattern_test k case parts) n h all = h
none_in (both f g) n (inl h) all = none_in f h.0 h.2 all.0
none_in (both f g) n (inr h) all = none_in g h.1.0 h.1.2 all.1
none_in (either f g) n (inl h) all = none_in f h.0 h.2 all.0
none_in (either f g) n (inr h) all = none_in g h.1.0 h.1.2 all.1
none_in (negation f) n h all = none_in f h.0 h.2 all

-- and the literal is within its bytes
pub first_within : (f : Formula) (n : ℕ) → FirstIn f n → n ≤ length (node_bytes f)
first_within (constant t) n h = absurd h
first_within (comparison k op x) n h = omega (arith, h.1, h.2.0, length-append (count_bytes k) (literal_bytes x), length-append (type_bytes x.typed) (key x.content), big_endian-length 8 k)
first_within (null_test k) n h = absurd h
first_within (membership k xs) n h =
    omega (arith, h.1, among_within xs h.0 h.2, length-append (count_bytes k) (listed literal_bytes xs), length-append (count_bytes (length xs)) (each_bytes literal_bytes xs), big_endian-length 8 k, big_endian-length 8 (length xs))
first_within (range k x y) n h =
    omega (arith, h.1, among_within (x ∷ y ∷ []) h.0 h.2, length-append (count_bytes k) (literal_bytes x ++ literal_bytes y), length-append (literal_bytes x) (literal_bytes y), length-append (literal_bytes x) (literal_bytes y ++ []), length-append (literal_bytes y) [], big_endian-length 8 k)
first_within (prefix_test k x) n h = omega (arith, h.1, h.2.0, length-append (count_bytes k) (literal_bytes x), length-append (type_bytes x.typed) (key x.content), big_endian-length 8 k)
first_within (pattern_test k case parts) n h = absurd h
first_within (both f g) n (inl h) = omega (arith, h.1, first_within f h.0 h.2, length-append (node_bytes f) (node_bytes g))
first_within (both f g) n (inr h) = omega (arith, h.1.1, first_within g h.1.0 h.1.2, length-append (node_bytes f) (node_bytes g))
first_within (either f g) n (inl h) = omega (arith, h.1, first_within f h.0 h.2, length-append (node_bytes f) (node_bytes g))
first_within (either f g) n (inr h) = omega (arith, h.1.1, first_within g h.1.0 h.1.2, length-append (node_bytes f) (node_bytes g))
first_within (negation f) n h = omega (arith, h.1, first_within f h.0 h.2)

-- which error tells it
pub record Told (p : Prepared) (e : FilterEncodingError) : Type 0 where
  pub offset : ℕ
  pub is : e ≡ NotAValue offset
  pub place : ℕ
  pub at : offset ≡ capped (1 + length (listed type_bytes p.types) + place)
  pub first : FirstIn p.filter place

pub told : (p : Prepared) (e : FilterEncodingError) → IsNoValueOf p e → Told p e
told p (NotAValue offset) h = record { offset = offset; is = refl; place = h.0; at = h.1; first = h.2 }
told p OutOfMemory h = absurd h
told p NoEncoding h = absurd h
told p (BadBytes place) h = absurd h

-- the walk through its filter began behind the version and the types
pub first_told : (p : Prepared) (count start place : ℕ) → count ≡ capped (length (listed type_bytes p.types)) → start ≡ capped (count + 1) → (n : ℕ) × (place ≡ capped (start + n)) × FirstIn p.filter n → IsNoValueOf p (NotAValue place)
first_told p count start place e s h = (h.0, omega (arith, e, s, h.1), h.2)
