-- How a number of a kind goes on after its first byte.
use Rattle.std.proofs.Common.{◌≡◌, ℕ, zero, suc, ℤ, pos, negsuc, ◌+◌, ◌-◌, ◌^◌, ◌<◌, ◌≤◌, Bool, true, false, true≢false, List, [], ◌∷◌, ◌++◌, length, length-drop, drop, get_or, refl, sym, subst, ap, ap₂, ◌∙◌, arith}
use Rattle.vortex_dtype.specs.TypeTree.{integer_type}
use Rattle.vortex_dtype.specs.declared.nullability.Nullability.TheVariants.{NonNullable}
use Rattle.vortex_dtype.specs.declared.ptype.PType.{PType}
use Rattle.vortex_dtype.specs.declared.ptype.PType.TheVariants.{U8, U16, U32, U64, I8, I16, I32, I64}
use Rattle.vortex_pvalue.specs.Conversions.{IsNumber}
use Rattle.vortex_pvalue.specs.Numbers.{InRange}
use Rattle.vortex_pvalue.specs.Whole.{ptype_of, whole_of}
use Rattle.vortex_pvalue.specs.declared.pvalues.PValue.{PValue}
use Rattle.vortex_value.specs.Values.Content.{Content, content}
use Rattle.vortex_value.specs.Values.RawTree.{RawTree, absent, raw_integer}
use Rattle.vortex_row.specs.Bytes.{inverted_again, inverted_byte}
use Rattle.vortex_row.specs.Held.{AreBytes, IsWhole}
use Rattle.vortex_row.specs.Keys.{inverted, key, number_bytes, whole_key}
use Rattle.vortex_row.specs.Numbers.{GoesOnAs, HasDistance, HasLimits, HasMagnitude, IsMagnitude, IsSide, whole_at}
use Rattle.vortex_row.specs.Reading.{HasRead, IsInverted, IsKey, IsPlain, IsPresent, IsStuck, NoneBegins}
use Rattle.vortex_row.proofs.ByteLaws.{bytes_rest, inverted-length}
use Rattle.vortex_row.proofs.NumberSteps.{distance-read, distance-within}
use Rattle.vortex_row.proofs.OrderLaws.{begins}
use Rattle.vortex_row.proofs.PlaceLaws.{first_of, rest_of}
use Rattle.vortex_row.proofs.ReaderSteps.{inverted-first}
use Rattle.vortex_row.proofs.NumberLaws.{number-length, number-some}
use Rattle.vortex_row.proofs.StuckLaws.{none-byte, none-end, stuck-here, stuck-later}

-- the present values of an integer type

pub record Integer (k : PType) (v : RawTree) : Type 0 where
  pub number : ℤ
  pub is : v ≡ raw_integer k number
  pub fits : InRange k number
  pub held : IsWhole number

an_integer : (k : PType) (v : RawTree) → IsPlain (IsPresent (integer_type k NonNullable)) v → Integer k v
an_integer k (raw_integer l z) h =
    let valid = h.kind.valid in
    record { number = z; is = ap (λ j. raw_integer j z) valid.0; fits = valid.1; held = h.held }
an_integer k absent h = let p = h.kind.present in absurd (cc)
an_integer k _ h = absurd h.kind.valid

integer_key : (k : PType) (v : RawTree) (h : Integer k v) → key (content v) ≡ whole_key h.number
integer_key k v h = ap (λ u. key (content u)) h.is

a_number : (k : PType) (z : ℤ) → InRange k z → IsWhole z → IsPlain (IsPresent (integer_type k NonNullable)) (raw_integer k z)
a_number k z fits held = record { kind = record { valid = (refl, fits); present = refl }; held = held; untyped = tt }

-- a number that is not below 0

up-value : (k : PType) (above below head n : ℕ) → HasLimits k above below → above < 2 ^ 64 → 12 ≤ head → n ≤ above → length (number_bytes n) ≡ head - 12
    → IsPlain (IsPresent (integer_type k NonNullable)) (raw_integer k (pos n)) × (whole_key (pos n) ≡ head ∷ number_bytes n)
up-value k above below head n limits fits h small count =
    let first : 12 + length (number_bytes n) ≡ head = omega arith in
    (a_number k (pos n) ((limits.up n).0 small) (omega arith), ap (λ b. b ∷ number_bytes n) first)

up-split : (k : PType) (above below head : ℕ) → HasLimits k above below → 12 ≤ head → (v : RawTree) (z : ℤ) (zs rest : List ℕ) → InRange k z → IsWhole z → head ∷ zs ≡ whole_key z ++ rest
    → (q : List ℕ) × IsMagnitude (head - 12) above q × (zs ≡ q ++ rest)
up-split k above below head limits h v (pos n) zs rest fits held e =
    let first = first_of head (12 + length (number_bytes n)) zs (number_bytes n ++ rest) e in
    (number_bytes n, record { number = n; small = (limits.up n).1 fits; count = omega arith; is = refl }, rest_of head (12 + length (number_bytes n)) zs (number_bytes n ++ rest) e)
up-split k above below head limits h v (negsuc n) zs rest fits held e =
    let first = first_of head (12 - length (number_bytes (suc n))) zs (inverted true (number_bytes (suc n)) ++ rest) e in
    let some = number-some n (omega arith) in
    absurd (omega arith)

pub goes-up : (k : PType) (above below head : ℕ) → HasLimits k above below → above < 2 ^ 64 → 12 ≤ head → (bs : List ℕ) → IsMagnitude (head - 12) above bs → GoesOnAs k head false (head - 12) above
goes-up k above below head limits fits h bs one =
    let count = one.count in
    let few = number-length one.number in
    record {
      goes = record {
        join = λ q m.
            let value = up-value k above below head m.is_one.number limits fits h m.is_one.small m.is_one.count in
            record { value = raw_integer k (pos m.is_one.number); plain = value.0; is = ap (λ xs. head ∷ xs) (m.is ∙ m.is_one.is) ∙ sym value.1 };
        split = λ s zs rest m e.
            let i = an_integer k m.value m.plain in
            let (q, is_one, f) = up-split k above below head limits h m.value i.number zs rest i.fits i.held (e ∙ ap (λ xs. xs ++ rest) (m.is ∙ integer_key k m.value i)) in
            (q, record { string = q; is_one = is_one; is = refl }, f);
      };
      some = (bs, record { string = bs; is_one = one; is = refl });
      few = omega arith;
      away = λ e. absurd (true≢false (sym e));
      value = λ n small count. up-value k above below head n limits fits h small count;
    }

pub none-up : (k : PType) (above below head : ℕ) → HasLimits k above below → 12 ≤ head → ((bs : List ℕ) → ¬ (IsMagnitude (head - 12) above bs)) → NoneBegins (IsKey (IsPresent (integer_type k NonNullable))) head
none-up k above below head limits h never s zs rest m e =
    let i = an_integer k m.value m.plain in
    let (q, is_one, f) = up-split k above below head limits h m.value i.number zs rest i.fits i.held (e ∙ ap (λ xs. xs ++ rest) (m.is ∙ integer_key k m.value i)) in
    never q is_one

-- a number below 0

down-value : (k : PType) (above below head n : ℕ) → HasLimits k above below → head < 12 → n ≤ below → length (number_bytes n) ≡ 12 - head
    → IsPlain (IsPresent (integer_type k NonNullable)) (raw_integer k (negsuc (n - 1))) × (whole_key (negsuc (n - 1)) ≡ head ∷ inverted true (number_bytes n))
down-value k above below head zero limits h small count = let none : length (number_bytes 0) ≡ 0 = refl in absurd (omega arith)
down-value k above below head (suc m) limits h small count =
    let few = number-length (suc m) in
    let deepest = limits.deepest in
    let first : 12 - length (number_bytes (suc m)) ≡ head = omega arith in
    let less : suc m - 1 ≡ m = omega arith in
    subst (λ j. IsPlain (IsPresent (integer_type k NonNullable)) (raw_integer k (negsuc j)) × (whole_key (negsuc j) ≡ head ∷ inverted true (number_bytes (suc m)))) (sym less)
    (a_number k (negsuc m) ((limits.down m).0 small) (omega arith), ap (λ b. b ∷ inverted true (number_bytes (suc m))) first)

down-split : (k : PType) (above below head : ℕ) → HasLimits k above below → head < 12 → (v : RawTree) (z : ℤ) (zs rest : List ℕ) → InRange k z → IsWhole z → head ∷ zs ≡ whole_key z ++ rest
    → (q : List ℕ) × IsMagnitude (12 - head) below q × (zs ≡ inverted true q ++ rest)
down-split k above below head limits h v (negsuc n) zs rest fits held e =
    let first = first_of head (12 - length (number_bytes (suc n))) zs (inverted true (number_bytes (suc n)) ++ rest) e in
    let few = number-length (suc n) in (
      number_bytes (suc n),
      record { number = suc n; small = (limits.down n).1 fits; count = omega arith; is = refl },
      rest_of head (12 - length (number_bytes (suc n))) zs (inverted true (number_bytes (suc n)) ++ rest) e,
    )
down-split k above below head limits h v (pos n) zs rest fits held e =
    let first = first_of head (12 + length (number_bytes n)) zs (number_bytes n ++ rest) e in
    absurd (omega arith)

pub goes-down : (k : PType) (above below head : ℕ) → HasLimits k above below → head < 12 → (bs : List ℕ) → IsMagnitude (12 - head) below bs → GoesOnAs k head true (12 - head) below
goes-down k above below head limits h bs one =
    let count = one.count in
    let few = number-length one.number in
    record {
      goes = record {
        join = λ q m.
            let value = down-value k above below head m.is_one.number limits h m.is_one.small m.is_one.count in
            record { value = raw_integer k (negsuc (m.is_one.number - 1)); plain = value.0; is = ap (λ xs. head ∷ xs) (m.is ∙ ap (inverted true) m.is_one.is) ∙ sym value.1 };
        split = λ s zs rest m e.
            let i = an_integer k m.value m.plain in
            let (q, is_one, f) = down-split k above below head limits h m.value i.number zs rest i.fits i.held (e ∙ ap (λ xs. xs ++ rest) (m.is ∙ integer_key k m.value i)) in
            (inverted true q, record { string = q; is_one = is_one; is = refl }, f);
      };
      some = (inverted true bs, record { string = bs; is_one = one; is = refl });
      few = omega arith;
      away = λ e. omega arith;
      value = λ n small count. down-value k above below head n limits h small count;
    }

pub none-down : (k : PType) (above below head : ℕ) → HasLimits k above below → head < 12 → ((bs : List ℕ) → ¬ (IsMagnitude (12 - head) below bs)) → NoneBegins (IsKey (IsPresent (integer_type k NonNullable))) head
none-down k above below head limits h never s zs rest m e =
    let i = an_integer k m.value m.plain in
    let (q, is_one, f) = down-split k above below head limits h m.value i.number zs rest i.fits i.held (e ∙ ap (λ xs. xs ++ rest) (m.is ∙ integer_key k m.value i)) in
    never q is_one

-- the whole number

pub number-stuck : (k : PType) (head : ℕ) (below : Bool) (width limit : ℕ) (old mid now : List ℕ) → GoesOnAs k head below width limit → old ≡ head ∷ mid → IsStuck (IsInverted below (IsMagnitude width limit)) mid now
    → IsStuck (IsKey (IsPresent (integer_type k NonNullable))) old now
number-stuck k head below width limit old mid now goes e stuck =
    stuck-later (head ∷ []) (IsKey (IsPresent (integer_type k NonNullable))) (IsInverted below (IsMagnitude width limit)) old mid now goes.goes e goes.some stuck

pub number-read : (k : PType) (head : ℕ) (below : Bool) (width limit n : ℕ) (old mid now : List ℕ) → GoesOnAs k head below width limit → old ≡ head ∷ mid → HasDistance below width limit n mid now
    → HasRead (IsPresent (integer_type k NonNullable)) (raw_integer k (whole_at below n)) old now
number-read k head below width limit n old mid now goes e h =
    let value = goes.value n h.small h.count in
    record { plain = value.0; is = e ∙ ap (λ xs. head ∷ xs) h.is ∙ ap (λ xs. xs ++ now) (sym value.1) }

-- the kind has it
pub number-fits : (k : PType) (head : ℕ) (below : Bool) (width limit n : ℕ) (mid now : List ℕ) → GoesOnAs k head below width limit → HasDistance below width limit n mid now → InRange k (whole_at below n)
number-fits k head below width limit n mid now goes h = (goes.value n h.small h.count).0.kind.valid.1

-- a number below 0 is some way from it
pub number-away : (k : PType) (head : ℕ) (below : Bool) (width limit n : ℕ) (mid now : List ℕ) → GoesOnAs k head below width limit → HasDistance below width limit n mid now → below ≡ true → 0 < n
number-away k head below width limit zero mid now goes h e = let some = goes.away e in let count = h.count in let none : length (number_bytes 0) ≡ 0 = refl in absurd (omega arith)
number-away k head below width limit (suc n) mid now goes h e = omega arith

pub number-missing : (k : PType) (old : List ℕ) → old ≡ [] → IsStuck (IsKey (IsPresent (integer_type k NonNullable))) old old
number-missing k old e = stuck-here (IsKey (IsPresent (integer_type k NonNullable))) old (none-end (IsKey (IsPresent (integer_type k NonNullable))) old e (λ h. no-empty_key (content h.value) h.is))
  where
    no-empty_key : (c : Content) → ¬ ([] ≡ key c)
    no-empty_key c e = let head = begins c in let f = e ∙ head.is in cc

pub number-none : (k : PType) (head : ℕ) (old more : List ℕ) → old ≡ head ∷ more → NoneBegins (IsKey (IsPresent (integer_type k NonNullable))) head → IsStuck (IsKey (IsPresent (integer_type k NonNullable))) old old
number-none k head old more e none =
    stuck-here (IsKey (IsPresent (integer_type k NonNullable))) old (none-byte (IsKey (IsPresent (integer_type k NonNullable))) head old more e none)

-- a number from the first byte and a word

is_held : (k : PType) (z : ℤ) → InRange k z → IsWhole z
is_held U8 (pos n) h = omega arith
is_held U16 (pos n) h = omega arith
is_held U32 (pos n) h = omega arith
is_held U64 (pos n) h = omega arith
is_held I8 (pos n) h = omega arith
is_held I16 (pos n) h = omega arith
is_held I32 (pos n) h = omega arith
is_held I64 (pos n) h = omega arith
is_held U8 (negsuc n) h = omega arith
is_held U16 (negsuc n) h = omega arith
is_held U32 (negsuc n) h = omega arith
is_held U64 (negsuc n) h = omega arith
is_held I8 (negsuc n) h = omega arith
is_held I16 (negsuc n) h = omega arith
is_held I32 (negsuc n) h = omega arith
is_held I64 (negsuc n) h = omega arith

pub side-away : (head : ℕ) (below : Bool) (width limit n : ℕ) (xs : List ℕ) → IsSide head below width → HasMagnitude width limit xs n → below ≡ true → 0 < n
side-away head below width limit zero xs side h e = let some = (side.down e).1 in let count = h.count in let none : length (number_bytes 0) ≡ 0 = refl in absurd (omega arith)
side-away head below width limit (suc n) xs side h e = omega arith

side-key : (head : ℕ) (below : Bool) (width n : ℕ) → IsSide head below width → length (number_bytes n) ≡ width → (below ≡ true → 0 < n) → whole_key (whole_at below n) ≡ head ∷ inverted below (number_bytes n)
side-key head false width n side count away = let up = side.up refl in let first : 12 + length (number_bytes n) ≡ head = omega arith in ap (λ b. b ∷ number_bytes n) first
side-key head true width zero side count away = let some = away refl in absurd (omega arith)
side-key head true width (suc m) side count away =
    let down = (side.down refl).0 in
    let first : 12 - length (number_bytes (suc m)) ≡ head = omega arith in
    let less : suc m - 1 ≡ m = omega arith in
    ap (λ j. whole_key (negsuc j)) less ∙ ap (λ b. b ∷ inverted true (number_bytes (suc m))) first

-- the first byte and the rest, inverted or not
first-and-rest : (d : Bool) (bs : List ℕ) (head : ℕ) → 1 ≤ length bs → head ≡ inverted_byte d (get_or bs 0 0) → inverted d bs ≡ head ∷ inverted d (drop 1 bs)
first-and-rest d [] head h e = absurd (omega arith)
first-and-rest d (b ∷ bs) head h e = inverted-first d b bs ∙ ap (λ c. c ∷ inverted d bs) (sym e)

pub number-at_once : (k : PType) (d below again : Bool) (head width limit n taken : ℕ) (bs rest : List ℕ) (number : PValue) → AreBytes bs → 1 ≤ length bs → head ≡ inverted_byte d (get_or bs 0 0) → rest ≡ drop 1 bs
    → again ≡ inverted_again d below → IsSide head below width → HasMagnitude width limit (inverted again rest) n → IsNumber k (whole_at below n) number → taken ≡ 1 + width
    → (taken ≤ length bs) × HasRead (IsPresent (integer_type k NonNullable)) (raw_integer (ptype_of number) (whole_of number)) (inverted d bs) (drop taken (inverted d bs))
number-at_once k d below again head width limit n taken bs rest number bytes some head_is rest_is again_is side h is count =
    let old = inverted d (drop 1 bs) in
    let m = subst (λ ys. HasMagnitude width limit (inverted again ys) n) rest_is h in
    let distance = distance-read d below again width limit n (drop 1 bs) old (drop width old) (drop-bytes 1 bs bytes) again_is refl refl m in
    let away = side-away head below width limit n (inverted again (drop 1 bs)) side m in
    let same = side-key head below width n side h.count away in
    let whole : inverted d bs ≡ head ∷ old = first-and-rest d bs head some head_is in
    let step : taken ≡ suc width = omega arith in
    let now : drop taken (inverted d bs) ≡ drop width old = ap₂ (λ j ys. drop j ys) step whole in
    let within = distance-within width limit n (inverted again (drop 1 bs)) m in
    let one = inverted-length again (drop 1 bs) in
    let two = length-drop 1 bs in
    let value : raw_integer (ptype_of number) (whole_of number) ≡ raw_integer k (whole_at below n) = ap₂ (λ j z. raw_integer j z) is.0 is.1 in (
      omega arith,
      subst (λ v. HasRead (IsPresent (integer_type k NonNullable)) v (inverted d bs) (drop taken (inverted d bs))) (sym value) (record {
        plain = a_number k (whole_at below n) is.2 (is_held k (whole_at below n) is.2);
        is = whole ∙ ap (λ ys. head ∷ ys) distance.is ∙ ap (λ ys. ys ++ drop width old) (sym same) ∙ ap (λ ys. whole_key (whole_at below n) ++ ys) (sym now);
      }),
    )
  where
    drop-bytes : (j : ℕ) (bs : List ℕ) → AreBytes bs → AreBytes (drop j bs)
    drop-bytes zero bs h = h
    drop-bytes (suc j) [] h = h
    drop-bytes (suc j) (b ∷ bs) h = drop-bytes j bs (bytes_rest b bs h)
