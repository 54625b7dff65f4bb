-- Bytes that are compared by how many they are, by the number of the first eight, and by the rest.
use Rattle.std.proofs.Common.{◌≡◌, ◌∙◌, ◌↔◌, ◌==◌, ◌&&◌, ◌++◌, ◌+◌, ◌-◌, ◌%◌, ◌^◌, ◌<◌, ◌≤◌, [], ◌∷◌, suc, zero, Bool, IsTrue, List, ap, arith, drop, false, leb, length, min, not, nat_cmp, nat_eq, refl, slice_range, sym, take, true, ℕ}
use Rattle.std.proofs.lemmas.Bool.Decides.{Decides-eqb, same_from_decides}
use Rattle.std.proofs.lemmas.Bool.{eqb-true, le-leb, leb-true, ltb-false}
use Rattle.std.proofs.lemmas.List.{length-drop, length-take, take-append-drop, take-take, take_all}
use Rattle.std.proofs.lemmas.List.Folds.{Any-from_list_any, list_any-from_Any}
use Rattle.std.proofs.lemmas.Map.Text.{is_eq-slice_cmp}
use Rattle.std.proofs.lemmas.Slice.Eq.{bytes_eq-Decides}
use Rattle.std.specs.Cmp.Lexicographic.{slice_cmp}
use Rattle.std.proofs.Math.Dec.{ltb}
use Rattle.std.specs.List.{list_any, starts_with}
use Rattle.std.specs.Ordering.{is_eq, is_ne}
use Rattle.std.specs.Str.{bytes_eq}
use Rattle.std.specs.declared.cmp.Ordering.{Ordering}
use Rattle.std.specs.declared.cmp.Ordering.TheVariants.{Equal, Greater, Less}
use Rattle.std.specs.Int.Bits.{bit_and}
use Rattle.arrow_columns.proofs.SpanSteps.{bytes_after, masked, part_after, same_bytes, word_of_some}
use Rattle.arrow_columns.specs.Spans.{AreBytes, beginning}
use Rattle.column_kernels.specs.Needles.{is_alike}
use Rattle.column_kernels.specs.declared.needles.Needle.{Needle}

and-left : (a b : Bool) → (a && b) ≡ true → a ≡ true
and-left true b e = refl
and-left false b e = cc

and-right : (a b : Bool) → (a && b) ≡ true → b ≡ true
and-right true b e = e
and-right false b e = cc

both : (a b : Bool) → a ≡ true → b ≡ true → (a && b) ≡ true
both true b e f = f
both false b e f = cc

eqb-same : (a b : ℕ) → a ≡ b → (a == b) ≡ true
eqb-same a b e = (Decides-eqb a b).1 e

clash : (P : Type 0) → false ≡ true → P
clash P e = cc

-- ---- parts of bytes

pub part-is : (xs : List ℕ) (place n : ℕ) → slice_range xs place (place + n) ≡ take n (drop place xs)
part-is xs place n = ap (λ k. take k (drop place xs)) (omega arith)

pub rest-is : (xs : List ℕ) (place : ℕ) → slice_range xs place (length xs) ≡ drop place xs
rest-is xs place = take_all (length xs - place) (drop place xs) (omega (arith, length-drop place xs))

length-part : (xs : List ℕ) (begin stop : ℕ) → stop ≤ length xs → length (slice_range xs begin stop) ≡ stop - begin
length-part xs begin stop m = omega (arith, length-take (stop - begin) (drop begin xs), length-drop begin xs)

bytes_before : (n : ℕ) (xs : List ℕ) → AreBytes xs → AreBytes (take n xs)
bytes_before zero xs h k = omega arith
bytes_before (suc n) [] h k = h k
bytes_before (suc n) (x ∷ xs) h zero = h 0
bytes_before (suc n) (x ∷ xs) h (suc k) = bytes_before n xs (λ j. h (suc j)) k

-- ---- one needle

-- of a part that has this number and size: what tells whether it is the needle
module _ (word size : ℕ) (value : List ℕ) (needle : Needle) (front : word ≡ beginning 8 value) (all : length value ≡ size) (values : AreBytes value) where
  pub alike-size : is_alike word size needle.word needle.bytes.now ≡ true → length value ≡ length needle.bytes.now
  alike-size told = all ∙ eqb-true size (length needle.bytes.now) (and-right (word == needle.word) _ told)

  alike-front : is_alike word size needle.word needle.bytes.now ≡ true → take 8 value ≡ take 8 needle.bytes.now
  alike-front told =
      let words : word ≡ needle.word = eqb-true word needle.word (and-left _ _ told) in
      same_bytes 8 value needle.bytes.now values needle.are_bytes (ap (min 8) (alike-size told)) (sym front ∙ words ∙ needle.is_word)

  pub same-alike : value ≡ needle.bytes.now → is_alike word size needle.word needle.bytes.now ≡ true
  same-alike e =
      let words : word ≡ needle.word = front ∙ ap (beginning 8) e ∙ sym needle.is_word in
      let sizes : size ≡ length needle.bytes.now = sym all ∙ ap length e in
      both (word == needle.word) (size == length needle.bytes.now) (eqb-same word needle.word words) (eqb-same size (length needle.bytes.now) sizes)

  pub short-same : is_alike word size needle.word needle.bytes.now ≡ true → length needle.bytes.now ≤ 8 → value ≡ needle.bytes.now
  short-same told few = sym (take_all 8 value (omega (arith, alike-size told, few))) ∙ alike-front told ∙ take_all 8 needle.bytes.now few

-- the number that begins bytes, without what lies behind the needle's size, is the needle's
pub front-told : (needle : Needle) (word rest : ℕ) (xs : List ℕ) → rest ≡ bit_and word needle.rest → rest ≤ word → AreBytes xs → word ≡ beginning 8 xs
    → (result : Bool) → result ≡ (word - rest == needle.word) → IsTrue result ↔ (beginning 8 (take (length needle.bytes.now) xs) ≡ needle.word)
front-told needle word rest xs is low bytes front result told =
    let count : ℕ = min (length needle.bytes.now) 8 in
    let left : word - rest + word % 256 ^ (8 - count) ≡ word = omega (arith, low, sym is ∙ refl, is ∙ masked word needle.rest (8 - count) needle.is_rest) in
    let some : word - rest ≡ beginning 8 (take (length needle.bytes.now) xs) = word_of_some (length needle.bytes.now) count xs word (word - rest) bytes front (λ l. omega (arith, l)) (λ m. omega (arith, m)) left in (
      λ e. sym some ∙ eqb-true (word - rest) needle.word (sym told ∙ e),
      λ e. told ∙ eqb-same (word - rest) needle.word (some ∙ e),
    )

-- of a part as long as the needle, where one fits: what tells whether it is the needle
module _ (needle : Needle) (xs : List ℕ) (place : ℕ) (fits begins : Bool) (bytes : AreBytes xs) (room : IsTrue fits → place + length needle.bytes.now ≤ length xs)
    (front : IsTrue begins ↔ (beginning 8 (take (length needle.bytes.now) (drop place xs)) ≡ needle.word)) where
  pub not-there : (result : Bool) → result ≡ false → (fits && begins) ≡ false → IsTrue result ↔ (IsTrue fits × (slice_range xs place (place + length needle.bytes.now) ≡ needle.bytes.now))
  not-there result is apart = (
    λ e. clash (IsTrue fits × (slice_range xs place (place + length needle.bytes.now) ≡ needle.bytes.now)) (sym is ∙ e),
    λ h. is ∙ sym apart ∙ both fits begins h.0 (front.1 (ap (beginning 8) (sym (part-is xs place (length needle.bytes.now)) ∙ h.1) ∙ sym needle.is_word)),
  )

  sizes : fits ≡ true → length (slice_range xs place (place + length needle.bytes.now)) ≡ length needle.bytes.now
  sizes told = length-part xs place (place + length needle.bytes.now) (room told) ∙ omega arith

  fronts : (fits && begins) ≡ true → take 8 (slice_range xs place (place + length needle.bytes.now)) ≡ take 8 needle.bytes.now
  fronts told =
      let value : List ℕ = slice_range xs place (place + length needle.bytes.now) in
      let values : AreBytes value = bytes_before (place + length needle.bytes.now - place) (drop place xs) (bytes_after place xs bytes) in
      let words : beginning 8 value ≡ beginning 8 needle.bytes.now = ap (beginning 8) (part-is xs place (length needle.bytes.now)) ∙ front.0 (and-right fits begins told) ∙ needle.is_word in
      same_bytes 8 value needle.bytes.now values needle.are_bytes (ap (min 8) (sizes (and-left fits begins told))) words

  pub short-there : (result : Bool) → result ≡ true → (fits && begins) ≡ true → length needle.bytes.now ≤ 8 → IsTrue result ↔ (IsTrue fits × (slice_range xs place (place + length needle.bytes.now) ≡ needle.bytes.now))
  short-there result is told few =
      let value : List ℕ = slice_range xs place (place + length needle.bytes.now) in
      let same : value ≡ needle.bytes.now = sym (take_all 8 value (omega (arith, sizes (and-left fits begins told), few))) ∙ fronts told ∙ take_all 8 needle.bytes.now few in
      (λ e. (and-left fits begins told, same), λ h. is)

  pub long-there : (result : Bool) → (fits && begins) ≡ true → 8 < length needle.bytes.now
      → IsTrue result ↔ (slice_range xs (place + 8) (place + length needle.bytes.now) ≡ slice_range needle.bytes.now 8 (length needle.bytes.now))
      → IsTrue result ↔ (IsTrue fits × (slice_range xs place (place + length needle.bytes.now) ≡ needle.bytes.now))
  long-there result told many others =
      let value : List ℕ = slice_range xs place (place + length needle.bytes.now) in
      let behind : drop 8 value ≡ slice_range xs (place + 8) (place + length needle.bytes.now) = part_after 8 place (place + length needle.bytes.now) xs (omega (arith, many)) in
      let joined : (drop 8 value ≡ drop 8 needle.bytes.now) → value ≡ needle.bytes.now =
      λ e. sym (take-append-drop 8 value) ∙ ap (λ zs. zs ++ drop 8 value) (fronts told) ∙ ap (λ zs. take 8 needle.bytes.now ++ zs) e ∙ take-append-drop 8 needle.bytes.now in (
        λ e. (and-left fits begins told, joined (behind ∙ others.0 e ∙ rest-is needle.bytes.now 8)),
        λ h. others.1 (sym behind ∙ ap (drop 8) h.1 ∙ sym (rest-is needle.bytes.now 8)),
      )

-- a part that is as long as the needle
pub between-told : (b : Bool) (xs bytes : List ℕ) (begin stop : ℕ) → begin ≤ stop → stop ≤ length xs → IsTrue b ↔ (IsTrue (stop - begin == length bytes) × (slice_range xs begin (begin + length bytes) ≡ bytes))
    → IsTrue b ↔ (slice_range xs begin stop ≡ bytes)
between-told b xs bytes begin stop l m told = (
  λ e. let h = told.0 e in let end : stop ≡ begin + length bytes = omega (arith, l, eqb-true (stop - begin) (length bytes) h.0) in ap (slice_range xs begin) end ∙ h.1,
  λ e. let size : stop - begin ≡ length bytes = sym (length-part xs begin stop m) ∙ ap length e in let end : begin + length bytes ≡ stop = omega (arith, l, size) in told.1 (eqb-same (stop - begin) (length bytes) size, ap (slice_range xs begin) end ∙ e),
)

-- ---- a few needles

also : {X : Type 0} (p q : X → Bool) (xs : List X) → ((x : X) → p x ≡ true → q x ≡ true) → list_any p xs ≡ true → list_any q xs ≡ true
also p q xs each h = let some = Any-from_list_any p xs h in list_any-from_Any q xs (some.0, some.1, some.2, some.3, each some.1 some.4)

-- where one is the value, one is alike; and the other way round if the value is short
pub listed-told : (word size : ℕ) (value : List ℕ) (needles : List Needle) (alike : Bool) → word ≡ beginning 8 value → length value ≡ size → AreBytes value → alike ≡ list_any (λ needle. is_alike word size needle.word needle.bytes.now) needles → (alike && ltb 8 size) ≡ false
    → alike ≡ list_any (λ needle. bytes_eq value needle.bytes.now) needles
listed-told word size value needles alike front all values is decided =
    let equal : Needle → Bool = λ needle. bytes_eq value needle.bytes.now in
    let same : (needle : Needle) → equal needle ≡ true → is_alike word size needle.word needle.bytes.now ≡ true =
    λ needle e. same-alike word size value needle front all values ((bytes_eq-Decides value needle.bytes.now).0 e) in
    let few : alike ≡ true → size ≤ 8 = λ told. ltb-false 8 size (sym (ap (λ b. b && ltb 8 size) told) ∙ decided) in
    same_from_decides alike (list_any equal needles) (
      λ told.
          also (λ needle. is_alike word size needle.word needle.bytes.now) equal needles (λ needle e. (bytes_eq-Decides value needle.bytes.now).1 (short-same word size value needle front all values e (omega (arith, few told, all, alike-size word size value needle front all values e)))) (sym is ∙ told),
      λ e. is ∙ also equal (λ needle. is_alike word size needle.word needle.bytes.now) needles same e,
    )
    (λ e. e, λ e. e)

-- ---- comparisons

pub equal-told : (b : Bool) (xs ys : List ℕ) → IsTrue b ↔ (xs ≡ ys) → b ≡ is_eq (slice_cmp nat_cmp xs ys)
equal-told b xs ys told = same_from_decides b (bytes_eq xs ys) told (bytes_eq-Decides xs ys) ∙ sym (is_eq-slice_cmp xs ys)

unequal : (o : Ordering) → not (is_eq o) ≡ is_ne o
unequal Less = refl
unequal Equal = refl
unequal Greater = refl

pub unequal-told : (b : Bool) (xs ys : List ℕ) → IsTrue b ↔ (xs ≡ ys) → not b ≡ is_ne (slice_cmp nat_cmp xs ys)
unequal-told b xs ys told = ap not (equal-told b xs ys told) ∙ unequal (slice_cmp nat_cmp xs ys)

-- ---- beginnings

-- the first bytes of a part that has as many
first-of-part : (xs : List ℕ) (begin stop n : ℕ) → n ≤ stop - begin → slice_range xs begin (begin + n) ≡ take n (slice_range xs begin stop)
first-of-part xs begin stop n few = part-is xs begin n ∙ sym (take-take n (stop - begin) (drop begin xs) few)

pub begins-told : (b : Bool) (xs bytes : List ℕ) (begin stop : ℕ) → stop ≤ length xs → IsTrue b ↔ (IsTrue (leb (length bytes) (stop - begin)) × (slice_range xs begin (begin + length bytes) ≡ bytes))
    → b ≡ starts_with nat_eq (slice_range xs begin stop) bytes
begins-told b xs bytes begin stop m told =
    let part : List ℕ = slice_range xs begin stop in
    let room : bytes ≡ take (length bytes) part → length bytes ≤ stop - begin = λ e. omega (arith, ap length e, length-take (length bytes) part, length-part xs begin stop m) in
    same_from_decides b (starts_with nat_eq part bytes) (
      λ y. let h = told.0 y in sym h.1 ∙ first-of-part xs begin stop (length bytes) (leb-true _ _ h.0),
      λ e. told.1 (le-leb _ _ (room e), first-of-part xs begin stop (length bytes) (room e) ∙ sym e),
    )
    (bytes_eq-Decides bytes (take (length bytes) part))
