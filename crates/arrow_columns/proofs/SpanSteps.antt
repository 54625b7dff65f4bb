-- Values told apart by the numbers of their first bytes.
use Rattle.std.proofs.Common.{◌≡◌, ◌∙◌, ◌==◌, ℕ, zero, suc, ◌+◌, ◌-◌, ◌*◌, ◌%◌, ◌^◌, ◌<◌, ◌≤◌, ◌⊎◌, ◌&&◌, inl, inr, Bool, true, false, List, [], ◌∷◌, ◌++◌, add-zero, ap, arith, drop, length, min, nat_cmp, Option, Some, Less, Equal, Greater, refl, slice_index, slice_range, subst, sym, take}
use Rattle.std.proofs.Math.Dec.{ltb}
use Rattle.std.proofs.Math.Nat.{mul-le-mul_right}
use Rattle.std.proofs.Math.Seq.{take-add}
use Rattle.std.proofs.lemmas.Bool.{eqb-true, ltb-true}
use Rattle.std.proofs.lemmas.Cmp.{nat_list_cmp_total}
use Rattle.std.proofs.lemmas.List.{drop-drop, drop-take, get_or-drop, length-take}
use Rattle.std.proofs.lemmas.Nat.{and_mask, mod-mul-add, pow-add}
use Rattle.std.specs.Bool.{OnTrue}
use Rattle.std.specs.Cmp.{nat_cmp_is}
use Rattle.std.specs.Cmp.Lexicographic.{slice_cmp}
use Rattle.std.specs.Int.{from_be_bytes, w64}
use Rattle.std.specs.Int.Bits.{bit_and}
use Rattle.std.specs.Ordering.{is_lt, ordering_reverse, ordering_then}
use Rattle.arrow_columns.specs.Offsets.{bytes_between}
use Rattle.arrow_columns.specs.Running.{IsBestAt}
use Rattle.arrow_columns.specs.Spans.{AreBytes, Keeps, Widens, beginning}
use Rattle.arrow_columns.specs.Statistics.{NotAbove}
use Rattle.arrow_columns.specs.declared.byte_spans.ByteSpan.{ByteSpan}
use Rattle.arrow_columns.proofs.ByteOrder.{Ranks, best_new, best_past, goes_on}

-- bytes of a part

bytes_rest : (x : ℕ) (xs : List ℕ) → AreBytes (x ∷ xs) → AreBytes xs
bytes_rest x xs h = λ k. h (suc k)

pub bytes_after : (n : ℕ) (xs : List ℕ) → AreBytes xs → AreBytes (drop n xs)
bytes_after n xs h = λ k. subst (λ z. z < 256) (sym (get_or-drop n xs k 0)) (h (n + k))

-- how large a number of bytes is

none : (n : ℕ) → beginning n [] ≡ 0
none zero = refl
none (suc n) = refl

some_power : (n : ℕ) → 0 < 256 ^ n
some_power zero = omega arith
some_power (suc n) = let more = some_power n in omega arith

small : (n : ℕ) (xs : List ℕ) → AreBytes xs → beginning n xs < 256 ^ n
small zero xs h = omega arith
small (suc n) [] h = some_power (suc n)
small (suc n) (x ∷ xs) h =
    let rest : beginning n xs < 256 ^ n = small n xs (bytes_rest x xs h) in
    let first : x < 256 = h 0 in
    let most : x * 256 ^ n ≤ 255 * 256 ^ n = mul-le-mul_right (256 ^ n) (omega arith) in
    omega (arith, rest, most)

-- numbers with a byte in front of them
above : (p x y b c : ℕ) → c < p → y < x → y * p + c < x * p + b
above p x y b c small more =
    let further : (y + 1) * p ≤ x * p = mul-le-mul_right p (omega arith) in
    let one : (y + 1) * p ≡ y * p + p = grind arith in
    omega (arith, further, one, small)

compared : (x y : ℕ) → (x < y) ⊎ ((x ≡ y) ⊎ (y < x))
compared x y = search (arith)

-- the order of lists

first_same : (x y : ℕ) (xs ys : List ℕ) → x ≡ y → slice_cmp nat_cmp (x ∷ xs) (y ∷ ys) ≡ slice_cmp nat_cmp xs ys
first_same x y xs ys e = ap (λ o. ordering_then o (slice_cmp nat_cmp xs ys)) (sym (nat_cmp_is x y Equal e))

first_less : (x y : ℕ) (xs ys : List ℕ) → x < y → slice_cmp nat_cmp (x ∷ xs) (y ∷ ys) ≡ Less
first_less x y xs ys l = ap (λ o. ordering_then o (slice_cmp nat_cmp xs ys)) (sym (nat_cmp_is x y Less l))

told_here : (n : ℕ) (x y : List ℕ) → AreBytes y → beginning n x < beginning n y → slice_cmp nat_cmp x y ≡ Less
told_here zero x y b h = absurd (omega arith)
told_here (suc n) [] [] b h = absurd (omega arith)
told_here (suc n) [] (y ∷ ys) b h = refl
told_here (suc n) (x ∷ xs) [] b h = absurd (omega arith)
told_here (suc n) (x ∷ xs) (y ∷ ys) b h =
    elim (compared x y) [
      | inl l ↦ first_less x y xs ys l
      | inr q ↦
          elim q [
            | inl e ↦
                let same : x * 256 ^ n ≡ y * 256 ^ n = ap (λ k. k * 256 ^ n) e in
                first_same x y xs ys e ∙ told_here n xs ys (bytes_rest y ys b) (omega (arith, same, h))
            | inr g ↦
                let more : y * 256 ^ n + beginning n ys < x * 256 ^ n + beginning n xs = above (256 ^ n) x y (beginning n xs) (beginning n ys) (small n ys (bytes_rest y ys b)) g in
                absurd (omega (arith, more, h))
          ]
    ]

-- after a common beginning
told : (s n : ℕ) (x y : List ℕ) → AreBytes y → take s x ≡ take s y → beginning n (drop s x) < beginning n (drop s y) → slice_cmp nat_cmp x y ≡ Less
told zero n x y b e h = told_here n x y b h
told (suc s) n [] [] b e h = absurd (omega (arith, none n, h))
told (suc s) n [] (y ∷ ys) b e h = refl
told (suc s) n (x ∷ xs) [] b e h = absurd (omega (arith, none n, h))
told (suc s) n (x ∷ xs) (y ∷ ys) b e h =
    let first : x ≡ y = ap (λ l. slice_index l 0) e in
    let rest : take s xs ≡ take s ys = ap (drop 1) e in
    first_same x y xs ys first ∙ told s n xs ys (bytes_rest y ys b) rest h

-- what the numbers of the next bytes tell
pub below_by_word : (s v w : ℕ) (x y : List ℕ) → AreBytes y → take s x ≡ take s y → v ≡ beginning 8 (drop s x) → w ≡ beginning 8 (drop s y) → v < w → true ≡ is_lt (slice_cmp nat_cmp x y)
below_by_word s v w x y b e p q h = sym (ap is_lt (told s 8 x y b e (omega (arith, p, q, h))))

pub above_by_word : (s v w : ℕ) (x y : List ℕ) → AreBytes x → take s x ≡ take s y → v ≡ beginning 8 (drop s x) → w ≡ beginning 8 (drop s y) → w < v → false ≡ is_lt (slice_cmp nat_cmp x y)
above_by_word s v w x y b e p q h =
    let back : slice_cmp nat_cmp x y ≡ Greater = nat_list_cmp_total.antisymm x y ∙ ap ordering_reverse (told s 8 y x b (sym e) (omega (arith, p, q, h))) in
    sym (ap is_lt back)

below_told : (s v w : ℕ) (x y : List ℕ) → AreBytes y → take s x ≡ take s y → v ≡ beginning 8 (drop s x) → w ≡ beginning 8 (drop s y) → ltb v w ≡ true → NotAbove x y
below_told s v w x y b e p q h =
    let less : v < w = ltb-true v w h in
    let is : slice_cmp nat_cmp x y ≡ Less = told s 8 x y b e (omega (arith, p, q, less)) in
    λ g. cc

both_true : (a b : Bool) (P : Type 0) → (a ≡ true → P) → OnTrue (a && b) P
both_true true true P h = h refl
both_true true false P h = tt
both_true false b P h = tt

last_true : (a b : Bool) (P : Type 0) → (b ≡ true → P) → OnTrue (a && b) P
last_true true true P h = h refl
last_true true false P h = tt
last_true false b P h = tt

-- what two such tests tell
pub low_told : (s v w : ℕ) (other : Bool) (x y : List ℕ) → AreBytes y → take s x ≡ take s y → v ≡ beginning 8 (drop s x) → w ≡ beginning 8 (drop s y) → OnTrue (ltb v w && other) (NotAbove x y)
low_told s v w other x y b e p q = both_true (ltb v w) other (NotAbove x y) (below_told s v w x y b e p q)

pub high_told : (s v w : ℕ) (other : Bool) (x y : List ℕ) → AreBytes y → take s x ≡ take s y → v ≡ beginning 8 (drop s x) → w ≡ beginning 8 (drop s y) → OnTrue (other && ltb v w) (NotAbove x y)
high_told s v w other x y b e p q = last_true other (ltb v w) (NotAbove x y) (below_told s v w x y b e p q)

-- equal numbers are of equal bytes, if both have as many
pub same_bytes : (n : ℕ) (xs ys : List ℕ) → AreBytes xs → AreBytes ys → min n (length xs) ≡ min n (length ys) → beginning n xs ≡ beginning n ys → take n xs ≡ take n ys
same_bytes zero xs ys b c l e = refl
same_bytes (suc n) [] [] b c l e = refl
same_bytes (suc n) [] (y ∷ ys) b c l e = absurd (omega (arith, l))
same_bytes (suc n) (x ∷ xs) [] b c l e = absurd (omega (arith, l))
same_bytes (suc n) (x ∷ xs) (y ∷ ys) b c l e =
    elim (compared x y) [
      | inl g ↦
          let more : x * 256 ^ n + beginning n xs < y * 256 ^ n + beginning n ys = above (256 ^ n) y x (beginning n ys) (beginning n xs) (small n xs (bytes_rest x xs b)) g in
          absurd (omega (arith, more, e))
      | inr q ↦
          elim q [
            | inl f ↦
                let same : x * 256 ^ n ≡ y * 256 ^ n = ap (λ k. k * 256 ^ n) f in
                let rest : take n xs ≡ take n ys = same_bytes n xs ys (bytes_rest x xs b) (bytes_rest y ys c) (omega (arith, l)) (omega (arith, same, e)) in
                ap (λ z. z ∷ take n xs) f ∙ ap (λ zs. y ∷ zs) rest
            | inr g ↦
                let more : y * 256 ^ n + beginning n ys < x * 256 ^ n + beginning n xs = above (256 ^ n) x y (beginning n xs) (beginning n ys) (small n ys (bytes_rest y ys c)) g in
                absurd (omega (arith, more, e))
          ]
    ]

pub words_same : (b : Bool) (x y : ℕ) (xs ys : List ℕ) → b ≡ (x == y) → x ≡ beginning 8 xs → y ≡ beginning 8 ys → AreBytes xs → AreBytes ys → 8 ≤ length xs → 8 ≤ length ys → OnTrue b (take 8 xs ≡ take 8 ys)
words_same true x y xs ys e p q b c l m = same_bytes 8 xs ys b c (omega (arith, l, m)) (sym p ∙ eqb-true x y (sym e) ∙ q)
words_same false x y xs ys e p q b c l m = tt

pub on_true : (b : Bool) (P : Type 0) → OnTrue b P → b ≡ true → P
on_true b P h e = subst (λ t. OnTrue t P) e h

-- one more word alike
pub word_more : (k : ℕ) (xs ys : List ℕ) → take (8 * k) xs ≡ take (8 * k) ys → take 8 (drop (8 * k) xs) ≡ take 8 (drop (8 * k) ys) → take (8 * (k + 1)) xs ≡ take (8 * (k + 1)) ys
word_more k xs ys e f =
    let n : 8 * (k + 1) ≡ 8 * k + 8 = omega arith in
    ap (λ m. take m xs) n ∙ take-add (8 * k) 8 xs ∙ ap (λ zs. zs ++ take 8 (drop (8 * k) xs)) e ∙ ap (λ zs. take (8 * k) ys ++ zs) f ∙ sym (take-add (8 * k) 8 ys) ∙ sym (ap (λ m. take m ys) n)

-- the number of eight bytes
eight : (bs : List ℕ) → from_be_bytes w64 (slice_index bs 0 ∷ slice_index bs 1 ∷ slice_index bs 2 ∷ slice_index bs 3 ∷ slice_index bs 4 ∷ slice_index bs 5 ∷ slice_index bs 6 ∷ slice_index bs 7 ∷ []) ≡ beginning 8 bs
eight (a ∷ b ∷ c ∷ d ∷ e ∷ f ∷ g ∷ h ∷ bs) = omega arith
eight (a ∷ b ∷ c ∷ d ∷ e ∷ f ∷ g ∷ []) = omega arith
eight (a ∷ b ∷ c ∷ d ∷ e ∷ f ∷ []) = omega arith
eight (a ∷ b ∷ c ∷ d ∷ e ∷ []) = omega arith
eight (a ∷ b ∷ c ∷ d ∷ []) = omega arith
eight (a ∷ b ∷ c ∷ []) = omega arith
eight (a ∷ b ∷ []) = omega arith
eight (a ∷ []) = omega arith
eight [] = omega arith

-- the first bytes of a word, with zeros after them

power : (k : ℕ) → 2 ^ (8 * k) ≡ 256 ^ k
power zero = refl
power (suc k) =
    let e : 8 * suc k ≡ 8 + 8 * k = omega arith in
    let more : 2 ^ (8 + 8 * k) ≡ 256 * 2 ^ (8 * k) = pow-add 2 8 (8 * k) in
    ap (λ m. 2 ^ m) e ∙ omega (arith, more, power k)

pub masked : (word rest k : ℕ) → rest + 1 ≡ 256 ^ k → bit_and word rest ≡ word % 256 ^ k
masked word rest k e =
    let r : rest ≡ 2 ^ (8 * k) - 1 = omega (arith, e, power k) in
    ap (bit_and word) r ∙ and_mask word (8 * k) ∙ ap (λ m. word % m) (power k)

split : (n k m : ℕ) (xs : List ℕ) → m ≡ n + k → beginning m xs ≡ beginning m (take n xs) + beginning k (drop n xs)
split zero k m xs e =
    let same : m ≡ k = omega arith in
    omega (arith, none m, ap (λ j. beginning j xs) same)
split (suc n) k zero xs e = absurd (omega arith)
split (suc n) k (suc m) [] e = omega (arith, none k)
split (suc n) k (suc m) (x ∷ xs) e = let rest : beginning m xs ≡ beginning m (take n xs) + beginning k (drop n xs) = split n k m xs (omega arith) in omega (arith, rest)

distributed : (x p q b : ℕ) → (x * p + b) * q ≡ x * (p * q) + b * q
distributed x p q b = grind arith

front : (n k m : ℕ) (xs : List ℕ) → m ≡ n + k → beginning m (take n xs) ≡ beginning n xs * 256 ^ k
front zero k m xs e = let nothing : 0 * 256 ^ k ≡ 0 = omega arith in none m ∙ sym nothing
front (suc n) k zero xs e = absurd (omega arith)
front (suc n) k (suc m) [] e = let nothing : 0 * 256 ^ k ≡ 0 = omega arith in sym nothing
front (suc n) k (suc m) (x ∷ xs) e =
    let sum : m ≡ n + k = omega arith in
    let power : 256 ^ m ≡ 256 ^ n * 256 ^ k = ap (λ j. 256 ^ j) sum ∙ pow-add 256 n k in
    ap (λ p. x * p + beginning m (take n xs)) power ∙ ap (λ b. x * (256 ^ n * 256 ^ k) + b) (front n k m xs sum) ∙ sym (distributed x (256 ^ n) (256 ^ k) (beginning n xs))

without_rest : (n k m : ℕ) (xs : List ℕ) (word result : ℕ) → m ≡ n + k → AreBytes xs → word ≡ beginning m xs → result + word % 256 ^ k ≡ word → result ≡ beginning m (take n xs)
without_rest n k m xs word result e b w r =
    let last : beginning k (drop n xs) < 256 ^ k = small k (drop n xs) (bytes_after n xs b) in
    let whole : word ≡ beginning n xs * 256 ^ k + beginning k (drop n xs) = w ∙ split n k m xs e ∙ ap (λ z. z + beginning k (drop n xs)) (front n k m xs e) in
    let rest : word % 256 ^ k ≡ beginning k (drop n xs) = ap (λ z. z % 256 ^ k) whole ∙ mod-mul-add (beginning n xs) (256 ^ k) (beginning k (drop n xs)) last in
    let first : result ≡ beginning n xs * 256 ^ k = omega (arith, whole, rest, r) in
    first ∙ sym (front n k m xs e)

enough : (m n : ℕ) (xs : List ℕ) → m ≤ n → beginning m (take n xs) ≡ beginning m xs
enough zero n xs h = refl
enough (suc m) zero xs h = absurd (omega arith)
enough (suc m) (suc n) [] h = refl
enough (suc m) (suc n) (x ∷ xs) h = ap (λ b. x * 256 ^ m + b) (enough m n xs (omega arith))

few_or_many : (n : ℕ) → (n ≤ 8) ⊎ (8 ≤ n)
few_or_many n = search (arith)

pub word_of_some : (n count : ℕ) (xs : List ℕ) (word result : ℕ) → AreBytes xs → word ≡ beginning 8 xs → (n ≤ 8 → count ≡ n) → (8 ≤ n → count ≡ 8) → result + word % 256 ^ (8 - count) ≡ word → result ≡ beginning 8 (take n xs)
word_of_some n count xs word result b w few many r =
    elim (few_or_many n) [
      | inl l ↦
          let is : count ≡ n = few l in
          let left : result + word % 256 ^ (8 - n) ≡ word = subst (λ c. result + word % 256 ^ (8 - c) ≡ word) is r in
          without_rest n (8 - n) 8 xs word result (omega arith) b w left
      | inr m ↦
          let is : count ≡ 8 = many m in
          let left : result + word % 256 ^ (8 - 8) ≡ word = subst (λ c. result + word % 256 ^ (8 - c) ≡ word) is r in
          let whole : result ≡ word = omega (arith, left) in
          whole ∙ w ∙ sym (enough 8 n xs m)
    ]

-- a span with one more row

pub widens_below : (value : List ℕ) (row : ℕ) (old new : ByteSpan) → NotAbove old.low.now old.high.now → NotAbove value old.low.now → new.low.now ≡ value → new.least ≡ row → new.high.now ≡ old.high.now → new.greatest ≡ old.greatest
    → Widens value row old new
widens_below value row old new o b l m h g = record {
  least = inl (b, l, m);
  greatest = inr (goes_on value old.low.now old.high.now b o, h, g);
}

pub widens_above : (value : List ℕ) (row : ℕ) (old new : ByteSpan) → NotAbove old.low.now old.high.now → NotAbove old.high.now value → new.low.now ≡ old.low.now → new.least ≡ old.least → new.high.now ≡ value → new.greatest ≡ row
    → Widens value row old new
widens_above value row old new o a l m h g = record {
  least = inr (goes_on old.low.now old.high.now value o a, l, m);
  greatest = inl (a, h, g);
}

pub widens_inside : (value : List ℕ) (row : ℕ) (old : ByteSpan) → NotAbove old.low.now value → NotAbove value old.high.now → Widens value row old old
widens_inside value row old a b = record {
  least = inr (a, refl, refl);
  greatest = inr (b, refl, refl);
}

-- the best row, with one more that has a value
pub best_chosen : (R : List ℕ → List ℕ → Type 0) → Ranks R → (cell : ℕ → Option (List ℕ)) (value : ℕ → List ℕ) (from i old new : ℕ) (x kept next : List ℕ) → IsBestAt R cell value from i old → from ≤ i → cell i ≡ Some (value i)
    → x ≡ value i → kept ≡ value old → Keeps R x kept next i old new → IsBestAt R cell value from (i + 1) new × (next ≡ value new)
best_chosen R r cell value from i old new x kept next s f e p q k =
    elim k [
      | inl h ↦ (
        best_new R r cell value from i old new s f e (subst (λ y. R y (value old)) p (subst (R x) q h.0)) h.2,
        h.1 ∙ p ∙ ap value (sym h.2),
      )
      | inr h ↦ (
        best_past R cell value from i old new s e (subst (λ y. R y (value i)) q (subst (R kept) p h.0)) h.2,
        h.1 ∙ q ∙ ap value (sym h.2),
      )
    ]

-- a value by its offsets
pub between_same : (bytes : List ℕ) (offset : ℕ → ℕ) (i begin stop : ℕ) → begin ≡ offset i → stop ≡ offset (i + 1) → slice_range bytes begin stop ≡ bytes_between bytes offset i
between_same bytes offset i begin stop p q = ap (λ a. slice_range bytes a stop) p ∙ ap (λ b. slice_range bytes (offset i) b) q

-- a part of a part
pub part_after : (n begin stop : ℕ) (xs : List ℕ) → begin + n ≤ stop → drop n (slice_range xs begin stop) ≡ slice_range xs (begin + n) stop
part_after n begin stop xs h =
    let e : stop - begin ≡ n + (stop - (begin + n)) = omega arith in
    ap (λ m. drop n (take m (drop begin xs))) e ∙ drop-take n (stop - (begin + n)) (drop begin xs) ∙ ap (take (stop - (begin + n))) (drop-drop n begin xs)

pub eight_given : (bs : List ℕ) (word a b c d e f g h : ℕ) → word ≡ from_be_bytes w64 (a ∷ b ∷ c ∷ d ∷ e ∷ f ∷ g ∷ h ∷ []) → a ≡ slice_index bs 0 → b ≡ slice_index bs 1 → c ≡ slice_index bs 2 → d ≡ slice_index bs 3 → e ≡ slice_index bs 4
    → f ≡ slice_index bs 5 → g ≡ slice_index bs 6 → h ≡ slice_index bs 7 → word ≡ beginning 8 bs
eight_given bs word a b c d e f g h is p q r s t u v w =
    is ∙ ap (λ x. from_be_bytes w64 (x ∷ b ∷ c ∷ d ∷ e ∷ f ∷ g ∷ h ∷ [])) p ∙ ap (λ x. from_be_bytes w64 (slice_index bs 0 ∷ x ∷ c ∷ d ∷ e ∷ f ∷ g ∷ h ∷ [])) q
    ∙ ap (λ x. from_be_bytes w64 (slice_index bs 0 ∷ slice_index bs 1 ∷ x ∷ d ∷ e ∷ f ∷ g ∷ h ∷ [])) r
    ∙ ap (λ x. from_be_bytes w64 (slice_index bs 0 ∷ slice_index bs 1 ∷ slice_index bs 2 ∷ x ∷ e ∷ f ∷ g ∷ h ∷ [])) s
    ∙ ap (λ x. from_be_bytes w64 (slice_index bs 0 ∷ slice_index bs 1 ∷ slice_index bs 2 ∷ slice_index bs 3 ∷ x ∷ f ∷ g ∷ h ∷ [])) t
    ∙ ap (λ x. from_be_bytes w64 (slice_index bs 0 ∷ slice_index bs 1 ∷ slice_index bs 2 ∷ slice_index bs 3 ∷ slice_index bs 4 ∷ x ∷ g ∷ h ∷ [])) u
    ∙ ap (λ x. from_be_bytes w64 (slice_index bs 0 ∷ slice_index bs 1 ∷ slice_index bs 2 ∷ slice_index bs 3 ∷ slice_index bs 4 ∷ slice_index bs 5 ∷ x ∷ h ∷ [])) v
    ∙ ap (λ x. from_be_bytes w64 (slice_index bs 0 ∷ slice_index bs 1 ∷ slice_index bs 2 ∷ slice_index bs 3 ∷ slice_index bs 4 ∷ slice_index bs 5 ∷ slice_index bs 6 ∷ x ∷ [])) w ∙ eight bs

pub eight_at : (at : ℕ) (bs : List ℕ)
    → from_be_bytes w64 (slice_index bs at ∷ slice_index bs (at + 1) ∷ slice_index bs (at + 2) ∷ slice_index bs (at + 3) ∷ slice_index bs (at + 4) ∷ slice_index bs (at + 5) ∷ slice_index bs (at + 6) ∷ slice_index bs (at + 7) ∷ [])
    ≡ beginning 8 (drop at bs)
eight_at at bs =
    eight_given (drop at bs) _ _ _ _ _ _ _ _ _ refl (ap (slice_index bs) (sym (add-zero at)) ∙ sym (get_or-drop at bs 0 0)) (sym (get_or-drop at bs 1 0)) (sym (get_or-drop at bs 2 0)) (sym (get_or-drop at bs 3 0)) (sym (get_or-drop at bs 4 0))
    (sym (get_or-drop at bs 5 0)) (sym (get_or-drop at bs 6 0)) (sym (get_or-drop at bs 7 0))

-- the word after those that a value begins with
pub next_word : (words begin stop word : ℕ) (bytes : List ℕ) → begin ≤ stop → 8 * words ≤ length (slice_range bytes begin stop) → word ≡ beginning 8 (slice_range bytes (begin + 8 * words) stop) → word ≡ beginning 8 (drop (8 * words) (slice_range bytes begin stop))
next_word words begin stop word bytes o l w =
    let within : begin + 8 * words ≤ stop = omega (arith, o, l, length-take (stop - begin) (drop begin bytes)) in
    w ∙ ap (beginning 8) (sym (part_after (8 * words) begin stop bytes within))
