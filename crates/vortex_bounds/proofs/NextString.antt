-- The next string of a string's first n bytes is its upper bound at n bytes.
use Rattle.std.proofs.Common.{◌≡◌, ℕ, zero, suc, ◌<◌, ◌≤◌, ◌+◌, inl, inr, List, [], ◌∷◌, ◌++◌, Option, Some, None, MatchOption, if◌then◌else◌, length, take, drop, replicate, get_or, refl, sym, ap, ap₂, ◌∙◌, subst, arith, eq-or-lt_of_le, take-append-drop, length-take-le, nat_lt, true, false, Bool}
use Rattle.vortex_bounds.specs.Strings.{IsString, IsUpper, HasNoUpper, next_after, next_string, upper_of}
use Rattle.vortex_bounds.proofs.ByteOrder.{Lt, Le, Below-from, Below-to, NotAbove-from}
use Rattle.vortex_bounds.proofs.StringBounds.{IsString-tail, IsString-push, IsString-take}

-- r is the next string of p: of as many bytes, above every string that begins with p, and not above another such one
pub record IsNextOf (p r : List ℕ) : Type 0 where
  pub string : IsString p → IsString r
  pub exact : length r ≡ length p
  pub above : (rest : List ℕ) → Lt (p ++ rest) r
  pub least : (rest t : List ℕ) → IsString t → length t ≡ length p → Lt (p ++ rest) t → Le r t

-- no string of as many bytes is above one that begins with p
abbrev pub HasNoNextOf : List ℕ → Type 0
HasNoNextOf p = (rest t : List ℕ) → IsString t → length t ≡ length p → ¬ (Lt (p ++ rest) t)

abbrev pub IsNextOrNone : List ℕ → Option (List ℕ) → Type 0
IsNextOrNone p o = MatchOption o (HasNoNextOf p) (IsNextOf p)

-- ---- zeros
zeros_IsString : (n : ℕ) → IsString (replicate n 0)
zeros_IsString zero k = omega arith
zeros_IsString (suc n) zero = omega arith
zeros_IsString (suc n) (suc k) = zeros_IsString n k

zeros_least : (n : ℕ) (t : List ℕ) → length t ≡ n → Le (replicate n 0) t
zeros_least zero t l = tt
zeros_least (suc n) [] l = absurd (omega arith)
zeros_least (suc n) (zero ∷ t) l = inr (refl, zeros_least n t (omega arith))
zeros_least (suc n) (suc y ∷ t) l = inl (omega arith)

abbrev zeros : ℕ → List ℕ
zeros n = replicate n 0

length-zeros : (n : ℕ) → length (zeros n) ≡ n
length-zeros zero = refl
length-zeros (suc n) = omega (arith, length-zeros n)

-- ---- behind the same byte
pushed_least : (b : ℕ) (bs r : List ℕ) → IsNextOf bs r → (rest t : List ℕ) → IsString t
    → length t ≡ length (b ∷ bs) → Lt ((b ∷ bs) ++ rest) t → Le (b ∷ r) t
pushed_least b bs r h rest [] s l q = absurd q
pushed_least b bs r h rest (y ∷ t) s l (inl q) = inl q
pushed_least b bs r h rest (y ∷ t) s l (inr q) =
    inr (q.0, h.least rest t (IsString-tail y t s) (omega arith) q.1)

pushed : (b : ℕ) (bs r : List ℕ) → IsNextOf bs r → IsNextOf (b ∷ bs) (b ∷ r)
pushed b bs r h = record {
  string = λ s. IsString-push b r (s 0) (h.string (IsString-tail b bs s));
  exact = let e = h.exact in omega arith;
  above = λ rest. inr (refl, h.above rest);
  least = pushed_least b bs r h;
}

-- ---- the byte one more, behind it zeros
raised_least : (b : ℕ) (bs : List ℕ) → HasNoNextOf bs → (rest t : List ℕ) → IsString t
    → length t ≡ length (b ∷ bs) → Lt ((b ∷ bs) ++ rest) t → Le ((b + 1) ∷ replicate (length bs) 0) t
raised_least b bs h rest [] s l q = absurd q
raised_least b bs h rest (y ∷ t) s l (inl q) =
    let le : b + 1 ≤ y = omega arith in
    elim (eq-or-lt_of_le le) [
      | inl e ↦ inr (e, zeros_least (length bs) t (omega arith))
      | inr m ↦ inl m
    ]
raised_least b bs h rest (y ∷ t) s l (inr q) = absurd (h rest t (IsString-tail y t s) (omega arith) q.1)

raised : (b : ℕ) (bs : List ℕ) → b < 255 → HasNoNextOf bs → IsNextOf (b ∷ bs) ((b + 1) ∷ replicate (length bs) 0)
raised b bs m h = record {
  string = λ s. IsString-push (b + 1) _ (omega arith) (zeros_IsString (length bs));
  exact = let e = length-zeros (length bs) in omega arith;
  above = λ rest. inl (omega arith);
  least = raised_least b bs h;
}

full : (b : ℕ) (bs : List ℕ) → 255 ≤ b → HasNoNextOf bs → HasNoNextOf (b ∷ bs)
full b bs m h rest [] s l q = q
full b bs m h rest (y ∷ t) s l (inl q) = let top = s 0 in omega arith
full b bs m h rest (y ∷ t) s l (inr q) = h rest t (IsString-tail y t s) (omega arith) q.1

-- ---- what `next_string` gives
tested : (b : ℕ) (bs : List ℕ) → HasNoNextOf bs → (less : Bool) → nat_lt b 255 ≡ less
    → IsNextOrNone (b ∷ bs) (if less then Some ((b + 1) ∷ replicate (length bs) 0) else None)
tested b bs h true e = raised b bs (grind arith) h
tested b bs h false e = full b bs (grind arith) h

behind : (b : ℕ) (bs : List ℕ) (o : Option (List ℕ)) → IsNextOrNone bs o → IsNextOrNone (b ∷ bs) (next_after b bs o)
behind b bs None h = tested b bs h (nat_lt b 255) refl
behind b bs (Some r) h = pushed b bs r h

none_above_empty : HasNoNextOf []
none_above_empty [] [] s l q = q
none_above_empty (x ∷ rest) [] s l q = q
none_above_empty rest (y ∷ t) s l q = absurd (omega arith)

pub next_string_is_next : (p : List ℕ) → IsNextOrNone p (next_string p)
next_string_is_next [] = none_above_empty
next_string_is_next (b ∷ bs) = behind b bs (next_string bs) (next_string_is_next bs)

-- ---- the upper bound
upper : (b p rest : List ℕ) (n : ℕ) → p ++ rest ≡ b → length p ≡ n → IsString p → (o : Option (List ℕ))
    → IsNextOrNone p o → MatchOption o (HasNoUpper b n) (IsUpper b n)
upper b p rest n e l s None h = λ t v m q. h rest t v (omega arith) (subst (λ x. Lt x t) (sym e) (Below-to _ _ q))
upper b p rest n e l s (Some r) h = record {
  string = h.string s;
  exact = let x = h.exact in omega arith;
  above = Below-from _ _ (subst (λ x. Lt x r) e (h.above rest));
  least = λ t v m q. NotAbove-from _ _ (h.least rest t v (omega arith) (subst (λ x. Lt x t) (sym e) (Below-to _ _ q)));
}

-- of a string of at least n bytes, `upper_of` is its upper bound, and none exactly where it has none
pub upper_of_is_upper : (b : List ℕ) (n : ℕ) → IsString b → n ≤ length b
    → MatchOption (upper_of b n) (HasNoUpper b n) (IsUpper b n)
upper_of_is_upper b n s l =
    upper b (take n b) (drop n b) n (take-append-drop n b) (length-take-le n b l) (IsString-take b n s) _
    (next_string_is_next (take n b))

-- ---- the carry, place by place
pub next_string_full : (p : List ℕ) → ((k : ℕ) → k < length p → get_or p k 0 ≡ 255) → next_string p ≡ None
next_string_full [] f = refl
next_string_full (x ∷ p) f =
    let e : x ≡ 255 = f 0 (omega arith) in
    let rest : next_string p ≡ None = next_string_full p (λ k l. f (suc k) (omega arith)) in
    ap (next_after x p) rest ∙ ap (λ v. next_after v p None) e

all_zeros : (r : List ℕ) (n : ℕ) → length r ≡ n → ((k : ℕ) → k < n → get_or r k 0 ≡ 0) → r ≡ zeros n
all_zeros [] zero l z = refl
all_zeros [] (suc n) l z = absurd (omega arith)
all_zeros (x ∷ r) zero l z = absurd (omega arith)
all_zeros (x ∷ r) (suc n) l z =
    ap₂ (λ v vs. v ∷ vs) (z 0 (omega arith)) (all_zeros r n (omega arith) (λ k m. z (suc k) (omega arith)))

-- r is p with the byte at i raised by one, the bytes after it being 255 in p and 0 in r
pub record IsRaisedAt (p r : List ℕ) (i : ℕ) : Type 0 where
  pub inside : i < length p
  pub exact : length r ≡ length p
  pub same : (k : ℕ) → k < i → get_or r k 0 ≡ get_or p k 0
  pub more : get_or r i 0 ≡ get_or p i 0 + 1
  pub room : get_or p i 0 < 255
  pub zeros_after : (k : ℕ) → i < k → k < length p → get_or r k 0 ≡ 0
  pub full_after : (k : ℕ) → i < k → k < length p → get_or p k 0 ≡ 255

raised_behind : (x y : ℕ) (p r : List ℕ) (i : ℕ) → IsRaisedAt (x ∷ p) (y ∷ r) (suc i) → IsRaisedAt p r i
raised_behind x y p r i h = record {
  inside = let q = h.inside in omega arith;
  exact = let q = h.exact in omega arith;
  same = λ k l. h.same (suc k) (omega arith);
  more = h.more;
  room = h.room;
  zeros_after = λ k l m. h.zeros_after (suc k) (omega arith) (omega arith);
  full_after = λ k l m. h.full_after (suc k) (omega arith) (omega arith);
}

raised_here : (x : ℕ) (p : List ℕ) → x < 255 → next_after x p None ≡ Some ((x + 1) ∷ zeros (length p))
raised_here x p l = grind arith

pub next_string_raised : (p r : List ℕ) (i : ℕ) → IsRaisedAt p r i → next_string p ≡ Some r
next_string_raised [] r i h = absurd (let q = h.inside in omega arith)
next_string_raised (x ∷ p) [] i h = absurd (let q = h.exact in omega arith)
next_string_raised (x ∷ p) (y ∷ r) zero h =
    let none : next_string p ≡ None = next_string_full p (λ k l. h.full_after (suc k) (omega arith) (omega arith)) in
    let rest : r ≡ zeros (length p) =
    all_zeros r (length p) (let q = h.exact in omega arith) (λ k l. h.zeros_after (suc k) (omega arith) (omega arith)) in
    ap (next_after x p) none ∙ raised_here x p h.room ∙ ap₂ (λ v vs. Some (v ∷ vs)) (sym h.more) (sym rest)
next_string_raised (x ∷ p) (y ∷ r) (suc i) h =
    let rest : next_string p ≡ Some r = next_string_raised p r i (raised_behind x y p r i h) in
    ap (next_after x p) rest ∙ ap (λ v. Some (v ∷ r)) (sym (h.same 0 (omega arith)))

-- the bytes before i are the value's; from i on they were 255 and are 0
pub record IsCarriedTo (value bytes : List ℕ) (i : ℕ) : Type 0 where
  pub exact : length bytes ≡ length value
  pub same : (k : ℕ) → k < i → get_or bytes k 0 ≡ get_or value k 0
  pub zeros_from : (k : ℕ) → i ≤ k → k < length value → get_or bytes k 0 ≡ 0
  pub full_from : (k : ℕ) → i ≤ k → k < length value → get_or value k 0 ≡ 255
