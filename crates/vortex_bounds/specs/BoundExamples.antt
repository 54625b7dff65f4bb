-- Worked cases of bounds, each a theorem.
use Rattle.std.proofs.Common.{lit<, lit≤, ⊎_elim, inl, inr, arith, subst}
use Rattle.std.proofs.str.Laws.{order}
use Rattle.std.specs.Prelude.{◌≡◌, ℕ, ◌≤◌, List, [], ◌∷◌, Some, None, refl, codes, encode_utf8_all, IsCharBoundary}
use Rattle.vortex_bounds.specs.Strings.{lower_of, upper_of}
use Rattle.vortex_bounds.specs.Texts.{IsLast, IsStuck, IsSuccessor, IsSuccessorOfLength, IsTextPrefix}

-- Bytes: the first ones, and these plus one.

pub lower_at_two : lower_of (0 ∷ 5 ∷ 47 ∷ 33 ∷ 129 ∷ []) 2 ≡ 0 ∷ 5 ∷ []
lower_at_two = refl

pub lower_at_no_bytes : lower_of (1 ∷ 2 ∷ []) 0 ≡ []
lower_at_no_bytes = refl

pub lower_at_the_length : lower_of (1 ∷ 2 ∷ []) 2 ≡ 1 ∷ 2 ∷ []
lower_at_the_length = refl

pub upper_keeps_zeros : upper_of (0 ∷ 5 ∷ 255 ∷ 234 ∷ 23 ∷ []) 3 ≡ Some (0 ∷ 6 ∷ 0 ∷ [])
upper_keeps_zeros = refl

pub upper_carries_far : upper_of (0 ∷ 255 ∷ 255 ∷ 1 ∷ []) 3 ≡ Some (1 ∷ 0 ∷ 0 ∷ [])
upper_carries_far = refl

pub upper_at_the_length : upper_of (1 ∷ 2 ∷ []) 2 ≡ Some (1 ∷ 3 ∷ [])
upper_at_the_length = refl

pub no_upper_of_full_bytes : upper_of (255 ∷ 255 ∷ 255 ∷ []) 2 ≡ None
no_upper_of_full_bytes = refl

pub no_upper_at_no_bytes : upper_of (1 ∷ 2 ∷ []) 0 ≡ None
no_upper_at_no_bytes = refl

-- Strings of characters.

abbrev characters : List ℕ → List ℕ
characters cs = encode_utf8_all cs

-- four letters and a moth of four bytes
abbrev char_moth : List ℕ
char_moth = characters (99 ∷ 104 ∷ 97 ∷ 114 ∷ 0x1_FAA9 ∷ [])

-- nothing begins or ends within the moth's first byte
only_five : (i : ℕ) → i ≤ 5 → IsCharBoundary char_moth i → i ≤ 4
unfolding lib.Utf8.encode
only_five i l h =
    ⊎_elim (λ m. omega arith)
    (λ m.
    let e : i ≡ 5 = omega arith in
    let five : IsCharBoundary char_moth 5 = subst (λ k. IsCharBoundary char_moth k) e h in
    let wrong : 192 ≤ 159 = five.1 (lit< tt) (lit≤ tt) in
    absurd (omega arith))
    (order i 5)

pub prefix_at_five : IsTextPrefix char_moth 5 (codes "char")
unfolding lib.Utf8.encode
prefix_at_five = record {
  fits = lit≤ tt;
  beginning = refl;
  boundary = (lit≤ tt, λ _ _. lit≤ tt);
  longest = only_five;
}

-- the first byte of two is no prefix: é at 1
abbrev e_acute : List ℕ
e_acute = characters (0xE9 ∷ [])

only_one : (i : ℕ) → i ≤ 1 → IsCharBoundary e_acute i → i ≤ 0
unfolding lib.Utf8.encode
only_one i l h =
    ⊎_elim (λ m. omega arith)
    (λ m.
    let e : i ≡ 1 = omega arith in
    let one : IsCharBoundary e_acute 1 = subst (λ k. IsCharBoundary e_acute k) e h in
    let wrong : 192 ≤ 169 = one.1 (lit< tt) (lit≤ tt) in
    absurd (omega arith))
    (order i 1)

pub prefix_of_e_acute_at_one : IsTextPrefix e_acute 1 []
unfolding lib.Utf8.encode
prefix_of_e_acute_at_one = record {
  fits = lit≤ tt;
  beginning = refl;
  boundary = (lit≤ tt, λ _ _. lit≤ tt);
  longest = only_one;
}

-- "char" and "chas"
pub successor_of_char : IsSuccessorOfLength (codes "char") (codes "chas")
unfolding lib.Utf8.encode
successor_of_char = (
  record {
    front = codes "cha";
    last = 114;
    before = record { text = (99 ∷ 104 ∷ 97 ∷ [], (refl, refl)); scalar = refl; split = refl };
    after = record { text = (99 ∷ 104 ∷ 97 ∷ [], (refl, refl)); scalar = refl; split = refl };
  },
  refl,
)

-- U+07FF and U+0800, in one byte more
pub successor_in_more_bytes : IsSuccessor (characters (0x7FF ∷ [])) (characters (0x800 ∷ []))
unfolding lib.Utf8.encode
successor_in_more_bytes = record {
  front = [];
  last = 0x7FF;
  before = record { text = ([], (refl, refl)); scalar = refl; split = refl };
  after = record { text = ([], (refl, refl)); scalar = refl; split = refl };
}

pub empty_is_stuck : IsStuck []
empty_is_stuck = inl refl

-- "a" and U+007F: no upper bound of the same length, though "b" is above
pub stuck_at_the_last_of_ascii : IsStuck (characters (97 ∷ 0x7F ∷ []))
unfolding lib.Utf8.encode
stuck_at_the_last_of_ascii =
    inr (codes "a", 0x7F, record { text = (97 ∷ [], (refl, refl)); scalar = refl; split = refl }, inl refl)

pub stuck_before_the_surrogates : IsStuck (characters (0xD7FF ∷ []))
unfolding lib.Utf8.encode
stuck_before_the_surrogates =
    inr ([], 0xD7FF, record { text = ([], (refl, refl)); scalar = refl; split = refl }, inr (inr (inl refl)))

pub last_of_all : IsLast (characters (0x10_FFFF ∷ []))
unfolding lib.Utf8.encode
last_of_all = inr ([], 0x10_FFFF, record { text = ([], (refl, refl)); scalar = refl; split = refl }, inr refl)
