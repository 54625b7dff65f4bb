-- What comes first in an encoding, the version, the flags and the counts, says the flags and the counts.
use Rattle.std.proofs.Common.{◌≡◌, ℕ, ◌<◌, ◌^◌, List, [], ◌∷◌, ◌++◌, length, Option, Some, None, IfSome, is_some, refl, sym, ap, ap₂, ◌∙◌, arith}
use Rattle.std.proofs.lemmas.Bool.{false≢true}
use Rattle.std.proofs.lemmas.List.{append_assoc}
use Rattle.statistics_bytes.specs.Encoding.{bound_bytes, count_bytes, encoding, known_count_bytes}
use Rattle.statistics_bytes.specs.EncodingSteps.{flags_byte, flags_of}
use Rattle.vortex_statistics.specs.Statistics.{Known}
use Rattle.statistics_bytes.specs.declared.flags.Flags.{Flags}
use Rattle.statistics_bytes.proofs.CountBytes.{big_endian-length, counts-apart}
use Rattle.statistics_bytes.proofs.FlagLaws.{flags-apart, flags-byte}

-- ---- strings of one length

pub first-apart : (b c : ℕ) (xs ys : List ℕ) → 1 ∷ b ∷ xs ≡ 1 ∷ c ∷ ys → (b ≡ c) × (xs ≡ ys)
first-apart b c xs ys e = (cc, cc)

-- two beginnings of one string that have one length are one
pub lengths-apart : (xs ys more rest : List ℕ) → length xs ≡ length ys → xs ++ more ≡ ys ++ rest → (xs ≡ ys) × (more ≡ rest)
lengths-apart [] [] more rest l e = (refl, e)
lengths-apart [] (y ∷ ys) more rest l e = absurd (omega arith)
lengths-apart (x ∷ xs) [] more rest l e = absurd (omega arith)
lengths-apart (x ∷ xs) (y ∷ ys) more rest l e =
    let first : x ≡ y = cc in
    let after : xs ++ more ≡ ys ++ rest = cc in
    let w = lengths-apart xs ys more rest (omega arith) after in
    (ap₂ (λ b bs. b ∷ bs) first w.0, w.1)

-- ---- counts

count_then : (m n : ℕ) (xs ys : List ℕ) → m < 2 ^ 64 → n < 2 ^ 64 → count_bytes m ++ xs ≡ count_bytes n ++ ys → (m ≡ n) × (xs ≡ ys)
count_then m n xs ys f g e =
    let w = lengths-apart (count_bytes m) (count_bytes n) xs ys (big_endian-length 8 m ∙ sym (big_endian-length 8 n)) e in
    (counts-apart m n f g w.0, w.1)

abbrev FitsIfKnown : Option ℕ → Type 0
FitsIfKnown p = IfSome p (λ n. n < 2 ^ 64)

known_then : (p q : Option ℕ) (xs ys : List ℕ) → is_some p ≡ is_some q → FitsIfKnown p → FitsIfKnown q → known_count_bytes p ++ xs ≡ known_count_bytes q ++ ys → (p ≡ q) × (xs ≡ ys)
known_then None None xs ys s f g e = (refl, e)
known_then None (Some n) xs ys s f g e = absurd (false≢true s)
known_then (Some m) None xs ys s f g e = absurd (false≢true (sym s))
known_then (Some m) (Some n) xs ys s f g e = let w = count_then m n xs ys f g e in (ap Some w.0, w.1)

-- ---- what comes first

-- the version, the flags and the counts
abbrev pub head_bytes : Flags → ℕ → Option ℕ → List ℕ
head_bytes f rows nulls = 1 ∷ flags_byte f ∷ (count_bytes rows ++ known_count_bytes nulls)

-- the counts are of 64 bits, and that of nulls is known exactly if the flags say so
pub record IsHead (f : Flags) (rows : ℕ) (nulls : Option ℕ) : Type 0 where
  pub rows_fit : rows < 2 ^ 64
  pub nulls_fit : IfSome nulls (λ n. n < 2 ^ 64)
  pub known : is_some nulls ≡ f.has_null_count

pub heads-apart : (f g : Flags) (m n : ℕ) (p q : Option ℕ) (xs ys : List ℕ) → IsHead f m p → IsHead g n q → head_bytes f m p ++ xs ≡ head_bytes g n q ++ ys → (f ≡ g) × (m ≡ n) × (p ≡ q) × (xs ≡ ys)
heads-apart f g m n p q xs ys h k e =
    let first = first-apart (flags_byte f) (flags_byte g) ((count_bytes m ++ known_count_bytes p) ++ xs) ((count_bytes n ++ known_count_bytes q) ++ ys) e in
    let same : f ≡ g = flags-apart f g first.0 in
    let rows = count_then m n (known_count_bytes p ++ xs) (known_count_bytes q ++ ys) h.rows_fit k.rows_fit
    (sym (append_assoc (count_bytes m) (known_count_bytes p) xs) ∙ first.1 ∙ append_assoc (count_bytes n) (known_count_bytes q) ys) in
    let nulls = known_then p q xs ys (h.known ∙ ap (λ x. x.has_null_count) same ∙ sym k.known) h.nulls_fit k.nulls_fit rows.1 in
    (same, rows.0, nulls.0, nulls.1)

-- an encoding begins so
pub encoding-head : (s : Known) → encoding s ≡ head_bytes (flags_of s) s.row_count s.null_count ++ (bound_bytes s.lower ++ bound_bytes s.upper)
encoding-head s = ap₂ (λ b bs. 1 ∷ b ∷ bs) (flags-byte s) (sym (append_assoc (count_bytes s.row_count) (known_count_bytes s.null_count) (bound_bytes s.lower ++ bound_bytes s.upper)))
