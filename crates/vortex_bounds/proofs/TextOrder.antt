-- The order of texts is that of their characters.
use Rattle.std.proofs.Common.{◌≡◌, ℕ, ◌<◌, ◌≤◌, ◌+◌, ◌*◌, ◌/◌, ◌%◌, ◌⊎◌, inl, inr, List, [], ◌∷◌, refl, arith, ◌++◌, encode_utf8}
use Rattle.std.proofs.str.Laws.{one, two, three, four, order}
use Rattle.vortex_bounds.proofs.ByteOrder.{Lt, Le}

-- ---- laws of the order
pub Lt-nil : (xs : List ℕ) → ¬ (Lt xs [])
Lt-nil [] h = h
Lt-nil (x ∷ xs) h = h

pub Lt-asym : (xs ys : List ℕ) → Lt xs ys → ¬ (Lt ys xs)
Lt-asym [] [] h k = h
Lt-asym [] (y ∷ ys) h k = k
Lt-asym (x ∷ xs) [] h k = h
Lt-asym (x ∷ xs) (y ∷ ys) (inl h) (inl k) = omega arith
Lt-asym (x ∷ xs) (y ∷ ys) (inl h) (inr k) = let e = k.0 in omega arith
Lt-asym (x ∷ xs) (y ∷ ys) (inr h) (inl k) = let e = h.0 in omega arith
Lt-asym (x ∷ xs) (y ∷ ys) (inr h) (inr k) = Lt-asym xs ys h.1 k.1

pub Lt-Le : (xs ys : List ℕ) → Lt xs ys → Le xs ys
Lt-Le [] ys h = tt
Lt-Le (x ∷ xs) [] h = h
Lt-Le (x ∷ xs) (y ∷ ys) (inl h) = inl h
Lt-Le (x ∷ xs) (y ∷ ys) (inr h) = inr (h.0, Lt-Le xs ys h.1)

pub Le-grows : (xs ys : List ℕ) → Le xs (xs ++ ys)
Le-grows [] ys = tt
Le-grows (x ∷ xs) ys = inr (refl, Le-grows xs ys)

pub Le-after : (p xs ys : List ℕ) → Le xs ys → Le (p ++ xs) (p ++ ys)
Le-after [] xs ys h = h
Le-after (x ∷ p) xs ys h = inr (refl, Le-after p xs ys h)

pub Lt-after : (p xs ys : List ℕ) → Lt xs ys → Lt (p ++ xs) (p ++ ys)
Lt-after [] xs ys h = h
Lt-after (x ∷ p) xs ys h = inr (refl, Lt-after p xs ys h)

pub Lt-cancel : (p xs ys : List ℕ) → Lt (p ++ xs) (p ++ ys) → Lt xs ys
Lt-cancel [] xs ys h = h
Lt-cancel (x ∷ p) xs ys (inl h) = absurd (omega arith)
Lt-cancel (x ∷ p) xs ys (inr h) = Lt-cancel p xs ys h.1

-- ---- the bytes of a character, by its width
abbrev Follows : ℕ → Type 0
Follows b = (128 ≤ b) × (b < 192)

data Form (c : ℕ) : Type 0 where
  of1 : c < 128 → encode_utf8 c ≡ c ∷ [] → Form c
  of2 : (a b : ℕ) → 128 ≤ c → c < 2048 → 192 ≤ a → a < 224 → Follows b → c + 12416 ≡ a * 64 + b → encode_utf8 c ≡ a ∷ b ∷ [] → Form c
  of3 : (a b d : ℕ) → 2048 ≤ c → c < 65536 → 224 ≤ a → a < 240 → Follows b → Follows d → c + 925824 ≡ a * 4096 + b * 64 + d → encode_utf8 c ≡ a ∷ b ∷ d ∷ [] → Form c
  of4 : (a b d e : ℕ) → 65536 ≤ c → 240 ≤ a → Follows b → Follows d → Follows e → c + 63447168 ≡ a * 262144 + b * 4096 + d * 64 + e → encode_utf8 c ≡ a ∷ b ∷ d ∷ e ∷ [] → Form c

follows : (x : ℕ) → Follows (128 + x % 64)
follows x = (omega arith, omega arith)

form : (c : ℕ) → Form c
form c = by (order c 128) (order c 2048) (order c 65536)
  where
    by : (c < 128) ⊎ (128 ≤ c) → (c < 2048) ⊎ (2048 ≤ c) → (c < 65536) ⊎ (65536 ≤ c) → Form c
    by (inl h) _ _ = of1 h (one c h)
    by (inr l) (inl h) _ = of2 (192 + c / 64) (128 + c % 64) l h (omega arith) (omega arith) (follows c) (omega arith) (two c l h)
    by (inr _) (inr l) (inl h) = of3 (224 + c / 4096) (128 + (c / 64) % 64) (128 + c % 64) l h (omega arith) (omega arith) (follows (c / 64)) (follows c) (omega arith) (three c l h)
    by (inr _) (inr _) (inr l) = of4 (240 + c / 262144) (128 + (c / 4096) % 64) (128 + (c / 64) % 64) (128 + c % 64) l (omega arith) (follows (c / 4096)) (follows (c / 64)) (follows c) (omega arith) (four c l)

less : (c d : ℕ) → Form c → Form d → c < d → (r t : List ℕ) → Lt (encode_utf8 c ++ r) (encode_utf8 d ++ t)
less c d (of1 h e) (of1 h' e') l r t = rw (e, e') (inl l)
less c d (of1 h e) (of2 a' b' p' h' l' u' f' s' e') l r t = rw (e, e') (inl (omega arith))
less c d (of1 h e) (of3 a' b' d' p' h' l' u' f' g' s' e') l r t = rw (e, e') (inl (omega arith))
less c d (of1 h e) (of4 a' b' d' x' p' l' f' g' k' s' e') l r t = rw (e, e') (inl (omega arith))
less c d (of2 a b p h lo u f s e) (of1 h' e') l r t = absurd (omega arith)
less c d (of2 a b p h lo u f s e) (of2 a' b' p' h' l' u' f' s' e') l r t =
    rw (e, e') (elim (order a a') [ inl q ↦ inl q | inr q ↦ inr (omega arith, inl (omega arith)) ])
less c d (of2 a b p h lo u f s e) (of3 a' b' d' p' h' l' u' f' g' s' e') l r t = rw (e, e') (inl (omega arith))
less c d (of2 a b p h lo u f s e) (of4 a' b' d' x' p' l' f' g' k' s' e') l r t = rw (e, e') (inl (omega arith))
less c d (of3 a b x p h lo u f g s e) (of1 h' e') l r t = absurd (omega arith)
less c d (of3 a b x p h lo u f g s e) (of2 a' b' p' h' l' u' f' s' e') l r t = absurd (omega arith)
less c d (of3 a b x p h lo u f g s e) (of3 a' b' x' p' h' l' u' f' g' s' e') l r t =
    rw (e, e') (elim (order a a') [
      | inl q ↦ inl q
      | inr q ↦ inr (omega arith, elim (order b b') [ inl v ↦ inl v | inr v ↦ inr (omega arith, inl (omega arith)) ])
    ])
less c d (of3 a b x p h lo u f g s e) (of4 a' b' d' x' p' l' f' g' k' s' e') l r t = rw (e, e') (inl (omega arith))
less c d (of4 a b x y p lo f g k s e) (of1 h' e') l r t = absurd (omega arith)
less c d (of4 a b x y p lo f g k s e) (of2 a' b' p' h' l' u' f' s' e') l r t = absurd (omega arith)
less c d (of4 a b x y p lo f g k s e) (of3 a' b' x' p' h' l' u' f' g' s' e') l r t = absurd (omega arith)
less c d (of4 a b x y p lo f g k s e) (of4 a' b' x' y' p' l' f' g' k' s' e') l r t =
    rw (e, e') (elim (order a a') [
      | inl q ↦ inl q
      | inr q ↦ inr (
        omega arith,
        elim (order b b') [
          | inl v ↦ inl v
          | inr v ↦ inr (omega arith, elim (order x x') [ inl w ↦ inl w | inr w ↦ inr (omega arith, inl (omega arith)) ])
        ],
      )
    ])

-- the lesser character's bytes are below the greater one's, whatever follows either
pub encode_less : (c d : ℕ) → c < d → (r t : List ℕ) → Lt (encode_utf8 c ++ r) (encode_utf8 d ++ t)
encode_less c d l r t = less c d (form c) (form d) l r t
