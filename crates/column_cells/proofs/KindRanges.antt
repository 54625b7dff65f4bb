-- An integer that stands in bytes is one of its type.
use Rattle.std.proofs.Common.{ℕ, suc, zero, ◌+◌, ◌-◌, ◌*◌, ◌^◌, ◌<◌, List, [], ◌∷◌, arith, drop, subst, sym, take}
use Rattle.std.proofs.Math.Facts.{sfits_to_z}
use Rattle.std.proofs.lemmas.List.{get_or-drop}
use Rattle.std.specs.Prelude.{slice_range}
use Rattle.std.specs.Int.{from_le_bytes, w8, w16, w32, w64}
use Rattle.arrow_columns.specs.Integers.{integer_of, item_at}
use Rattle.arrow_columns.specs.declared.kinds.IntegerKind.{IntegerKind}
use Rattle.arrow_columns.specs.declared.kinds.IntegerKind.TheVariants.{U8, U16, U32, U64, I8, I16, I32, I64}
use Rattle.vortex_pvalue.specs.Numbers.{InRange}
use Rattle.arrow_columns.specs.Spans.{AreBytes}
use Rattle.column_cells.specs.Types.{ptype_of_kind}

taken : (n : ℕ) (bytes : List ℕ) → AreBytes bytes → AreBytes (take n bytes)
taken zero bytes h k = omega arith
taken (suc n) [] h k = omega arith
taken (suc n) (b ∷ bytes) h zero = h 0
taken (suc n) (b ∷ bytes) h (suc k) = taken n bytes (λ j. h (suc j)) k

dropped : (n : ℕ) (bytes : List ℕ) → AreBytes bytes → AreBytes (drop n bytes)
dropped n bytes h k = subst (λ b. b < 256) (sym (get_or-drop n bytes k 0)) (h (n + k))

-- the bytes of a part
pub range_bytes : (a b : ℕ) (buffer : List ℕ) → AreBytes buffer → AreBytes (slice_range buffer a b)
range_bytes a b buffer h = taken (b - a) (drop a buffer) (dropped a buffer h)

pub item_bytes : (n i : ℕ) (buffer : List ℕ) → AreBytes buffer → AreBytes (item_at n buffer i)
item_bytes n i buffer h = range_bytes (i * n) (i * n + n) buffer h

below8 : (bytes : List ℕ) → AreBytes bytes → from_le_bytes w8 bytes < 2 ^ 8
below8 bytes h = omega (arith, h 0)

below16 : (bytes : List ℕ) → AreBytes bytes → from_le_bytes w16 bytes < 2 ^ 16
below16 bytes h = omega (arith, h 0, h 1)

below32 : (bytes : List ℕ) → AreBytes bytes → from_le_bytes w32 bytes < 2 ^ 32
below32 bytes h = omega (arith, h 0, h 1, h 2, h 3)

below64 : (bytes : List ℕ) → AreBytes bytes → from_le_bytes w64 bytes < 2 ^ 64
below64 bytes h = omega (arith, h 0, h 1, h 2, h 3, h 4, h 5, h 6, h 7)

pub in_kind : (kind : IntegerKind) (bytes : List ℕ) → AreBytes bytes → InRange (ptype_of_kind kind) (integer_of kind bytes)
in_kind U8 bytes h = below8 bytes h
in_kind U16 bytes h = below16 bytes h
in_kind U32 bytes h = below32 bytes h
in_kind U64 bytes h = below64 bytes h
in_kind I8 bytes h = sfits_to_z (record { fits = below8 bytes h })
in_kind I16 bytes h = sfits_to_z (record { fits = below16 bytes h })
in_kind I32 bytes h = sfits_to_z (record { fits = below32 bytes h })
in_kind I64 bytes h = sfits_to_z (record { fits = below64 bytes h })
