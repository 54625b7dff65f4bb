-- The name of a type tells its logical type.
use Rattle.std.proofs.Common.{◌≡◌, ◌∙◌, ◌<◌, ℕ, Bool, true, false, if◌then◌else◌, List, [], ◌∷◌, length, nat_le, refl, sym, ap, subst, arith}
use Rattle.logical_scalars.specs.Stored.{IsOfLogicalType}
use Rattle.logical_types.specs.Extensions.{HasMetadata, IsExtension, id_of, unit_byte}
use Rattle.logical_types.specs.declared.extensions.StorageType.{StorageType}
use Rattle.logical_types.specs.declared.extensions.StorageType.TheVariants.{I64, Bytes}
use Rattle.logical_types.specs.declared.logical.LogicalType.{LogicalType}
use Rattle.logical_types.specs.declared.logical.LogicalType.TheVariants.{Float64, Float32, Decimal, Date, Time, Timestamp}
use Rattle.logical_types.specs.declared.times.TimeUnit.{TimeUnit}
use Rattle.logical_types.specs.declared.times.TimeUnit.TheVariants.{Seconds, Milliseconds, Microseconds, Nanoseconds}
use Rattle.vortex_dtype.specs.TypeTree.{TypeTree}
use Rattle.named_statistics.specs.Heads.{first_parameter, head_from, head_of, id_byte, second_parameter}
use Rattle.named_statistics.specs.Laws.{NamesTellTypes, StatisticsTellNames}
use Rattle.named_statistics.proofs.NamedSteps.{names_apart}

pub tell_names : StatisticsTellNames
tell_names t u s r e = (names_apart t u s r e).0

-- the byte of a logical type's id
abbrev kind_byte : LogicalType → ℕ
kind_byte Float64 = 1
kind_byte Float32 = 2
kind_byte (Decimal d) = 3
kind_byte Date = 4
kind_byte (Time unit) = 5
kind_byte (Timestamp unit is_zoned) = 6

byte_of_id : (l : LogicalType) → id_byte (id_of l) ≡ kind_byte l
unfolding id_byte
byte_of_id Float64 = refl
byte_of_id Float32 = refl
byte_of_id (Decimal d) = refl
byte_of_id Date = refl
byte_of_id (Time unit) = refl
byte_of_id (Timestamp unit is_zoned) = refl

-- whether a timestamp has a zone, as a byte
abbrev zone_byte : Bool → ℕ
zone_byte false = 0
zone_byte true = 1

-- the parameters of a logical type
abbrev first_of_type : LogicalType → ℕ
first_of_type Float64 = 0
first_of_type Float32 = 0
first_of_type (Decimal d) = d.precision
first_of_type Date = 4
first_of_type (Time unit) = unit_byte unit
first_of_type (Timestamp unit is_zoned) = unit_byte unit

abbrev second_of_type : LogicalType → ℕ
second_of_type Float64 = 0
second_of_type Float32 = 0
second_of_type (Decimal d) = d.scale
second_of_type Date = 0
second_of_type (Time unit) = 0
second_of_type (Timestamp unit is_zoned) = zone_byte is_zoned

some_zone : (metadata name : List ℕ) (u low high : ℕ) → 0 < length name → metadata ≡ u ∷ low ∷ high ∷ name → second_parameter metadata ≡ 1
some_zone metadata [] u low high some e = absurd (omega arith)
some_zone metadata (c ∷ name) u low high some e = ap second_parameter e

first_is : (l : LogicalType) (metadata : List ℕ) → HasMetadata l metadata → first_parameter metadata ≡ first_of_type l
first_is Float64 metadata h = ap first_parameter h
first_is Float32 metadata h = ap first_parameter h
first_is (Decimal d) metadata h = ap first_parameter h
first_is Date metadata h = ap first_parameter h
first_is (Time unit) metadata h = ap first_parameter h
first_is (Timestamp unit false) metadata h = ap first_parameter h
first_is (Timestamp unit true) metadata h = ap first_parameter h.parts

second_is : (l : LogicalType) (metadata : List ℕ) → HasMetadata l metadata → second_parameter metadata ≡ second_of_type l
second_is Float64 metadata h = ap second_parameter h
second_is Float32 metadata h = ap second_parameter h
second_is (Decimal d) metadata h = ap second_parameter h
second_is Date metadata h = ap second_parameter h
second_is (Time unit) metadata h = ap second_parameter h
second_is (Timestamp unit false) metadata h = ap second_parameter h
second_is (Timestamp unit true) metadata h = some_zone metadata h.name (unit_byte unit) h.low h.high h.some h.parts

-- the name of a logical type
abbrev name : LogicalType → List ℕ
name l = 2 ∷ kind_byte l ∷ first_of_type l ∷ second_of_type l ∷ []

from_kind : (l : LogicalType) (metadata : List ℕ) → head_from (kind_byte l) metadata ≡ 2 ∷ kind_byte l ∷ first_parameter metadata ∷ second_parameter metadata ∷ []
from_kind Float64 metadata = refl
from_kind Float32 metadata = refl
from_kind (Decimal d) metadata = refl
from_kind Date metadata = refl
from_kind (Time unit) metadata = refl
from_kind (Timestamp unit is_zoned) metadata = refl

head_is : (t : TypeTree) (l : LogicalType) → IsOfLogicalType t l → head_of t ≡ name l
head_is t l h =
    ap head_of h.typed ∙ ap (λ (n : ℕ). head_from n h.metadata) (ap id_byte h.is.named ∙ byte_of_id l) ∙ from_kind l h.metadata
    ∙ ap (λ (b : ℕ). 2 ∷ kind_byte l ∷ b ∷ second_parameter h.metadata ∷ []) (first_is l h.metadata h.is.described)
    ∙ ap (λ (b : ℕ). 2 ∷ kind_byte l ∷ first_of_type l ∷ b ∷ []) (second_is l h.metadata h.is.described)

-- ---- one name is of one type

same_unit : (u v : TimeUnit) → unit_byte u ≡ unit_byte v → u ≡ v
same_unit Seconds Seconds e = refl
same_unit Milliseconds Milliseconds e = refl
same_unit Microseconds Microseconds e = refl
same_unit Nanoseconds Nanoseconds e = refl
same_unit _ _ e = absurd (omega arith)

same_zone : (a b : Bool) → zone_byte a ≡ zone_byte b → a ≡ b
same_zone false false e = refl
same_zone true true e = refl
same_zone _ _ e = absurd (omega arith)

moved : (l m : LogicalType) (id metadata : List ℕ) (kind : StorageType) → kind_byte l ≡ kind_byte m → first_of_type l ≡ first_of_type m → second_of_type l ≡ second_of_type m
    → IsExtension id metadata kind m → IsExtension id metadata kind l
moved Float64 Float64 id metadata kind k a b h = h
moved Float32 Float32 id metadata kind k a b h = h
moved (Decimal d) (Decimal e) id metadata kind k a b h = record {
  named = h.named;
  described = h.described ∙ ap (λ (p : ℕ). p ∷ e.scale ∷ []) (sym a) ∙ ap (λ (s : ℕ). d.precision ∷ s ∷ []) (sym b);
  stored = h.stored ∙ ap (λ (p : ℕ). if nat_le p 18 then I64 else Bytes) (sym a);
}
moved Date Date id metadata kind k a b h = h
moved (Time u) (Time v) id metadata kind k a b h = subst (λ (w : TimeUnit). IsExtension id metadata kind (Time w)) (sym (same_unit u v a)) h
moved (Timestamp u x) (Timestamp v y) id metadata kind k a b h =
    subst (λ (w : TimeUnit). IsExtension id metadata kind (Timestamp w x)) (sym (same_unit u v a)) (subst (λ (z : Bool). IsExtension id metadata kind (Timestamp v z)) (sym (same_zone x y b)) h)
moved _ _ id metadata kind k a b h = absurd (omega arith)

no_name : (a b c : ℕ) → 2 ∷ a ∷ b ∷ c ∷ [] ≡ [] → ⊥
no_name a b c e = cc

pub tell_types : NamesTellTypes
tell_types = record {
  named = λ t l h none. no_name (kind_byte l) (first_of_type l) (second_of_type l) (sym (head_is t l h) ∙ none);
  apart = λ t u l m g h e. again u l m h (sym (head_is t l g) ∙ e ∙ head_is u m h);
}
  where
    again : (u : TypeTree) (l m : LogicalType) → IsOfLogicalType u m → name l ≡ name m → IsOfLogicalType u l
    again u l m h e =
        let k : kind_byte l ≡ kind_byte m = cc in
        let a : first_of_type l ≡ first_of_type m = cc in
        let b : second_of_type l ≡ second_of_type m = cc in
        record { id = h.id; metadata = h.metadata; kind = h.kind; nullability = h.nullability; is = moved l m h.id h.metadata h.kind k a b h.is; typed = h.typed }
