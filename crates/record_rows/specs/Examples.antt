-- Worked cases of the definitions, each a theorem.
use Rattle.std.specs.Prelude.{◌≡◌, [], ◌∷◌, true, false, codes, refl}
use Rattle.vortex_dtype.specs.declared.nullability.Nullability.TheVariants.{NonNullable, Nullable}
use Rattle.record_rows.specs.Readings.{Reading, is_null_field}

-- a reading of which no word is a null
abbrev plain : Reading
plain = record { is_lenient = false; nulls = [] }

-- and one where NA and - are
abbrev with_words : Reading
with_words = record { is_lenient = false; nulls = codes "NA" ∷ codes "-" ∷ [] }

-- a field without a byte is a null if the column takes nulls
pub empty-is-null : is_null_field plain Nullable (record { text = []; is_quoted = false }) ≡ true
empty-is-null = refl

-- not so one with quotes
pub quotes-are-empty : is_null_field plain Nullable (record { text = []; is_quoted = true }) ≡ false
quotes-are-empty = refl

-- and not if the column takes none
pub no-null-here : is_null_field plain NonNullable (record { text = []; is_quoted = false }) ≡ false
no-null-here = refl

pub word-is-no-null : is_null_field plain Nullable (record { text = codes "0"; is_quoted = false }) ≡ false
word-is-no-null = refl

-- a word that is given as one is a null, as is the empty field then too
pub given-is-null : is_null_field with_words Nullable (record { text = codes "-"; is_quoted = false }) ≡ true
given-is-null = refl

pub empty-stays-null : is_null_field with_words Nullable (record { text = []; is_quoted = false }) ≡ true
empty-stays-null = refl

-- not so in quotes, nor a word that begins so, nor where the column takes no null
pub quoted-is-word : is_null_field with_words Nullable (record { text = codes "NA"; is_quoted = true }) ≡ false
quoted-is-word = refl

pub longer-is-word : is_null_field with_words Nullable (record { text = codes "NAN"; is_quoted = false }) ≡ false
longer-is-word = refl

pub given-is-word-here : is_null_field with_words NonNullable (record { text = codes "NA"; is_quoted = false }) ≡ false
given-is-word-here = refl
