-- Worked cases of the definitions, each a theorem.
use Rattle.std.specs.Prelude.{◌≡◌, [], ◌∷◌, None, Some, false, true, refl}
use Rattle.truth_bitmaps.specs.Truths.{bit_in, byte_count, is_match, no_row, truth_and, truth_at, truth_not, truth_or, under_null, word_count}
use Rattle.truth_bitmaps.specs.declared.words.TruthWord.{TruthWord}

-- of False and Unknown
and_false : truth_and None (Some false) ≡ Some false
and_false = refl

or_true : truth_or None (Some true) ≡ Some true
or_true = refl

not_unknown : truth_not None ≡ None
not_unknown = refl

null : under_null false (Some true) ≡ None
null = refl

-- rows 0 and 1 are True, rows 1 and 2 have the bit of Unknown
abbrev word : TruthWord
word = record { is_true = 3; is_unknown = 6 }

-- the bit of True decides
rows : truth_at (word ∷ []) 0 ∷ truth_at (word ∷ []) 1 ∷ truth_at (word ∷ []) 2 ∷ truth_at (word ∷ []) 3 ∷ [] ≡ Some true ∷ Some true ∷ None ∷ Some false ∷ []
rows = refl

-- row 66 is row 2 of the second word
second : truth_at (no_row ∷ word ∷ []) 66 ∷ truth_at (no_row ∷ word ∷ []) 2 ∷ [] ≡ None ∷ Some false ∷ []
second = refl

-- an unknown row does not match
matches : is_match None ≡ false
matches = refl

lengths : word_count 0 ∷ word_count 64 ∷ word_count 65 ∷ byte_count 65 ∷ [] ≡ 0 ∷ 1 ∷ 2 ∷ 9 ∷ []
lengths = refl

bits : bit_in (0 ∷ 4 ∷ []) 10 ∷ bit_in (0 ∷ 4 ∷ []) 2 ∷ [] ≡ true ∷ false ∷ []
bits = refl
