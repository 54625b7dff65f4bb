-- The lines of words that are nulls, and what follows them.
use Rattle.std.proofs.Common.{◌≡◌, ◌≢◌, ◌<◌, ◌+◌, ◌^◌, ℕ, List, [], ◌∷◌, ◌++◌, Option, None, Some, MatchOption, length, drop, subst, arith, ◌∙◌, ap, sym, refl}
use denote.Ref.{Bor}
use Rattle.std.specs.Char.{digit_value}
use Rattle.std.specs.Fmt.{decimal}
use Rattle.std.specs.Global.{Global}
use Rattle.std.specs.Prelude.{codes, string_bytes}
use Rattle.std.specs.Str.Parse.{AllDigits}
use Rattle.std.specs.Str.Pattern.{FindsTextPrefix}
use Rattle.std.specs.declared.string.String.{String}
use Rattle.std.proofs.lemmas.Fmt.{decimal_is_IsNumeral}
use Rattle.std.proofs.lemmas.List.{append_assoc, map-append}
use Rattle.std.proofs.lemmas.List.Elements.{All-from_get_or}
use Rattle.std.proofs.lemmas.Str.Pattern.{IsSplitOnceResult, split_parts}
use Rattle.csv_columns.specs.Names.{IsLine, texts}
use Rattle.csv_columns.specs.Setups.{AreLines, FitNumbers, IsSetup, SetupValue, null_lines, setup_lines}

-- `strip_prefix` at a text
pub strip_text : (p bs : List ℕ) (r : Option (Bor (List ℕ))) → MatchOption r (FindsTextPrefix p bs None) (λ x. (n : ℕ) × FindsTextPrefix p bs (Some n) × (x.now ≡ drop n bs) × (length x.now + n ≡ length bs)) → MatchOption r ((rest : List ℕ) → bs ≢ p ++ rest) (λ x. bs ≡ p ++ x.now)
strip_text p bs None h = h
strip_text p bs (Some x) h = h.1.1 ∙ ap (λ (l : List ℕ). p ++ l) (sym h.2)

-- a number begins with no letter n
no_letter : (ds xs ys : List ℕ) → 0 < length ds → AllDigits 10 ds → 110 ∷ xs ≡ ds ++ ys → ⊥
no_letter [] xs ys some all e = omega arith
no_letter (d ∷ ds) xs ys some all e =
    let is : 110 ≡ d = cc in
    let low : digit_value 110 < 10 = subst (λ (x : ℕ). digit_value x < 10) (sym is) all.0 in
    omega arith

no_null_line : (s : SetupValue) (xs : List ℕ) → FitNumbers s.numbers → 110 ∷ xs ≡ setup_lines s → ⊥
no_null_line s xs fit e =
    let small : s.numbers.delimiter < 2 ^ 64 = omega (arith, fit.delimiter) in
    let digits = (decimal_is_IsNumeral s.numbers.delimiter small).0 in
    no_letter (decimal s.numbers.delimiter) xs _ digits.0 digits.1 (e ∙ append_assoc (decimal s.numbers.delimiter) _ _)

-- what is left begins with the line of a word that is a null
pub record BeginsWithNull (s : SetupValue) (line : List ℕ) (others : List (List ℕ)) : Type 0 where
  pub null : List ℕ
  pub more : List (List ℕ)
  pub others_are : others ≡ null ∷ more
  pub one_line : IsLine null
  pub lines : AreLines more
  pub is : line ≡ null ++ 10 ∷ (null_lines more ++ setup_lines s)

pub begins_with_null : (s : SetupValue) (rest line : List ℕ) (others : List (List ℕ)) → IsSetup s → AreLines others → rest ≡ null_lines others ++ setup_lines s → rest ≡ codes "null " ++ line → BeginsWithNull s line others
begins_with_null s rest line [] setup lines is begins = absurd (no_null_line s _ setup.numbers (sym begins ∙ is))
begins_with_null s rest line (null ∷ more) setup lines is begins =
    let cut : line ≡ ((null ++ 10 ∷ []) ++ null_lines more) ++ setup_lines s = ap (drop 5) (sym begins ∙ is) in
    record {
      null = null;
      more = more;
      others_are = refl;
      one_line = lines.0;
      lines = lines.1;
      is = cut ∙ append_assoc (null ++ 10 ∷ []) (null_lines more) (setup_lines s) ∙ append_assoc null (10 ∷ []) (null_lines more ++ setup_lines s);
    }

-- what is left begins with no such line
pub no_nulls_left : (s : SetupValue) (rest : List ℕ) (others : List (List ℕ)) → rest ≡ null_lines others ++ setup_lines s → ((line : List ℕ) → rest ≢ codes "null " ++ line) → others ≡ []
no_nulls_left s rest [] is none = refl
no_nulls_left s rest (null ∷ more) is none = absurd (none (((null ++ 10 ∷ []) ++ null_lines more) ++ setup_lines s) is)

pub one_null_more : (all others more : List (List ℕ)) (null : List ℕ) (old : List (String Global)) (x : String Global) → all ≡ texts old ++ others → others ≡ null ∷ more → string_bytes x ≡ null → all ≡ texts (old ++ x ∷ []) ++ more
one_null_more all others more null old x are is same =
    are ∙ ap (λ (o : List (List ℕ)). texts old ++ o) (is ∙ ap (λ (y : List ℕ). y ∷ more) (sym same))
    ∙ sym (append_assoc (texts old) (string_bytes x ∷ []) more) ∙ ap (λ (l : List (List ℕ)). l ++ more) (sym (map-append string_bytes old (x ∷ [])))

-- each word so far and one more
pub lines_more : (words : List (String Global)) (word : String Global) → AreLines (texts words) → IsLine (string_bytes word) → AreLines (texts (words ++ word ∷ []))
lines_more [] word lines line = (line, tt)
lines_more (w ∷ ws) word lines line = (lines.0, lines_more ws word lines.1 line)

-- what stands before a line feed is a line
pub line_before : (text : List ℕ) (front back : Bor (List ℕ)) → IsSplitOnceResult 10 text (Some (front, back)) → IsLine front.now
line_before text front back cut =
    All-from_get_or (λ b. b ≢ 10) front.now 0 (split_parts 10 text (Some (front, back)) cut (omega arith)).1
