-- Tests for a pattern: of strings in UTF-8, beside tests for a prefix, and what the strings begin with that match.
use Rattle.std.proofs.Common.{◌≡◌, ◌↔◌, ℕ, eqb, Bool, true, false, ◌&&◌, cond, List, Bor, IsUtf8, Option, Some, option_copied, refl, sym, ap, ap₂, ◌∙◌, rules}
use Rattle.std.proofs.lemmas.Bool.{and_parts}
use Rattle.std.proofs.lemmas.Bool.Decides.{Decides-eqb}
use Rattle.std.proofs.lemmas.Slice.Eq.{starts_is}
use Rattle.std.proofs.lemmas.Str.{IsUtf8-from_is_utf8, encodes-append, encodes-chars, is_utf8-from_IsUtf8}
use Rattle.std.specs.List.{starts_with}
use Rattle.std.specs.Str.{chars, encode_utf8_all, is_utf8}
use Rattle.like_patterns.specs.declared.case.Case.{Case}
use Rattle.like_patterns.specs.declared.case.Case.TheVariants.{Sensitive}
use Rattle.like_patterns.specs.Laws.{MatchesBegin}
use Rattle.like_patterns.specs.Patterns.{Part, is_like, leading, matches}
use Rattle.vortex_dtype.specs.Parts.{is_utf8_type}
use Rattle.vortex_dtype.specs.TypeTree.{TypeTree, utf8_type}
use Rattle.vortex_dtype.specs.declared.nullability.Nullability.TheVariants.{NonNullable}
use Rattle.vortex_value.specs.Values.Content.{Content, content, text}
use Rattle.vortex_value.specs.Values.RawOf.{raw_of, value_tree}
use Rattle.vortex_value.specs.Values.RawTree.{raw_text}
use Rattle.vortex_value.specs.Values.Scalars.{scalar_content, scalar_type}
use Rattle.vortex_value.specs.declared.scalars.Scalar.{Scalar}
use Rattle.vortex_value.specs.declared.values.ScalarValue.{ScalarValue, Utf8, the_lemmas}
use Rattle.vortex_cells.specs.Cells.{cell_of}
use Rattle.vortex_filter.specs.declared.truth.Truth.TheVariants.{True, Unknown}
use Rattle.vortex_filter.specs.PatternTests.{PatternsBegin, PatternsKnow, StringsMatch, are_like, match_truth, pattern_truth, string_cell}
use Rattle.vortex_filter.specs.Prefixes.{prefix_truth}
use Rattle.vortex_filter.specs.Truths.{truth_of}

pub strings_match : StringsMatch
strings_match case parts n bs utf8 = ap (λ (b : Bool). truth_of (b && is_like case parts (chars bs))) (is_utf8-from_IsUtf8 bs utf8)

-- a scalar that is a string
text_tree : (bs : List ℕ) → value_tree (Utf8 bs) ≡ raw_text bs
text_tree bs = search (rules, the_lemmas)

pub text_held : (x : Scalar) (o : Option (Bor ScalarValue)) (v : Bor ScalarValue) (bs : List ℕ) → option_copied o ≡ x.value → o ≡ Some v → v.now ≡ Utf8 bs → scalar_content x ≡ text bs
text_held x o v bs e is held = ap (λ w. content (raw_of w)) (sym e ∙ ap option_copied is ∙ ap Some held) ∙ ap content (text_tree bs)

pub match_said : (case : Case) (parts : List Part) (x : Scalar) (bs : List ℕ) (b : Bool) → is_utf8_type (scalar_type x) ≡ true → scalar_content x ≡ text bs → IsUtf8 bs → b ≡ is_like case parts (chars bs)
    → truth_of b ≡ pattern_truth case parts (cell_of x)
match_said case parts x bs b typed holds utf8 is =
    ap truth_of is ∙ sym (strings_match case parts NonNullable bs utf8) ∙ sym (ap₂ (λ (c : Bool) (d : Content). cond c (match_truth case parts d) Unknown) typed holds)

-- ---- where it is Unknown

known : (b : Bool) → truth_of b ≡ Unknown → ⊥
known true e = cc
known false e = cc

both_known : (b c : Bool) → (truth_of b ≡ Unknown) ↔ (truth_of c ≡ Unknown)
both_known b c = ((λ e. absurd (known b e)), (λ e. absurd (known c e)))

both_unknown : (Unknown ≡ Unknown) ↔ (Unknown ≡ Unknown)
both_unknown = ((λ e. e), (λ e. e))

module _ (case : Case) (parts : List Part) (prefix : List ℕ) where
  known_alike : (t : TypeTree) (d : Content)
      → (pattern_truth case parts (record { typed = t; content = d }) ≡ Unknown) ↔ (prefix_truth (record { typed = t; content = d }) (string_cell prefix) ≡ Unknown)
  known_alike (utf8_type n) (text bs) = both_known (are_like case parts bs) (starts_with eqb bs prefix)
  known_alike (utf8_type n) _ = both_unknown
  known_alike _ d = both_unknown

pub patterns_know : PatternsKnow
patterns_know case parts prefix x = known_alike case parts prefix x.typed x.content

-- ---- what the strings begin with

true_alone : (b : Bool) → truth_of b ≡ True → b ≡ true
true_alone true e = refl
true_alone false e = cc

begins_as_pattern : MatchesBegin → (parts : List Part) (bs : List ℕ) → are_like Sensitive parts bs ≡ true → starts_with eqb bs (encode_utf8_all (leading parts)) ≡ true
begins_as_pattern begin parts bs met =
    let both = and_parts (is_utf8 bs) (matches parts (chars bs)) met in
    let rest = begin parts (chars bs) both.1 in
    (starts_is Decides-eqb bs (encode_utf8_all (leading parts)) (starts_with eqb bs (encode_utf8_all (leading parts))) refl).1 (encode_utf8_all rest.0)
    (sym (encodes-chars bs (IsUtf8-from_is_utf8 bs both.0)) ∙ ap encode_utf8_all rest.1 ∙ encodes-append (leading parts) rest.0)

module _ (begin : MatchesBegin) (parts : List Part) where
  begins_alike : (t : TypeTree) (d : Content) → pattern_truth Sensitive parts (record { typed = t; content = d }) ≡ True
      → prefix_truth (record { typed = t; content = d }) (string_cell (encode_utf8_all (leading parts))) ≡ True
  begins_alike (utf8_type n) (text bs) e = ap truth_of (begins_as_pattern begin parts bs (true_alone (are_like Sensitive parts bs) e))
  begins_alike (utf8_type n) _ e = cc
  begins_alike _ d e = cc

pub patterns_begin : MatchesBegin → PatternsBegin
patterns_begin begin parts x e = begins_alike begin parts x.typed x.content e
