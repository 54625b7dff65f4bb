-- What a piece says is what is read of it.
use Rattle.std.proofs.Common.{◌≡◌, ◌≢◌, ◌<◌, ℕ, List, [], ◌∷◌, length, Result, Ok, Err, IfErr, sym, ◌∙◌, arith}
use Rattle.std.specs.Prelude.{◌↔◌, OnOk}
use Rattle.vortex_dtype.specs.TypeTree.{TypeTree}
use Rattle.vortex_statistics.specs.Statistics.{Known}
use Rattle.vortex_statistics.specs.declared.error.StatisticsError.{StatisticsError}
use Rattle.vortex_statistics.specs.declared.error.StatisticsError.TheVariants.{HasVariant}
use Rattle.statistics_bytes.specs.Encoding.{IsEncodingAs, encoding}
use Rattle.statistics_bytes.specs.EncodingAnswers.{IsBadEncoding, ReadsRight, SayVariant, SaysBound}
use Rattle.statistics_bytes.specs.Pieces.{IsBadPiece, Says, nothing_known}

-- ---- an empty piece

pub says_nothing : (t : TypeTree) (piece : List ℕ) (s : Known) → length piece ≡ 0 → s ≡ nothing_known → Says t piece s
says_nothing t [] s none is = is
says_nothing t (b ∷ piece) s none is = absurd (omega (arith, none))

nothing_said : (t : TypeTree) (piece : List ℕ) (s : Known) → length piece ≡ 0 → Says t piece s → s ≡ nothing_known
nothing_said t [] s none said = said
nothing_said t (b ∷ piece) s none said = absurd (omega (arith, none))

pub reads_nothing : (t : TypeTree) (piece : List ℕ) (now s : Known) → length piece ≡ 0 → now ≡ nothing_known → Says t piece s → now ≡ s
reads_nothing t piece now s none is said = is ∙ sym (nothing_said t piece s none said)

begins : (b : ℕ) (xs : List ℕ) → [] ≡ b ∷ xs → ⊥
begins b xs e = cc

-- it is the encoding of no statistics, and says no bound
not_written : (piece : List ℕ) (s : Known) → length piece ≡ 0 → piece ≡ encoding s → ⊥
not_written [] s none is = begins _ _ is
not_written (b ∷ piece) s none is = absurd (omega (arith, none))

pub right_for_nothing : (t : TypeTree) (piece : List ℕ) (r : Known) → length piece ≡ 0 → ReadsRight t piece r
right_for_nothing t piece r none = record {
  contents = λ s cells held is right. absurd (not_written piece s none is);
  cells = λ s cells held is typed right. absurd (not_written piece s none is);
  complete = λ s cells held is typed right. absurd (not_written piece s none is);
}

says_no_bound : (piece : List ℕ) → length piece ≡ 0 → SaysBound piece → ⊥
says_no_bound [] none said = begins _ _ said.is
says_no_bound (b ∷ piece) none said = absurd (omega (arith, none))

abbrev read_as : Unit {0} → Result (Unit {0}) StatisticsError
read_as u = Ok u

abbrev refused_as : StatisticsError → Result (Unit {0}) StatisticsError
refused_as e = Err e

read_or_refused : (u : Unit {0}) (e : StatisticsError) → read_as u ≡ refused_as e → ⊥
read_or_refused u e h = cc

pub no_variant : (t : TypeTree) (piece : List ℕ) (u : Unit {0}) → length piece ≡ 0 → (read_as u ≡ refused_as HasVariant) ↔ SayVariant t piece
no_variant t piece u none = (λ e. absurd (read_or_refused u HasVariant e), λ said. absurd (says_no_bound piece none said.1))

-- ---- a piece that has bytes

some_bytes : (piece : List ℕ) → 0 < length piece → piece ≢ []
some_bytes [] some e = absurd (omega (arith, some))
some_bytes (b ∷ piece) some e = absurd cc

says_encoding : (t : TypeTree) (piece : List ℕ) (s : Known) → 0 < length piece → IsEncodingAs t piece s → Says t piece s
says_encoding t [] s some is = absurd (omega (arith, some))
says_encoding t (b ∷ piece) s some is = is

pub encoding_said : (t : TypeTree) (piece : List ℕ) (s : Known) → 0 < length piece → Says t piece s → IsEncodingAs t piece s
encoding_said t [] s some said = absurd (omega (arith, some))
encoding_said t (b ∷ piece) s some said = said

-- what was read says it
pub said_if_read : (t : TypeTree) (piece : List ℕ) (s : Known) (r : Result (Unit {0}) StatisticsError) → 0 < length piece → OnOk r (IsEncodingAs t piece s) → OnOk r (Says t piece s)
said_if_read t piece s (Ok u) some is = says_encoding t piece s some is
said_if_read t piece s (Err e) some is = tt

-- why it was not read
pub bad_piece : (t : TypeTree) (piece : List ℕ) (r : Result (Unit {0}) StatisticsError) → 0 < length piece → IfErr r (IsBadEncoding t piece) → IfErr r (IsBadPiece t piece)
bad_piece t piece (Ok u) some bad = tt
bad_piece t piece (Err e) some bad = (some_bytes piece some, bad)
