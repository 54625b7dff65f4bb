-- What a piece says is what is read of it.
use Rattle.std.proofs.Common.{◌≡◌, ◌≢◌, ◌<◌, ℕ, List, [], ◌∷◌, length, length-append, Result, Ok, Err, IfErr, sym, ap, ◌∙◌, arith}
use Rattle.std.specs.Prelude.{◌↔◌, OnOk}
use Rattle.vortex_dtype.specs.TypeTree.{TypeTree}
use Rattle.vortex_statistics.specs.Statistics.{Known}
use Rattle.vortex_statistics.specs.declared.error.StatisticsError.{StatisticsError}
use Rattle.vortex_statistics.specs.declared.error.StatisticsError.TheVariants.{HasVariant}
use Rattle.statistics_bytes.specs.Encoding.{encoding}
use Rattle.statistics_bytes.specs.Pieces.{nothing_known}
use Rattle.named_statistics.specs.Heads.{head_of}
use Rattle.named_statistics.specs.Named.{IsBadNamedEncoding, IsBadNamedPiece, IsNamedEncodingAs, ReadsNamed, SaysNamed, SaysNamedBound, SaysNamedVariant, named_encoding}

-- ---- an empty piece

pub says_nothing : (t : TypeTree) (piece : List ℕ) (s : Known) → length piece ≡ 0 → s ≡ nothing_known → SaysNamed t piece s
says_nothing t [] s none is = is
says_nothing t (b ∷ piece) s none is = absurd (omega (arith, none))

nothing_said : (t : TypeTree) (piece : List ℕ) (s : Known) → length piece ≡ 0 → SaysNamed t piece s → s ≡ nothing_known
nothing_said t [] s none said = said
nothing_said t (b ∷ piece) s none said = absurd (omega (arith, none))

pub reads_nothing : (t : TypeTree) (piece : List ℕ) (now s : Known) → length piece ≡ 0 → now ≡ nothing_known → SaysNamed t piece s → now ≡ s
reads_nothing t piece now s none is said = is ∙ sym (nothing_said t piece s none said)

-- no bytes are those of statistics, nor do they say a bound
encoding_some : (s : Known) → 0 < length (encoding s)
encoding_some s = omega arith

not_written : (u : TypeTree) (piece : List ℕ) (s : Known) → length piece ≡ 0 → piece ≡ named_encoding u s → ⊥
not_written u piece s none is =
    let all = ap length is in
    let some = encoding_some s in
    omega (arith, all, some, length-append (head_of u) (encoding s))

pub right_for_nothing : (t : TypeTree) (piece : List ℕ) (r : Known) → length piece ≡ 0 → ReadsNamed t piece r
right_for_nothing t piece r none = record {
  contents = λ u s cells held is right. absurd (not_written u piece s none is);
  cells = λ u s cells held is typed right. absurd (not_written u piece s none is);
  complete = λ u s cells held is typed right. absurd (not_written u piece s none is);
}

says_no_bound : (t : TypeTree) (piece : List ℕ) → length piece ≡ 0 → SaysNamedBound t piece → ⊥
says_no_bound t piece none said =
    let all = ap length said.is in
    let says = ap length said.says.is in
    omega (arith, none, all, says, length-append (head_of t) said.rest)

abbrev read_as : Unit {0} → Result (Unit {0}) StatisticsError
read_as u = Ok u

abbrev refused_as : StatisticsError → Result (Unit {0}) StatisticsError
refused_as e = Err e

read_or_refused : (u : Unit {0}) (e : StatisticsError) → read_as u ≡ refused_as e → ⊥
read_or_refused u e h = cc

pub no_variant : (t : TypeTree) (piece : List ℕ) (u : Unit {0}) → length piece ≡ 0 → (read_as u ≡ refused_as HasVariant) ↔ SaysNamedVariant t piece
no_variant t piece u none = (λ e. absurd (read_or_refused u HasVariant e), λ said. absurd (says_no_bound t piece none said.1))

-- ---- a piece that has bytes

some_bytes : (piece : List ℕ) → 0 < length piece → piece ≢ []
some_bytes [] some e = absurd (omega (arith, some))
some_bytes (b ∷ piece) some e = absurd cc

says_encoding : (t : TypeTree) (piece : List ℕ) (s : Known) → 0 < length piece → IsNamedEncodingAs t piece s → SaysNamed t piece s
says_encoding t [] s some is = absurd (omega (arith, some))
says_encoding t (b ∷ piece) s some is = is

pub encoding_said : (t : TypeTree) (piece : List ℕ) (s : Known) → 0 < length piece → SaysNamed t piece s → IsNamedEncodingAs t piece s
encoding_said t [] s some said = absurd (omega (arith, some))
encoding_said t (b ∷ piece) s some said = said

pub said_if_read : (t : TypeTree) (piece : List ℕ) (s : Known) (r : Result (Unit {0}) StatisticsError) → 0 < length piece → OnOk r (IsNamedEncodingAs t piece s) → OnOk r (SaysNamed t piece s)
said_if_read t piece s (Ok u) some is = says_encoding t piece s some is
said_if_read t piece s (Err e) some is = tt

-- why it was not read
pub bad_piece : (t : TypeTree) (piece : List ℕ) (r : Result (Unit {0}) StatisticsError) → 0 < length piece → IfErr r (IsBadNamedEncoding t piece) → IfErr r (IsBadNamedPiece t piece)
bad_piece t piece (Ok u) some bad = tt
bad_piece t piece (Err e) some bad = (some_bytes piece some, bad)
