-- Steps of the callers that write, merge and read the statistics of pieces of a column.
use Rattle.std.proofs.Common.{◌≡◌, ◌≢◌, ◌++◌, ◌+◌, ◌∙◌, ℕ, zero, suc, List, [], ◌∷◌, Bool, true, false, not, Contains, Some, arith, ap, get_or, inr, map, refl, subst, sym}
use Rattle.std.proofs.Math.ListN.{get_or-map}
use Rattle.std.proofs.lemmas.List.{length-map}
use Rattle.arrow_columns.specs.Columns.{kind_in}
use Rattle.arrow_columns.specs.declared.columns.Column.{Column}
use Rattle.arrow_columns.specs.declared.kinds.Kind.{Kind}
use Rattle.column_cells.specs.Types.{type_at, type_of_kind}
use Rattle.column_filters.specs.Zones.{ArePiecesRight, piece_at}
use Rattle.column_statistics.specs.Cells.{cells_of_column}
use Rattle.column_statistics.specs.Encodings.{IsColumnEncoding, IsEncodingAs, IsMergedEncoding}
use Rattle.column_statistics.specs.Laws.{AreRightBytes, EncodingsStayRight}
use Rattle.named_statistics.specs.Named.{SaysNamed}
use Rattle.vortex_cells.specs.Cells.{Cell}
use Rattle.vortex_dtype.specs.TypeTree.{TypeTree, null_type}
use Rattle.vortex_filter.specs.Formula.{Formula, truth}
use Rattle.vortex_filter.specs.declared.truth.Truth.TheVariants.{True}
use Rattle.vortex_statistics.specs.Statistics.{AreRight, Known}
use Rattle.filter_pruning.specs.Pruning.{AreStatisticsOf, MatchesNoRow, column}
use Rattle.law_callers.specs.Pieces.{AreWrittenRight}

-- ---- what is read is right

right_of : EncodingsStayRight → (kind : Kind) (c : Column) (n : ℕ) (bytes : List ℕ) → kind_in c ≡ Some kind → IsColumnEncoding c n bytes → AreRightBytes (type_of_kind kind) bytes (cells_of_column c)
right_of law kind c n bytes is h = subst (λ t. AreRightBytes t bytes (cells_of_column c)) (ap type_at is) (law.written c n bytes h)

pub both_right : EncodingsStayRight → (kind : Kind) (first second : Column) (n : ℕ) (one other both : List ℕ) (s : Known) → kind_in first ≡ Some kind → kind_in second ≡ Some kind
    → IsColumnEncoding first n one → IsColumnEncoding second n other → IsMergedEncoding kind one other both → IsEncodingAs (type_of_kind kind) both s
    → AreRight s (cells_of_column first ++ cells_of_column second)
both_right law kind first second n one other both s f g h k merged is =
    let t : TypeTree = type_of_kind kind in
    law.read t both (cells_of_column first ++ cells_of_column second) s
    (law.merged kind one other both (cells_of_column first) (cells_of_column second) (right_of law kind first n one f h) (right_of law kind second n other g k) merged) is

-- what is merged of slices is merged of their bytes
pub merged_of : (kind : Kind) (one other x y both : List ℕ) → x ≡ one → y ≡ other → IsMergedEncoding kind x y both → IsMergedEncoding kind one other both
merged_of kind one other x y both e f h = subst (λ bs. IsMergedEncoding kind bs other both) e (subst (λ bs. IsMergedEncoding kind x bs both) f h)

pub skipped_no : (b : Bool) → not b ≡ true → b ≡ false
skipped_no true e = absurd cc
skipped_no false e = refl

said : (t : TypeTree) (bytes : List ℕ) (s : Known) → bytes ≢ [] → SaysNamed t bytes s → IsEncodingAs t bytes s
said t [] s some h = absurd (some refl)
said t (b ∷ bs) s some h = record { of_type = h.0; is = h.1 }

pub pieces_right : EncodingsStayRight → (f : Formula) (types : List TypeTree) (bytes offsets : List ℕ) (p : ℕ) (rows : List (List Cell)) → AreWrittenRight types bytes offsets p rows → ArePiecesRight f types bytes offsets p rows
pieces_right law f types bytes offsets p rows right k s named within some is =
    law.read (get_or types k null_type) (piece_at bytes offsets (p + k)) (column k rows) s (right k within) (said (get_or types k null_type) (piece_at bytes offsets (p + k)) s some is.says)

-- ---- rows of one column

first_cells : (cells : List Cell) → column 0 (map (λ y. y ∷ []) cells) ≡ cells
first_cells [] = refl
first_cells (y ∷ cells) = ap (λ ys. y ∷ ys) (first_cells cells)

alone : (s : Known) (cells : List Cell) → AreRight s cells → AreStatisticsOf (s ∷ []) (map (λ y. y ∷ []) cells)
alone s cells right zero t there = let same : s ≡ t = cc in inr (subst (λ k. AreRight k (column 0 (map (λ y. y ∷ []) cells))) same (subst (AreRight s) (sym (first_cells cells)) right))
alone s cells right (suc k) t there = absurd (cc)

pub none_matches : (f : Formula) (s : Known) (cells : List Cell) → AreRight s cells → MatchesNoRow f (s ∷ []) → (x : Cell) → Contains cells x → ¬ (truth f (x ∷ []) ≡ True)
none_matches f s cells right none x there =
    let row : Cell → List Cell = λ y. y ∷ [] in
    none (map row cells) (alone s cells right) (row x)
    (there.0, omega (arith, there.1, length-map cells row), get_or-map row cells there.0 x ∙ ap row there.2)
