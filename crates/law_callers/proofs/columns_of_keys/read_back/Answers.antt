-- The cells that the keys give are those of the table's columns, by the law.
use Rattle.std.proofs.Common.{◌≡◌, ◌∙◌, ℕ, ◌+◌, ◌<◌, List, [], ◌∷◌, length, map, get_or, refl, subst, sym, arith, Option, None, Result, Ok, Err, OnOk, Some}
use Rattle.std.proofs.lemmas.List.{length-map}
use Rattle.arrow_columns.specs.Kinds.{kind_at}
use Rattle.arrow_columns.specs.declared.kinds.Kind.{Kind}
use Rattle.column_cells.specs.Types.{type_at}
use Rattle.vortex_dtype.specs.TypeTree.{TypeTree}
use Rattle.vortex_value.specs.Values.Content.{Content}
use Rattle.column_keys.specs.Keys.{AreRowKeys}
use Rattle.column_keys.specs.Tables.{options_in}
use Rattle.column_keys.specs.Answers.{AreColumnsOfKeys}
use Rattle.column_keys.specs.Laws.{AreColumnsOf, ColumnsComeBack}
use Rattle.column_keys.specs.Read.{IsWritten}
use Rattle.column_keys.specs.Types.{types_of_kinds}
use Rattle.column_keys.specs.declared.buffers.ColumnBuffers.{ColumnBuffers}
use Rattle.column_keys.specs.declared.errors.KeysError.{KeysError}
use Rattle.column_keys.proofs.GivenSteps.{plain-kinds}
use Rattle.law_callers.proofs.columns_of_keys.read_back.Goals as goal

-- as many columns as types
same-count : (types : List TypeTree) (rows : ℕ) (table : List (List Content)) → AreColumnsOf types rows table → length table ≡ length types
same-count [] rows [] h = refl
same-count [] rows (cells ∷ table) h = absurd h
same-count (t ∷ types) rows [] h = absurd h
same-count (t ∷ types) rows (cells ∷ table) h = let more = same-count types rows table h.2 in omega (arith, more)

came-back : ColumnsComeBack → (found : List (Option Kind)) (options bytes offsets : List ℕ) (old new : List ColumnBuffers) → AreColumnsOfKeys found options bytes offsets old new → (table : List (List Content)) (rows which : ℕ) (d : ColumnBuffers)
    → AreColumnsOf (types_of_kinds found) rows table → AreRowKeys (map options_in options) table rows offsets bytes → length offsets ≡ rows + 1 → which < length found
    → (kind : Kind) × (get_or found which None ≡ Some kind) × IsWritten kind (get_or table which []) (get_or old which d) (get_or new which d)
came-back law found options bytes offsets old new it table rows which d columns keys ends within =
    let counts : length (map options_in options) ≡ length (types_of_kinds found) = length-map options options_in ∙ it.types.counts ∙ sym (length-map found type_at) in
    let there : which < length table = omega (arith, within, same-count (types_of_kinds found) rows table columns, length-map found type_at) in
    let one = it.each which d within in
    let same : one.cells ≡ get_or table which [] = (law (types_of_kinds found) (map options_in options) table rows offsets bytes which counts (plain-kinds found) columns keys ends there).1 one.cells one.has.cells_are in
    (one.kind, one.has.kind_is, subst (λ cells. IsWritten one.kind cells (get_or old which d) (get_or new which d)) same one.written)

read-back : ColumnsComeBack → (codes options bytes offsets : List ℕ) (old new : List ColumnBuffers) (r : Result Unit KeysError) → OnOk r (AreColumnsOfKeys (map kind_at codes) options bytes offsets old new)
    → OnOk r ((table : List (List Content)) (rows which : ℕ) (d : ColumnBuffers) → AreColumnsOf (types_of_kinds (map kind_at codes)) rows table → AreRowKeys (map options_in options) table rows offsets bytes → length offsets ≡ rows + 1 → which < length codes
    → (kind : Kind) × (get_or (map kind_at codes) which None ≡ Some kind) × IsWritten kind (get_or table which []) (get_or old which d) (get_or new which d))
read-back law codes options bytes offsets old new (Ok u) it = λ table rows which d columns keys ends within.
    came-back law (map kind_at codes) options bytes offsets old new it table rows which d columns keys ends (omega (arith, within, length-map codes kind_at))
read-back law codes options bytes offsets old new (Err e) it = tt

pub returns : goal.returns
returns c =
    read-back c.columns_come_back.ensures c.args.kinds.now c.args.options.now c.args.bytes.now c.args.offsets.now c.args.columns.now c.columns_of_keys.new.columns c.columns_of_keys.result c.columns_of_keys.ensures.columns
