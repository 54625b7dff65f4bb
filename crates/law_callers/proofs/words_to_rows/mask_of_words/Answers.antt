-- The mask is that of the filter that the words are: what is written is read back as the same one, and it nests as deep as such
-- words may ask.
use Rattle.std.proofs.Common.{◌++◌, ◌∙◌, inl, inr, ℕ, List, ap, length, map, subst}
use Rattle.std.specs.Prelude.{Err}
use Rattle.column_filters.specs.Tables.{IsMaskError}
use Rattle.column_filters.specs.Words.{IsMask, cells_of_columns, matching}
use Rattle.filter_encoding.specs.Encoding.{Prepared, encoding, parts_of, version_of}
use Rattle.filter_encoding.proofs.EncodingLaws.{written_version}
use Rattle.filter_sql.specs.ColumnNames.{column_trees}
use Rattle.filter_sql.specs.Parsing.{nesting}
use Rattle.vortex_dtype.specs.TypeOf.{type_of}
use Rattle.vortex_filter.specs.Formula.{Formula, formula}
use Rattle.law_callers.proofs.TextSteps.{encodable, only_memory}
use Rattle.law_callers.proofs.words_to_rows.mask_of_words.Goals as goal

pub returns-in-Err-clause-refused : goal.returns-in-Err-clause-refused
returns-in-Err-clause-refused c = λ f depth is can. only_memory c.texts_say_one_filter.ensures.none (column_trees c.args.named.now) c.args.words.now c.in-Err.error f c.in-Err.ensures.refused is

pub returns-in-Err-append_filter-clause-refused : goal.returns-in-Err-append_filter-clause-refused
returns-in-Err-append_filter-clause-refused c = λ f depth is can.
    let laws = c.texts_say_one_filter.ensures in
    let written = encodable laws.one c.texts_nest_so.ensures c.low_filters_nest.ensures (column_trees c.args.named.now) c.args.words.now (map type_of c.args.types.now) f (formula c.in-Ok.filter) depth c.in-Ok.ensures.read is can in
    elim c.in-Err-append_filter.ensures.refused [ inl none ↦ absurd (c.in-Err-append_filter.ensures.no_encoding (ap Err none) written) | inr memory ↦ memory ]

pub returns-in-Err-read_filter-clause-refused : goal.returns-in-Err-read_filter-clause-refused
returns-in-Err-read_filter-clause-refused c = λ f depth is can.
    let p : Prepared = parts_of c.args.types.now c.in-Ok.filter in
    let bytes = c.deref.ensures.value ∙ c.in_default.ensures.appended ∙ ap (λ (xs : List ℕ). xs ++ encoding p) c.new-bytes.ensures.items in
    c.in-Err-read_filter.ensures.whole (version_of p) p (written_version p) (c.in_default.ensures.readable c.in-Ok.ensures.valid) bytes

pub returns-clause-refused : goal.returns-clause-refused
returns-clause-refused c = λ f depth is can.
    let p : Prepared = parts_of c.args.types.now c.in-Ok.filter in
    let bytes = c.deref.ensures.value ∙ c.in_default.ensures.appended ∙ ap (λ (xs : List ℕ). xs ++ encoding p) c.new-bytes.ensures.items in
    let same = c.in-Ok-read_filter.ensures.whole (version_of p) p (written_version p) (c.in_default.ensures.readable c.in-Ok.ensures.valid) bytes in
    let kept = ap (λ (q : Prepared). q.filter) same in
    let means = c.texts_say_one_filter.ensures.one nesting nesting (column_trees c.args.named.now) c.args.words.now (formula c.in-Ok.filter) f c.in-Ok.ensures.read is in
    subst (λ (g : Formula). IsMaskError g c.args.columns.now (map type_of c.args.types.now) c.args.count (length c.args.mask.now) c.in-Err-mask_of_columns.error) (kept ∙ means) c.in-Err-mask_of_columns.ensures.refused

pub returns-in-Ok-mask_of_columns-clause-masked : goal.returns-in-Ok-mask_of_columns-clause-masked
returns-in-Ok-mask_of_columns-clause-masked c = λ f is.
    let p : Prepared = parts_of c.args.types.now c.in-Ok.filter in
    let bytes = c.deref.ensures.value ∙ c.in_default.ensures.appended ∙ ap (λ (xs : List ℕ). xs ++ encoding p) c.new-bytes.ensures.items in
    let same = c.in-Ok-read_filter.ensures.whole (version_of p) p (written_version p) (c.in_default.ensures.readable c.in-Ok.ensures.valid) bytes in
    let kept = ap (λ (q : Prepared). q.filter) same in
    let means = c.texts_say_one_filter.ensures.one nesting nesting (column_trees c.args.named.now) c.args.words.now (formula c.in-Ok.filter) f c.in-Ok.ensures.read is in
    subst (λ (g : Formula). IsMask (matching g (cells_of_columns c.args.columns.now)) c.args.count c.mask_of_columns.new.mask) (kept ∙ means) c.in-Ok-mask_of_columns.ensures.masked
