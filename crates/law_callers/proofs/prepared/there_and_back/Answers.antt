-- A filter with valid literals that can be written is read back as itself.
use Rattle.std.proofs.Common.{◌≡◌, ◌⊎◌, inl, inr, ℕ, List, [], ◌++◌, map, ap, sym, subst, ◌∙◌, Result, Ok, Err, IfOk, true≢false}
use Rattle.std.specs.Prelude.{IsErr}
use Rattle.std.specs.Result.{IsErrAnd}
use Rattle.vortex_dtype.specs.declared.types.DType.{DType}
use Rattle.vortex_filter.specs.FilterLiterals.{AreValid, FormulasSayLiterals, exactly_of, literals_of}
use Rattle.filter_encoding.specs.Answers.{ReadsAs}
use Rattle.filter_encoding.specs.Encoding.{CanBeWritten, HasEncoding, Prepared, encoding, parts_of, prepared, version_of}
use Rattle.filter_encoding.proofs.EncodingLaws.{written_version}
use Rattle.filter_encoding.specs.declared.error.FilterEncodingError.{FilterEncodingError}
use Rattle.filter_encoding.specs.declared.error.FilterEncodingError.TheVariants.{NoEncoding, OutOfMemory}
use Rattle.filter_encoding.specs.declared.prepared.PreparedFilter.{PreparedFilter}
use Rattle.law_callers.proofs.prepared.there_and_back.Goals as goal

-- the bytes are the encoding of the given filter
written : (given : PreparedFilter) (columns : List DType) (before bytes : List ℕ) → columns ≡ given.columns.items → before ≡ [] → bytes ≡ before ++ encoding (parts_of columns given.filter) → bytes ≡ encoding (prepared given)
written given columns before bytes at none is = is ∙ ap (λ (xs : List ℕ). xs ++ encoding (parts_of columns given.filter)) none ∙ ap (λ (ds : List DType). encoding (parts_of ds given.filter)) at

-- a filter that can be written is refused only for want of memory
refused : (n : ℕ) (given : PreparedFilter) (columns : List DType) (r : Result PreparedFilter FilterEncodingError) (e : FilterEncodingError) → columns ≡ given.columns.items → IsErr r × IsErrAnd r (λ f. f ≡ e) → (e ≡ NoEncoding → ¬ (CanBeWritten n (parts_of columns given.filter))) → (e ≡ NoEncoding) ⊎ (e ≡ OutOfMemory)
    → CanBeWritten n (prepared given) → ReadsAs (prepared given) r
refused n given columns (Ok q) e at is no_encoding cause can = absurd (true≢false (sym is.0))
refused n given columns (Err f) e at is no_encoding cause can =
    elim cause [
      | inl none ↦ absurd (no_encoding none (subst (λ (ds : List DType). CanBeWritten n (parts_of ds given.filter)) (sym at) can))
      | inr memory ↦ is.1 ∙ memory
    ]

nothing_kept : (given : PreparedFilter) (r : Result PreparedFilter FilterEncodingError) (e : FilterEncodingError) → IsErr r × IsErrAnd r (λ f. f ≡ e) → IfOk r (λ p. map exactly_of (literals_of p.filter) ≡ map exactly_of (literals_of given.filter))
nothing_kept given (Ok q) e is = absurd (true≢false (sym is.0))
nothing_kept given (Err f) e is = tt

-- what is read has the formula of the given filter, and so its literals
kept : FormulasSayLiterals → (given : PreparedFilter) (r : Result PreparedFilter FilterEncodingError) → ReadsAs (prepared given) r → IfOk r (λ p. AreValid (literals_of p.filter)) → AreValid (literals_of given.filter)
    → IfOk r (λ p. map exactly_of (literals_of p.filter) ≡ map exactly_of (literals_of given.filter))
kept law given (Ok p) same valid right = law p.filter given.filter valid right (ap (λ (q : Prepared). q.filter) same)
kept law given (Err e) same valid right = tt

pub returns-in_err-append_filter : goal.returns-in_err-append_filter
returns-in_err-append_filter c =
    let e = c.in_err-append_filter.ensures in record {
      same = λ can right. refused c.args.depth c.args.given.now c.deref.result.now c.from_residual.result _ c.deref.ensures.value c.from_residual.ensures (λ none. e.no_encoding (ap Err none)) e.refused can;
      literals = λ right. nothing_kept c.args.given.now c.from_residual.result _ c.from_residual.ensures;
    }

pub returns : goal.returns
returns c =
    let given = c.args.given.now in
    let is = c.deref-2.ensures.value ∙ written given c.deref.result.now c.new-bytes.result.items c.append_filter.new.out.items c.deref.ensures.value c.new-bytes.ensures.items c.in_ok-append_filter.ensures.appended in
    let has : AreValid (literals_of given.filter) → HasEncoding c.args.depth (prepared given) = λ right. subst (λ (ds : List DType). HasEncoding c.args.depth (parts_of ds given.filter)) c.deref.ensures.value (c.in_ok-append_filter.ensures.readable right) in
    record {
      same = λ can right. c.read_filter.ensures.whole (version_of (prepared given)) (prepared given) (written_version (prepared given)) (has right) is;
      literals = λ right. kept c.formulas_say_literals.ensures given c.read_filter.result (c.read_filter.ensures.whole (version_of (prepared given)) (prepared given) (written_version (prepared given)) (has right) is) c.read_filter.ensures.valid right;
    }
