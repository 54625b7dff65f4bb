-- The bytes are the encoding of statistics of the type, which are read.
use Rattle.std.proofs.Common.{◌≡◌, List, ℕ, [], ◌++◌, Err, ap, ◌∙◌}
use Rattle.std.proofs.lemmas.Result.{err_from_is_err_and}
use Rattle.vortex_dtype.specs.TypeOf.{type_of}
use Rattle.statistics_bytes.specs.Encoding.{encoding}
use Rattle.vortex_statistics.specs.Statistics.{known}
use Rattle.law_callers.proofs.ReadBack.{memory_left, only_memory, read_same}
use Rattle.law_callers.proofs.statistics_laws.there_and_back.Goals as goal

pub returns-clause-back : goal.returns-clause-back
returns-clause-back c =
    let is : c.as_slice.result.now ≡ encoding (known c.args.statistics.now) = c.as_slice.ensures.value ∙ c.in_ok-append_statistics.ensures.appended ∙ ap (λ xs. xs ++ encoding (known c.args.statistics.now)) c.new-bytes.ensures.items in
    read_same (known c.args.statistics.now) c.decode_statistics.result (c.decode_statistics.ensures.whole (known c.args.statistics.now) c.requires is)

pub returns-clause-refused : goal.returns-clause-refused
returns-clause-refused c =
    let is : c.as_slice.result.now ≡ encoding (known c.args.statistics.now) = c.as_slice.ensures.value ∙ c.in_ok-append_statistics.ensures.appended ∙ ap (λ xs. xs ++ encoding (known c.args.statistics.now)) c.new-bytes.ensures.items in
    only_memory (known c.args.statistics.now) c.decode_statistics.result (c.decode_statistics.ensures.whole (known c.args.statistics.now) c.requires is)

pub returns-in_err-append_statistics-clause-refused : goal.returns-in_err-append_statistics-clause-refused
returns-in_err-append_statistics-clause-refused c =
    let p = err_from_is_err_and c.from_residual.result c.from_residual.ensures.1 in
    let e = c.in_err-append_statistics.field-0.0 in
    rw (p.1, p.2) (memory_left (type_of c.args.dtype.now) (known c.args.statistics.now) e c.requires c.in_err-append_statistics.ensures.refused (λ is. c.in_err-append_statistics.ensures.variant.0 (ap Err is)))
