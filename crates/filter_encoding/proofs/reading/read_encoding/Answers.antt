-- The version, the types, and then the filter.
use Rattle.std.proofs.Common.{map}
use Rattle.vortex_dtype.specs.TypeOf.{type_of}
use Rattle.vortex_filter.specs.Formula.{formula}
use Rattle.filter_encoding.proofs.EncodingLaws.{columns_stuck, encoding_read, filter_stuck, has_version, not_memory, refused_on, version_stuck}
use Rattle.filter_encoding.proofs.reading.read_encoding.Goals as goal

pub returns-in_err-read_version-clause-read : goal.returns-in_err-read_version-clause-read
returns-in_err-read_version-clause-read c = refused_on c.args.depth _ _ _ _ c.from_residual.ensures (λ bad. version_stuck c.args.depth _ _ c.in_err-read_version.ensures.1 c.in_err-read_version.ensures.2)

pub returns-in_err-columns-clause-read : goal.returns-in_err-columns-clause-read
returns-in_err-columns-clause-read c = refused_on c.args.depth _ _ _ _ c.from_residual-in_err-columns.ensures (λ bad. columns_stuck c.args.depth _ _ _ c.in_ok-read_version.ensures (c.in_err-columns.ensures bad))

pub returns-in_err-filter-clause-read : goal.returns-in_err-filter-clause-read
returns-in_err-filter-clause-read c = refused_on c.args.depth _ _ _ _ c.from_residual-in_err-filter.ensures (λ bad. filter_stuck c.args.depth (map type_of c.in_ok-columns.columns.items) _ _ _ _ c.in_ok-read_version.ensures c.in_ok-columns.ensures (c.in_err-filter.ensures.read bad))

pub returns-in_err-read_version-clause-memory : goal.returns-in_err-read_version-clause-memory
returns-in_err-read_version-clause-memory c = not_memory _ _ _ c.from_residual.ensures c.in_err-read_version.ensures.0

pub returns-in_err-columns-clause-memory : goal.returns-in_err-columns-clause-memory
returns-in_err-columns-clause-memory c = λ is. has_version _ _ c.in_ok-read_version.ensures

pub returns-in_err-filter-clause-memory : goal.returns-in_err-filter-clause-memory
returns-in_err-filter-clause-memory c = λ is. has_version _ _ c.in_ok-read_version.ensures

pub returns-clause-read : goal.returns-clause-read
returns-clause-read c = encoding_read c.args.depth (map type_of c.in_ok-columns.columns.items) (formula c.in_ok-filter.filter) _ _ _ _ c.in_ok-read_version.ensures c.in_ok-columns.ensures c.in_ok-filter.ensures.read
