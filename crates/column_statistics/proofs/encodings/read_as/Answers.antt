-- What is read is right, and of the type; else the bytes are wrong, or a bound is no value.
use Rattle.std.proofs.Common.{subst, sym}
use Rattle.column_cells.specs.Types.{type_of_kind}
use Rattle.named_statistics.specs.Named.{ReadsNamed}
use Rattle.vortex_dtype.specs.TypeOf.{type_of}
use Rattle.vortex_statistics.specs.Statistics.{known}
use Rattle.column_statistics.proofs.EncodingLaws.{as_encoding, bounds_in, not_read, read_whole}
use Rattle.column_statistics.proofs.encodings.read_as.Goals as goal

pub returns-clause-read : goal.returns-clause-read
returns-clause-read c = as_encoding (type_of c.args.dtype.now) (type_of_kind c.args.kind) c.args.bytes.now (known c.in-Ok.statistics) c.requires c.in-Ok.ensures.read.0 c.in-Ok.ensures.read.1

pub returns-clause-typed : goal.returns-clause-typed
returns-clause-typed c = bounds_in (type_of_kind c.args.kind) c.in-Ok.statistics (returns-clause-read c).of_type c.in-Ok.ensures.valid

pub returns-clause-whole : goal.returns-clause-whole
returns-clause-whole c = λ s h. let a = read_whole (type_of_kind c.args.kind) (type_of c.args.dtype.now) c.args.bytes.now s (sym c.requires) h in c.in-Ok.ensures.whole s a.0 a.1

pub returns-clause-right : goal.returns-clause-right
returns-clause-right c = subst (λ t. ReadsNamed t c.args.bytes.now (known c.in-Ok.statistics)) c.requires c.in-Ok.ensures.right

pub returns-then-not-have_values-clause-refused : goal.returns-then-not-have_values-clause-refused
returns-then-not-have_values-clause-refused c = record {
  statistics = known c.in-Ok.statistics;
  is_encoding = as_encoding (type_of c.args.dtype.now) (type_of_kind c.args.kind) c.args.bytes.now (known c.in-Ok.statistics) c.requires c.in-Ok.ensures.read.0 c.in-Ok.ensures.read.1;
  none = c.if-not-have_values.ensures;
}

pub returns-in-Err-clause-refused : goal.returns-in-Err-clause-refused
returns-in-Err-clause-refused c =
    not_read (type_of c.args.dtype.now) c.args.kind c.args.bytes.now c.in-Err.cause c.read_fault.result c.requires c.read_fault.ensures c.in-Err.ensures.refused
