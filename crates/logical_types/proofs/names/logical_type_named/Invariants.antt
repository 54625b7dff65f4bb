use Rattle.std.proofs.Common.{◌≢◌, ◌<◌, ℕ, get_or}
use Rattle.logical_types.specs.Names.{name_of, plain_types}
use Rattle.logical_types.specs.declared.logical.LogicalType.TheVariants.{Float64}
use Rattle.logical_types.proofs.names.logical_type_named.Given as goal

abbrev pub invariant-loop-logical : goal.invariant-loop-logical
invariant-loop-logical l = (k : ℕ) → k < l.logical-index → l.word ≢ name_of (get_or plain_types k Float64)
