use Rattle.std.proofs.Common.{◌<◌, ℕ, get_or}
use Rattle.logical_types.specs.Extensions.{IsExtension}
use Rattle.logical_types.specs.Names.{plain_types}
use Rattle.logical_types.specs.declared.logical.LogicalType.TheVariants.{Float64}
use Rattle.logical_types.proofs.extensions.logical_type_of_extension.Given as goal

abbrev pub invariant-loop-logical : goal.invariant-loop-logical
invariant-loop-logical l = (k : ℕ) → k < l.logical-index → IsExtension l.id l.metadata l.storage (get_or plain_types k Float64) → ⊥
