-- The id, the metadata and the storage.
use Rattle.vortex_dtype.specs.TypeOf.{type_of}
use Rattle.filter_encoding.specs.Encoding.{IsPlain, type_bytes}
use Rattle.filter_encoding.proofs.ExtensionLaws.{id_stuck, metadata_stuck, storage_stuck}
use Rattle.filter_encoding.proofs.ReadSteps.{passed_on}
use Rattle.filter_encoding.proofs.extensions.read_extension.Goals as goal

pub returns-in_err-id : goal.returns-in_err-id
returns-in_err-id c = passed_on type_bytes IsPlain type_of _ _ _ _ c.from_residual.ensures (λ bad. id_stuck _ _ (c.in_err-id.ensures bad))

pub returns-in_err-metadata : goal.returns-in_err-metadata
returns-in_err-metadata c = passed_on type_bytes IsPlain type_of _ _ _ _ c.from_residual-in_err-metadata.ensures (λ bad. metadata_stuck _ _ _ _ c.in_ok-id.ensures (c.in_err-metadata.ensures bad))

pub returns-in_err-storage : goal.returns-in_err-storage
returns-in_err-storage c = passed_on type_bytes IsPlain type_of _ _ _ _ c.from_residual-in_err-storage.ensures (λ bad. storage_stuck _ _ _ _ _ _ c.in_ok-id.ensures c.in_ok-metadata.ensures (c.in_err-storage.ensures bad))
