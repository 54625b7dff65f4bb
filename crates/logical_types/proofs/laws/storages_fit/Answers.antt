use Rattle.logical_types.proofs.StoragesFit.{fits}
use Rattle.logical_types.proofs.laws.storages_fit.Goals as goal

pub returns : goal.returns
returns c = fits c.args.logical
