use Rattle.std.specs.Prelude.{true}
use Rattle.std.proofs.Common.{ap}
use Rattle.vortex_dtype.specs.Feeds.{tree_feed, map_feed, fields_feed, variants_feed, ext_feed}
use Rattle.vortex_dtype.specs.TypeOf.{ext_of, fields_of, map_of, type_of, variants_of}
use Rattle.vortex_dtype.specs.Lemmas.TypeLaws.{tree_eq-Decides, map_eq-Decides, fields_eq-Decides, variants_eq-Decides, ext_eq-Decides}
use Rattle.vortex_dtype.proofs.laws.hash_agrees.Goals as goal

pub returns-clause-types : goal.returns-clause-types
returns-clause-types c = λ x y e. ap tree_feed ((tree_eq-Decides (type_of x) (type_of y)).0 e)

pub returns-clause-maps : goal.returns-clause-maps
returns-clause-maps c = λ x y e. ap (map_feed true) ((map_eq-Decides (map_of x) (map_of y)).0 e)

pub returns-clause-structs : goal.returns-clause-structs
returns-clause-structs c = λ x y e. ap (fields_feed true) ((fields_eq-Decides (fields_of x) (fields_of y)).0 e)

pub returns-clause-unions : goal.returns-clause-unions
returns-clause-unions c = λ x y e. ap (variants_feed true) ((variants_eq-Decides (variants_of x) (variants_of y)).0 e)

pub returns-clause-extensions : goal.returns-clause-extensions
returns-clause-extensions c = λ x y e. ap (ext_feed true) ((ext_eq-Decides (ext_of x) (ext_of y)).0 e)
