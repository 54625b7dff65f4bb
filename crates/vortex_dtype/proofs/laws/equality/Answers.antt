use Rattle.vortex_dtype.specs.TypeOf.{ext_of, fields_of, map_of, type_of, variants_of}
use Rattle.vortex_dtype.specs.Lemmas.TypeLaws.{tree_eq-Decides, map_eq-Decides, fields_eq-Decides, variants_eq-Decides, ext_eq-Decides}
use Rattle.vortex_dtype.proofs.laws.equality.Goals as goal

pub returns-clause-types : goal.returns-clause-types
returns-clause-types c = λ x y. tree_eq-Decides (type_of x) (type_of y)

pub returns-clause-maps : goal.returns-clause-maps
returns-clause-maps c = λ x y. map_eq-Decides (map_of x) (map_of y)

pub returns-clause-structs : goal.returns-clause-structs
returns-clause-structs c = λ x y. fields_eq-Decides (fields_of x) (fields_of y)

pub returns-clause-unions : goal.returns-clause-unions
returns-clause-unions c = λ x y. variants_eq-Decides (variants_of x) (variants_of y)

pub returns-clause-extensions : goal.returns-clause-extensions
returns-clause-extensions c = λ x y. ext_eq-Decides (ext_of x) (ext_of y)
