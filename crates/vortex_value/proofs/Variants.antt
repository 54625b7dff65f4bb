-- What the look-up of a variant is proved by.
use Rattle.vortex_value.specs.Lemmas.VariantPlaces.{type_with-position}

pub ruleset by_place = (type_with-position)
