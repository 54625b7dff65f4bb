-- The number that lies there is what the word is worth, by the law.
use Rattle.std.proofs.Common.{IfSome, Option, Some, None}
use Rattle.logical_types.specs.DecimalWorth.{IsWorth}
use Rattle.logical_types.specs.Places.{IsPlaceOfWord, fine_scale}
use Rattle.logical_types.specs.declared.decimals.places.DecimalPlace.{DecimalPlace}
use Rattle.law_callers.proofs.words_of_values.place_decimal.Goals as goal

pub returns : goal.returns
returns c = exactly c.place_of_word.result c.place_of_word.ensures.some
  where
    exactly : (o : Option DecimalPlace) → IfSome o (IsPlaceOfWord c.args.decimal c.args.word.now)
        → IfSome o (λ place. (h : IsPlaceOfWord c.args.decimal c.args.word.now place) × IsWorth (fine_scale c.args.decimal.scale c.args.word.now) c.args.word.now h.number)
    exactly (Some place) h = (h, c.places_are_exact.ensures c.args.word.now place h)
    exactly None h = tt
