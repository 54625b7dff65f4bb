-- Eight bytes, or an end that comes too early.
use Rattle.filter_encoding.proofs.PlaceLaws.{place_cut_off, place_read}
use Rattle.filter_encoding.proofs.places.read_place.Goals as goal

pub returns-in-Some : goal.returns-in-Some
returns-in-Some c = place_read c.in-Some.number _ _ c.in-Some.ensures.1 c.in-Some.ensures.2 c.advance.ensures

pub returns-in-None : goal.returns-in-None
returns-in-None c = λ bad. place_cut_off _ c.are_bytes.ensures c.in-None.ensures
