-- Decimal numbers as integers: 12.34 at scale 2 is 1234. A limit is 10 ^ precision.
use Rattle.std.specs.Prelude.{◌==◌, ◌&&◌, ◌+◌, ◌-◌, ◌*◌, ◌/◌, ◌%◌, ◌^◌, ℕ, zero, suc, ℤ, pos, negsuc, neg_ℤ, Bool, true, false, List, [], ◌∷◌, ◌++◌, Option, Some, None, drop, nat_lt, slice_index, if◌then◌else◌}
use Rattle.std.specs.Char.{is_ascii_digit}
use Rattle.std.specs.Fmt.{decimal}
use Rattle.std.specs.Option.{option_map}

-- a value with so many zeros behind it, if that is below the limit
abbrev pub scaled : ℕ → ℕ → ℕ → Option ℕ
scaled limit places value = if nat_lt (value * 10 ^ places) limit then Some (value * 10 ^ places) else None

-- what digits behind a point say after a value, with so many places left: past them only zeros are taken
abbrev pub fraction_from : ℕ → ℕ → Bool → ℕ → List ℕ → Option ℕ
fraction_from limit places some value [] = if some then scaled limit places value else None
fraction_from limit places some value (c ∷ cs) =
    if is_ascii_digit c then
    (if places == 0 then (if c == 48 then fraction_from limit 0 true value cs else None)
    else (if nat_lt (value * 10 + (c - 48)) limit then fraction_from limit (places - 1) true (value * 10 + (c - 48)) cs else None))
    else None

-- what digits, and perhaps a point and more digits, say after a value
abbrev pub whole_from : ℕ → ℕ → Bool → ℕ → List ℕ → Option ℕ
whole_from limit scale some value [] = if some then scaled limit scale value else None
whole_from limit scale some value (c ∷ cs) =
    if is_ascii_digit c then
    (if nat_lt (value * 10 + (c - 48)) limit then whole_from limit scale true (value * 10 + (c - 48)) cs else None)
    else (if some && c == 46 then fraction_from limit scale false value cs else None)

-- the number that a word writes at a scale, if it is below the limit in size and no digit of it is lost
abbrev pub decimal_value : ℕ → ℕ → List ℕ → Option ℤ
decimal_value limit scale word =
    if slice_index word 0 == 45 then option_map (λ n. neg_ℤ (pos n)) (whole_from limit scale false 0 (drop 1 word))
    else option_map pos (whole_from limit scale false 0 word)

-- a number with its last places behind the point
abbrev pub sized_text : ℕ → List ℕ → ℕ → List ℕ
sized_text zero point n = decimal n ++ point
sized_text (suc places) point n = sized_text places point (n / 10) ++ (48 + n % 10) ∷ []

-- the point, if the scale has a place behind it
abbrev pub point_text : ℕ → List ℕ
point_text scale = if scale == 0 then [] else 46 ∷ []

-- the word of a number at a scale
abbrev pub decimal_text : ℕ → ℤ → List ℕ
decimal_text scale (pos n) = sized_text scale (point_text scale) n
decimal_text scale (negsuc n) = 45 ∷ sized_text scale (point_text scale) (suc n)
