-- What a step of a copy of a tuple does.
use Rattle.std.specs.Prelude.{◌≡◌, ◌+◌, [], ◌∷◌, ◌++◌, map, Option, option_map, Vec}
use Rattle.std.specs.Global.{Global}
use Rattle.std.specs.Vec.{vec_capacity, vec_len}
use Rattle.vortex_value.specs.Values.RawOf.{value_tree}
use Rattle.vortex_value.specs.Values.RawTree.{RawTree}
use Rattle.vortex_value.specs.declared.values.ScalarValue.{ScalarValue}

-- after the step there is one more value, at the same capacity, and this is its tree
abbrev pub Adds : Vec (Option ScalarValue) Global → Vec (Option ScalarValue) Global → Option RawTree → Type 0
Adds before after v =
    (map (option_map value_tree) after.items ≡ map (option_map value_tree) before.items ++ v ∷ []) × (vec_len after ≡ vec_len before + 1) × (vec_capacity after ≡ vec_capacity before)
