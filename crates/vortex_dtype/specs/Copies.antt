-- What one step of copying several types does.
use Rattle.std.specs.Prelude.{◌≡◌, ◌+◌, [], ◌∷◌, ◌++◌, map, Vec}
use Rattle.std.specs.Global.{Global}
use Rattle.std.specs.Vec.{vec_capacity, vec_len}
use Rattle.vortex_dtype.specs.TypeOf.{type_of}
use Rattle.vortex_dtype.specs.TypeTree.{TypeTree}
use Rattle.vortex_dtype.specs.declared.types.DType.{DType}

-- the step appends one type, with this tree, and keeps the capacity
abbrev pub Adds : Vec DType Global → Vec DType Global → TypeTree → Type 0
Adds before after t =
    (map type_of after.items ≡ map type_of before.items ++ t ∷ []) × (vec_len after ≡ vec_len before + 1) × (vec_capacity after ≡ vec_capacity before)
