-- What stands before the statistics of a logical type: the version 2, and the name of the type in three bytes.
use Rattle.std.specs.Prelude.{ℕ, zero, suc, List, [], ◌∷◌, codes, if◌then◌else◌}
use Rattle.std.specs.Str.{bytes_eq}
use Rattle.vortex_dtype.specs.TypeTree.{TypeTree, extension_type}

-- the byte of an extension's id; 0 if no logical type has it
unfoldable pub id_byte : List ℕ → ℕ
id_byte id =
    if bytes_eq id (codes "doqallin.f64") then 1
    else if bytes_eq id (codes "doqallin.f32") then 2
    else if bytes_eq id (codes "doqallin.decimal") then 3
    else if bytes_eq id (codes "vortex.date") then 4
    else if bytes_eq id (codes "vortex.time") then 5
    else if bytes_eq id (codes "vortex.timestamp") then 6
    else 0

-- the precision of decimals, and the unit of times
abbrev pub first_parameter : List ℕ → ℕ
first_parameter [] = 0
first_parameter (b ∷ metadata) = b

-- the scale of decimals; of timestamps 1 if the name of a zone stands behind three bytes, and else 0
abbrev pub second_parameter : List ℕ → ℕ
second_parameter (a ∷ b ∷ c ∷ d ∷ name) = 1
second_parameter (a ∷ b ∷ metadata) = b
second_parameter _ = 0

-- the version, the byte of the id, and the parameters
abbrev pub head_from : ℕ → List ℕ → List ℕ
head_from zero metadata = []
head_from (suc n) metadata = 2 ∷ suc n ∷ first_parameter metadata ∷ second_parameter metadata ∷ []

-- what stands before the statistics of a column of the type: nothing, if no logical type has its id
abbrev pub head_of : TypeTree → List ℕ
head_of (extension_type id metadata storage) = head_from (id_byte id) metadata
head_of _ = []
