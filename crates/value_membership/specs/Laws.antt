-- The laws of members.
use Rattle.std.specs.Prelude.{◌≡◌, ℕ, List, ◌++◌, Some, length, map}
use Rattle.std.specs.declared.cmp.Ordering.TheVariants.{Equal}
use Rattle.membership.specs.Words.{union}
use Rattle.vortex_cells.specs.Cells.{Cell, cell_order}
use Rattle.value_membership.specs.Members.{HasMembers, hash_of}

-- the union of two of one length has the values of both
abbrev pub MembersMerge : Type 0
MembersMerge = (members others : List ℕ) (cells more : List Cell) → length members ≡ length others
    → HasMembers members cells → HasMembers others more → HasMembers (union members others) (cells ++ more)

-- cells with the same contents have the same members, whatever their types are
abbrev pub CastsKeepMembers : Type 0
CastsKeepMembers = (members : List ℕ) (cells casts : List Cell) → map (λ x. x.content) cells ≡ map (λ x. x.content) casts
    → HasMembers members cells → HasMembers members casts

-- cells that are equal by their order have one hash
abbrev pub EqualValuesHaveOneHash : Type 0
EqualValuesHaveOneHash = (x y : Cell) → cell_order x y ≡ Some Equal → hash_of x ≡ hash_of y
