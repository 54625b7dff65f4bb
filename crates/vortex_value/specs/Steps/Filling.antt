-- What the recursion that fills types answers: values that fill them.
use Rattle.std.specs.Prelude.{◌≡◌, ℕ, Bool, List, ◌∷◌, Option, Some, None, option_map}
use Rattle.vortex_dtype.specs.TypeTree.{TypeTree, TypeTrees, no_types, type_then}
use Rattle.vortex_value.specs.Values.Content.{Content, tagged, content}
use Rattle.vortex_value.specs.Values.RawTree.{RawTree, raw_union, RawTrees, no_raws, raw_then}
use Rattle.vortex_value.specs.Validity.{Valid}
use Rattle.vortex_value.specs.Zero.{filling}

-- the value fills the type: it is valid, and what it says fills the type
pub record Fills (nulls : Bool) (t : TypeTree) (v : RawTree) : Type 0 where
  pub valid : Valid t v
  pub same : filling nulls t ≡ Some (content v)

-- each of the values fills the type
abbrev pub EachFills : Bool → TypeTree → RawTrees → Type 0
EachFills nulls e no_raws = Unit {0}
EachFills nulls e (raw_then v vs) = Fills nulls e v × EachFills nulls e vs

-- the values fill the types, each its own
abbrev pub FillFields : Bool → TypeTrees → RawTrees → Type 0
FillFields nulls no_types no_raws = Unit {0}
FillFields nulls (type_then t ts) (raw_then v vs) = Fills nulls t v × FillFields nulls ts vs
FillFields nulls _ _ = ⊥

-- the first id and the first type, if there are both
abbrev pub first_of : List ℕ → List TypeTree → Option (ℕ × TypeTree)
first_of (id ∷ ids) (t ∷ ts) = Some (id, t)
first_of _ _ = None

-- what fills a union: its first variant's child, if something fills that
abbrev pub child_filling : (TypeTree → Option Content) → Option (ℕ × TypeTree) → Option Content
child_filling fill None = None
child_filling fill (Some first) = option_map (tagged first.0) (fill first.1)

-- the value is a union's: the id of the first variant, and what fills its type
abbrev pub FillsFirst : Bool → Option (ℕ × TypeTree) → RawTree → Type 0
FillsFirst nulls (Some first) (raw_union id v) = (id ≡ first.0) × Fills nulls first.1 v
FillsFirst nulls _ _ = ⊥
