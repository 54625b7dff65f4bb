-- Chains of casts.
use Rattle.std.specs.Prelude.{◌≡◌, List, [], ◌∷◌}
use Rattle.vortex_dtype.specs.TypeTree.{TypeTree}
use Rattle.vortex_value.specs.Casts.{Allows, Has}
use Rattle.vortex_value.specs.Values.Content.{Content, content}
use Rattle.vortex_value.specs.Values.RawTree.{RawTree}
use Rattle.vortex_value.specs.Validity.{Valid}

-- each step of the chain is allowed from the type before it, and each type has the content
abbrev pub Steps : TypeTree → List TypeTree → Content → Type 0
Steps s [] c = Unit {0}
Steps s (t ∷ ts) c = Allows s t c × Has t c × Steps t ts c

-- the last type of the chain t, then ts
abbrev pub last_of : TypeTree → List TypeTree → TypeTree
last_of t [] = t
last_of t (u ∷ us) = last_of u us

-- the value v of type s, cast along t and then ts, gives w
pub record Runs (s : TypeTree) (v : RawTree) (t : TypeTree) (ts : List TypeTree) (w : RawTree) : Type 0 where
  pub starts : Valid s v
  pub ends : Valid (last_of t ts) w
  pub same : content w ≡ content v
  pub steps : Steps s (t ∷ ts) (content v)
