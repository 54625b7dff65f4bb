-- How many keys an iterator gives, by the law of what iterators give.
use Rattle.std.proofs.Common.{◌≡◌, ◌∙◌, ap, ℕ, List, map, length, true, Some, None}
use Rattle.std.specs.Prelude.{Option, Result, is_some}
use Rattle.std.specs.Iterator.{Drains}
use Rattle.std.proofs.lemmas.List.{length-map}
use Rattle.std.proofs.lemmas.Slice.Zip.{AllZip-long}
use Rattle.vortex_dtype.specs.declared.error.VortexError.{VortexError}
use Rattle.vortex_value.specs.Values.RawTree.{RawTree}
use Rattle.vortex_views.specs.Iterators.{GivesEachPart}
use Rattle.vortex_views.specs.Parts.{Part, parts_by, parts_of}

-- what is counted along a run is what was left
pub counted : {S A B : Type 0} (view : A → B) (left : S → List B) (steps : S → Option (Result A VortexError) → S → Type 0) → GivesEachPart view left steps
    → (s : S) (parts : List B) (n : ℕ) → left s ≡ parts → ((xs : List (Result A VortexError)) × Drains steps s xs × (n ≡ length xs)) → n ≡ length parts
counted view left steps law s parts n is ran = ran.2 ∙ AllZip-long _ _ _ (law s ran.0 ran.1) ∙ ap length is

-- a map has as many keys as parts
pub as_many : {X : Type 0} (part : X → RawTree → Part × Part) (o : Option X) (v : RawTree) → is_some o ≡ true
    → length (map (λ e. e.0) (parts_by part o v)) ≡ length (parts_of v)
as_many part (Some x) v kind = length-map (map (part x) (parts_of v)) _ ∙ length-map (parts_of v) (part x)
as_many part None v kind = let e : ⊥ = cc in absurd e
