-- What the iterators over the parts of a view give.
use Rattle.std.specs.Prelude.{◌≡◌, List, [], ◌∷◌, map, Option, IsOk, MatchOption}
use Rattle.std.specs.declared.result.Result.{Result}
use Rattle.std.specs.Iterator.{Drains}
use Rattle.std.specs.List.{AllZip, zip}
use Rattle.vortex_dtype.specs.TypeOf.{map_of, type_of}
use Rattle.vortex_dtype.specs.declared.error.VortexError.{VortexError}
use Rattle.vortex_value.specs.Values.RawOf.{raw_of}
use Rattle.vortex_views.specs.Copies.{GivesCopy}
use Rattle.vortex_views.specs.Parts.{Part, entry_of}
use Rattle.vortex_views.specs.declared.iterators.Entries.{Entries}
use Rattle.vortex_views.specs.declared.iterators.Fields.{Fields}
use Rattle.vortex_views.specs.declared.iterators.Keys.{Keys}
use Rattle.vortex_views.specs.declared.iterators.Values.{Values}

-- A call from s gave the first of the parts that were left, as `GivesCopy` says, and left the others. It gave None if no part
-- was left. A part whose copy takes no memory is not refused.
abbrev pub YieldsCopies : {S A B : Type 0} → (A → B) → (B → Type 0) → (S → List B) → S → Option (Result A VortexError) → S → Type 0
YieldsCopies {B = B} view TakesNone left s r t =
    MatchOption r ((left s ≡ []) × (left t ≡ [])) (λ item. (part : B) × (left s ≡ part ∷ left t) × GivesCopy view part item × (TakesNone part → IsOk item))

-- The calls up to the first that gives None give an item for each part that was left, in order: a copy, or that there was no
-- memory for it.
abbrev pub GivesEachPart : {S A B : Type 0} → (A → B) → (S → List B) → (S → Option (Result A VortexError) → S → Type 0) → Type 0
GivesEachPart {S} {A} view left steps = (s : S) (items : List (Result A VortexError)) → Drains steps s items → AllZip (GivesCopy view) (left s) items

-- the entries that are left
abbrev pub entries_left : Entries → List (Part × Part)
entries_left s = map (entry_of (map_of s.map_dtype.now)) (map raw_of s.rest.now)

-- the keys that are left
abbrev pub keys_left : Keys → List Part
keys_left s = map (λ e. e.0) (entries_left s.entries)

-- the values that are left
abbrev pub values_left : Values → List Part
values_left s = map (λ e. e.1) (entries_left s.entries)

-- the fields that are left
abbrev pub fields_left : Fields → List Part
fields_left s = zip (map type_of s.dtypes.now) (map raw_of s.values.now)
