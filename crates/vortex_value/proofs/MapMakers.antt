-- Entries of the map's types make valid maps.
use Rattle.std.proofs.Common.{◌≡◌, ℕ, Bool, true, false, not, if◌then◌else◌, List, [], ◌∷◌, ◌++◌, length, Option, Some, None, option_map, get_or, refl, ap, ◌∙◌, subst, arith}
use Rattle.std.proofs.lemmas.Bool.{not-false}
use Rattle.std.proofs.lemmas.List.Elements.{All-tail}
use Rattle.std.specs.Cmp.{first_so, second_so}
use Rattle.std.specs.List.{All}
use Rattle.vortex_dtype.specs.Parts.{map_in}
use Rattle.vortex_dtype.specs.Lemmas.TypeLaws.{tree_eq-Decides}
use Rattle.vortex_dtype.specs.TypeOf.{MapParts}
use Rattle.vortex_dtype.specs.TypeTree.{TypeTree, map_type}
use Rattle.vortex_dtype.specs.declared.error.VortexError.{VortexError}
use Rattle.vortex_dtype.specs.declared.error.VortexError.TheVariants.{WrongChild}
use Rattle.vortex_value.specs.Makers.{IsValidEntry, entries_cause, entry_cause, is_entry_of, map_cause, raw_entries, wrong_entry}
use Rattle.vortex_value.specs.Values.RawTree.{raw_tuple}
use Rattle.vortex_value.specs.Values.Scalars.{scalar_raw, scalar_type}
use Rattle.vortex_value.specs.Validity.{EntriesValid, Valid}
use Rattle.vortex_value.specs.declared.scalars.Scalar.{Scalar}
use Rattle.vortex_value.proofs.ListMakers.{next_place, none_passes}

-- the key and the value are valid for these types
abbrev FitsEntry : TypeTree → TypeTree → Scalar × Scalar → Type 0
FitsEntry k w entry = Valid k (scalar_raw entry.0) × Valid w (scalar_raw entry.1)

entries_valid : (k w : TypeTree) (es : List (Scalar × Scalar)) → All (FitsEntry k w) es → EntriesValid k w (raw_entries es)
entries_valid k w [] fits = tt
entries_valid k w (e ∷ es) fits =
    let head = fits 0 e (omega arith) in
    (head.0, head.1, entries_valid k w es (All-tail (FitsEntry k w) e es fits))

fit : (parts : MapParts) (entry : Scalar × Scalar) → is_entry_of parts entry ≡ true → IsValidEntry entry → FitsEntry parts.key parts.value entry
fit parts entry h valid =
    let key = (tree_eq-Decides (scalar_type entry.0) parts.key).0 (first_so _ _ h) in
    let value = (tree_eq-Decides (scalar_type entry.1) parts.value).0 (second_so _ _ h) in
    (subst (λ t. Valid t (scalar_raw entry.0)) key valid.0, subst (λ t. Valid t (scalar_raw entry.1)) value valid.1)

no_wrong : (o : Option ℕ) (f : ℕ → VortexError) → option_map f o ≡ None → o ≡ None
no_wrong None f h = refl
no_wrong (Some i) f h = cc

-- the entries make a valid map
pub map_valid : (t : TypeTree) (es : List (Scalar × Scalar)) → map_cause (map_in t) es ≡ None → All IsValidEntry es → Valid t (raw_tuple (raw_entries es))
map_valid (map_type k w sorted n) es h valid =
    let parts : MapParts = record { key = k; value = w; keys_sorted = sorted } in
    let right = none_passes (λ entry. not (is_entry_of parts entry)) es (no_wrong (wrong_entry parts es) _ h) in
    entries_valid k w es (λ i d below. fit parts (get_or es i d) (not-false (is_entry_of parts (get_or es i d)) (right i d below)) (valid i d below))
map_valid _ es h valid = cc

decided : (b : Bool) (n : ℕ) → option_map WrongChild (if not b then Some n else None) ≡ (if b then None else Some (WrongChild n))
decided true n = refl
decided false n = refl

-- where entries are right, one more decides
pub next_cause : (parts : MapParts) (es : List (Scalar × Scalar)) (e : Scalar × Scalar) → entries_cause parts es ≡ None
    → entries_cause parts (es ++ e ∷ []) ≡ entry_cause parts (length es) e
next_cause parts es e h =
    ap (option_map WrongChild) (next_place (λ entry. not (is_entry_of parts entry)) es e (no_wrong (wrong_entry parts es) WrongChild h)) ∙ decided (is_entry_of parts e) (length es)
