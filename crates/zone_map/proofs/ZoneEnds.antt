-- The last zone of a list.
use Rattle.std.proofs.Common.{◌≡◌, ◌∙◌, ◌-◌, ◌<◌, ◌≤◌, ◌∷◌, ◌++◌, ℕ, List, [], Option, Some, None, length, length-append, subst, sym, ap, refl, arith}
use Rattle.std.proofs.lemmas.Bool.{false≢true}
use Rattle.std.proofs.lemmas.Option.{none-some, same_Some}
use Rattle.std.specs.Prelude.{IsSome, slice_get}
use Rattle.std.specs.Option.{option_to_list}
use Rattle.zone_index.specs.declared.zones.Zone.{Zone}
use Rattle.zone_map.specs.Zones.{GoesOn, Reopens}

at_end : (front : List Zone) (last : Zone) → slice_get (front ++ last ∷ []) (length front) ≡ Some last
at_end [] last = refl
at_end (zone ∷ zones) last = at_end zones last

last_is : (zones front : List Zone) (last : Zone) → zones ≡ front ++ last ∷ [] → slice_get zones (length zones - 1) ≡ Some last
last_is zones front last e =
    ap (λ (x : List Zone). slice_get x (length x - 1)) e
    ∙ ap (slice_get (front ++ last ∷ [])) (let n = length-append front (last ∷ []) in let m : length (front ++ last ∷ []) - 1 ≡ length front = omega arith in m)
    ∙ at_end front last

pub has_last : (zones : List Zone) (zone : Zone) → slice_get zones (length zones - 1) ≡ Some zone → 0 < length zones
has_last [] zone h = absurd (none-some zone h)
has_last (one ∷ more) zone h = omega arith

pub some_listed : (zone : Option Zone) → IsSome zone → 0 < length (option_to_list zone)
some_listed None h = absurd (false≢true h)
some_listed (Some zone) h = omega arith

pub none_to_reopen : (size end : ℕ) (zones : List Zone) → slice_get zones (length zones - 1) ≡ None → GoesOn size end zones zones end
none_to_reopen size end zones none = record { same = refl; full = λ front last e. absurd (none-some last (sym none ∙ last_is zones front last e)); at_end = refl }

pub full_already : (size end : ℕ) (zones : List Zone) (zone : Zone) → slice_get zones (length zones - 1) ≡ Some zone → size ≤ zone.records → GoesOn size end zones zones end
full_already size end zones zone at full = record {
  same = refl;
  full = λ front last e. subst (λ (x : Zone). size ≤ x.records) (same_Some zone last (sym at ∙ last_is zones front last e)) full;
  at_end = refl;
}

pub reopened : (size : ℕ) (old new : List Zone) (popped : Option Zone) (zone : Zone) → slice_get old (length old - 1) ≡ Some zone → zone.records < size → old ≡ new ++ option_to_list popped → 0 < length (option_to_list popped) → Reopens size old new zone.first
reopened size old new None zone at few parts some = absurd (omega arith)
reopened size old new (Some last) zone at few parts some =
    let same : zone ≡ last = same_Some zone last (sym at ∙ last_is old new last parts) in
    record {
      last = last;
      parts = parts;
      few = subst (λ (x : Zone). x.records < size) same few;
      first = ap (λ (x : Zone). x.first) same;
    }
