-- Bytes are written one part after another.
use Rattle.std.proofs.Common.{◌≡◌, ℕ, List, [], ◌++◌, Option, refl, sym, ap, ◌∙◌, subst, take, drop, append_assoc, append-nil}
use Rattle.std.proofs.KnownBytes.{Appends-nil, Appends-trans}
use Rattle.std.proofs.lemmas.List.{take-append-drop}
use Rattle.std.specs.Io.KnownBytes.{Appends, Keeps}
use Rattle.zone_index.specs.Sinks.{WritesFirst}
use Rattle.zone_index.proofs.Rests.{appends-kept}

-- some bytes went out, and the rest is left
pub record IsOut (old new : Option (List ℕ)) (output rest : List ℕ) : Type 0 where
  pub done : List ℕ
  pub parts : output ≡ done ++ rest
  pub written : Appends old new done

pub out_none : (old : Option (List ℕ)) (output : List ℕ) → IsOut old old output output
out_none old output = record { done = []; parts = refl; written = Appends-nil old }

pub out_more : (old mid new : Option (List ℕ)) (output rest : List ℕ) (n : ℕ) → IsOut old mid output rest → Appends mid new (take n rest) → IsOut old new output (drop n rest)
out_more old mid new output rest n before here = record {
  done = before.done ++ take n rest;
  parts = before.parts ∙ ap (λ (l : List ℕ). before.done ++ l) (sym (take-append-drop n rest)) ∙ sym (append_assoc before.done (take n rest) (drop n rest));
  written = Appends-trans old mid new before.done (take n rest) before.written here;
}

pub out_kept : (old mid new : Option (List ℕ)) (output rest : List ℕ) → IsOut old mid output rest → Keeps mid new → IsOut old new output rest
out_kept old mid new output rest before same = record { done = before.done; parts = before.parts; written = appends-kept old mid new before.done before.written same }

pub out_first : (old new : Option (List ℕ)) (output rest : List ℕ) → IsOut old new output rest → WritesFirst old new output
out_first old new output rest h = (h.done, rest, h.parts, h.written)

pub out_all : (old new : Option (List ℕ)) (output rest : List ℕ) → IsOut old new output rest → rest ≡ [] → Appends old new output
out_all old new output rest h none = subst (Appends old new) (sym (h.parts ∙ ap (λ (l : List ℕ). h.done ++ l) none ∙ append-nil h.done)) h.written
