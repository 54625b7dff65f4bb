-- The bytes of an index that are read from its file.
use Rattle.std.proofs.Common.{◌≡◌, ◌<◌, ◌≤◌, ◌+◌, ◌-◌, ◌^◌, min, arith, ℕ, List, [], ◌∷◌, ◌++◌, Option, None, Some, IfSome, refl, sym, ap, ap₂, ◌∙◌, subst, length, take, drop, get_or, append_assoc, append-nil}
use Rattle.std.proofs.lemmas.Grind.{flat_map-append, take_at_read}
use Rattle.std.proofs.lemmas.List.{length-append, length-drop, length-take, take-append-drop, take_min}
use Rattle.std.specs.Prelude.{map}
use Rattle.std.specs.Int.{to_le_bytes, w32}
use Rattle.zone_index.specs.Encoding.{RootValue, bytes_encoding, content_encoding, root_encoding}
use Rattle.zone_index.specs.declared.encoding.TheConstants.{MAGIC, VERSION}
use Rattle.zone_scans.specs.Ranges.{bytes_of, range_bytes}
use Rattle.zone_scans.specs.declared.ranges.ByteRange.{ByteRange}

pub some_at : (P : List ℕ → Type 0) (o : Option (List ℕ)) (xs : List ℕ) → o ≡ Some xs → IfSome o P → P xs
some_at P o xs is h = subst (λ (x : Option (List ℕ)). IfSome x P) is h

pub for_some : (P : List ℕ → Type 0) (o : Option (List ℕ)) → ((xs : List ℕ) → o ≡ Some xs → P xs) → IfSome o P
for_some P None h = tt
for_some P (Some xs) h = h xs refl

pub pieces_at : (o : Option (List ℕ)) (xs items : List ℕ) (ranges : List ByteRange) (long : ℕ) → o ≡ Some xs → length xs ≡ long → IfSome o (λ ys. length ys ≡ long → items ≡ bytes_of ys ranges) → items ≡ bytes_of xs ranges
pieces_at o xs items ranges long is all h = some_at (λ ys. length ys ≡ long → items ≡ bytes_of ys ranges) o xs is h all

-- ---- the blocks

piece_whole : (n place : ℕ) (xs : List ℕ) → take (min n (length xs - place)) (drop place xs) ≡ take n (drop place xs)
piece_whole n place xs = ap (λ (m : ℕ). take (min n m) (drop place xs)) (sym (length-drop place xs)) ∙ take_min n (drop place xs)

-- one range more
pub pieces_more : (xs old new piece : List ℕ) (ranges : List ByteRange) (k limit : ℕ) (r : ByteRange) → k < length ranges → r ≡ get_or ranges k r → length xs ≡ limit → piece ≡ take (min r.length (limit - r.place)) (drop r.place xs) → new ≡ old ++ piece → old ≡ bytes_of xs (take k ranges)
    → new ≡ bytes_of xs (take (k + 1) ranges)
pieces_more xs old new piece ranges k limit r inside is long piece_is new_is before =
    let own : piece ≡ range_bytes xs r = piece_is ∙ ap (λ (n : ℕ). take (min r.length (n - r.place)) (drop r.place xs)) (sym long) ∙ piece_whole r.length r.place xs in
    let next : bytes_of xs (take (k + 1) ranges) ≡ bytes_of xs (take k ranges) ++ range_bytes xs r =
    ap (bytes_of xs) (take_at_read ranges k r inside).1 ∙ flat_map-append (range_bytes xs) (take k ranges) (get_or ranges k r ∷ []) ∙ ap (λ (l : List ℕ). bytes_of xs (take k ranges) ++ l) (append-nil (range_bytes xs (get_or ranges k r)) ∙ ap (range_bytes xs) (sym is)) in
    new_is ∙ ap₂ (λ (a b : List ℕ). a ++ b) before own ∙ sym next
