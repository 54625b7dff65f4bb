-- Steps of the public calls.
use Rattle.std.proofs.Common.{◌≡◌, ℕ, ◌+◌, ◌≤◌, List, ◌++◌, length, take, sym, ap, ◌∙◌, arith}
use Rattle.std.specs.Global.{Vec}
use Rattle.std.specs.Vec.{vec_len}
use Rattle.std.proofs.lemmas.List.{take_all}
use Rattle.vortex_value.specs.Size.{capped}
use Rattle.vortex_value.specs.Values.Content.{Content}
use Rattle.vortex_row.specs.Columns.{key_with}
use Rattle.vortex_row.specs.Keys.{key}
use Rattle.vortex_row.specs.Slots.{HasSlot, Writes}
use Rattle.vortex_row.specs.Steps.{HasAppended}
use Rattle.vortex_row.specs.declared.options.SortOptions.{SortOptions}
use Rattle.vortex_row.proofs.EncodeSteps.{key_with-length}

-- as many bytes as are counted hold them all, since no `Vec` is as large as the greatest number
pub all-slot : (bytes : List ℕ) (n start : ℕ) (out : Vec ℕ) → length bytes ≡ n → start + capped n ≤ vec_len out → HasSlot out.items start bytes
all-slot bytes n start out e h =
    let small = out.small in
    let long = out.ok.0 in
    omega arith

pub key-slot : (o : SortOptions) (c : Content) (count start : ℕ) (before out : Vec ℕ) → count ≡ capped (length (key c)) → start ≡ vec_len before → HasAppended count before out → HasSlot out.items start (key_with o c)
key-slot o c count start before out f e h =
    let more = h.more in
    all-slot (key_with o c) (length (key c)) start out (key_with-length o c) (omega arith)

-- all that was appended is what was written
pub key-appended : (o : SortOptions) (c : Content) (count start end : ℕ) (before out : Vec ℕ) (now : List ℕ) → count ≡ capped (length (key c)) → start ≡ vec_len before → HasAppended count before out
    → Writes (key_with o c) start end out.items now → now ≡ before.items ++ key_with o c
key-appended o c count start end before out now f e h w =
    let more = h.more in
    let small = out.small in
    let long = out.ok.0 in
    let next = w.next' in
    let same = w.count in
    let bytes = key_with-length o c in
    sym (take_all end now (omega arith)) ∙ w.items ∙ ap (λ xs. xs ++ key_with o c) (ap (λ n. take n out.items) e ∙ h.begins)

pub ruleset shown = (key-slot, key-appended)
