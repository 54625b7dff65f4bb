-- There is capacity for the key of a plain value where as many bytes are as are counted.
use Rattle.std.proofs.Common.{◌≡◌, ℕ, length, arith}
use Rattle.std.specs.Global.{Vec}
use Rattle.std.specs.Vec.{vec_len}
use Rattle.vortex_value.specs.Size.{capped}
use Rattle.vortex_row.specs.Columns.{key_with}
use Rattle.vortex_row.specs.Keys.{key}
use Rattle.vortex_row.specs.Laws.{KeysAreAsLong}
use Rattle.vortex_row.specs.Plain.{plain_content}
use Rattle.vortex_row.specs.Slots.{HasSlot}
use Rattle.vortex_row.specs.declared.options.SortOptions.{SortOptions}
use Rattle.vortex_row.specs.declared.plain.PlainValue.{PlainValue}

pub plain-slot : (law : KeysAreAsLong) (o : SortOptions) (v : PlainValue) (count : ℕ) (out : Vec ℕ) → count ≡ capped (length (key (plain_content v))) → vec_len out ≡ count → HasSlot out.items 0 (key_with o (plain_content v))
plain-slot law o v count out e f =
    let bytes = law.columns o (plain_content v) in
    let small = out.small in
    let long = out.ok.0 in
    omega arith

pub ruleset rooms = (plain-slot)
