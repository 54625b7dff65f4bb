use Rattle.std.proofs.Common.{◌≡◌, ◌+◌, ◌++◌, ◌≤◌, ◌↔◌, Err, IsOk, OnOk, length, refl, subst}
use Rattle.std.specs.Vec.{vec_capacity, vec_len}
use Rattle.vortex_cells.specs.Cells.{Cell, cell_of}
use Rattle.vortex_cells.proofs.CellLaws.{ref_cell}
use Rattle.vortex_row.specs.Columns.{key_with}
use Rattle.vortex_row.specs.Keys.{key}
use Rattle.vortex_row.specs.Typed.{HasKey}
use Rattle.vortex_row.specs.declared.error.RowError.TheVariants.{HasVariant}
use Rattle.constant_arrays.specs.Items.{len_of, scalar_of}
use Rattle.constant_arrays.proofs.Repeated.{asked_once}
use Rattle.constant_arrays.proofs.array.ConstantArray.append_key.Goals as goal

pub returns-clause-appended : goal.returns-clause-appended
returns-clause-appended c =
    let P : Cell → Type 0 = λ y. OnOk c.append_key.result (c.append_key.new.out.items ≡ c.args.out.now.items ++ key_with c.args.options y.content) in
    subst P (ref_cell (scalar_of c.args.self.now) c.of-value.result c.of-value.ensures.made) c.append_key.ensures.appended

pub returns-clause-rows : goal.returns-clause-rows
returns-clause-rows c =
    let x : Cell = cell_of (scalar_of c.args.self.now) in
    asked_once (λ (y : Cell). key_with c.args.options y.content) (len_of c.args.self.now) x (key_with c.args.options x.content) refl

pub returns-clause-variant : goal.returns-clause-variant
returns-clause-variant c =
    let P : Cell → Type 0 = λ y. (c.append_key.result ≡ Err HasVariant) ↔ ¬ (HasKey y.typed y.content) in
    subst P (ref_cell (scalar_of c.args.self.now) c.of-value.result c.of-value.ensures.made) c.append_key.ensures.variant

pub returns-clause-room : goal.returns-clause-room
returns-clause-room c =
    let P : Cell → Type 0 = λ y. HasKey y.typed y.content → vec_len c.args.out.now + length (key y.content) ≤ vec_capacity c.args.out.now → IsOk c.append_key.result in
    subst P (ref_cell (scalar_of c.args.self.now) c.of-value.result c.of-value.ensures.made) c.append_key.ensures.room
