-- The items before stay.
use Rattle.std.proofs.Common.{◌≡◌, ◌*◌, ℕ, ap, arith, length}
use Rattle.column_items.specs.Items.{bytes_of_stored}
use Rattle.column_keys.proofs.NumberSteps.{below-item, item-kept, next-item}
use Rattle.column_keys.proofs.items.put_item.Goals as goal

pub returns-clause-before : goal.returns-clause-before
returns-clause-before c =
    let w : ℕ = length (bytes_of_stored c.args.item) in
    let same : length c.as_slice-bytes.result.now ≡ length (bytes_of_stored c.args.item) = ap length c.as_slice-bytes.ensures in
    let at : c.args.row * length c.as_slice-bytes.result.now ≡ c.args.row * length (bytes_of_stored c.args.item) = ap (λ (m : ℕ). c.args.row * m) same in
    λ k l. item-kept (c.args.row * length c.as_slice-bytes.result.now) _ c.args.values.now c.copy_from_slice.new.self (length (bytes_of_stored c.args.item)) k (omega (arith, at, below-item k c.args.row (length (bytes_of_stored c.args.item)) l))
    (omega (arith, at, c.requires, next-item c.args.row (length (bytes_of_stored c.args.item))))
