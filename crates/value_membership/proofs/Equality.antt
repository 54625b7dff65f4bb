-- Cells that are equal have one key.
use Rattle.std.proofs.Common.{◌≡◌, Bool, true, false, cond, Option, Some, None, Ordering, Equal, refl, sym, ap, ◌∙◌}
use Rattle.membership.specs.Words.{xxh64}
use Rattle.vortex_value.specs.Equality.{EqualContents, same_type}
use Rattle.vortex_value.specs.Order.{order}
use Rattle.vortex_value.specs.Values.Content.{Content, null, truth, whole, text, string, sequence, tagged, typed}
use Rattle.vortex_value.proofs.OrderAgrees.{equal-from_order}
use Rattle.vortex_row.specs.Columns.{key_with}
use Rattle.vortex_row.specs.Keys.{key}
use Rattle.vortex_row.specs.declared.options.SortOptions.{SortOptions}
use Rattle.vortex_row.proofs.KeyLaws.{casts_keep_keys}
use Rattle.value_membership.specs.Laws.{EqualValuesHaveOneHash}

-- a key in a column as it is sorted if nothing else is said
pub default_key : (o : SortOptions) (c : Content) → o.descending ≡ false → o.nulls_first ≡ true → key_with o c ≡ key c
default_key o null d n = rw n refl
default_key o (truth b) d n = rw d refl
default_key o (whole z) d n = rw d refl
default_key o (text bs) d n = rw d refl
default_key o (string bs) d n = rw d refl
default_key o (sequence cs) d n = rw d refl
default_key o (tagged id c) d n = rw d refl
default_key o (typed t c) d n = rw d refl

default_options : SortOptions
default_options = record { descending = false; nulls_first = true }

-- equal contents have one key
same_key : (c d : Content) → EqualContents c d → key c ≡ key d
unfolding default_options
same_key c d e =
    sym (default_key default_options c refl refl) ∙ casts_keep_keys.equal default_options c d e ∙ default_key default_options d refl refl

known_order : (b : Bool) (o : Option Ordering) → cond b o None ≡ Some Equal → o ≡ Some Equal
known_order true o h = h
known_order false o h = cc

pub equal_values_have_one_hash : EqualValuesHaveOneHash
equal_values_have_one_hash x y h =
    ap xxh64 (same_key x.content y.content (equal-from_order x.content y.content (known_order (same_type x.typed y.typed) (order x.content y.content) h)))
