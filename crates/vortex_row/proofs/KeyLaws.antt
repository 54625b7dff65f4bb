-- The laws of keys.
use Rattle.std.proofs.Common.{◌≡◌, ◌∷◌, ◌++◌, refl, ap, ap₂}
use Rattle.vortex_value.specs.Equality.{EqualContents, AllEqual}
use Rattle.vortex_value.specs.Values.Content.{Content, null, truth, whole, text, string, sequence, tagged, typed, Contents, no_contents, content_then}
use Rattle.vortex_value.specs.Values.Refs.{ref_type, ref_content}
use Rattle.vortex_value.specs.Values.Scalars.{scalar_type, scalar_content}
use Rattle.vortex_value.proofs.OrderAgrees.{no_typed}
use Rattle.vortex_row.specs.Columns.{key_with, column_cmp, row_cmp, row_key}
use Rattle.vortex_row.specs.ContentOrder.{content_cmp}
use Rattle.vortex_row.specs.Keys.{key, keys, inverted}
use Rattle.vortex_row.specs.Laws.{KeysAreOrdered, OrderIsContentOrder, KeysAreApart, CastsKeepKeys, ValuesHaveNoTyped}
use Rattle.vortex_row.specs.declared.options.SortOptions.{SortOptions}
use Rattle.vortex_row.proofs.ApartLaws.{key-apart, column-apart, row-apart}
use Rattle.vortex_row.proofs.ColumnLaws.{column-ordered, row-ordered, column-is_order, typed-is_order}
use Rattle.vortex_row.proofs.OrderLaws.{key-ordered, order-is_cmp}
use Rattle.vortex_row.proofs.PlaceLaws.{ordered-cmp}

pub keys_are_ordered : KeysAreOrdered
keys_are_ordered = record {
  contents = λ c d p q. ordered-cmp (content_cmp c d) (key c) (key d) (key-ordered c d p q);
  columns = λ o c d p q. ordered-cmp (column_cmp o c d) (key_with o c) (key_with o d) (column-ordered o c d p q);
  rows = λ os cs ds e p q. ordered-cmp (row_cmp os cs ds) (row_key os cs) (row_key os ds) (row-ordered os cs ds e p q);
}

pub order_is_content_order : OrderIsContentOrder
order_is_content_order = record {
  contents = order-is_cmp;
  columns = column-is_order;
  scalars = λ o x y r e. typed-is_order o (scalar_type x) (scalar_type y) (scalar_content x) (scalar_content y) r e;
  borrowed = λ o x y r e. typed-is_order o (ref_type x) (ref_type y) (ref_content x) (ref_content y) r e;
}

pub keys_are_apart : KeysAreApart
keys_are_apart = record { contents = key-apart; columns = column-apart; rows = row-apart }

-- equal contents have one key

mutual
  key-equal : (c d : Content) → EqualContents c d → key c ≡ key d
  key-equal null null e = refl
  key-equal (truth b) (truth c) e = ap (λ x. key (truth x)) e
  key-equal (whole y) (whole z) e = ap (λ x. key (whole x)) e
  key-equal (text bs) (text cs) e = ap (λ x. key (text x)) e
  key-equal (string bs) (string cs) e = ap (λ x. key (string x)) e
  key-equal (sequence cs) (sequence ds) e = ap (λ bs. 23 ∷ bs) (keys-equal cs ds e)
  key-equal (tagged i c) (tagged j d) e = ap₂ (λ n bs. 24 ∷ n ∷ bs) e.0 (key-equal c d e.1)
  key-equal (typed t c) (typed u d) e = refl
  key-equal _ _ e = absurd e

  keys-equal : (cs ds : Contents) → AllEqual cs ds → keys cs ≡ keys ds
  keys-equal no_contents no_contents e = refl
  keys-equal (content_then c cs) (content_then d ds) e = ap₂ (λ xs ys. xs ++ ys) (key-equal c d e.0) (keys-equal cs ds e.1)
  keys-equal _ _ e = absurd e

column-equal : (o : SortOptions) (c d : Content) → EqualContents c d → key_with o c ≡ key_with o d
column-equal o null null e = refl
column-equal o null d e = absurd e
column-equal o c null e = absurd e
column-equal o c d e = ap (inverted o.descending) (key-equal c d e)

pub casts_keep_keys : CastsKeepKeys
casts_keep_keys = record {
  casts = λ o t c y one. ap (key_with o) one.same;
  equal = column-equal;
}

pub values_have_no_typed : ValuesHaveNoTyped
values_have_no_typed = no_typed
