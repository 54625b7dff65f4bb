-- The two strings are the keys, and their order is that of the contents in the column.
use Rattle.std.proofs.Common.{◌≡◌, ℕ, List, [], ◌++◌, nat_cmp, ap, ap₂, ◌∙◌}
use Rattle.std.specs.Cmp.Lexicographic.{slice_cmp}
use Rattle.vortex_value.specs.Values.Refs.{ref_content}
use Rattle.law_callers.proofs.key_laws.order_by_keys.Goals as goal

key_of : (old now key : List ℕ) → old ≡ [] → now ≡ old ++ key → now ≡ key
key_of old now key h e = e ∙ ap (λ xs. xs ++ key) h

pub returns : goal.returns
returns c = λ r e.
    let x = ref_content c.args.x in
    let y = ref_content c.args.y in
    let first = c.as_slice.ensures.value ∙ key_of _ _ _ c.new-first.ensures.items c.in_ok-append_key.ensures.appended in
    let second = c.as_slice-2.ensures.value ∙ key_of _ _ _ c.new-second.ensures.items c.in_ok-append_key-2.ensures.appended in
    c.compare_keys.ensures ∙ ap₂ (slice_cmp nat_cmp) first second
    ∙ c.keys_are_ordered.ensures.columns c.args.options x y c.in_ok-append_key.ensures.held c.in_ok-append_key-2.ensures.held
    ∙ c.order_is_content_order.ensures.borrowed c.args.options c.args.x c.args.y r e
