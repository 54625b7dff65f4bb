-- The zones of both pieces are an index of the stream.
use Rattle.std.proofs.Common.{◌≡◌, ◌+◌, ◌++◌, ◌∙◌, ℕ, List, Bool, Option, Some, ap, append_assoc, arith, drop, drop_at, length, length-append, subst, sym}
use Rattle.csv_records.specs.Records.{records_of}
use Rattle.record_search.specs.Searched.{DescribeRows, DescribeRowsFully, has_row}
use Rattle.zone_index.specs.Laws.{IndexesAreJoined}
use Rattle.zone_index.specs.Taking.{IsTaken}
use Rattle.zone_index.specs.Zones.{IsIndexOf}
use Rattle.zone_index.specs.declared.zones.Zone.{Zone}
use Rattle.law_callers.proofs.joined_indexes.index_in_two.Goals as goal

in_two : (d : ℕ) (rows : List ℕ → Bool) (Describes : List ℕ → List (List ℕ) → Type 0) (start next : ℕ) (zones more all : List Zone) (header bytes text : List ℕ) (left : Option (List ℕ)) (t : IsTaken d bytes text left) → IndexesAreJoined d rows Describes
    → length header ≡ start → length (header ++ text) ≡ next → IsIndexOf d rows Describes start zones (header ++ text) → IsIndexOf d rows Describes next more ((header ++ text) ++ t.rest) → all ≡ zones ++ more → IsIndexOf d rows Describes start all (header ++ bytes)
in_two d rows Describes start next zones more all header bytes text left t law long end first others all_is =
    let front = header ++ text in
    let own : drop start front ≡ text = drop_at header text start long in
    let ends : records_of d (drop start front ++ t.rest) ≡ records_of d (drop start front) ++ records_of d t.rest =
    ap (λ (l : List ℕ). records_of d (l ++ t.rest)) own ∙ ap (records_of d) (sym t.parts) ∙ t.records ∙ ap (λ (l : List ℕ). records_of d l ++ records_of d t.rest) (sym own) in
    let behind : IsIndexOf d rows Describes (length front) more (front ++ t.rest) = subst (λ (n : ℕ). IsIndexOf d rows Describes n more (front ++ t.rest)) (sym end) others in
    let whole = law start zones more front t.rest (record { before = first; ends = ends; after = behind }) in
    let same : front ++ t.rest ≡ header ++ bytes = append_assoc header text t.rest ∙ ap (λ (l : List ℕ). header ++ l) (sym t.parts) in
    subst (λ (l : List ℕ). IsIndexOf d rows Describes start all l) same (subst (λ (zs : List Zone). IsIndexOf d rows Describes start zs (front ++ t.rest)) (sym all_is) whole)

pub returns-clause-right : goal.returns-clause-right
returns-clause-right g c = λ header bytes long is.
    let s = c.args.describer.now.schema.now in
    let text = c.take_records.new.text.items in
    let t = c.in_ok-take_records.ensures.taken bytes is in
    let end : length (header ++ text) ≡ c.in-Some.next = omega (arith, c.in-Some.ensures, c.len.ensures, c.take_records.new.text.ok.0, long, length-append header text) in
    in_two s.delimiter.byte (has_row s) (DescribeRows s) c.args.start c.in-Some.next c.in_ok-first.first.zones.items c.in_ok-others.others.zones.items _ header bytes text _ t c.indexes_are_joined.ensures long end
    (c.in_ok-first.ensures.right header text long (ap (λ (l : List ℕ). Some l) c.as_slice-front.ensures.value)) (c.in_ok-others.ensures.right (header ++ text) t.rest end t.is) c.in_ok-append.ensures.items

pub returns-clause-full : goal.returns-clause-full
returns-clause-full g c = λ header bytes long is.
    let s = c.args.describer.now.schema.now in
    let text = c.take_records.new.text.items in
    let t = c.in_ok-take_records.ensures.taken bytes is in
    let end : length (header ++ text) ≡ c.in-Some.next = omega (arith, c.in-Some.ensures, c.len.ensures, c.take_records.new.text.ok.0, long, length-append header text) in
    in_two s.delimiter.byte (has_row s) (DescribeRowsFully c.args.describer.now.bound_length s) c.args.start c.in-Some.next c.in_ok-first.first.zones.items c.in_ok-others.others.zones.items _ header bytes text _ t c.full_indexes_are_joined.ensures long end
    (c.in_ok-first.ensures.full header text long (ap (λ (l : List ℕ). Some l) c.as_slice-front.ensures.value)) (c.in_ok-others.ensures.full (header ++ text) t.rest end t.is) c.in_ok-append.ensures.items
