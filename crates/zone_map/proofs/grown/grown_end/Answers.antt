-- Why a file did not only grow.
use Rattle.std.proofs.Common.{◌≡◌, ◌≢◌, ◌≤◌, ◌<◌, ◌+◌, ◌⊎◌, ℕ, Bool, List, Option, Some, None, inl, inr, arith, drop, length, take, sym, ap, ◌∙◌, subst, true, false, eq-eqb}
use Rattle.std.proofs.lemmas.Bool.{false≢true}
use Rattle.std.proofs.lemmas.List.{length-take}
use Rattle.std.specs.Prelude.{MatchBool}
use Rattle.record_rows.specs.declared.schema.Schema.{Schema}
use Rattle.zone_index.specs.declared.zones.Zone.{Zone}
use Rattle.zone_index.specs.Sinks.{told}
use Rattle.zone_map.specs.Grown.{HasChanged, IsOtherZone, IsZoneAgain, ends_record, last_zone, part_end, part_of}
use Rattle.zone_map.proofs.grown.grown_end.Goals as goal
use Rattle.zone_map.proofs.grown.grown_end.Goals.{in-Some+in_ok-is_same-in-Some, in-None, else-is_same-via-then-is_same+else-ends_record, then-file_length-end-2, else-file_length-end-2, else-is_same-via-else-is_same}

other_last : (n : ℕ) (s : Schema) (size start : ℕ) (last : Option Zone) (zone : Zone) (bytes text : List ℕ) → last ≡ Some zone → text ≡ part_of start last bytes
    → ((before : List ℕ) → length before ≡ zone.first → IsOtherZone n s zone before text) → zone.first ≤ length bytes → HasChanged n s size start last bytes
other_last n s size start last zone bytes text e is other within =
    let P : Option Zone → Type 0 = λ z. text ≡ part_of start z bytes → HasChanged n s size start z bytes in
    subst P (sym e) (λ same. inr (inl (subst (IsOtherZone n s zone (take zone.first bytes)) same (other (take zone.first bytes) (omega (arith, within, length-take zone.first bytes)))))) is

goes_on : (n : ℕ) (s : Schema) (size start : ℕ) (last : Option Zone) (bytes text : List ℕ) → text ≡ part_of start last bytes → (part_end start last ≡ size → ⊥) → ends_record s.delimiter.byte text ≡ false → HasChanged n s size start last bytes
goes_on n s size start last bytes text is other ends = inr (inr (other, ap (ends_record s.delimiter.byte) (sym is) ∙ ends))

begins_within : (start size : ℕ) (last : Option Zone) (zone : Zone) → last ≡ Some zone → part_end start last ≤ size → zone.first ≤ size
begins_within start size last zone e within = let all : zone.first + zone.length ≤ size = subst (λ (z : Option Zone). part_end start z ≤ size) e within in omega arith

not_same : (n : ℕ) (s : Schema) (zone : Zone) (before text : List ℕ) (is_same : Bool) → is_same ≡ false → MatchBool is_same (IsZoneAgain n s zone before text) (IsOtherZone n s zone before text) → IsOtherZone n s zone before text
not_same n s zone before text is_same e h = subst (λ (b : Bool). MatchBool b (IsZoneAgain n s zone before text) (IsOtherZone n s zone before text)) e h

pub returns-clause-changed : goal.returns-clause-changed
returns-clause-changed g c = λ bytes is long.
    let n = c.args.describer.now.bound_length in
    let s = c.args.describer.now.schema.now in
    let last = last_zone c.args.index.now.zones.items in
    let end : c.end_of-end.result ≡ told (part_end c.args.index.now.start last) = rw (c.deref.ensures.value) at c.end_of-end.ensures.last in
    elim c.else-is_same.branch [
      | else-is_same-via-then-is_same+else-ends_record w ↦ elim w.if-file_length-end-2.branch [
        | then-file_length-end-2 u ↦ absurd (false≢true (sym w.if-ends_record.false ∙ u.value-is ∙ eq-eqb _ _ u.if-file_length-end-2.true))
        | else-file_length-end-2 u ↦
            let ends = rw u.deref-else-file_length-end-2.ensures.value at u.ends_record.ensures in
            goes_on n s c.args.file_length c.args.index.now.start last bytes c.in_ok-text.text.items (c.in_ok-text.ensures.text bytes is)
            (λ e. u.if-file_length-end-2.false (omega (arith, e, end, c.in_ok-text.ensures.within)))
            (sym ends ∙ sym u.value-is ∙ w.if-ends_record.false)
      ]
      | else-is_same-via-else-is_same w ↦ elim c.match-last.branch [
        | in-Some+in_ok-is_same-in-Some v ↦
            let at : last ≡ Some v.in-Some.zone.now = sym (rw (c.deref-2.ensures.value) at v.in-Some.ensures.value) in
            let same = rw (v.deref-in-Some.ensures.value) at v.in_ok-is_same-in-Some.ensures.same in
            other_last n s c.args.file_length c.args.index.now.start last v.in-Some.zone.now bytes c.in_ok-text.text.items at (c.in_ok-text.ensures.text bytes is)
            (λ before e. not_same n s v.in-Some.zone.now before c.in_ok-text.text.items v.in_ok-is_same-in-Some.is_same (sym v.is_same-is ∙ w.if-is_same.false) (same before e))
            (begins_within c.args.index.now.start (length bytes) last v.in-Some.zone.now at (omega (arith, end, long, c.in_ok-text.ensures.within)))
        | in-None v ↦ absurd (false≢true (sym w.if-is_same.false ∙ v.is_same-is))
      ]
    ]
