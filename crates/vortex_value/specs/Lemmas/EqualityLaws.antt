-- Laws of equality: it is an equivalence, plain equality without typed children, and what its test decides.
-- It stands here because trait implementations and crates above cite it.
use Rattle.std.proofs.Common.{◌≡◌, ◌&&◌, Bool, true, false, true≢false, refl, sym, ap, ◌∙◌, Decides}
use Rattle.std.specs.Cmp.{IsEquivalence, first_so, second_so}
use Rattle.std.proofs.lemmas.Bool.{and_from}
use Rattle.std.proofs.lemmas.Bool.Decides.{Decides-eqb, Decides-int_eq, Decides-like, same_from_decides}
use Rattle.std.proofs.lemmas.Slice.Eq.{bytes_eq-Decides}
use Rattle.vortex_dtype.specs.Lemmas.TypeLaws.{tree_eq-Decides}
use Rattle.vortex_dtype.specs.TypeTree.{TypeTree, Same, erase}
use Rattle.vortex_value.specs.Values.Content.{Content, null, truth, whole, text, string, sequence, tagged, typed, Contents, no_contents, content_then}
use Rattle.vortex_value.specs.Equality.{EqualContents, AllEqual, HasNoTyped, HaveNoTyped, same_truth, same_type, equal, all_equal, EqualityIsAnEquivalence, EqualityAgreesWithoutTyped, EqualityIsDecided}

mutual
  pub equal-itself : (c : Content) → EqualContents c c
  equal-itself null = tt
  equal-itself (truth b) = refl
  equal-itself (whole z) = refl
  equal-itself (text bs) = refl
  equal-itself (string bs) = refl
  equal-itself (sequence cs) = all-equal-itself cs
  equal-itself (tagged i c) = (refl, equal-itself c)
  equal-itself (typed t c) = (refl, equal-itself c)

  pub all-equal-itself : (cs : Contents) → AllEqual cs cs
  all-equal-itself no_contents = tt
  all-equal-itself (content_then c cs) = (equal-itself c, all-equal-itself cs)

mutual
  pub equal-back : (c d : Content) → EqualContents c d → EqualContents d c
  equal-back null null h = tt
  equal-back (truth b) (truth c) h = sym h
  equal-back (whole z) (whole w) h = sym h
  equal-back (text bs) (text cs) h = sym h
  equal-back (string bs) (string cs) h = sym h
  equal-back (sequence cs) (sequence ds) h = all-equal-back cs ds h
  equal-back (tagged i c) (tagged j d) h = (sym h.0, equal-back c d h.1)
  equal-back (typed t c) (typed u d) h = (sym h.0, equal-back c d h.1)
  equal-back _ _ h = absurd h

  pub all-equal-back : (cs ds : Contents) → AllEqual cs ds → AllEqual ds cs
  all-equal-back no_contents no_contents h = tt
  all-equal-back (content_then c cs) (content_then d ds) h = (equal-back c d h.0, all-equal-back cs ds h.1)
  all-equal-back _ _ h = absurd h

mutual
  pub equal-onward : (c d e : Content) → EqualContents c d → EqualContents d e → EqualContents c e
  equal-onward null null e h k = k
  equal-onward (truth b) (truth c) e h k = rw h k
  equal-onward (whole z) (whole w) e h k = rw h k
  equal-onward (text bs) (text cs) e h k = rw h k
  equal-onward (string bs) (string cs) e h k = rw h k
  equal-onward (sequence cs) (sequence ds) (sequence es) h k = all-equal-onward cs ds es h k
  equal-onward (sequence cs) (sequence ds) _ h k = absurd k
  equal-onward (tagged i c) (tagged j d) (tagged l e) h k = (h.0 ∙ k.0, equal-onward c d e h.1 k.1)
  equal-onward (tagged i c) (tagged j d) _ h k = absurd k
  equal-onward (typed t c) (typed u d) (typed v e) h k = (h.0 ∙ k.0, equal-onward c d e h.1 k.1)
  equal-onward (typed t c) (typed u d) _ h k = absurd k
  equal-onward _ _ _ h k = absurd h

  pub all-equal-onward : (cs ds es : Contents) → AllEqual cs ds → AllEqual ds es → AllEqual cs es
  all-equal-onward no_contents no_contents es h k = k
  all-equal-onward (content_then c cs) (content_then d ds) (content_then e es) h k = (equal-onward c d e h.0 k.0, all-equal-onward cs ds es h.1 k.1)
  all-equal-onward (content_then c cs) (content_then d ds) no_contents h k = absurd k
  all-equal-onward _ _ es h k = absurd h

pub equality_is_an_equivalence : EqualityIsAnEquivalence
equality_is_an_equivalence = record { reflexive = equal-itself; symmetric = equal-back; transitive = equal-onward }

mutual
  pub equal-one : (c d : Content) → HasNoTyped c → EqualContents c d → c ≡ d
  equal-one null null n h = refl
  equal-one (truth b) (truth c) n h = ap truth h
  equal-one (whole z) (whole w) n h = ap whole h
  equal-one (text bs) (text cs) n h = ap text h
  equal-one (string bs) (string cs) n h = ap string h
  equal-one (sequence cs) (sequence ds) n h = ap sequence (all-equal-one cs ds n h)
  equal-one (tagged i c) (tagged j d) n h = rw (h.0, equal-one c d n h.1)
  equal-one (typed t c) d n h = absurd n
  equal-one _ _ n h = absurd h

  pub all-equal-one : (cs ds : Contents) → HaveNoTyped cs → AllEqual cs ds → cs ≡ ds
  all-equal-one no_contents no_contents n h = refl
  all-equal-one (content_then c cs) (content_then d ds) n h = rw (equal-one c d n.0 h.0, all-equal-one cs ds n.1 h.1)
  all-equal-one _ _ n h = absurd h

pub equality_agrees_without_typed : EqualityAgreesWithoutTyped
equality_agrees_without_typed c d n = (equal-one c d n, λ e. rw e (equal-itself d))

pub same_type-Decides : (t u : TypeTree) → Decides (same_type t u) (Same t u)
same_type-Decides t u = tree_eq-Decides (erase t) (erase u)

truth-same : (b c : Bool) → same_truth b c ≡ true → b ≡ c
truth-same true true h = refl
truth-same true false h = sym h
truth-same false true h = h
truth-same false false h = refl

truth-itself : (b : Bool) → same_truth b b ≡ true
truth-itself true = refl
truth-itself false = refl

mutual
  pub contents-from_equal : (c d : Content) → equal c d ≡ true → EqualContents c d
  contents-from_equal null null h = tt
  contents-from_equal (truth b) (truth c) h = truth-same b c h
  contents-from_equal (whole z) (whole w) h = (Decides-int_eq z w).0 h
  contents-from_equal (text bs) (text cs) h = (bytes_eq-Decides bs cs).0 h
  contents-from_equal (string bs) (string cs) h = (bytes_eq-Decides bs cs).0 h
  contents-from_equal (sequence cs) (sequence ds) h = all-from_equal cs ds h
  contents-from_equal (tagged i c) (tagged j d) h = ((Decides-eqb i j).0 (first_so _ _ h), contents-from_equal c d (second_so _ _ h))
  contents-from_equal (typed t c) (typed u d) h = ((same_type-Decides t u).0 (first_so _ _ h), contents-from_equal c d (second_so _ _ h))
  contents-from_equal _ _ h = absurd (true≢false (sym h))

  pub all-from_equal : (cs ds : Contents) → all_equal cs ds ≡ true → AllEqual cs ds
  all-from_equal no_contents no_contents h = tt
  all-from_equal (content_then c cs) (content_then d ds) h = (contents-from_equal c d (first_so _ _ h), all-from_equal cs ds (second_so _ _ h))
  all-from_equal _ _ h = absurd (true≢false (sym h))

mutual
  pub equal-from_contents : (c d : Content) → EqualContents c d → equal c d ≡ true
  equal-from_contents null null h = refl
  equal-from_contents (truth b) (truth c) h = rw h (truth-itself c)
  equal-from_contents (whole z) (whole w) h = (Decides-int_eq z w).1 h
  equal-from_contents (text bs) (text cs) h = (bytes_eq-Decides bs cs).1 h
  equal-from_contents (string bs) (string cs) h = (bytes_eq-Decides bs cs).1 h
  equal-from_contents (sequence cs) (sequence ds) h = equal-from_all cs ds h
  equal-from_contents (tagged i c) (tagged j d) h = and_from _ _ ((Decides-eqb i j).1 h.0) (equal-from_contents c d h.1)
  equal-from_contents (typed t c) (typed u d) h = and_from _ _ ((same_type-Decides t u).1 h.0) (equal-from_contents c d h.1)
  equal-from_contents _ _ h = absurd h

  pub equal-from_all : (cs ds : Contents) → AllEqual cs ds → all_equal cs ds ≡ true
  equal-from_all no_contents no_contents h = refl
  equal-from_all (content_then c cs) (content_then d ds) h = and_from _ _ (equal-from_contents c d h.0) (equal-from_all cs ds h.1)
  equal-from_all _ _ h = absurd h

pub equal-Decides : (c d : Content) → Decides (equal c d) (EqualContents c d)
equal-Decides c d = (contents-from_equal c d, equal-from_contents c d)

pub equality_is_decided : EqualityIsDecided
equality_is_decided c d = equal-Decides c d

-- the test of typed contents passes exactly if the types are the same and the contents equal
pub typed_equal-Decides : (t u : TypeTree) (c d : Content) → Decides (same_type t u && equal c d) (Same t u × EqualContents c d)
typed_equal-Decides t u c d = (
  λ h. ((same_type-Decides t u).0 (first_so _ _ h), contents-from_equal c d (second_so _ _ h)),
  λ h. and_from _ _ ((same_type-Decides t u).1 h.0) (equal-from_contents c d h.1),
)

-- the test is an equivalence
pub equal-equiv : IsEquivalence equal
equal-equiv = record {
  refl = λ c. equal-from_contents c c (equal-itself c);
  symm = λ c d. same_from_decides (equal c d) (equal d c) (equal-Decides c d) (Decides-like (equal d c) (equal-back d c) (equal-back c d) (equal-Decides d c));
  congr = λ c d e h. let same = contents-from_equal c d h in
      same_from_decides (equal c e) (equal d e) (equal-Decides c e) (Decides-like (equal d e) (λ k. equal-onward c d e same k) (λ k. equal-onward d c e (equal-back c d same) k) (equal-Decides d e));
}
