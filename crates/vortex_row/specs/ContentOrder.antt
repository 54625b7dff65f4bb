-- A total order of contents: that of `order` wherever that has one, and by the kind or the id elsewhere.
use Rattle.std.specs.Prelude.{ℕ}
use Rattle.std.specs.Cmp.Lexicographic.{slice_cmp}
use Rattle.std.specs.Ordering.{nat_cmp, int_cmp, ordering_then}
use Rattle.std.specs.declared.cmp.Ordering.{Ordering}
use Rattle.std.specs.declared.cmp.Ordering.TheVariants.{Less, Equal, Greater}
use Rattle.vortex_value.specs.Order.{truth_cmp}
use Rattle.vortex_value.specs.Values.Content.{Content, null, truth, whole, text, string, sequence, tagged, typed, Contents, no_contents, content_then}

-- the place of a content's kind among the kinds
abbrev pub kind_place : Content → ℕ
kind_place null = 0
kind_place (truth b) = 1
kind_place (whole z) = 2
kind_place (text bs) = 3
kind_place (string bs) = 4
kind_place (sequence cs) = 5
kind_place (tagged id c) = 6
kind_place (typed t c) = 7

-- the order of two contents: of one kind as `order` has it, tagged children by their ids first, and else by their kinds;
-- typed children, which have no key of their own, are all Equal
abbrev mutual
  pub content_cmp : Content → Content → Ordering
  content_cmp (truth b) (truth c) = truth_cmp b c
  content_cmp (whole z) (whole w) = int_cmp z w
  content_cmp (text bs) (text cs) = slice_cmp nat_cmp bs cs
  content_cmp (string bs) (string cs) = slice_cmp nat_cmp bs cs
  content_cmp (sequence cs) (sequence ds) = contents_cmp cs ds
  content_cmp (tagged i c) (tagged j d) = ordering_then (nat_cmp i j) (content_cmp c d)
  content_cmp c d = nat_cmp (kind_place c) (kind_place d)

  -- the first place whose order is not Equal decides; without one the shorter is below
  pub contents_cmp : Contents → Contents → Ordering
  contents_cmp no_contents no_contents = Equal
  contents_cmp no_contents (content_then d ds) = Less
  contents_cmp (content_then c cs) no_contents = Greater
  contents_cmp (content_then c cs) (content_then d ds) = ordering_then (content_cmp c d) (contents_cmp cs ds)
