-- What is written of columns, merged and read stays right.
use Rattle.std.proofs.Common.{◌∙◌, ℕ, List, sym, subst}
use Rattle.column_cells.specs.Types.{type_of_kind}
use Rattle.vortex_dtype.specs.TypeTree.{TypeTree}
use Rattle.vortex_cells.specs.Cells.{Cell}
use Rattle.named_statistics.specs.Heads.{head_of}
use Rattle.std.proofs.lemmas.List.{append_cancel_left}
use Rattle.statistics_bytes.specs.Encoding.{EncodingsTellStatistics, encoding}
use Rattle.vortex_statistics.specs.Statistics.{AreRight, Known, known}
use Rattle.column_statistics.specs.Encodings.{IsEncodingAs}
use Rattle.column_statistics.specs.Laws.{AreRightBytes, EncodingsStayRight}

module _ (tell : EncodingsTellStatistics) where
  right_read : (t : TypeTree) (bytes : List ℕ) (cells : List Cell) (s : Known) → AreRightBytes t bytes cells → IsEncodingAs t bytes s → AreRight s cells
  right_read t bytes cells s h is =
      let same = append_cancel_left (head_of t) (encoding h.statistics) (encoding s) (sym h.is_encoding.is ∙ is.is) in
      subst (λ k. AreRight k cells) (tell t h.statistics s h.is_encoding.of_type is.of_type same) h.right

  pub stay_right : EncodingsStayRight
  stay_right = record {
    written = λ column n bytes h. record {
      statistics = known h.statistics;
      is_encoding = record { of_type = h.of_type; is = h.is };
      right = h.right;
    };
    merged = λ kind one other bytes cells others h k is. record {
      statistics = _;
      is_encoding = is.both.is_encoding;
      right = is.together cells others (right_read (type_of_kind kind) one cells is.first h is.is_first.is_encoding) (right_read (type_of_kind kind) other others is.second k is.is_second.is_encoding);
    };
    read = right_read;
  }
