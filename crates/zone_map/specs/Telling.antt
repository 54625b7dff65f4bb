-- What is told of a search by an index.
use Rattle.std.specs.Prelude.{◌++◌, ℕ, List, [], Option, None, Some, codes, sum_by}
use Rattle.std.specs.Fmt.{decimal}
use Rattle.zone_index.specs.declared.read_at.Asked.{Asked}
use Rattle.zone_index.specs.declared.search.Tally.{Tally}
use Rattle.zone_map.specs.declared.telling.Told.{Told}

-- how many bytes were asked for
abbrev pub asked_length : List Asked → ℕ
asked_length asked = sum_by (λ (a : Asked). a.length) asked

-- what became of the zones; of a count, how many of them were read
abbrev pub zones_text : Option Tally → ℕ → List ℕ
zones_text (Some tally) read = codes ", skipped " ++ (decimal tally.skipped ++ (codes ", copied " ++ (decimal tally.copied ++ (codes ", searched " ++ decimal tally.searched))))
zones_text None read = codes ", searched " ++ decimal read

-- how many bytes are new, if some are
abbrev pub new_text : Option ℕ → List ℕ
new_text (Some bytes) = codes ", new bytes " ++ decimal bytes
new_text None = []

abbrev pub told_text : Told → List ℕ
told_text t =
    (((codes "zones " ++ decimal t.zones) ++ zones_text t.tally t.zones_read) ++ new_text t.new_bytes)
    ++ (codes ", bytes read " ++ (decimal t.bytes ++ (codes ", index bytes " ++ decimal t.index_bytes)))
