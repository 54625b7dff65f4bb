-- What was written is read, and is right for the same files.
use Rattle.std.proofs.Common.{◌≡◌, ◌∙◌, ℕ, List, Bool, Result, Ok, Err, IfErr, IfOk, ap, refl, subst, sym}
use Rattle.std.proofs.lemmas.Result.{err_from_is_err_and}
use Rattle.record_search.specs.Laws.{IndexesAreReadBack}
use Rattle.record_search.specs.Searched.{IsRowIndex}
use Rattle.record_rows.specs.declared.schema.Schema.{Schema}
use Rattle.zone_index.specs.Encoding.{FitsEncoding, HavePieces, IndexValue, ZoneValue, index_encoding, index_value, wanted_of, zone_values}
use Rattle.zone_index.specs.declared.encoding.Index.{Index}
use Rattle.zone_index.specs.declared.encoding.ReadError.{ReadError}
use Rattle.zone_index.specs.declared.encoding.ReadError.TheVariants.{Memory}
use Rattle.zone_index.specs.declared.encoding.WriteError.{WriteError}
use Rattle.zone_index.specs.declared.encoding.WriteError.TheVariants.{Memory as NoMemory, Pieces}
use Rattle.law_callers.proofs.indexes.there_and_back.Goals as goal

right-again : (n : ℕ) (given : Index) (wanted : List Bool) (bytes : List ℕ) (read : Result Index ReadError) → IndexesAreReadBack → (pieces : List (List (List ℕ))) × FitsEncoding n (index_value given) pieces × (bytes ≡ index_encoding n (index_value given) pieces)
    → IfOk read (λ kept. (m : ℕ) (x : IndexValue) (pieces : List (List (List ℕ))) → FitsEncoding m x pieces → bytes ≡ index_encoding m x pieces → index_value kept ≡ wanted_of wanted x pieces)
    → IfOk read (λ kept. (s : Schema) (file : List ℕ) → IsRowIndex s given.start given.zones.items file → IsRowIndex s kept.start kept.zones.items file)
right-again n given wanted bytes (Ok kept) law written read = λ s file right. law s n written.0 wanted given kept file written.1 (read n (index_value given) written.0 written.1 written.2) right
right-again n given wanted bytes (Err e) law written read = tt

same-start : (n : ℕ) (given : Index) (wanted : List Bool) (bytes : List ℕ) (read : Result Index ReadError) → (pieces : List (List (List ℕ))) × FitsEncoding n (index_value given) pieces × (bytes ≡ index_encoding n (index_value given) pieces)
    → IfOk read (λ kept. (m : ℕ) (x : IndexValue) (pieces : List (List (List ℕ))) → FitsEncoding m x pieces → bytes ≡ index_encoding m x pieces → index_value kept ≡ wanted_of wanted x pieces)
    → IfOk read (λ kept. kept.start ≡ given.start)
same-start n given wanted bytes (Ok kept) written read = ap (λ (x : IndexValue). x.start) (read n (index_value given) written.0 written.1 written.2)
same-start n given wanted bytes (Err e) written read = tt

read-memory : (n : ℕ) (given : Index) (bytes : List ℕ) (read : Result Index ReadError) → (pieces : List (List (List ℕ))) × FitsEncoding n (index_value given) pieces × (bytes ≡ index_encoding n (index_value given) pieces)
    → IfErr read (λ e. (m : ℕ) (x : IndexValue) (pieces : List (List (List ℕ))) → FitsEncoding m x pieces → bytes ≡ index_encoding m x pieces → e ≡ Memory) → IfErr read (λ e. e ≡ Memory)
read-memory n given bytes (Ok kept) written read = tt
read-memory n given bytes (Err e) written read = read n (index_value given) written.0 written.1 written.2

no-pieces : (n : ℕ) (zones : List ZoneValue) (e : WriteError) → (e ≡ Pieces → (pieces : List (List (List ℕ))) → ¬ (HavePieces n zones pieces)) → (pieces : List (List (List ℕ))) → HavePieces n zones pieces → e ≡ NoMemory
no-pieces n zones NoMemory why pieces have = refl
no-pieces n zones Pieces why pieces have = absurd (why refl pieces have)

pub returns-in_err-bytes-clause-written : goal.returns-in_err-bytes-clause-written
returns-in_err-bytes-clause-written c =
    let p = err_from_is_err_and c.from_residual.result c.from_residual.ensures.1 in
    rw (p.1, p.2) (no-pieces c.args.columns (zone_values c.args.index.now.zones.items) c.in_err-bytes.field-0.0 c.in_err-bytes.ensures.refused)

pub returns-clause-read : goal.returns-clause-read
returns-clause-read c =
    read-memory c.args.columns c.args.index.now c.in_ok-bytes.bytes.items c.read_wanted.result c.in_ok-bytes.ensures.written
    (subst (λ (b : List ℕ). IfErr c.read_wanted.result (λ e. (m : ℕ) (x : IndexValue) (pieces : List (List (List ℕ))) → FitsEncoding m x pieces → b ≡ index_encoding m x pieces → e ≡ Memory)) c.deref.ensures.value c.read_wanted.ensures.memory)

pub returns-clause-right : goal.returns-clause-right
returns-clause-right c =
    right-again c.args.columns c.args.index.now c.args.wanted.now c.in_ok-bytes.bytes.items c.read_wanted.result c.indexes_are_read_back.ensures c.in_ok-bytes.ensures.written
    (subst (λ (b : List ℕ). IfOk c.read_wanted.result (λ kept. (m : ℕ) (x : IndexValue) (pieces : List (List (List ℕ))) → FitsEncoding m x pieces → b ≡ index_encoding m x pieces → index_value kept ≡ wanted_of c.args.wanted.now x pieces)) c.deref.ensures.value c.read_wanted.ensures.same)

pub returns-clause-start : goal.returns-clause-start
returns-clause-start c =
    same-start c.args.columns c.args.index.now c.args.wanted.now c.in_ok-bytes.bytes.items c.read_wanted.result c.in_ok-bytes.ensures.written
    (subst (λ (b : List ℕ). IfOk c.read_wanted.result (λ kept. (m : ℕ) (x : IndexValue) (pieces : List (List (List ℕ))) → FitsEncoding m x pieces → b ≡ index_encoding m x pieces → index_value kept ≡ wanted_of c.args.wanted.now x pieces)) c.deref.ensures.value c.read_wanted.ensures.same)
