-- What was written is read, unless memory runs out.
use Rattle.std.proofs.Common.{◌≡◌, ℕ, List, Bool, Result, Ok, Err, IfErr, IfOk, refl}
use Rattle.std.proofs.lemmas.Result.{err_from_is_err_and}
use Rattle.zone_index.specs.Encoding.{FitsEncoding, IndexValue, index_encoding, index_value, wanted_of}
use Rattle.zone_index.specs.EncodingReading.{Fails, Gives}
use Rattle.zone_index.specs.declared.encoding.Index.{Index}
use Rattle.zone_index.specs.declared.encoding.ReadError.{ReadError}
use Rattle.zone_index.specs.declared.encoding.ReadError.TheVariants.{Fault, Memory}
use Rattle.law_callers.proofs.indexes.read_wanted.Goals as goal

is_value : (x : IndexValue) (read : Result Index ReadError) → Gives index_value read (Ok x) → IfOk read (λ kept. index_value kept ≡ x)
is_value x (Ok kept) gives = cc
is_value x (Err e) gives = tt

wanted_back : (wanted : List Bool) (bytes : List ℕ) (read : Result Index ReadError)
    → ((n : ℕ) (x : IndexValue) (pieces : List (List (List ℕ))) → FitsEncoding n x pieces → bytes ≡ index_encoding n x pieces → Gives index_value read (Ok (wanted_of wanted x pieces)))
    → IfOk read (λ kept. (n : ℕ) (x : IndexValue) (pieces : List (List (List ℕ))) → FitsEncoding n x pieces → bytes ≡ index_encoding n x pieces → index_value kept ≡ wanted_of wanted x pieces)
wanted_back wanted bytes (Ok kept) h = λ n x pieces fits e. is_value (wanted_of wanted x pieces) (Ok kept) (h n x pieces fits e)
wanted_back wanted bytes (Err e) h = tt

only_memory : (x : IndexValue) (e : ReadError) → Fails e (Ok x) → e ≡ Memory
only_memory x Memory h = refl
only_memory x (Fault f) h = absurd cc

memory_back : (wanted : List Bool) (bytes : List ℕ) (read : Result Index ReadError)
    → ((n : ℕ) (x : IndexValue) (pieces : List (List (List ℕ))) → FitsEncoding n x pieces → bytes ≡ index_encoding n x pieces → Gives index_value read (Ok (wanted_of wanted x pieces)))
    → IfErr read (λ e. (n : ℕ) (x : IndexValue) (pieces : List (List (List ℕ))) → FitsEncoding n x pieces → bytes ≡ index_encoding n x pieces → e ≡ Memory)
memory_back wanted bytes (Ok kept) h = tt
memory_back wanted bytes (Err e) h = λ n x pieces fits is. only_memory (wanted_of wanted x pieces) e (h n x pieces fits is)

pub returns-in_err-root-clause-memory : goal.returns-in_err-root-clause-memory
returns-in_err-root-clause-memory c =
    let p = err_from_is_err_and c.from_residual.result c.from_residual.ensures.1 in
    rw (p.1, p.2) (λ n x pieces fits e. c.in_err-root.ensures.memory n x pieces fits e)

pub returns-clause-same : goal.returns-clause-same
returns-clause-same c = wanted_back c.args.wanted.now c.args.bytes.now c.read_blocks.result (λ n x pieces fits e. let root = c.in_ok-root.ensures.only n x pieces fits e in c.read_blocks.ensures.only n x pieces fits root.0 root.1)

pub returns-clause-memory : goal.returns-clause-memory
returns-clause-memory c = memory_back c.args.wanted.now c.args.bytes.now c.read_blocks.result (λ n x pieces fits e. let root = c.in_ok-root.ensures.only n x pieces fits e in c.read_blocks.ensures.only n x pieces fits root.0 root.1)
