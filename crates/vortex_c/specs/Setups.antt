-- What callers are told of a setup that is guessed.
use Rattle.std.specs.Prelude.{◌≡◌, ◌⊎◌, ℕ, List}
use Rattle.setup_guessing.specs.Setups.{IsNoSetup}
use Rattle.vortex_c.specs.declared.search_faults.SearchFault.{SearchFault}
use Rattle.vortex_c.specs.declared.status.TheConstants.{BAD_BYTES, NO_MEMORY}
pub use Rattle.setup_guessing.specs.Setups.{IsGuessedText}

-- memory ran out, or the bytes that are given are of no setup
abbrev pub SaysWhyNotGuessed : List ℕ → SearchFault → SearchFault → ℕ → Type 0
SaysWhyNotGuessed setup before after status =
    ((status ≡ NO_MEMORY) × (after ≡ before)) ⊎ ((status ≡ BAD_BYTES) × IsNoSetup setup × (after ≡ record { place = 0; column = 2; reason = 0 }))
