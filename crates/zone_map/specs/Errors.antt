-- Why the program stops.
use Rattle.std.specs.Prelude.{◌≡◌, ℕ, List, codes, string_bytes}
use Rattle.zone_map.specs.declared.program_errors.About.TheVariants.{File}
use Rattle.zone_map.specs.declared.program_errors.ErrorText.{ErrorText}
use Rattle.zone_map.specs.declared.program_errors.ErrorText.TheVariants.{Fixed, Made}
use Rattle.zone_map.specs.declared.program_errors.ProgramError.{ProgramError}

-- what an error says
abbrev pub text_of : ErrorText → List ℕ
text_of (Fixed text) = text.now
text_of (Made text) = string_bytes text

-- no memory was left
pub record IsOutOfMemory (error : ProgramError) : Type 0 where
  pub about : error.about ≡ File
  pub says : text_of error.text ≡ codes "out of memory"
