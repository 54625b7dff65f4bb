-- The numbers that contents store.
use Rattle.std.specs.Prelude.{◌≡◌, ◌⊎◌, ℤ}
use Rattle.arrow_columns.specs.Formats.{IsSound, IsValueOf}
use Rattle.arrow_columns.specs.declared.formats.Format.{Format}
use Rattle.arrow_columns.specs.declared.kinds.Kind.{Kind}
use Rattle.arrow_columns.specs.declared.kinds.Kind.TheVariants.{Logical}
use Rattle.column_cells.specs.Contents.{stored_content}
use Rattle.vortex_value.specs.Values.Content.{Content, null}

-- the content stores the number of a value of the format
pub record StoresNumber (format : Format) (c : Content) (z : ℤ) : Type 0 where
  pub sound : IsSound format
  pub value : IsValueOf format z
  pub is : c ≡ stored_content format z

-- the content is null, or stores the number of a value of the kind, if that is of a logical type
abbrev pub HasContentOf : Kind → Content → Type 0
HasContentOf (Logical format) c = (c ≡ null) ⊎ ((z : ℤ) × StoresNumber format c z)
HasContentOf _ c = Unit {0}
