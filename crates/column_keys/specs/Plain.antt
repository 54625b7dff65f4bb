-- What a cell has for its key.
use Rattle.vortex_row.specs.Plain.{plain_content}
use Rattle.vortex_value.specs.Values.Content.{Content, string}
use Rattle.column_keys.specs.declared.values.CellValue.{CellValue}
use Rattle.column_keys.specs.declared.values.CellValue.TheVariants.{Plain, Wide}

-- the content
abbrev pub cell_content : CellValue → Content
cell_content (Plain value) = plain_content value
cell_content (Wide bytes) = string bytes
