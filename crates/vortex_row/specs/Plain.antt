-- What a plain value is: its content.
use Rattle.std.specs.Prelude.{pos}
use Rattle.vortex_value.specs.Values.Content.{Content, null, truth, whole, text, string}
use Rattle.vortex_row.specs.declared.plain.PlainValue.{PlainValue}
use Rattle.vortex_row.specs.declared.plain.PlainValue.TheVariants.{Null, Bool, Unsigned, Signed, Utf8, Binary}

-- the content of a plain value
abbrev pub plain_content : PlainValue → Content
plain_content Null = null
plain_content (Bool b) = truth b
plain_content (Unsigned n) = whole (pos n)
plain_content (Signed z) = whole z
plain_content (Utf8 bs) = text bs.now
plain_content (Binary bs) = string bs.now
