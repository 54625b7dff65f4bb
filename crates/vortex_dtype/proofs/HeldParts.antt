-- What struct and union types hold: looked up in their trees, and part by part.
use Rattle.std.proofs.Common.{◌≡◌, Some, map, sym, ap, ◌∙◌, rules}
use Rattle.vortex_dtype.specs.declared.nullability.Nullability.{Nullability}
use Rattle.vortex_dtype.specs.declared.types.DType.{Struct, Union, the_lemmas}
use Rattle.vortex_dtype.specs.declared.types.StructFields.{StructFields}
use Rattle.vortex_dtype.specs.declared.types.UnionVariants.{UnionVariants}
use Rattle.vortex_dtype.specs.Parts.{fields_in, variants_in}
use Rattle.vortex_dtype.specs.Lemmas.TypeLaws.{fields_in-struct_type_of, variants_in-union_type_of}
use Rattle.vortex_dtype.specs.Lemmas.TypeLevels.{type_of-Struct, type_of-Union}
use Rattle.vortex_dtype.specs.TypeOf.{type_of, fields_of, variants_of}

pub fields_in-Struct : (f : StructFields) (n : Nullability) → Some (fields_of f) ≡ fields_in (type_of (Struct f n))
fields_in-Struct f n = sym (ap fields_in (type_of-Struct f n) ∙ fields_in-struct_type_of (fields_of f) n)

pub variants_in-Union : (v : UnionVariants) (n : Nullability) → Some (variants_of v) ≡ variants_in (type_of (Union v n))
variants_in-Union v n = sym (ap variants_in (type_of-Union v n) ∙ variants_in-union_type_of (variants_of v) n)

pub variants_of-names : (v : UnionVariants) → (variants_of v).names ≡ v.names.items
variants_of-names v = search (rules, the_lemmas)

pub variants_of-types : (v : UnionVariants) → (variants_of v).types ≡ map type_of v.dtypes.items
variants_of-types v = search (rules, the_lemmas)

pub variants_of-type_ids : (v : UnionVariants) → (variants_of v).type_ids ≡ v.type_ids.items
variants_of-type_ids v = search (rules, the_lemmas)

pub ruleset type_parts = (fields_in-Struct, variants_in-Union, variants_of-names, variants_of-types, variants_of-type_ids)
