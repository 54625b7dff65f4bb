use Rattle.vortex_dtype.specs.Lemmas.TypeLevels.{type_of-Null, type_of-Bool, type_of-Primitive, type_of-Utf8, type_of-Binary, type_of-List, type_of-FixedSizeList, type_of-Map, type_of-Struct, type_of-Union, type_of-Variant, type_of-Extension}
use Rattle.vortex_dtype.proofs.laws.trees_by_variant.Goals as goal

pub returns : goal.returns
returns c = record {
  null = type_of-Null;
  bool = type_of-Bool;
  primitive = type_of-Primitive;
  utf8 = type_of-Utf8;
  binary = type_of-Binary;
  list = type_of-List;
  fixed_size_list = type_of-FixedSizeList;
  map = type_of-Map;
  struct = type_of-Struct;
  union = type_of-Union;
  variant = type_of-Variant;
  extension = type_of-Extension;
}
