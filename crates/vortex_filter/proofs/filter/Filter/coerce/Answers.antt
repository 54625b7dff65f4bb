use Rattle.std.proofs.Common.{map}
use Rattle.vortex_dtype.specs.TypeOf.{type_of}
use Rattle.vortex_filter.specs.CoerceMemory.{tasks_of}
use Rattle.vortex_filter.proofs.CoerceMemorySteps.{memory_coerced}
use Rattle.vortex_filter.proofs.CoerceSteps.{fits_coerced, fitting_coerced, only_coerced, refused_coerced, same_coerced, unchanged_coerced, valid_coerced, value_coerced}
use Rattle.vortex_filter.proofs.filter.Filter.coerce.Goals as goal

pub returns : goal.returns
returns c =
    let nullable = c.nullable_is_the_same.ensures.1 in record {
      value = value_coerced (map type_of c.args.columns.now) c.args.self.now c.coerce_filter.result c.coerce_filter.ensures.made;
      fits = fits_coerced (map type_of c.args.columns.now) c.args.self.now nullable c.coerce_filter.result c.coerce_filter.ensures.made;
      same = same_coerced (map type_of c.args.columns.now) c.args.self.now nullable c.coerce_filter.result c.coerce_filter.ensures.made;
      unchanged = unchanged_coerced (map type_of c.args.columns.now) c.args.self.now c.coerce_filter.result c.coerce_filter.ensures.made;
      fitting = fitting_coerced (map type_of c.args.columns.now) c.args.self.now c.coerce_filter.result c.coerce_filter.ensures.made;
      valid = valid_coerced (map type_of c.args.columns.now) c.args.self.now c.coerce_filter.result c.coerce_filter.ensures.made;
      only = only_coerced (map type_of c.args.columns.now) c.args.self.now c.coerce_filter.result c.coerce_filter.ensures.made;
      refused = refused_coerced (map type_of c.args.columns.now) c.args.self.now c.coerce_filter.result c.coerce_filter.ensures.made;
      memory = memory_coerced (map type_of c.args.columns.now) (tasks_of c.args.self.now) c.coerce_filter.result c.coerce_filter.ensures.asked;
    }
