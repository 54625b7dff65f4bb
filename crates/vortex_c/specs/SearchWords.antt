-- The words of searches, from one place.
pub use Rattle.file_search.specs.Plans.{AreBlocksFor}
pub use Rattle.file_search.specs.declared.index_bytes.PlanError.TheVariants.{BadRoot}
pub use Rattle.vortex_filter.specs.Formula.{formula}
pub use Rattle.zone_index.specs.Encoding.{root_value}
pub use Rattle.zone_scans.specs.declared.ranges.ByteRange.{ByteRange}
pub use Rattle.zone_index.specs.declared.errors.Refusal.{Refusal}
pub use Rattle.zone_index.specs.declared.errors.SearchError.TheVariants.{Memory, Refused}
pub use Rattle.vortex_c.specs.EncodingAnswers.{AnswersEncoding, HasAnswer}
pub use Rattle.vortex_c.specs.SearchFaults.{code_of_cause, code_of_fault, column_of_cause, fault_of_plan, fault_of_search, fault_of_sought, status_of_plan, status_of_search, status_of_sought}
pub use Rattle.vortex_c.specs.Searches.{AreFoundBefore, AreFoundBy, AreSomeFound, IsFoundIn, IsPartIn, IsPartsOf, IsRootLength, IsSetupOfRoot, IsToldPlan, SaysWhyNoBlocks, SaysWhyNoPlan, SaysWhyNoRoot, SaysWhyNotFound, SaysWhyNotRead, SaysWhyRefused, TellsFound, index_parts, purpose_of, searched_at, zone_parts}
pub use Rattle.vortex_c.specs.declared.searches.ZoneParts.{ZoneParts}
