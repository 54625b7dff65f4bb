-- The words of the clauses of columns of keys, from one place.
pub use Rattle.column_keys.specs.Answers.{AreColumnsOfKeys, AreCountsOfKeys}
pub use Rattle.vortex_c.specs.KeyColumns.{SaysWhyNoColumns, fault_of_keys, status_of_keys}
