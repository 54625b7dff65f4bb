-- The words of indexes, from one place.
pub use Rattle.csv.specs.declared.parser.State.TheVariants.{StartRecord}
pub use Rattle.csv_columns.specs.Setups.{IsSchema}
pub use Rattle.csv_records.specs.Lemmas.RecordLaws.{EndsRecord}
pub use Rattle.csv_records.specs.Records.{records_of}
pub use Rattle.file_search.specs.Sought.{IsSetupOf, IsUnread}
pub use Rattle.zone_index.specs.Encoding.{HavePieces, zone_values}
pub use Rattle.zone_index.specs.Taking.{AreWhole}
pub use Rattle.zone_index.specs.declared.encoding.WriteError.TheVariants.{Pieces}
pub use Rattle.vortex_c.specs.EncodingAnswers.{AnswersEncoding, HasAnswer}
pub use Rattle.vortex_c.specs.IndexCuts.{HasNoWhole, HasNoZone, IsZoneCut}
pub use Rattle.vortex_c.specs.Indexes.{AreIndexBytes, AreRowZones, AreZonesBy, IsIndexBy, SaysWhyNoBytes, SaysWhyNoZones, SaysWhyNotIndexed, SaysWhyNotWritten}
pub use Rattle.vortex_c.specs.IndexZones.{IsWritten, index_of, index_zone, zones_cut}
pub use Rattle.vortex_c.specs.ToldZones.{AreToldZones, IsRefusedZone}
pub use Rattle.vortex_c.specs.declared.index_zones.IndexZone.{IndexZone}
