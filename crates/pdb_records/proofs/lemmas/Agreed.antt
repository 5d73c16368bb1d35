-- What is read of the bytes of a record is what the grammar assigns to them.
pub use Rattle.pdb_records.proofs.GrammarLaws.{record_agrees}
pub use Rattle.pdb_records.proofs.IdLaws.{ids_agree}
