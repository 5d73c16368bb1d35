use Rattle.std.proofs.Common.{inl}
use Rattle.pdbdump_rows.proofs.lemmas.Rows.{lines_none}
use Rattle.pdbdump_tables.proofs.breakpad_frames.list_breakpad_frames.Goals as goal

pub returns-in_err-table : goal.returns-in_err-table
returns-in_err-table g c = inl (lines_none _ _)

pub returns-in_err-map : goal.returns-in_err-map
returns-in_err-map g c = inl (lines_none _ _)

pub returns-in_err-programs : goal.returns-in_err-programs
returns-in_err-programs g c = inl (lines_none _ _)
