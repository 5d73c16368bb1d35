-- A file that stays open for questions.
use Rattle.pdb_container.specs.OpenTables.{AreOf}
use Rattle.pdb_msf.specs.File.{stream_of}
use Rattle.pdb_msf.specs.Source.{State, IsFixed}
use Rattle.pdbdump_cli.specs.declared.answers.AskedFile.{AskedFile}

-- The open tables are those of the file, if its bytes are fixed.
abbrev pub IsReady : {S : Type 0} → (S → State) → AskedFile S → Type 0
IsReady state asked = IsFixed (state asked.file.source)
    → AreOf (stream_of (state asked.file.source).bytes asked.file.head) asked.tables
