-- What can be inconsistent in a file.
use Rattle.std.specs.Prelude.{Bool, true, false}
use Rattle.pdb_validation.specs.declared.inconsistency.Inconsistency.{Inconsistency}
use Rattle.pdb_validation.specs.declared.inconsistency.Inconsistency.TheVariants.{KindNotRead, NoHashStream, PageFree}
use Rattle.pdb_validation.specs.declared.inconsistency.Inconsistency.TheVariants.{RecordUnaligned, UnknownMachine}

-- whether files of known tools have it too, so that it makes no file damaged
abbrev pub is_warning : Inconsistency → Bool
is_warning (PageFree page) = true
is_warning RecordUnaligned = true
is_warning (KindNotRead kind) = true
is_warning (UnknownMachine machine) = true
is_warning NoHashStream = true
is_warning other = false
