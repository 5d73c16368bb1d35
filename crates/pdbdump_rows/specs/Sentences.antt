-- The errors of the library in sentences.
use Rattle.std.specs.Prelude.{◌++◌, ℕ, List, codes, Option, Some, None}
use Rattle.pdb_base.specs.ErrorText.{hexadecimal}
use Rattle.pdb_base.specs.Refusal.{Refusal, stream_name_not_found, type_not_found, type_too_short}
use Rattle.pdb_base.specs.Refusal.{unexpected_eof, unrecognized_file_format}

-- the sentence for a refusal, if it has one
abbrev pub sentence_of : Refusal → Option (List ℕ)
sentence_of unrecognized_file_format = Some (codes "not a program database of version 7.00")
sentence_of unexpected_eof = Some (codes "data ends in the middle of a record or a table")
sentence_of type_too_short = Some (codes "the length of a record leaves no room for its kind")
sentence_of stream_name_not_found = Some (codes "no stream has the name or the role that is looked for")
sentence_of (type_not_found index) = Some (codes "no record has the index " ++ hexadecimal index)
sentence_of other = None
