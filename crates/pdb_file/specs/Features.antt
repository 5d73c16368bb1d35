-- The features of a file, which stream 1 tells after the map of stream names: u32 numbers, one after another to the
-- end of the stream. They are those of `PdbRaw_FeatureSig` in LLVM's RawConstants.h.
use Rattle.std.specs.Prelude.{ℕ, ◌==◌, ◌||◌, if◌then◌else◌, false, List, [], ◌∷◌, Ok}
use Rattle.pdb_base.specs.Answer.{Answer, ◌>>=◌}
use Rattle.pdb_base.specs.Endian.{little_number}
use Rattle.pdb_base.specs.Records.{values_of_size}
use Rattle.pdb_file.specs.StreamNames.{map_of}
use Rattle.pdb_file.specs.declared.features.Features.{Features}
use Rattle.pdb_file.specs.declared.information.PDBInformation.{PDBInformation}

-- ---- the number of each feature

abbrev pub vc110_number : ℕ
vc110_number = 20091201

abbrev pub vc140_number : ℕ
vc140_number = 20140508

-- the letters NOTM, with the first in the lowest byte
abbrev pub no_type_merge_number : ℕ
no_type_merge_number = 0x4d544f4e

-- the letters MINI
abbrev pub minimal_number : ℕ
minimal_number = 0x494e494d

-- ---- the features that are told

-- the u32 numbers in bytes, one after another; the bytes of an incomplete last number are none
abbrev pub numbers_in : List ℕ → List ℕ
numbers_in bytes = values_of_size 4 (little_number 4) bytes

-- no feature
abbrev pub no_features : Features
no_features = record { vc110 = false; vc140 = false; no_type_merge = false; minimal = false }

-- features, and the one that has a number, if any has
abbrev pub with_number : ℕ → Features → Features
with_number number features = record {
  vc110 = number == vc110_number || features.vc110;
  vc140 = number == vc140_number || features.vc140;
  no_type_merge = number == no_type_merge_number || features.no_type_merge;
  minimal = number == minimal_number || features.minimal;
}

-- features, and those that numbers tell up to and with that of VC110, which ends the list
abbrev pub told_by : List ℕ → Features → Features
told_by [] told = told
told_by (number ∷ numbers) told =
    if number == vc110_number then with_number number told else told_by numbers (with_number number told)

-- the features that the numbers in bytes tell
unfoldable pub features_in : List ℕ → Features
features_in bytes = told_by (numbers_in bytes) no_features

-- the features that stream 1 tells after the map of stream names
unfoldable pub features_of : PDBInformation → Answer Features
features_of information = do
  names ← map_of information
  Ok (features_in names.behind)
