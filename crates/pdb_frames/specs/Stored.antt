-- Records of frames as they are stored. Each number is little-endian.
use Rattle.std.specs.Prelude.{ℕ, List, drop}
use Rattle.pdb_base.specs.Endian.{little_number}
use Rattle.pdb_base.specs.Records.{values_of_size}
use Rattle.pdb_frames.specs.Span.{Span}
use Rattle.pdb_frames.specs.declared.old_frame_data.OldFrameData.{OldFrameData}
use Rattle.pdb_frames.specs.declared.new_frame_data.NewFrameData.{NewFrameData}
use Rattle.pdb_frames.specs.declared.old_frame_data.TheConstants.{OLD_SIZE}
use Rattle.pdb_frames.specs.declared.new_frame_data.TheConstants.{NEW_SIZE}

-- the record of the older format in bytes
unfoldable pub old_frame : List ℕ → OldFrameData
old_frame bytes = record {
  code_start = little_number 4 bytes;
  code_size = little_number 4 (drop 4 bytes);
  locals_size = little_number 4 (drop 8 bytes);
  params_size = little_number 2 (drop 12 bytes);
  flags = little_number 2 (drop 14 bytes);
}

-- the record of the newer format in bytes
unfoldable pub new_frame : List ℕ → NewFrameData
new_frame bytes = record {
  code_start = little_number 4 bytes;
  code_size = little_number 4 (drop 4 bytes);
  locals_size = little_number 4 (drop 8 bytes);
  params_size = little_number 4 (drop 12 bytes);
  max_stack_size = little_number 4 (drop 16 bytes);
  frame_func = little_number 4 (drop 20 bytes);
  prolog_size = little_number 2 (drop 24 bytes);
  saved_regs_size = little_number 2 (drop 26 bytes);
  flags = little_number 4 (drop 28 bytes);
}

-- the addresses that an old record's code covers
abbrev pub old_span : OldFrameData → Span
old_span frame = record { start = frame.code_start; size = frame.code_size }

-- the addresses that a new record's code covers
abbrev pub new_span : NewFrameData → Span
new_span frame = record { start = frame.code_start; size = frame.code_size }

-- the old records in bytes, one after another
abbrev pub old_frames : List ℕ → List OldFrameData
old_frames bytes = values_of_size OLD_SIZE old_frame bytes

-- the new records in bytes, one after another
abbrev pub new_frames : List ℕ → List NewFrameData
new_frames bytes = values_of_size NEW_SIZE new_frame bytes
