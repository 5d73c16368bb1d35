-- What the records of both formats say about a frame.
use Rattle.std.specs.Prelude.{◌*◌, ◌%◌, ◌^◌, false, Some, None}
use Rattle.pdb_base.specs.Bits.{bits, is_bit_set}
use Rattle.pdb_frames.specs.FrameNumbers.{frame_type_of}
use Rattle.pdb_frames.specs.declared.frame_type.FrameType.TheVariants as kinds
use Rattle.pdb_frames.specs.declared.frame_data.FrameData.{FrameData}
use Rattle.pdb_frames.specs.declared.old_frame_data.OldFrameData.{OldFrameData}
use Rattle.pdb_frames.specs.declared.new_frame_data.NewFrameData.{NewFrameData}

-- the frame in a record of the older format, which counts locals, parameters and
-- saved registers in units of 4 bytes
unfoldable pub of_old : OldFrameData → FrameData
of_old frame = record {
  ty = frame_type_of (bits frame.flags 14 2);
  code_start = frame.code_start;
  code_size = frame.code_size;
  locals_size = frame.locals_size * 4 % 2 ^ 32;
  params_size = frame.params_size * 4;
  prolog_size = bits frame.flags 0 8;
  saved_regs_size = bits frame.flags 8 3 * 4;
  max_stack_size = None;
  has_structured_eh = is_bit_set frame.flags 11;
  has_cpp_eh = false;
  is_function_start = false;
  uses_base_pointer = is_bit_set frame.flags 12;
  program = None;
}

-- the frame in a record of the newer format, which counts in bytes
unfoldable pub of_new : NewFrameData → FrameData
of_new frame = record {
  ty = kinds.FrameData;
  code_start = frame.code_start;
  code_size = frame.code_size;
  locals_size = frame.locals_size;
  params_size = frame.params_size;
  prolog_size = frame.prolog_size;
  saved_regs_size = frame.saved_regs_size;
  max_stack_size = Some frame.max_stack_size;
  has_structured_eh = is_bit_set frame.flags 0;
  has_cpp_eh = is_bit_set frame.flags 1;
  is_function_start = is_bit_set frame.flags 2;
  uses_base_pointer = false;
  program = Some frame.frame_func;
}
