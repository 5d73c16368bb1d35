-- Frames, as a caller sees them.
use Rattle.std.specs.Prelude.{◌≡◌, ℕ, Bool, true, false, is_some, unwrap_or, List, slice_get}
use Rattle.std.specs.Option.{option_map}
use Rattle.pdb_frames.specs.Table.{BeginsSomewhere, Frames, StartsIncrease, merge_from}
use Rattle.pdb_frames.specs.{declared.frame_data.FrameData.FrameData, FrameNumbers.frame_type_number}
use Rattle.pdb_handles.specs.{declared.frames.Frame.Frame, Fault.no_value, Found.Found, Found.value_or_fault}

-- a Boolean as a number
abbrev pub flag : Bool → ℕ
flag true = 1
flag false = 0

-- a frame for the caller
abbrev pub frame_of : FrameData → Frame
frame_of frame = record {
  kind = frame_type_number frame.ty;
  code_start = frame.code_start;
  code_size = frame.code_size;
  locals_size = frame.locals_size;
  params_size = frame.params_size;
  prolog_size = frame.prolog_size;
  saved_regs_size = frame.saved_regs_size;
  has_max_stack_size = flag (is_some frame.max_stack_size);
  max_stack_size = unwrap_or frame.max_stack_size 0;
  has_structured_eh = flag frame.has_structured_eh;
  has_cpp_eh = flag frame.has_cpp_eh;
  is_function_start = flag frame.is_function_start;
  uses_base_pointer = flag frame.uses_base_pointer;
  has_program = flag (is_some frame.program);
  program = unwrap_or frame.program 0;
}

-- the first of some frames, if there is one, for the caller
abbrev pub first_told : Frame → List FrameData → Found Frame
first_told old frames = value_or_fault no_value old (option_map frame_of (slice_get frames 0))

-- The first frame from an address on is written: of those in the order of their addresses if the tables are sorted, and
-- of any tables the first of some that are left there.
pub record TellsFirst (table : Frames) (address : ℕ) (old : Frame) (told : Found Frame) : Type 0 where
  pub exact : StartsIncrease table → told ≡ first_told old (merge_from address table)
  pub somewhere : (some : List FrameData) × BeginsSomewhere table some × (told ≡ first_told old some)
