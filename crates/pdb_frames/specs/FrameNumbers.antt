-- The kinds of frames, with their numbers and names.
use Rattle.std.specs.Prelude.{ℕ, ◌==◌, if◌then◌else◌, List, codes}
use Rattle.pdb_frames.specs.declared.frame_type.FrameType.{FrameType}
use Rattle.pdb_frames.specs.declared.frame_type.FrameType.TheVariants.{FPO, Trap, TSS, Standard, FrameData, Unknown}

-- the number of a kind
abbrev pub frame_type_number : FrameType → ℕ
frame_type_number FPO = 0
frame_type_number Trap = 1
frame_type_number TSS = 2
frame_type_number Standard = 3
frame_type_number FrameData = 4
frame_type_number Unknown = 0xff

-- the kind for a number of two bits
abbrev pub frame_type_of : ℕ → FrameType
frame_type_of number = if number == 0 then FPO else
    (if number == 1 then Trap else (if number == 2 then TSS else Standard))

-- how a kind is printed
abbrev pub kind_text : FrameType → List ℕ
kind_text FPO = codes "fpo"
kind_text Trap = codes "trap"
kind_text TSS = codes "tss"
kind_text Standard = codes "std"
kind_text FrameData = codes "fdata"
kind_text Unknown = codes "unknown"
