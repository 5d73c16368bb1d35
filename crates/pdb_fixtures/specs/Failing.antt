-- A source of which one view fails.
use Rattle.std.specs.Prelude.{ℕ, ◌+◌, ◌-◌, ◌==◌, if◌then◌else◌, true, List, Some, None}
use Rattle.std.specs.declared.io.ErrorKind.{ErrorKind}
use Rattle.pdb_msf.specs.Source.{State}

-- its bytes, the number of the view that fails, counted from the next one on, or 0 where none does, the
-- kind with which it fails, and the faults so far
pub record Countdown : Type 0 where
  pub bytes : List ℕ
  pub until : ℕ
  pub kind : ErrorKind
  pub faults : ℕ

-- what it stands for as a source: it is sound once no view is left that fails
abbrev pub state_of : Countdown → State
state_of source =
    record {
      bytes = source.bytes;
      is_fixed = true;
      faults = source.faults;
      last_fault =
          if source.faults == 0 then None else Some source.kind;
      is_sound = source.until == 0;
    }

-- after one view more
abbrev pub counted_down : Countdown → Countdown
counted_down source =
    record source { until = source.until - 1; faults = if source.until == 1 then source.faults + 1 else source.faults }
