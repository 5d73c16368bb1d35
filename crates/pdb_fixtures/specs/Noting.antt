-- A source that notes which slices are viewed.
use Rattle.std.specs.Prelude.{ℕ, List}
use Rattle.pdb_msf.specs.declared.source.SourceSlice.{SourceSlice}
use Rattle.pdb_msf.specs.Source.{State, in_memory}

-- its bytes, and the slices of each view so far
pub record Noted : Type 0 where
  pub bytes : List ℕ
  pub notes : List (List SourceSlice)

-- what it stands for as a source, which is sound
abbrev pub state_of : Noted → State
state_of source = in_memory source.bytes
