-- What a call leaves of the handles that it is about.
use Rattle.std.specs.Prelude.{◌≡◌, ℕ}
use Rattle.pdb_handles.specs.{declared.file.OpenFile.OpenFile, declared.handle.Handle.Handle}

-- A handle holds what it did.
abbrev pub Holds : Handle → Handle → Type 0
Holds old new = new.held.content ≡ old.held.content

-- It does, and its fault has the status that is returned.
abbrev pub Keeps : Handle → Handle → ℕ → Type 0
Keeps old new status = Holds old new × (status ≡ new.fault.status)

-- The same of a file, which keeps its bytes too.
abbrev pub HoldsFile : OpenFile → OpenFile → Type 0
HoldsFile old new = Holds old.handle new.handle × (new.bytes.now ≡ old.bytes.now)

abbrev pub KeepsFile : OpenFile → OpenFile → ℕ → Type 0
KeepsFile old new status = HoldsFile old new × (status ≡ new.handle.fault.status)
