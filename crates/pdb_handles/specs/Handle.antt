-- What a handle holds, and what opening it results in.
use Rattle.std.specs.Prelude.{◌≡◌, ℕ, List, Option, Some, None, Ok, Err}
use Rattle.pdb_base.specs.Answer.{Answer}
use Rattle.pdb_msf.specs.Layout.{LayoutValue}
use Rattle.pdb_space.specs.{Conversions.AddressMapValue, Omap.OmapValue}
use Rattle.pdb_frames.specs.Table.{Frames}
use Rattle.pdb_handles.specs.{declared.content.Content.Content, declared.content.Records.Records}
use Rattle.pdb_handles.specs.{declared.fault.Fault.Fault, Copied.IsAnswerTold, Fault.already_open, Fault.not_open}
use Rattle.pdb_handles.specs.declared.content.Content.TheVariants as contents

-- the number of the kind of a handle's contents; 0 if it holds nothing
abbrev pub content_kind : Option Content → ℕ
content_kind None = 0
content_kind (Some (contents.Names names)) = 1
content_kind (Some (contents.Omap table)) = 2
content_kind (Some (contents.Addresses map)) = 3
content_kind (Some (contents.Frames table)) = 4
content_kind (Some (contents.File layout)) = 5
content_kind (Some (contents.Table table)) = 6

-- the value of an answer, as the contents of a handle
abbrev pub held_as : {A : Type 0} → (A → Content) → Answer A → Answer Content
held_as content (Ok value) = Ok (content value)
held_as content (Err refusal) = Err refusal

-- The handle holds what is meant; or the fault is that of the refusal that is meant, and the handle holds nothing; or
-- memory ran out.
abbrev pub OpensTo : Answer Content → Fault → Option Content → Type 0
OpensTo meant fault now = IsAnswerTold Some meant None fault now

-- A handle that holds nothing is opened to what is meant. One that holds something is refused with
-- `already_open`, and still holds it.
abbrev pub Opens : Option Content → Answer Content → Fault → Option Content → Type 0
Opens None meant fault now = OpensTo meant fault now
Opens (Some held) meant fault now = (fault ≡ already_open) × (now ≡ Some held)

-- The same for what is read of a file, by the layout that the handle of the file holds; the call ends with `not_open`
-- if it holds none.
abbrev pub OpensFrom : Option LayoutValue → (LayoutValue → Answer Content) → Option Content → Fault → Option Content
    → Type 0
OpensFrom (Some layout) meant before fault now = Opens before (meant layout) fault now
OpensFrom None meant before fault now = (fault ≡ not_open) × (now ≡ before)

-- the names that a handle holds, if it holds names
abbrev pub names_held : Option Content → Option (List ℕ)
names_held (Some (contents.Names names)) = Some names
names_held held = None

-- the OMAP table that a handle holds, if it holds one
abbrev pub omap_held : Option Content → Option (List OmapValue)
omap_held (Some (contents.Omap table)) = Some table
omap_held held = None

-- the address map that a handle holds, if it holds one
abbrev pub addresses_held : Option Content → Option AddressMapValue
addresses_held (Some (contents.Addresses map)) = Some map
addresses_held held = None

-- the layout of a file that a handle holds, if it holds one
abbrev pub file_held : Option Content → Option LayoutValue
file_held (Some (contents.File layout)) = Some layout
file_held held = None

-- the frame table that a handle holds, if it holds one
abbrev pub frames_held : Option Content → Option Frames
frames_held (Some (contents.Frames table)) = Some table
frames_held held = None

-- the table of types or of ids that a handle holds, if it holds one, and where the walk along it stands
abbrev pub records_held : Option Content → Option Records
records_held (Some (contents.Table records)) = Some records
records_held held = None
