-- What is read of a caller's file, as a caller sees it.
use Rattle.std.specs.Prelude.{ℕ, ◌-◌, ◌^◌, List, Option, Some, None, Ok, Err, if◌then◌else◌, ◌&&◌, length, map, min}
use Rattle.std.specs.Prelude.{nat_le, nat_lt}
use Rattle.pdb_base.specs.Answer.{Answer, ◌>>=◌}
use Rattle.pdb_msf.specs.{Directory.stream_count_in, Header.Head, Header.file_head, File.stream_of}
use Rattle.pdb_msf.specs.Layout.{LayoutValue, layout_of, size_by, stream_by}
use Rattle.pdb_space.specs.{declared.section_header.ImageSectionHeader.ImageSectionHeader, Omap.omap_table_of}
use Rattle.pdb_file.specs.File.{file_address_map, file_frame_table, file_number, file_roles, file_string_table}
use Rattle.pdb_file.specs.{declared.debug_header.DBIExtraStreams.DBIExtraStreams, SectionHeaders.section_headers_of}
use Rattle.pdb_handles.specs.{declared.content.Content.Content, declared.file.Sizes.Sizes, declared.roles.Roles.Roles}
use Rattle.pdb_handles.specs.{declared.sections.Section.Section, Copied.Copied, Copied.answer_copied}
use Rattle.pdb_handles.specs.{Copied.nothing_copied, Fault.fault_of_refusal, Fault.not_open, Fault.too_small}
use Rattle.pdb_handles.specs.{Handle.held_as}
use Rattle.pdb_handles.specs.declared.content.Content.TheVariants as contents

-- what is read of a file, whose header is read first
abbrev pub read_of_file : {A : Type 0} → (List ℕ → Head → Answer A) → List ℕ → Answer A
read_of_file says file = file_head file >>= λ head. says file head

-- the bytes of a stream, at most so many
abbrev pub stream_said : ℕ → ℕ → List ℕ → Answer (List ℕ)
stream_said number limit file = read_of_file (λ bytes head. stream_of bytes head number (Some limit)) file

-- the number of the first stream with a name
abbrev pub number_said : List ℕ → List ℕ → Answer ℕ
number_said name file = read_of_file (λ bytes head. file_number bytes head name) file

-- the layout of a file, as the contents of a handle
abbrev pub layout_said : List ℕ → Answer Content
layout_said file = held_as contents.File (layout_of file)

-- its string table, its address map and its frame table, as the contents of a handle
abbrev pub names_said : List ℕ → Answer Content
names_said file = held_as contents.Names (read_of_file file_string_table file)

abbrev pub addresses_said : List ℕ → Answer Content
addresses_said file = held_as contents.Addresses (read_of_file file_address_map file)

abbrev pub frames_said : List ℕ → Answer Content
frames_said file = held_as contents.Frames (read_of_file file_frame_table file)

-- the OMAP table in one of its streams, by its layout
abbrev pub omap_said : LayoutValue → List ℕ → ℕ → Answer Content
omap_said layout file number = held_as contents.Omap (stream_by layout file number None >>= omap_table_of)

-- the sizes in it
abbrev pub sizes_in : LayoutValue → Answer Sizes
sizes_in layout = stream_count_in layout.directory >>= λ count. Ok (record {
  page_size = layout.head.geometry.page_size;
  stream_count = count;
})

-- The bytes of a stream, at most so many, are written to an array. An array that has no room for as many as the
-- directory says is left as it was, whatever the stream's pages hold, unless the file itself has fewer bytes.
abbrev pub front_copied : LayoutValue → List ℕ → ℕ → ℕ → List ℕ → Answer ℕ → Copied ℕ
front_copied layout file number limit room (Ok size) =
    if nat_lt (length room) (min limit size) && nat_le (min limit size) (length file)
    then record { fault = too_small; length = min limit size; room = room }
    else answer_copied room (stream_by layout file number (Some limit))
front_copied layout file number limit room (Err refusal) = nothing_copied (fault_of_refusal refusal) room

abbrev pub stream_copied : LayoutValue → List ℕ → ℕ → ℕ → List ℕ → Copied ℕ
stream_copied layout file number limit room = front_copied layout file number limit room (size_by layout number)

-- All bytes of the stream of a number are written so, which are fewer than 2^64; or the fault is that with which the
-- number is refused.
abbrev pub copied_of_number : LayoutValue → List ℕ → List ℕ → Answer ℕ → Copied ℕ
copied_of_number layout file room (Ok number) = stream_copied layout file number (2 ^ 64 - 1) room
copied_of_number layout file room (Err refusal) = nothing_copied (fault_of_refusal refusal) room

-- the first bytes of a stream for a file that is open, and else `not_open`
abbrev pub front_asked : List ℕ → ℕ → ℕ → List ℕ → Option LayoutValue → Copied ℕ
front_asked file number limit room (Some layout) = stream_copied layout file number limit room
front_asked file number limit room None = nothing_copied not_open room

-- the same for all bytes of the first stream with a name
abbrev pub named_asked : List ℕ → List ℕ → List ℕ → Option LayoutValue → Copied ℕ
named_asked file name room (Some layout) = copied_of_number layout file room (number_said name file)
named_asked file name room None = nothing_copied not_open room

-- the roles for the caller
abbrev pub roles_of : DBIExtraStreams → Roles
roles_of streams = record {
  fpo = streams.fpo.0;
  exception = streams.exception.0;
  fixup = streams.fixup.0;
  omap_to_src = streams.omap_to_src.0;
  omap_from_src = streams.omap_from_src.0;
  section_headers = streams.section_headers.0;
  token_rid_map = streams.token_rid_map.0;
  xdata = streams.xdata.0;
  pdata = streams.pdata.0;
  framedata = streams.framedata.0;
  original_section_headers = streams.original_section_headers.0;
}

-- the roles of the streams of a file
abbrev pub roles_said : List ℕ → Answer Roles
roles_said file = read_of_file file_roles file >>= λ streams. Ok (roles_of streams)

-- a section for the caller
abbrev pub section_info : ImageSectionHeader → Section
section_info header = record {
  name = header.name;
  virtual_size = header.virtual_size;
  virtual_address = header.virtual_address;
  size_of_raw_data = header.size_of_raw_data;
  pointer_to_raw_data = header.pointer_to_raw_data;
  pointer_to_relocations = header.pointer_to_relocations;
  pointer_to_line_numbers = header.pointer_to_line_numbers;
  number_of_relocations = header.number_of_relocations;
  number_of_line_numbers = header.number_of_line_numbers;
  characteristics = header.characteristics.0;
}

-- the sections that a stream of a file holds, by the layout of the file
abbrev pub sections_told : LayoutValue → List ℕ → ℕ → Answer (List Section)
sections_told layout file number =
    stream_by layout file number None >>= section_headers_of >>= λ headers. Ok (map section_info headers)
