use Rattle.pdbdump_cli.proofs.listed.list_command.Goals as goal

pub returns-in-Summary : goal.returns-in-Summary
returns-in-Summary g c = rw c.in-Summary.is c.list_summary.ensures

pub returns-in-Types : goal.returns-in-Types
returns-in-Types g c = rw c.in-Types.is (rw c.types_number.ensures at c.list_types.ensures)

pub returns-in-Ids : goal.returns-in-Ids
returns-in-Ids g c = rw c.in-Ids.is (rw c.ids_number.ensures at c.list_ids.ensures)

pub returns-in-Map : goal.returns-in-Map
returns-in-Map g c = rw c.in-Map.is c.list_map.ensures

pub returns-in-Names : goal.returns-in-Names
returns-in-Names g c = rw c.in-Names.is c.list_names.ensures

pub returns-in-Sections : goal.returns-in-Sections
returns-in-Sections g c = rw c.in-Sections.is c.list_sections.ensures

pub returns-in-Frames : goal.returns-in-Frames
returns-in-Frames g c = rw c.in-Frames.is c.list_frames.ensures

pub returns-in-FramesIn : goal.returns-in-FramesIn
returns-in-FramesIn g c = rw c.in-FramesIn.is c.list_frames_in.ensures

pub returns-in-Extract : goal.returns-in-Extract
returns-in-Extract g c = rw c.in-Extract.is c.extract_opened.ensures

pub returns-in-BreakpadFrames : goal.returns-in-BreakpadFrames
returns-in-BreakpadFrames g c = rw c.in-BreakpadFrames.is c.list_breakpad_frames.ensures

pub returns-in-Dump : goal.returns-in-Dump
returns-in-Dump g c = rw c.in-Dump.is c.dump_opened.ensures
