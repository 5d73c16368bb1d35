-- What is listed of the tables of a program database: one row for each record.
use Rattle.std.specs.Prelude.{ℕ, zero, suc, ◌+◌, ◌/◌, ◌%◌, ◌^◌, ◌==◌, nat_lt, if◌then◌else◌, List, []}
use Rattle.std.specs.Prelude.{◌∷◌, ◌++◌, length, codes, map, Option, Some, None}
use Rattle.std.specs.Option.{option_map_or}
use Rattle.std.specs.Result.{result_ok}
use Rattle.pdb_base.specs.Answer.{ok_if}
use Rattle.pdb_base.specs.Refusal.{unexpected_eof}
use Rattle.pdb_space.specs.Omap.{OmapValue, omap_table_of}
use Rattle.pdb_space.specs.StringTable.{name_of}
use Rattle.pdb_frames.specs.Merge.{by_heads}
use Rattle.pdb_frames.specs.Table.{Frames}
use Rattle.pdb_frames.specs.declared.frame_data.FrameData.{FrameData}
use Rattle.pdbdump_rows.specs.Line.{moved_from, numbered}
use Rattle.pdbdump_rows.specs.Row.{ShownRow, hexadecimal}
use Rattle.pdbdump_rows.specs.Rows.{rows_from}
use Rattle.pdbdump_tables.specs.Listing.{Listing, whole, listed_of}

-- The section headers of a stream, forty bytes each, numbered from 1. If the last one is cut, the listing
-- ends with `unexpected_eof` behind the others.
unfoldable pub sections_listing : List ℕ → Listing
sections_listing stream = record {
  rows = rows_from numbered 1 (length stream / 40);
  end = ok_if (length stream % 40 == 0) unexpected_eof;
}

-- what the rows of OMAP records begin with: their sources
abbrev pub omap_rows : List OmapValue → List ShownRow
omap_rows records = map (λ mapping. moved_from mapping.source) records

-- the records of the OMAP table that a stream is, and behind them the row that says whether it is sorted
abbrev pub omap_all : List OmapValue → List ShownRow
omap_all records = omap_rows records ++ [] ∷ []

abbrev pub omap_listing : List ℕ → Listing
omap_listing stream = listed_of (λ records. whole (omap_all records)) (omap_table_of stream)

-- a row for each frame, which has no number
abbrev pub frame_rows : List FrameData → List ShownRow
frame_rows frames = map (λ frame. []) frames

-- the frames of a table: those of both streams, merged by their starts
abbrev pub frames_listing : Frames → Listing
frames_listing frames = whole (frame_rows (by_heads frames.old frames.new))

-- the offset of the next name, behind a name of this offset and size, if 32 bits hold it
abbrev pub next_place : ℕ → ℕ → Option ℕ
next_place place size = if nat_lt (place + size + 1) (2 ^ 32) then Some (place + size + 1) else None

-- The names of a string table from an offset on, at most as many as the first argument, each with the
-- offset at which it begins. Each ends with a NUL, and the next begins behind that. Bytes behind the last
-- NUL are no name.
unfoldable pub names_from : ℕ → List ℕ → ℕ → List (ℕ × List ℕ)
names_from zero names place = []
names_from (suc most) names place =
    option_map_or (λ name. (place, name) ∷ option_map_or (λ next. names_from most names next)
    (next_place place (length name)) []) (result_ok (name_of names place)) []

-- all names of a string table; there are no more than there are offsets of 32 bits
unfoldable pub all_names : List ℕ → List (ℕ × List ℕ)
all_names names = names_from 0xffffffff names 0

-- what the rows of names begin with: their offsets
abbrev pub placed_at : ℕ → ShownRow
placed_at place = (codes "offset", hexadecimal place) ∷ []

abbrev pub name_rows : List (ℕ × List ℕ) → List ShownRow
name_rows names = map (λ name. placed_at name.0) names
