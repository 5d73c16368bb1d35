pub mod Reply
pub mod ReadStreams
pub mod OpenTables
pub mod Replies
-- the definitions that the contracts of what this crate re-exports cite
pub use Rattle.pdb_base.specs.Bits
pub use Rattle.pdb_base.specs.Refusal
pub use Rattle.pdb_base.specs.ErrorText
pub use Rattle.pdb_base.specs.Answer
pub use Rattle.pdb_base.specs.Memory
pub use Rattle.pdb_base.specs.Place
pub use Rattle.pdb_base.specs.Index
pub use Rattle.pdb_base.specs.Count
pub use Rattle.pdb_base.specs.Halving
pub use Rattle.pdb_base.specs.Reading
pub use Rattle.pdb_base.specs.Text
pub use Rattle.pdb_base.specs.Numeric
pub use Rattle.pdb_msf.specs.Source
pub use Rattle.pdb_msf.specs.ReadAt
pub use Rattle.pdb_msf.specs.PageList
pub use Rattle.pdb_msf.specs.Header
pub use Rattle.pdb_msf.specs.Asked as SourceAsked
pub use Rattle.pdb_msf.specs.Exactly
pub use Rattle.pdb_msf.specs.Directory
pub use Rattle.pdb_msf.specs.File
pub use Rattle.pdb_flags.specs.PointerNumbers
pub use Rattle.pdb_flags.specs.TypeProperties
pub use Rattle.pdb_flags.specs.FieldAttributes
pub use Rattle.pdb_flags.specs.FunctionAttributes
pub use Rattle.pdb_flags.specs.PointerAttributes
pub use Rattle.pdb_space.specs.Sum
pub use Rattle.pdb_space.specs.SectionPlace
pub use Rattle.pdb_space.specs.SectionOrder
pub use Rattle.pdb_space.specs.Omap
pub use Rattle.pdb_space.specs.Ranges
pub use Rattle.pdb_space.specs.SectionHeader
pub use Rattle.pdb_space.specs.SectionFlags
pub use Rattle.pdb_space.specs.Conversions
pub use Rattle.pdb_space.specs.StringTable
pub use Rattle.pdb_frames.specs.Span
pub use Rattle.pdb_frames.specs.FrameNumbers
pub use Rattle.pdb_frames.specs.Stored
pub use Rattle.pdb_frames.specs.Frames
pub use Rattle.pdb_frames.specs.Merge
pub use Rattle.pdb_frames.specs.Table
pub use Rattle.pdb_file.specs.DbiHeader
pub use Rattle.pdb_file.specs.DebugHeader
pub use Rattle.pdb_file.specs.Information
pub use Rattle.pdb_file.specs.StreamNames
pub use Rattle.pdb_file.specs.File as RoleFile
pub use Rattle.pdb_values.specs.Text as ValueText
pub use Rattle.pdb_values.specs.Method
pub use Rattle.pdb_values.specs.Function
pub use Rattle.pdb_values.specs.Array
pub use Rattle.pdb_values.specs.TypeValue
pub use Rattle.pdb_values.specs.Primitive
pub use Rattle.pdb_values.specs.TypeView
pub use Rattle.pdb_values.specs.IdValue
pub use Rattle.pdb_values.specs.Items
pub use Rattle.pdb_records.specs.Grammar
pub use Rattle.pdb_records.specs.Memory as RecordMemory
pub use Rattle.pdb_records.specs.Short
pub use Rattle.pdb_records.specs.Ids
pub use Rattle.pdb_records.specs.IdLists
pub use Rattle.pdb_records.specs.Assigned
pub use Rattle.pdb_tpi.specs.Table as ItemTable
pub use Rattle.pdb_tpi.specs.Steps
pub use Rattle.pdb_tpi.specs.Place as TablePlace
pub use Rattle.pdb_tpi.specs.Finder
pub use Rattle.pdb_tpi.specs.Item
pub use Rattle.pdb_tpi.specs.Record
pub use Rattle.pdb_tpi.specs.Chain
