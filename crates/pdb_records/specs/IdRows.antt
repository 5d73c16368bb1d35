-- The rows of id records: the fields behind the leaf of a record, in the order of the structs in
-- Microsoft's cvinfo.h. Their texts end with a NUL.
use Rattle.std.specs.Prelude.{ℕ, List}
use Rattle.pdb_base.specs.declared.index.TypeIndex.{TypeIndex}
use Rattle.pdb_base.specs.declared.index.IdIndex.{IdIndex}
use Rattle.pdb_records.specs.Shape.{u16, u32, type_index, id_index, some_id, text}
use Rattle.pdb_records.specs.Row.{Row, gives}
use Rattle.pdb_records.specs.InOrder.{◌>>=◌}
use Rattle.pdb_values.specs.declared.source_id.UserDefinedTypeSourceFileRef.TheVariants.{Local, Remote}
use Rattle.pdb_values.specs.IdValue.{PlainIdValue}
use Rattle.pdb_values.specs.IdValue as values
use Rattle.pdb_records.specs.declared.parse.counted.CountWidth.TheVariants.{Bits16, Bits32}
use Rattle.pdb_records.specs.Lists.{counted_row}

-- lfFuncId
unfoldable pub function_id_row : ℕ → Row PlainIdValue
function_id_row leaf = do
  scope ← some_id
  function_type ← type_index
  name ← text leaf
  gives (values.function (record { scope = scope; function_type = function_type; name = name }))

-- lfMFuncId
unfoldable pub member_function_id_row : ℕ → Row PlainIdValue
member_function_id_row leaf = do
  parent ← type_index
  function_type ← type_index
  name ← text leaf
  gives (values.member_function (record { parent = parent; function_type = function_type; name = name }))

-- lfBuildInfo: the ids of what a module was built with
abbrev pub build_info_row : Row (List IdIndex)
build_info_row = counted_row Bits16 id_index

-- LF_SUBSTR_LIST, whose layout is that of lfArgList: the parts of a text
abbrev pub string_list_row : Row (List TypeIndex)
string_list_row = counted_row Bits32 type_index

-- lfStringId
unfoldable pub string_id_row : ℕ → Row PlainIdValue
string_id_row leaf = do
  substrings ← some_id
  name ← text leaf
  gives (values.string (record { substrings = substrings; name = name }))

-- lfUdtSrcLine: the file is given by the id of its name
unfoldable pub source_row : Row PlainIdValue
source_row = do
  udt ← type_index
  file ← id_index
  line ← u32
  gives (values.user_defined_type_source (record { udt = udt; source_file = Local file; line = line }))

-- lfUdtModSrcLine: the file is given by the offset of its name in the string table, and the number of the
-- module follows the line
unfoldable pub remote_source_row : Row PlainIdValue
remote_source_row = do
  udt ← type_index
  file ← u32
  line ← u32
  owner ← u16
  gives (values.user_defined_type_source (record { udt = udt; source_file = Remote owner file; line = line }))
