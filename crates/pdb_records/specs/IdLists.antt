-- Id records that are lists: when they take memory, which are refused before they do, and how long they
-- can be.
use Rattle.std.specs.Prelude.{◌⊎◌, ℕ, List, length, IsOkAnd}
use Rattle.pdb_base.specs.Answer.{Answer}
use Rattle.pdb_values.specs.IdValue.{IdValue, build_info, string_list, plain}
use Rattle.pdb_values.specs.Items.{HasIdListItem}
use Rattle.pdb_records.specs.Ids.{IsId}
use Rattle.pdb_records.specs.Claims.{ClaimsMore}

-- the number of items in a list; any other id has none
abbrev pub item_count : IdValue → ℕ
item_count (build_info ids) = length ids
item_count (string_list types) = length types
item_count (plain value) = 0

-- the grammar assigns to the bytes a list with at least one item
abbrev pub HoldsIdItem : List ℕ → Type 0
HoldsIdItem bytes = (value : IdValue) × (rest : List ℕ) × IsId bytes value rest × HasIdListItem value

-- LF_BUILDINFO
abbrev pub build_info_leaf : ℕ
build_info_leaf = 0x1603

-- LF_SUBSTR_LIST
abbrev pub string_list_leaf : ℕ
string_list_leaf = 0x1604

-- a list whose count claims more items than its bytes hold
abbrev pub IsCutIdList : List ℕ → Type 0
IsCutIdList bytes = ClaimsMore build_info_leaf 2 bytes ⊎ ClaimsMore string_list_leaf 4 bytes

-- the answer is a list with at least one item
abbrev pub SaysIdItem : Answer (IdValue × List ℕ) → Type 0
SaysIdItem answer = IsOkAnd answer (λ read. HasIdListItem read.0)
