-- The index and the bytes of an item.
use Rattle.std.specs.Prelude.{ℕ, List}
use Rattle.pdb_tpi.specs.declared.item.Item.{Item}

-- the index of an item
abbrev pub index_of : {I : Type 0} → Item I → I
index_of item = item.index

-- the bytes of an item's record, without the length that stands before it
abbrev pub item_bytes : {I : Type 0} → Item I → List ℕ
item_bytes item = item.bytes.now
