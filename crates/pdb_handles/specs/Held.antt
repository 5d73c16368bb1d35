-- What a handle's pointer owns.
use denote.RawPtr.{Ptr}
use base.Fml.{Fml, ftrue}
use Rattle.std.specs.{Prelude.Option, Prelude.None, Prelude.Some, Box.Ownership.box_owns}
use Rattle.std_heap.specs.{declared.Global.Global, contracts.GlobalAllocator.TheImpl.ghosts}
use Rattle.pdb_handles.specs.{declared.content.Content.Content, contracts.content.Content.the_row}

-- the contents, and the right to free their block; nothing if there are no contents
abbrev pub owns_block : Global → Ptr → Option Content → Fml
owns_block alloc p None = ftrue
owns_block alloc p (Some content) = box_owns (ghosts.dealloc_token alloc) the_row p content
