-- The numbers of the kinds and modes of pointers.
use Rattle.std.specs.Prelude.{ℕ}
use Rattle.pdb_flags.specs.declared.pointer_kind.PointerKind.{PointerKind}
use Rattle.pdb_flags.specs.declared.pointer_kind.PointerKind.TheVariants.{Near16, Far16, Huge16, BaseSeg, BaseVal}
use Rattle.pdb_flags.specs.declared.pointer_kind.PointerKind.TheVariants.{BaseSegVal, BaseAddr, BaseSegAddr, BaseType}
use Rattle.pdb_flags.specs.declared.pointer_kind.PointerKind.TheVariants.{BaseSelf, Near32, Far32, Ptr64}
use Rattle.pdb_flags.specs.declared.pointer_mode.PointerMode.{PointerMode}
use Rattle.pdb_flags.specs.declared.pointer_mode.PointerMode.TheVariants.{Pointer, LValueReference, Member}
use Rattle.pdb_flags.specs.declared.pointer_mode.PointerMode.TheVariants.{MemberFunction, RValueReference}

-- the number of a kind of pointer, as in `CV_ptrtype_e` of Microsoft's cvinfo.h
abbrev pub pointer_kind_number : PointerKind → ℕ
pointer_kind_number Near16 = 0
pointer_kind_number Far16 = 1
pointer_kind_number Huge16 = 2
pointer_kind_number BaseSeg = 3
pointer_kind_number BaseVal = 4
pointer_kind_number BaseSegVal = 5
pointer_kind_number BaseAddr = 6
pointer_kind_number BaseSegAddr = 7
pointer_kind_number BaseType = 8
pointer_kind_number BaseSelf = 9
pointer_kind_number Near32 = 10
pointer_kind_number Far32 = 11
pointer_kind_number Ptr64 = 12

-- the number of a mode of pointer, as in `CV_ptrmode_e` of Microsoft's cvinfo.h
abbrev pub mode_number : PointerMode → ℕ
mode_number Pointer = 0
mode_number LValueReference = 1
mode_number Member = 2
mode_number MemberFunction = 3
mode_number RValueReference = 4
