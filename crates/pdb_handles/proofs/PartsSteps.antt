-- What both walks over the parts of a box speak of, at any type of the value and any allocator.
use Rattle.pdb_handles.proofs.WalkNames.{[], ◌∷◌, Args, Dict, a_type, dcons, dnil, bounded, RattleType, Bx, R, P}
use Rattle.pdb_handles.specs.contracts.parts.Parts as parts

-- the parts as a row
abbrev pub PartsRow : Bx → RattleType
PartsRow box = parts.the_row (R box) (P box) box.al.g

-- what is passed for both type parameters, with the way to drop a value
abbrev pub with_drop : Bx → Dict → Args
with_drop box drops =
    bounded (a_type ∷ a_type ∷ []) (box.row, (box.al.row, tt)) (dcons box.al.d (dcons box.al.drops (dcons drops dnil)))

-- the same without it
abbrev pub without_drop : Bx → Args
without_drop box = bounded (a_type ∷ a_type ∷ []) (box.row, (box.al.row, tt)) (dcons box.al.d (dcons box.al.drops dnil))
