-- The machine values of what a handle holds: a pointer and the allocator, which takes no bytes.
use Rattle.pdb_handles.proofs.WalkNames.{[], ◌∷◌, ◌≡◌, refl, false≢true, T, lit<, ty_ptr, Val, vstruct, of_list}
use Rattle.pdb_handles.proofs.WalkNames.{has_ty, WT, RattleType, Ptr, block_ptr, null_ptr, ptr_val, Is, Tells, Option}
use Rattle.pdb_handles.proofs.WalkNames.{None, Some, IsSome, Global, ghosts}
use Rattle.std_heap.specs.contracts.Global as global
use Rattle.std_heap.proofs.Global.TheLaws as global_laws
use Rattle.pdb_handles.specs.contracts.content.Content as content
use Rattle.pdb_handles.proofs.content.Content.TheLaws as content_laws
use Rattle.pdb_handles.specs.contracts.parts.Parts as parts
use Rattle.pdb_handles.proofs.parts.Parts.TheLaws as parts_laws
use Rattle.pdb_handles.specs.contracts.held.Held as held
use Rattle.pdb_handles.proofs.held.Held.TheLaws as held_laws

-- what an option holds that is not None
pub inside : {X : Type 0} (o : Option X) → IsSome o → X
inside (Some x) there = x
inside None there = absurd (false≢true there)

pub inside_is : {X : Type 0} (o : Option X) (there : IsSome o) → o ≡ Some (inside o there)
unfolding inside
inside_is (Some x) there = refl
inside_is None there = absurd (false≢true there)

-- the parts of a box of a content
abbrev pub PartsRow : RattleType
PartsRow = parts.the_row content.the_row global.the_row ghosts

-- the machine value of both
abbrev pub pair : Ptr → Global → Val
pair p alloc = vstruct (of_list (ptr_val p ∷ global_laws.lowered alloc ∷ []))

pub parts_tells : Tells PartsRow (Is PartsRow) (λ h. pair h.ptr h.alloc ∷ [])
parts_tells = (parts_laws.lowers content.the_row global.the_row ghosts content_laws.the_row_laws
    global_laws.the_row_laws global_laws.the_told).val_is

pub held_tells : Tells held.the_row (Is held.the_row) (λ h. pair h.ptr h.alloc ∷ [])
held_tells = held_laws.lowers.val_is

pub ptr_typed : (p : Ptr) → T (has_ty ty_ptr (ptr_val p)) × WT (ptr_val p)
ptr_typed (block_ptr b o) = (tt, tt)
ptr_typed null_ptr = (tt, record { fits = lit< tt })

pub alloc_typed : (g : Global) → T (has_ty global_laws.mir (global_laws.lowered g)) × WT (global_laws.lowered g)
alloc_typed g = (tt, ((tt, tt), tt))

pub pair_typed : (p : Ptr) (g : Global) → T (has_ty held_laws.mir (pair p g)) × WT (pair p g)
pair_typed (block_ptr b o) g = (tt, (tt, (((tt, tt), tt), tt)))
pair_typed null_ptr g = (tt, (record { fits = lit< tt }, (((tt, tt), tt), tt)))
