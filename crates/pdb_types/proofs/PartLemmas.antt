-- The parts of base classes.
use Rattle.std.proofs.Common.{◌≡◌, ◌⊎◌, inl, inr, ℕ, zero, suc, ◌+◌, ◌-◌, ◌<◌, List, ◌++◌}
use Rattle.std.proofs.Common.{refl, ap, ◌∙◌, Option, Some, None, Ok, Err, arith}
use Rattle.pdb_base.specs.Answer.{Answer, ◌>>=◌}
use Rattle.pdb_base.specs.Refusal.{refusal_of}
use Rattle.pdb_base.specs.declared.error.Error.{Error}
use Rattle.pdb_base.specs.declared.error.Error.TheVariants.{OutOfMemory}
use Rattle.pdb_tpi.specs.Table.{Table}
use Rattle.pdb_types.specs.Layout.{FieldValue}
use Rattle.pdb_types.specs.declared.part.Base.{Base}
use Rattle.pdb_types.specs.declared.part.Outline.{Outline}
use Rattle.pdb_types.specs.Part.{AreDepths, AreParts, base_within, extent_end, one_part}
use Rattle.pdb_types.specs.Part.{outline_at, part_along}
use Rattle.pdb_types.specs.Part.{part_before, part_extent, part_from, class_part, part_with, parted_fields}
use Rattle.pdb_types.specs.Size.{Sizes}

-- ---- one more base class

pub along_step : (most : ℕ) (table : Table) (index : ℕ) → 0 < most
    → part_along most table index ≡ one_part table (part_along (most - 1) table) index
unfolding part_along
along_step zero table index some = absurd (omega (arith, some))
along_step (suc most) table index some =
    let less : most ≡ suc most - 1 = omega arith in
    ap (λ (n : ℕ). one_part table (part_along n table) index) less

pub along_none : (table : Table) (index : ℕ) → part_along 0 table index ≡ Ok None
unfolding part_along
along_none table index = refl

-- ---- fields, one after another

-- fields behind others
abbrev pub parted_behind : List FieldValue → Answer (List FieldValue) → Answer (List FieldValue)
parted_behind found fields = fields >>= λ more. Ok (found ++ more)

-- the fields so far are as long as their parts
pub record ArePartedTo (table : Table) (fields rest found : List FieldValue) : Type 0 where
  pub is : parted_fields table fields ≡ parted_behind found (parted_fields table rest)

-- ---- the law

with_same : (parts others : Sizes) (outline : Outline) (last : Option Base)
    → ((one : Base) → last ≡ Some one → parts one.class.0 ≡ others one.class.0)
    → part_with parts outline last ≡ part_with others outline last
with_same parts others outline (Some one) same = ap (λ (answer : Answer (Option ℕ)). answer >>= λ part. Ok
    (Some (part_before outline (extent_end one.offset (part_extent one.extent part))))) (same one refl)
with_same parts others outline None same = refl

from_same : (parts others : Sizes) (answer : Answer (Option Outline))
    → ((outline : Outline) (last : Base) → answer ≡ Ok (Some outline) → base_within outline ≡ Some last
    → parts last.class.0 ≡ others last.class.0)
    → (answer >>= part_from parts) ≡ (answer >>= part_from others)
from_same parts others (Ok (Some outline)) same =
    with_same parts others outline (base_within outline) (λ last is. same outline last refl is)
from_same parts others (Ok None) same = refl
from_same parts others (Err refusal) same = refl

parts_along : (table : Table) (parts : Sizes) (depth : ℕ → ℕ) → AreParts table parts → AreDepths table depth
    → (most index : ℕ) → depth index < most → parts index ≡ part_along most table index
unfolding part_along
parts_along table parts depth are deep zero index below = absurd (omega (arith, below))
parts_along table parts depth are deep (suc most) index below =
    are index
    ∙ from_same parts (part_along most table) (outline_at table index)
    (λ outline last is within. let less = deep index outline last is within in
    parts_along table parts depth are deep most last.class.0 (omega (arith, less, below)))

pub only_parts : (table : Table) (parts : Sizes) (depth : ℕ → ℕ) → AreParts table parts → AreDepths table depth
    → (index : ℕ) → depth index < 64 → parts index ≡ class_part table index
unfolding class_part
only_parts table parts depth are deep index below = parts_along table parts depth are deep 64 index below

-- ---- the part along one more base class

pub part_zero : (most : ℕ) (table : Table) (index : ℕ) → most ≡ 0 → part_along most table index ≡ Ok None
part_zero most table index is = rw is (along_none table index)

pub part_none : (most : ℕ) (table : Table) (index : ℕ) → 0 < most → outline_at table index ≡ Ok None
    → part_along most table index ≡ Ok None
part_none most table index some is = rw (along_step most table index some, is) refl

pub part_alone : (most : ℕ) (table : Table) (index : ℕ) (outline : Outline) → 0 < most
    → outline_at table index ≡ Ok (Some outline) → base_within outline ≡ None
    → part_along most table index ≡ Ok (Some (part_before outline 0))
part_alone most table index outline some is alone = rw (along_step most table index some, is, alone) refl

pub part_by : (most : ℕ) (table : Table) (index : ℕ) (outline : Outline) (last : Base) (part : Answer (Option ℕ))
    → 0 < most → outline_at table index ≡ Ok (Some outline) → base_within outline ≡ Some last
    → part_along (most - 1) table last.class.0 ≡ part
    → part_along most table index ≡ (part >>= λ size. Ok
    (Some (part_before outline (extent_end last.offset (part_extent last.extent size)))))
part_by most table index outline last part some is within here =
    rw (along_step most table index some, is, within, here) refl

pub part_refused : (most : ℕ) (table : Table) (index : ℕ) (e : Error) → 0 < most
    → (outline_at table index ≡ Err (refusal_of e)) ⊎ (e ≡ OutOfMemory)
    → (part_along most table index ≡ Err (refusal_of e)) ⊎ (e ≡ OutOfMemory)
part_refused most table index e some (inl is) = inl (rw (along_step most table index some, is) refl)
part_refused most table index e some (inr memory) = inr memory

pub part_refused_by : (most : ℕ) (table : Table) (index : ℕ) (outline : Outline) (last : Base) (e : Error) → 0 < most
    → outline_at table index ≡ Ok (Some outline) → base_within outline ≡ Some last
    → (part_along (most - 1) table last.class.0 ≡ Err (refusal_of e)) ⊎ (e ≡ OutOfMemory)
    → (part_along most table index ≡ Err (refusal_of e)) ⊎ (e ≡ OutOfMemory)
part_refused_by most table index outline last e some is within (inl here) =
    inl (part_by most table index outline last (Err (refusal_of e)) some is within here)
part_refused_by most table index outline last e some is within (inr memory) = inr memory
