-- The fields of a header stand at fixed offsets.
use Rattle.std.proofs.Common.{◌≡◌, ℕ, ◌+◌, ◌≤◌, List, length, drop, refl, arith, Ok}
use Rattle.std.specs.Int.{w32, cast_signed}
use Rattle.pdb_base.specs.Reading.{number_in, signed_at}
use Rattle.pdb_base.proofs.lemmas.Reading.{number_there}
use Rattle.pdb_tpi.specs.Header.{slice_of, header_fields}
use Rattle.pdb_tpi.specs.Laws.{HasTableHeaderAtOffsets}

slice_is : (offset : ℕ) (bytes : List ℕ) → offset + 8 ≤ length bytes
    → slice_of (drop offset bytes) ≡ Ok (
      record { offset = cast_signed w32 (number_in 4 offset bytes); size = number_in 4 (offset + 4) bytes },
      drop (offset + 8) bytes,
    )
unfolding slice_of signed_at
slice_is offset bytes long =
    rw (
      number_there 4 offset (offset + 4) bytes refl (omega arith),
      number_there 4 (offset + 4) (offset + 8) bytes (omega arith) (omega arith),
    ) refl

pub fields_stand : (bytes : List ℕ) → HasTableHeaderAtOffsets bytes
unfolding header_fields
fields_stand bytes long =
    rw (
      number_there 4 0 4 bytes refl (omega arith),
      number_there 4 4 8 bytes refl (omega arith),
      number_there 4 8 12 bytes refl (omega arith),
      number_there 4 12 16 bytes refl (omega arith),
      number_there 4 16 20 bytes refl (omega arith),
      number_there 2 20 22 bytes refl (omega arith),
      number_there 2 22 24 bytes refl (omega arith),
      number_there 4 24 28 bytes refl (omega arith),
      number_there 4 28 32 bytes refl (omega arith),
      slice_is 32 bytes (omega arith),
      slice_is 40 bytes (omega arith),
      slice_is 48 bytes (omega arith),
    ) refl
