use Rattle.pdb_base.specs.Place.{left}
use Rattle.pdb_base.specs.Reading.{number_at}
use Rattle.pdb_records.specs.Shape.{type_index, read_shape}
use Rattle.pdb_records.proofs.NoWant.{number_no_want, shape_no_want}
use Rattle.pdb_records.specs.Memory.{HoldsDimension}
use Rattle.pdb_records.proofs.MemoryLemmas.{passes_no_want, wants_on, stride_read, no_stride_read, array_there}
use Rattle.pdb_records.proofs.parse.array.parse_array.Goals.{then-strided+in_ok-parse_u32, else-strided}
use Rattle.pdb_records.proofs.parse.array.parse_array.Goals as goal

pub returns-in_err-parse_type_index-clause-memory : goal.returns-in_err-parse_type_index-clause-memory
returns-in_err-parse_type_index-clause-memory c =
    passes_no_want (read_shape type_index (left c.args.buffer.now)) _ _ _
    (shape_no_want type_index (left c.args.buffer.now)) c.in_err-parse_type_index.ensures c.from_residual.ensures.1

pub returns-in_err-parse_type_index-2-clause-memory : goal.returns-in_err-parse_type_index-2-clause-memory
returns-in_err-parse_type_index-2-clause-memory c =
    passes_no_want (read_shape type_index (left c.parse_type_index.new.buffer)) _ _ _
    (shape_no_want type_index (left c.parse_type_index.new.buffer)) c.in_err-parse_type_index-2.ensures
    c.from_residual-in_err-parse_type_index-2.ensures.1

pub returns-in_err-parse_u32-clause-memory : goal.returns-in_err-parse_u32-clause-memory
returns-in_err-parse_u32-clause-memory c =
    passes_no_want (number_at 4 (left c.parse_type_index-2.new.buffer)) _ _ _
    (number_no_want 4 (left c.parse_type_index-2.new.buffer)) c.in_err-parse_u32.ensures.read
    c.from_residual-in_err-parse_u32.ensures.1

pub returns-in_err-parse_last_dimensions-clause-memory : goal.returns-in_err-parse_last_dimensions-clause-memory
returns-in_err-parse_last_dimensions-clause-memory c = λ want.
    let there : HoldsDimension (left c.if-strided.buffer) =
    wants_on _ _ _ c.in_err-parse_last_dimensions.ensures.memory
    c.from_residual-in_err-parse_last_dimensions.ensures.1 want in
    elim c.if-strided.branch [
      | then-strided+in_ok-parse_u32 w ↦
          array_there c.args.strided (left c.args.buffer.now) _ _ _ _ _ _ c.in_ok-parse_type_index.ensures
          c.in_ok-parse_type_index-2.ensures
          (stride_read c.args.strided (left c.parse_type_index-2.new.buffer) _ _ w.if-strided.true
          w.in_ok-parse_u32.ensures.read)
          (rw w.buffer-is at there)
      | else-strided w ↦
          array_there c.args.strided (left c.args.buffer.now) _ _ _ _ _ _ c.in_ok-parse_type_index.ensures
          c.in_ok-parse_type_index-2.ensures
          (no_stride_read c.args.strided (left c.parse_type_index-2.new.buffer) w.if-strided.false)
          (rw w.buffer-is at there)
    ]
