use Rattle.std.proofs.Common.{◌≡◌, ◌+◌, ◌/◌, refl, sym, ap, ◌∙◌, Ok, Err}
use Rattle.pdb_base.specs.Place.{left}
use Rattle.pdb_base.specs.Reading.{number_at}
use Rattle.pdb_base.specs.Refusal.{refusal_of}
use Rattle.pdb_base.specs.Repeated.{read_times}
use Rattle.pdb_base.proofs.lemmas.Front.{front_is_bytes}
use Rattle.pdb_base.proofs.lemmas.Refused.{passed_on}
use Rattle.pdb_records.specs.Row.{row}
use Rattle.pdb_values.specs.declared.table_shape.VirtualTableShapeType.{VirtualTableShapeType}
use Rattle.pdb_values.specs.declared.type_data.TypeData.{fold-roll-TypeData}
use Rattle.pdb_values.specs.declared.type_data.TypeData.TheVariants.{VirtualTableShape, rolls-VirtualTableShape}
use Rattle.pdb_values.specs.declared.type_data.TypeData.TheOpen.{TypeData-F}
use Rattle.pdb_values.specs.TableShape.{table_shape_value}
use Rattle.pdb_values.specs.TypeValue.{TypeValue, plain, virtual_table_shape}
use Rattle.pdb_values.specs.TypeView.{type_value, view_step, list_step}
use Rattle.pdb_records.specs.Rows.{table_shape_row}
use Rattle.pdb_records.proofs.parse.table_shape.parse_table_shape.Goals as goal

-- what a shape says as a type
shape_seen : (shape : VirtualTableShapeType)
    → type_value (VirtualTableShape shape) ≡ plain (virtual_table_shape (table_shape_value shape))
shape_seen shape = ap type_value (sym (rolls-VirtualTableShape shape))
    ∙ fold-roll-TypeData TypeValue TypeValue view_step list_step (TypeData-F.VirtualTableShape shape)

pub returns-in_err-descriptors : goal.returns-in_err-descriptors
unfolding row table_shape_row
returns-in_err-descriptors c =
    let size = (c.in_ok-count.count + 1) / 2 in
    let behind = left c.parse_u16.new.self in
    let short : read_times (number_at 1) size behind ≡ Err (refusal_of c.in_err-descriptors.field-0.0) =
    sym (front_is_bytes size behind) ∙ c.in_err-descriptors.ensures.read in
    rw (passed_on _ _ c.from_residual-in_err-descriptors.ensures.1, c.in_ok-count.ensures.read, short) refl

pub returns : goal.returns
unfolding row table_shape_row
returns c =
    let size = (c.in_ok-count.count + 1) / 2 in
    let behind = left c.parse_u16.new.self in
    let bytes : read_times (number_at 1) size behind ≡ Ok (c.in_ok-descriptors.descriptors.now, left c.take.new.self) =
    sym (front_is_bytes size behind) ∙ c.in_ok-descriptors.ensures.read in
    rw (
      c.in_ok-count.ensures.read,
      bytes,
      shape_seen
          (record { count = c.in_ok-count.count; descriptors = c.in_ok-descriptors.descriptors }),
    ) refl
