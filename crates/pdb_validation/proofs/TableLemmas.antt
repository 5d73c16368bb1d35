-- The bytes of a table, and its header.
use Rattle.std.proofs.Common.{◌≡◌, ℕ, ◌+◌, ◌==◌, false, List, [], length, take, drop, ap, ◌∙◌, sym, arith, Some}
use Rattle.std.proofs.Common.{Ok}
use Rattle.std.proofs.lemmas.List.{length-drop, length-take}
use Rattle.pdb_msf.specs.Layout.{LayoutValue}
use Rattle.pdb_tpi.specs.declared.header.Header.{Header}
use Rattle.pdb_tpi.specs.Table.{IsTable, Table}
use Rattle.pdb_validation.specs.HeaderFields.{fields_mismatches}
use Rattle.pdb_validation.specs.Mismatch.{asked_of, with_further}
use Rattle.pdb_validation.specs.TableHeader.{hash_fields, record_fields, table_header_mismatches}
use Rattle.pdb_validation.specs.declared.header_fields.FieldCheck.{FieldCheck}
use Rattle.pdb_validation.specs.declared.mismatch.Extent.{Extent}
use Rattle.pdb_validation.specs.declared.mismatch.Mismatch.{Mismatch}
use Rattle.pdb_validation.proofs.MismatchLemmas.{asked_in_two, told}

-- those of the header and those behind it are all
pub table_sized : (table : Table) (bytes : List ℕ) (front : ℕ) → IsTable table → front ≡ table.header.header_size
    → bytes ≡ take 0xffffffff (drop front table.bytes) → front + length bytes ≡ length table.bytes
table_sized table bytes front is at read =
    let short = is.short in
    let within = is.within in
    let dropped = length-drop front table.bytes in
    let taken = ap (λ (l : List ℕ). length l) read ∙ length-take 0xffffffff (drop front table.bytes) in
    omega (arith, short, within, at, dropped, taken)

-- the mismatches of the fields that say what records there are were added, and then those of the fields about hashes
pub table_header_told : (extent : Extent) (layout : LayoutValue) (number : ℕ) (table : Table) (header : Header)
    (records hashes : List FieldCheck) (none one both : List Mismatch) → header ≡ table.header
    → (header.header_size == 0) ≡ false → records ≡ record_fields table → hashes ≡ hash_fields layout table
    → none ≡ [] → told (with_further extent none (fields_mismatches (Some number) records)) ≡ Ok one
    → told (with_further extent one (fields_mismatches (Some number) hashes)) ≡ Ok both
    → told (asked_of extent (table_header_mismatches layout number table)) ≡ Ok both
unfolding table_header_mismatches
table_header_told extent layout number table header records hashes none one both same sized records_are hashes_are
    empty first second =
    let present : (table.header.header_size == 0) ≡ false =
    sym (ap (λ (h : Header). h.header_size == 0) same) ∙ sized in
    let all =
    asked_in_two extent (fields_mismatches (Some number) (record_fields table))
    (fields_mismatches (Some number) (hash_fields layout table)) one both
    (rw (empty, records_are) at first) (rw hashes_are at second) in
    rw present all
