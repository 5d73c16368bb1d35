-- The hash stream of a table.
use Rattle.std.proofs.Common.{◌≡◌, ℕ, ◌/◌, ◌≤◌, List, [], length, ap, ◌∙◌, arith, Option, Ok}
use Rattle.std.specs.Option.{option_to_list}
use Rattle.pdb_tpi.specs.declared.header.Header.{Header}
use Rattle.pdb_tpi.specs.Table.{Table, count_in_header}
use Rattle.pdb_validation.specs.Hashes.{count_mismatch_of, hashes_mismatches, offsets_mismatches, part_in}
use Rattle.pdb_validation.specs.Hashes.{value_mismatch, values_mismatches}
use Rattle.pdb_validation.specs.Mismatch.{asked_of, with_further}
use Rattle.pdb_validation.specs.Words.{mismatches_at}
use Rattle.pdb_validation.specs.declared.mismatch.Extent.{Extent}
use Rattle.pdb_validation.specs.declared.mismatch.Mismatch.{Mismatch}
use Rattle.pdb_validation.proofs.MismatchLemmas.{asked_in_two, further_two, told}

-- the mismatch of the number of hash values was added, and those of all of them
pub values_told : (extent : Extent) (number : ℕ) (table : Table) (values : List ℕ) (count place : ℕ)
    (given : Option Mismatch) (old one both : List Mismatch)
    → count ≡ count_in_header table → given ≡ count_mismatch_of number count (length values)
    → told (with_further extent old (option_to_list given)) ≡ Ok one
    → place ≤ length values / 4 → length values / 4 ≤ place
    → both ≡ with_further extent one (mismatches_at (value_mismatch number table.header values) place)
    → told (with_further extent old (values_mismatches number table values)) ≡ Ok both
unfolding values_mismatches
values_told extent number table values count place given old one both counted is added below above all =
    let end : place ≡ length values / 4 = omega arith in
    let first = is ∙ ap (λ (n : ℕ). count_mismatch_of number n (length values)) counted in
    further_two extent old (option_to_list (count_mismatch_of number (count_in_header table) (length values)))
    (mismatches_at (value_mismatch number table.header values) (length values / 4)) one both
    (rw first at added)
    (all ∙ ap (λ (n : ℕ). with_further extent one (mismatches_at (value_mismatch number table.header values) n)) end)

-- the mismatches of the hash values were added, and then those of the places
pub hashes_told : (extent : Extent) (number : ℕ) (table : Table) (header : Header) (hashes values offsets : List ℕ)
    (none one both : List Mismatch) → header ≡ table.header
    → values ≡ part_in header.hash_values.offset header.hash_values.size hashes
    → offsets ≡ part_in header.ti_off.offset header.ti_off.size hashes → none ≡ []
    → told (with_further extent none (values_mismatches number table values)) ≡ Ok one
    → told (with_further extent one (offsets_mismatches number table offsets)) ≡ Ok both
    → told (asked_of extent (hashes_mismatches number table hashes)) ≡ Ok both
hashes_told extent number table header hashes values offsets none one both same values_are offsets_are empty first
    second =
    let value_bytes = values_are
    ∙ ap (λ (h : Header). part_in h.hash_values.offset h.hash_values.size hashes) same in
    let offset_bytes = offsets_are ∙ ap (λ (h : Header). part_in h.ti_off.offset h.ti_off.size hashes) same in
    asked_in_two extent
    (values_mismatches number table (part_in table.header.hash_values.offset table.header.hash_values.size hashes))
    (offsets_mismatches number table (part_in table.header.ti_off.offset table.header.ti_off.size hashes)) one both
    (rw (empty, value_bytes) at first) (rw offset_bytes at second)
