-- The buckets of a string table.
use Rattle.std.proofs.Common.{◌≡◌, ℕ, ◌+◌, ◌*◌, ◌==◌, not, List}
use Rattle.std.proofs.Common.{[], refl, ◌∙◌, Option, Ok}
use Rattle.std.specs.Bool.{then_some}
use Rattle.std.specs.Option.{option_map, option_to_list}
use Rattle.pdb_base.specs.Reading.{word_at}
use Rattle.pdb_validation.specs.Mismatch.{asked_of, with_further}
use Rattle.pdb_validation.specs.StringTable.{bucket_byte, bucket_inconsistency, names_before}
use Rattle.pdb_validation.specs.StringTable.{bucket_count, bucket_mismatch, buckets_byte}
use Rattle.pdb_validation.specs.StringTable.{buckets_mismatches, count_mismatch, in_names, names_in_buckets}
use Rattle.pdb_validation.specs.Words.{mismatches_at}
use Rattle.pdb_validation.specs.declared.inconsistency.Inconsistency.TheVariants.{NameCount}
use Rattle.pdb_validation.specs.declared.inconsistency.Inconsistency.{Inconsistency}
use Rattle.pdb_validation.specs.declared.name_places.NamesBefore.{NamesBefore}
use Rattle.pdb_validation.specs.declared.mismatch.Extent.{Extent}
use Rattle.pdb_validation.specs.declared.mismatch.Mismatch.{Mismatch}
use Rattle.pdb_validation.proofs.MismatchLemmas.{asked_in_two, told}

pub bucket_told : (number : ℕ) (stream : List ℕ) (place byte offset : ℕ) (before : NamesBefore)
    (what : Option Inconsistency) (given : Option Mismatch)
    → byte ≡ bucket_byte stream place → offset ≡ word_at byte stream → before ≡ names_before stream place
    → what ≡ bucket_inconsistency stream before place offset → given ≡ option_map (in_names number byte) what
    → given ≡ bucket_mismatch number stream place
bucket_told number stream place byte offset before what given at read known found is =
    is ∙ rw (found, known, read, at) refl

-- the mismatches of the buckets, and then that of the count of names
pub buckets_told : (extent : Extent) (number : ℕ) (stream : List ℕ) (buckets count stored names : ℕ)
    (given : Option Mismatch) (none one both : List Mismatch)
    → buckets ≡ buckets_byte stream → count ≡ word_at buckets stream → none ≡ []
    → told (with_further extent none (mismatches_at (bucket_mismatch number stream) count)) ≡ Ok one
    → names ≡ names_in_buckets stream count → stored ≡ word_at (buckets + 4 + 4 * count) stream
    → given ≡ then_some (not (stored == names)) (in_names number (buckets + 4 + 4 * count) (NameCount stored))
    → told (with_further extent one (option_to_list given)) ≡ Ok both
    → told (asked_of extent (buckets_mismatches number stream)) ≡ Ok both
unfolding buckets_mismatches
buckets_told extent number stream buckets count stored names given none one both begin many empty added named read is
    last =
    let counted : given ≡ count_mismatch number stream = is ∙ rw (named, read, many, begin) refl in
    asked_in_two extent (mismatches_at (bucket_mismatch number stream) (bucket_count stream))
    (option_to_list (count_mismatch number stream)) one both
    (rw (empty, many, begin) at added) (rw counted at last)
