-- The buckets of a string table (`NMT` in Microsoft's nmt.h): behind the names stand a u32 count of buckets, so many
-- u32 offsets of names, of which 0 stands for none, and a u32 count of names.
use Rattle.std.specs.Prelude.{ℕ, zero, suc, ◌+◌, ◌*◌, ◌%◌, ◌==◌, Bool, true, ◌&&◌, not, nat_le, nat_lt, if◌then◌else◌}
use Rattle.std.specs.Prelude.{List, [], ◌∷◌, ◌++◌, filter, length, map, slice_index, take, drop, Option, Some, None}
use Rattle.std.specs.Prelude.{Ok, Err}
use Rattle.std.specs.Bool.{then_some}
use Rattle.std.specs.List.{range_with_len}
use Rattle.std.specs.Option.{option_map, option_to_list}
use Rattle.pdb_base.specs.Answer.{Answer, ◌>>=◌}
use Rattle.pdb_base.specs.Reading.{text_at, word_at}
use Rattle.pdb_validation.specs.NameHashes.{hash_of_name}
use Rattle.pdb_validation.specs.Words.{mismatches_at}
use Rattle.pdb_validation.specs.declared.inconsistency.Inconsistency.{Inconsistency}
use Rattle.pdb_validation.specs.declared.inconsistency.Inconsistency.TheVariants.{BucketsCut, NameCount, NameOffset}
use Rattle.pdb_validation.specs.declared.inconsistency.Inconsistency.TheVariants.{NameUnreached}
use Rattle.pdb_validation.specs.declared.mismatch.Mismatch.{Mismatch}
use Rattle.pdb_validation.specs.declared.name_places.NamesBefore.{NamesBefore}

-- the byte of the stream of the count of buckets, which follows the header and the names
abbrev pub buckets_byte : List ℕ → ℕ
buckets_byte stream = 12 + word_at 8 stream

abbrev pub bucket_count : List ℕ → ℕ
bucket_count stream = word_at (buckets_byte stream) stream

-- the byte at which a bucket begins
abbrev pub bucket_byte : List ℕ → ℕ → ℕ
bucket_byte stream place = buckets_byte stream + 4 + 4 * place

-- the offset in a bucket
abbrev pub bucket_at : List ℕ → ℕ → ℕ
bucket_at stream place = word_at (bucket_byte stream place) stream

-- the count of names, which follows the buckets
abbrev pub name_count : List ℕ → ℕ
name_count stream = bucket_at stream (bucket_count stream)

-- whether the stream ends before its count of names does
abbrev pub are_buckets_cut : List ℕ → Bool
are_buckets_cut stream = nat_lt (length stream) (bucket_byte stream (bucket_count stream) + 4)

-- whether a name begins at an offset that is not 0: it is among the names, and behind the end of another name
abbrev pub begins_name : List ℕ → ℕ → Bool
begins_name stream offset = nat_lt offset (word_at 8 stream) && slice_index stream (11 + offset) == 0

-- ---- the places of names

-- the name at an offset, among the names
abbrev pub bucket_name : List ℕ → ℕ → Answer (List ℕ)
bucket_name stream offset =
    text_at (drop offset (take (word_at 8 stream) (drop 12 stream))) >>= λ text. Ok text.0

-- how many bytes a name takes, with its NUL
abbrev pub size_taken : Answer (List ℕ) → ℕ
size_taken (Ok name) = length name + 1
size_taken (Err refusal) = 0

-- whether the names of some buckets take more bytes than there are, since one is in two buckets
abbrev pub are_repeated : List ℕ → ℕ → Bool
are_repeated stream taken = nat_lt (word_at 8 stream) taken

-- how many bytes the name of one more bucket takes, unless some name is in two buckets
abbrev pub taken_by : List ℕ → ℕ → ℕ → ℕ
taken_by stream taken offset =
    if offset == 0 then 0
    else if not (begins_name stream offset) then 0
    else if are_repeated stream taken then 0
    else size_taken (bucket_name stream offset)

-- how many bytes the names of the first buckets take, up to one that is there twice
unfoldable pub names_taken : List ℕ → ℕ → ℕ
names_taken stream zero = 0
names_taken stream (suc place) =
    names_taken stream place + taken_by stream (names_taken stream place) (bucket_at stream place)

-- the place behind the last empty bucket, once there is one bucket more, with an offset
abbrev pub full_after : ℕ → ℕ → ℕ → ℕ
full_after from place offset = if offset == 0 then place + 1 else from

-- the place behind the last of the first buckets that is empty, or 0
unfoldable pub full_from : List ℕ → ℕ → ℕ
full_from stream zero = 0
full_from stream (suc place) = full_after (full_from stream place) place (bucket_at stream place)

-- what is known of the buckets before a place
abbrev pub names_before : List ℕ → ℕ → NamesBefore
names_before stream place = record {
  full_from = full_from stream place;
  last_full_from = full_from stream (bucket_count stream);
  taken = names_taken stream place;
}

-- the same with one bucket more, at a place, with an offset and a name that takes some bytes
abbrev pub with_bucket : NamesBefore → ℕ → ℕ → ℕ → NamesBefore
with_bucket before place offset taken = record {
  full_from = full_after before.full_from place offset;
  last_full_from = before.last_full_from;
  taken = before.taken + taken;
}

-- whether no bucket is empty from one, at which a name is looked for first, up to the place of the name; behind the
-- last bucket the first one follows
abbrev pub is_reached : NamesBefore → ℕ → ℕ → Bool
is_reached before first place =
    if nat_le first place
    then nat_le before.full_from first
    else before.full_from == 0 && nat_le before.last_full_from first

-- whether a name is found at a place, where it is looked for by its hash
abbrev pub is_at_place : List ℕ → NamesBefore → ℕ → List ℕ → Bool
is_at_place stream before place name =
    is_reached before (hash_of_name (word_at 4 stream) name % bucket_count stream) place

abbrev pub is_in_place : List ℕ → NamesBefore → ℕ → Answer (List ℕ) → Bool
is_in_place stream before place (Ok name) = is_at_place stream before place name
is_in_place stream before place (Err refusal) = true

-- what is inconsistent in a bucket with an offset
abbrev pub bucket_inconsistency : List ℕ → NamesBefore → ℕ → ℕ → Option Inconsistency
bucket_inconsistency stream before place offset =
    if offset == 0 then None
    else if not (begins_name stream offset) then Some (NameOffset offset)
    else if are_repeated stream before.taken then Some (NameUnreached offset)
    else then_some (not (is_in_place stream before place (bucket_name stream offset))) (NameUnreached offset)

-- ---- mismatches

-- what is inconsistent in the string table of a stream, and at which byte of it
abbrev pub in_names : ℕ → ℕ → Inconsistency → Mismatch
in_names number byte what = record { stream = Some number; index = None; byte = Some byte; what = what }

-- the mismatch of a bucket: its offset is not 0 and no name begins there, or its name is not in its place
abbrev pub bucket_mismatch : ℕ → List ℕ → ℕ → Option Mismatch
bucket_mismatch number stream place =
    option_map (in_names number (bucket_byte stream place))
    (bucket_inconsistency stream (names_before stream place) place (bucket_at stream place))

-- how many buckets have a name
unfoldable pub names_in_buckets : List ℕ → ℕ → ℕ
names_in_buckets stream count =
    length (filter (λ offset. not (offset == 0)) (map (bucket_at stream) (range_with_len 0 count)))

-- the mismatch of the count of names
abbrev pub count_mismatch : ℕ → List ℕ → Option Mismatch
count_mismatch number stream =
    then_some (not (name_count stream == names_in_buckets stream (bucket_count stream)))
    (in_names number (bucket_byte stream (bucket_count stream)) (NameCount (name_count stream)))

-- the mismatches of the buckets, and of the count of names
unfoldable pub buckets_mismatches : ℕ → List ℕ → List Mismatch
buckets_mismatches number stream =
    mismatches_at (bucket_mismatch number stream) (bucket_count stream) ++ option_to_list (count_mismatch number stream)

-- the mismatches of a string table in the stream of a number
unfoldable pub names_mismatches_in : ℕ → List ℕ → List Mismatch
names_mismatches_in number stream =
    if are_buckets_cut stream
    then in_names number (length stream) BucketsCut ∷ []
    else buckets_mismatches number stream
