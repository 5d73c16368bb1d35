-- Names in the buckets of a string table.
use Rattle.std.proofs.Common.{◌≡◌, ℕ, suc, ◌+◌, ◌*◌, List, [], ◌∷◌, refl, sym, ap, ◌∙◌, arith}
use Rattle.std.specs.List.{fold, range_with_len}
use Rattle.std.proofs.lemmas.List.Sums.{fold-append}
use Rattle.pdb_base.specs.Reading.{word_at}
use Rattle.pdb_validation.specs.NameHashes.{hash_before, hash_of_words, stir}
use Rattle.pdb_validation.specs.StringTable.{bucket_at, bucket_byte, bucket_count, full_after, full_from}
use Rattle.pdb_validation.specs.StringTable.{names_before, names_taken, taken_by}
use Rattle.pdb_validation.specs.StringTable.{with_bucket}
use Rattle.pdb_validation.specs.declared.name_places.NamesBefore.{NamesBefore}
use Rattle.pdb_validation.proofs.PlaceLemmas.{range_more}

-- one more number in the same order, as the successor
next : (n : ℕ) → n + 1 ≡ suc n
next n = omega arith

-- the hash with one word more
pub words_more : (version : ℕ) (name : List ℕ) (n : ℕ)
    → hash_of_words version name (n + 1) ≡ stir version (hash_of_words version name n) (word_at (4 * n) name)
unfolding hash_of_words
words_more version name n =
    let one = λ (hash place : ℕ). stir version hash (word_at (4 * place) name) in
    ap (fold one (hash_before version)) (range_more 0 n n (omega arith))
    ∙ fold-append one (hash_before version) (range_with_len 0 n) (n ∷ [])

-- where the buckets are full up to one place more
pub full_more : (stream : List ℕ) (n : ℕ)
    → full_from stream (n + 1) ≡ full_after (full_from stream n) n (bucket_at stream n)
unfolding full_from
full_more stream n = ap (full_from stream) (next n)

pub full_told : (stream : List ℕ) (n byte offset from now : ℕ) → byte ≡ bucket_byte stream n
    → offset ≡ word_at byte stream → from ≡ full_from stream n → now ≡ full_after from n offset
    → now ≡ full_from stream (n + 1)
full_told stream n byte offset from now at read so_far is =
    is ∙ ap (λ (other : ℕ). full_after from n other) (read ∙ ap (λ (place : ℕ). word_at place stream) at)
    ∙ ap (λ (last : ℕ). full_after last n (bucket_at stream n)) so_far ∙ sym (full_more stream n)

-- what is known behind one bucket more
pub before_more : (stream : List ℕ) (n offset taken : ℕ) (before : NamesBefore) → before ≡ names_before stream n
    → offset ≡ bucket_at stream n → taken ≡ taken_by stream before.taken offset
    → with_bucket before n offset taken ≡ names_before stream (n + 1)
unfolding names_taken
before_more stream n offset taken before so_far at is =
    let full = full_more stream n in
    let more = ap (names_taken stream) (next n) in
    rw (is, so_far, at, full, more) refl

pub before_none : (stream : List ℕ) (before : NamesBefore) → before.full_from ≡ 0
    → before.last_full_from ≡ full_from stream (bucket_count stream) → before.taken ≡ 0
    → before ≡ names_before stream 0
unfolding names_taken full_from
before_none stream before none last nothing = rw (none, last, nothing) refl
