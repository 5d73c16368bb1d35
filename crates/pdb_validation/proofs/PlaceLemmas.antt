-- What stands at one place more.
use Rattle.std.proofs.Common.{◌≡◌, ◌≢◌, ℕ, ◌+◌, zero, suc, Bool, true, false, not, eqb, List, [], ◌∷◌, ◌++◌, length}
use Rattle.std.proofs.Common.{refl, sym, ap, ◌∙◌, arith, Option, Ok, cond}
use Rattle.std.specs.List.{flat_map, range_with_len}
use Rattle.std.specs.Option.{option_to_list}
use Rattle.std.proofs.lemmas.Bool.{ne_eqb}
use Rattle.std.proofs.lemmas.List.{append-nil, flat_map_more, length-append}
use Rattle.std.proofs.lemmas.List.FromFn.{filter_of_map_range_with_len_more}
use Rattle.pdb_base.proofs.lemmas.Collected.{ok_is}
use Rattle.pdb_validation.specs.Mismatch.{with_further}
use Rattle.pdb_validation.specs.StringTable.{bucket_at, names_in_buckets}
use Rattle.pdb_validation.specs.Words.{mismatches_at}
use Rattle.pdb_validation.specs.declared.mismatch.Extent.{Extent}
use Rattle.pdb_validation.specs.declared.mismatch.Mismatch.{Mismatch}
use Rattle.pdb_validation.proofs.MismatchLemmas.{further_then, told}

pub range_more : (from count last : ℕ) → from + count ≡ last
    → range_with_len from (count + 1) ≡ range_with_len from count ++ last ∷ []
range_more from zero last here = let same : from ≡ last = omega arith in rw same refl
range_more from (suc count) last here =
    let next : suc count + 1 ≡ suc (count + 1) = omega arith in
    rw next (ap (λ (ns : List ℕ). from ∷ ns) (range_more (from + 1) count last (omega (arith, here))))

at_more : (at_place : ℕ → Option Mismatch) (n : ℕ)
    → mismatches_at at_place (n + 1) ≡ mismatches_at at_place n ++ option_to_list (at_place n)
unfolding mismatches_at
at_more at_place n =
    ap (flat_map (λ place. option_to_list (at_place place))) (range_more 0 n n (omega arith))
    ∙ sym (flat_map_more (λ place. option_to_list (at_place place)) [] (range_with_len 0 n) n)

-- the mismatch at one place more, if there is one
pub places_more : (extent : Extent) (at_place : ℕ → Option Mismatch) (n : ℕ) (old kept now : List Mismatch)
    (given : Option Mismatch) → kept ≡ with_further extent old (mismatches_at at_place n) → given ≡ at_place n
    → told (with_further extent kept (option_to_list given)) ≡ Ok now
    → now ≡ with_further extent old (mismatches_at at_place (n + 1))
places_more extent at_place n old kept now given so_far is added =
    let same = ok_is (with_further extent kept (option_to_list given)) now added in
    sym same ∙ rw (so_far, is, at_more at_place n)
    (further_then extent old (mismatches_at at_place n) (option_to_list (at_place n)))

abbrev has_name : ℕ → Bool
has_name offset = not (eqb offset 0)

more_by : (test : Bool) (xs : List ℕ) (x : ℕ) → test ≡ true → length (xs ++ cond test (x ∷ []) []) ≡ length xs + 1
more_by test xs x is = rw is (length-append xs (x ∷ []))

same_by : (test : Bool) (xs : List ℕ) (x : ℕ) → test ≡ false → length (xs ++ cond test (x ∷ []) []) ≡ length xs
same_by test xs x is = rw (is, append-nil) refl

-- one bucket more, with a name or without one
pub names_one : (stream : List ℕ) (n : ℕ) → bucket_at stream n ≢ 0
    → names_in_buckets stream (n + 1) ≡ names_in_buckets stream n + 1
unfolding names_in_buckets
names_one stream n some =
    ap length (filter_of_map_range_with_len_more has_name (bucket_at stream) 0 n n (omega arith))
    ∙ more_by (has_name (bucket_at stream n)) _ (bucket_at stream n) (ap not (ne_eqb (bucket_at stream n) 0 some))

pub names_same : (stream : List ℕ) (n : ℕ) → bucket_at stream n ≡ 0
    → names_in_buckets stream (n + 1) ≡ names_in_buckets stream n
unfolding names_in_buckets
names_same stream n none =
    ap length (filter_of_map_range_with_len_more has_name (bucket_at stream) 0 n n (omega arith))
    ∙ same_by (has_name (bucket_at stream n)) _ (bucket_at stream n) (rw none refl)

-- no place yet
pub places_none : (extent : Extent) (at_place : ℕ → Option Mismatch) (old : List Mismatch)
    → old ≡ with_further extent old (mismatches_at at_place 0)
unfolding mismatches_at
places_none extent at_place old = refl
