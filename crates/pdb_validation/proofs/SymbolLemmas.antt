-- The records of symbols, one behind another.
use Rattle.std.proofs.Common.{◌≡◌, ℕ, suc, ◌+◌, ◌-◌, ◌<◌, ◌≤◌, true, false, nat_le, nat_lt, List, [], ◌∷◌, drop}
use Rattle.std.proofs.Common.{take, length, refl, sym, ap, ◌∙◌, arith, inl, inr, Some, Ok, Err}
use Rattle.std.proofs.lemmas.Bool.{cases_lt, le-leb, le-ltb}
use Rattle.std.proofs.lemmas.List.{length-drop, length-take-le, take_all}
use Rattle.pdb_base.specs.Answer.{Answer}
use Rattle.pdb_base.proofs.lemmas.Reading.{front_cut, front_whole}
use Rattle.pdb_base.specs.Reading.{front_at, number_at}
use Rattle.pdb_base.specs.Refusal.{Refusal}
use Rattle.pdb_base.proofs.lemmas.Collected.{bind_err, bind_ok, ok_is}
use Rattle.pdb_tpi.specs.Walk.{behind, first_item, rest}
use Rattle.pdb_validation.specs.HeaderFields.{fields_mismatches}
use Rattle.pdb_validation.specs.Mismatch.{asked_of, with_further}
use Rattle.pdb_validation.specs.Symbols.{behind_symbol, hash_table_checks, publics_field, publics_mismatches}
use Rattle.pdb_validation.specs.Symbols.{publics_table}
use Rattle.pdb_validation.specs.declared.header_fields.FieldCheck.{FieldCheck}
use Rattle.pdb_validation.specs.declared.mismatch.Extent.{Extent}
use Rattle.pdb_validation.specs.declared.mismatch.Mismatch.{Mismatch}
use Rattle.pdb_validation.proofs.MismatchLemmas.{asked_in_two, told}

-- ---- publics

pub publics_told : (extent : Extent) (number : ℕ) (stream : List ℕ) (sizes : FieldCheck) (table : List ℕ)
    (none one both : List Mismatch) → 28 ≤ length stream → sizes ≡ publics_field stream
    → table ≡ publics_table stream → none ≡ []
    → told (with_further extent none (fields_mismatches (Some number) (sizes ∷ []))) ≡ Ok one
    → told (with_further extent one (fields_mismatches (Some number) (hash_table_checks 28 table))) ≡ Ok both
    → told (asked_of extent (publics_mismatches number stream)) ≡ Ok both
unfolding publics_mismatches
publics_told extent number stream sizes table none one both long are is empty first second =
    let test : nat_lt (length stream) 28 ≡ false = le-ltb (length stream) 28 long in
    rw test
    (asked_in_two extent (fields_mismatches (Some number) (publics_field stream ∷ []))
    (fields_mismatches (Some number) (hash_table_checks 28 (publics_table stream))) one both
    (rw (empty, are) at first) (rw is at second))

-- ---- one record

abbrev given : List ℕ → Answer (List ℕ)
given bytes = Ok bytes

front_sized : (count : ℕ) (bytes item behind : List ℕ) → front_at count bytes ≡ Ok (item, behind)
    → length item ≡ count
front_sized count bytes item behind is = elim (cases_lt (length bytes) count) [
  | inl short ↦ let cut = front_cut count bytes short in absurd cc
  | inr long ↦
      let same = ok_is _ _ (sym (front_whole count bytes long) ∙ is) in
      ap (λ (parts : List ℕ × List ℕ). length parts.0) (sym same) ∙ length-take-le count bytes long
]

pub behind_told : (bytes first second item third : List ℕ) (size : ℕ) → first ≡ bytes
    → number_at 2 first ≡ Ok (size, second) → 2 ≤ size → front_at size second ≡ Ok (item, third)
    → behind_symbol bytes ≡ Ok (take (length bytes - (2 + size)) (drop (2 + size) bytes))
unfolding behind_symbol first_item
behind_told bytes first second item third size same read least front =
    let begins : number_at 2 bytes ≡ Ok (size, second) = rw same at read in
    let room : nat_le 2 size ≡ true = le-leb 2 size least in
    rw (begins, room, front)
    (ap given (ap (λ (n : ℕ). drop (2 + n) bytes) (front_sized size second item third front)
    ∙ sym (take_all (length bytes - (2 + size)) (drop (2 + size) bytes)
    (omega (arith, length-drop (2 + size) bytes)))))

-- ---- all records

rest_more : (limit most : ℕ) (bytes next : List ℕ) → limit ≡ suc most → behind_symbol bytes ≡ Ok next
    → rest limit bytes ≡ rest most next
unfolding rest behind_symbol
rest_more limit most bytes next here is =
    let item = bind_ok (first_item bytes) (λ item. Ok (behind item bytes)) next is in
    rw (here, item.1) (ap (λ (l : List ℕ). rest most l) (ok_is (behind item.0 bytes) next item.2))

rest_stops : (limit most : ℕ) (bytes : List ℕ) (refusal : Refusal) → limit ≡ suc most
    → behind_symbol bytes ≡ Err refusal → rest limit bytes ≡ bytes
unfolding rest behind_symbol
rest_stops limit most bytes refusal here is =
    let cut = bind_err (first_item bytes) (λ item. behind item bytes) refusal is in rw (here, cut) refl

-- the bytes behind one record more
pub behind_more : (count step : ℕ) (bytes next all : List ℕ) → rest (count - step) bytes ≡ all → step < count
    → behind_symbol bytes ≡ Ok next → rest (count - (step + 1)) next ≡ all
behind_more count step bytes next all so_far within is =
    rw (rest_more (count - step) (count - (step + 1)) bytes next (omega arith) is) at so_far

-- a record that is cut
pub behind_last : (count step : ℕ) (bytes all : List ℕ) (refusal : Refusal) → rest (count - step) bytes ≡ all
    → step < count → behind_symbol bytes ≡ Err refusal → bytes ≡ all
behind_last count step bytes all refusal so_far within is =
    rw (rest_stops (count - step) (count - (step + 1)) bytes refusal (omega arith) is) at so_far

-- as many as there may be
pub behind_all : (count step : ℕ) (bytes all : List ℕ) → rest (count - step) bytes ≡ all → count ≤ step → bytes ≡ all
unfolding rest
behind_all count step bytes all so_far ends =
    let none : count - step ≡ 0 = omega arith in rw none at so_far
