-- Refusals of the library and the faults that tell one correspond one to one.
use Rattle.std.specs.{declared.io.ErrorKind.ErrorKind, Prelude.Contains, Option.option_map}
use Rattle.std.specs.declared.io.ErrorKind.TheVariants as kinds
use Rattle.std.proofs.Common.{◌≡◌, ap, sym, subst, refl, ℕ, zero, suc, ◌+◌, ◌==◌, ◌&&◌, Bool, true, List, [], ◌∷◌}
use Rattle.std.proofs.Common.{length, slice_get, Option, Some, None, arith}
use Rattle.std.proofs.lemmas.{Bool.Decides.nat_tests, Option.none-some, Option.same_Some, Option.slice_get_read}
use Rattle.pdb_base.specs.Refusal.{Refusal, invalid_stream_length, io_error, unimplemented_feature}
use Rattle.pdb_base.specs.Refusal.{unimplemented_symbol_kind, invalid_type_information_header, unimplemented_type_kind}
use Rattle.pdb_base.specs.Refusal.{unexpected_numeric_prefix, unimplemented_file_checksum_kind}
use Rattle.pdb_handles.specs.declared.fault.Fault.{Fault}
use Rattle.pdb_handles.specs.Fault.{fault_of_refusal, error_kind_number, text_number, texts}
use Rattle.pdb_handles.specs.Told.{IsOurs, candidate, if_told, kind_numbered, refusal_told, text_numbered}

-- whether texts have the numbers from `n` on
abbrev are_numbered : ℕ → List (List ℕ) → Bool
are_numbered n [] = true
are_numbered n (text ∷ more) = text_number text == n && are_numbered (suc n) more

number_at : (n : ℕ) (some : List (List ℕ)) (place : ℕ) (text : List ℕ) → are_numbered n some ≡ true
    → slice_get some place ≡ Some text → text_number text ≡ n + place
number_at n [] place text are is = absurd (none-some text is)
number_at n (first ∷ more) zero text are is =
    let same : text_number first ≡ text_number text = ap text_number (same_Some first text is) in
    grind (arith, nat_tests, same, are)
number_at n (first ∷ more) (suc place) text are is =
    let rest : are_numbered (suc n) more ≡ true = grind (arith, nat_tests, are) in
    omega (arith, number_at (suc n) more place text rest is)

-- a text of the library's has a number, which is that of the text
pub text_back : (text : List ℕ) → Contains texts text → text_numbered (text_number text) ≡ Some text
text_back text (place, within, is) =
    let at : slice_get texts place ≡ Some text = slice_get_read texts (length texts) place text refl within (sym is) in
    let number : suc place ≡ text_number text = omega (arith, number_at 1 texts place text refl at) in
    subst (λ (n : ℕ). text_numbered n ≡ Some text) number at

pub kind_back : (kind : ErrorKind) → Contains (kinds.UnexpectedEof ∷ kinds.OutOfMemory ∷ []) kind
    → kind_numbered (error_kind_number kind) ≡ Some kind
kind_back kind (zero, inside, is) = subst (λ (k : ErrorKind). kind_numbered (error_kind_number k) ≡ Some k) is refl
kind_back kind (suc zero, inside, is) = subst (λ (k : ErrorKind). kind_numbered (error_kind_number k) ≡ Some k) is refl
kind_back kind (suc (suc k), inside, is) = absurd (omega (arith, inside))

candidate_of : (refusal : Refusal) → IsOurs refusal → candidate (fault_of_refusal refusal) ≡ Some refusal
candidate_of (invalid_stream_length text) ours = ap (option_map invalid_stream_length) (text_back text ours)
candidate_of (io_error kind) ours = ap (option_map io_error) (kind_back kind ours)
candidate_of (unimplemented_feature text) ours = ap (option_map unimplemented_feature) (text_back text ours)
candidate_of (unimplemented_symbol_kind number) ours = grind (arith, nat_tests, ours)
candidate_of (invalid_type_information_header text) ours =
    ap (option_map invalid_type_information_header) (text_back text ours)
candidate_of (unimplemented_type_kind number) ours = grind (arith, nat_tests, ours)
candidate_of (unexpected_numeric_prefix number) ours = grind (arith, nat_tests, ours)
candidate_of (unimplemented_file_checksum_kind number) ours = grind (arith, nat_tests, ours)
candidate_of refusal ours = refl

-- the refusal that the fault of a refusal tells
pub forth : (refusal : Refusal) → IsOurs refusal → refusal_told (fault_of_refusal refusal) ≡ Some refusal
unfolding refusal_told
forth refusal ours = rw (candidate_of refusal ours) (grind (arith, nat_tests))

told_back : (fault : Fault) (can : Option Refusal) (refusal : Refusal) → if_told fault can ≡ Some refusal
    → fault_of_refusal refusal ≡ fault
told_back fault None refusal is = absurd (none-some refusal is)
told_back fault (Some told) refusal is = grind (arith, nat_tests)

-- a fault that tells a refusal is that of the refusal
pub back_of : (fault : Fault) (refusal : Refusal) → refusal_told fault ≡ Some refusal → fault_of_refusal refusal ≡ fault
unfolding refusal_told
back_of fault refusal is = told_back fault (candidate fault) refusal is
