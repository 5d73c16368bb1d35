-- One step of dimensions: what a loop keeps while it reads.
use Rattle.std.proofs.Common.{◌≡◌, ◌≢◌, inl, inr, ℕ, zero, suc, ◌+◌, ◌<◌, ◌≤◌, List, [], ◌∷◌, ◌++◌, length, take, drop}
use Rattle.std.proofs.Common.{refl, sym, ap, ◌∙◌, arith, length-append, Bool, true, false, ltb, Ok, Err}
use Rattle.std.proofs.lemmas.Bool.{cases_lt, le-ltb, lt-ltb, false≢true}
use Rattle.std.proofs.lemmas.List.{take-append-drop, length-take-le}
use Rattle.pdb_base.specs.Refusal.{Refusal, unexpected_eof}
use Rattle.pdb_base.specs.Answer.{Answer, ◌>>=◌}
use Rattle.pdb_base.specs.Reading.{front_at, number_at, peek_number}
use Rattle.pdb_base.proofs.lemmas.Collected.{ok, err, ok_is, err_is, ok_is_no_err, answer_cases}
use Rattle.pdb_base.proofs.lemmas.Reading.{number_cut}
use Rattle.pdb_records.specs.Dimensions.{IsDimension, HasAnotherDimension, dimension_at, dimensions_at, end_at}
use Rattle.pdb_records.specs.Padding.{least_pad, behind_pad, BeginsPad, padding_at}
use Rattle.pdb_records.proofs.Agreeing.{bind_at, bind_no}
use Rattle.pdb_records.proofs.StepLemmas.{behind, behind_more}
use Rattle.pdb_records.proofs.PaddingLaws.{none_at, cut_at, pad_at}
use Rattle.pdb_records.proofs.DimensionLaws.{dimension_agrees, dimensions_agree, one_more, num_takes}
use Rattle.pdb_base.proofs.lemmas.Front.{byte_read}

-- a number of one byte is the first byte
pub no_byte_read : number_at 1 [] ≡ Err unexpected_eof
no_byte_read = number_cut 1 [] (omega arith)

pub step_more : (before : List ℕ) (bytes : List ℕ) (n : ℕ) (mid : List ℕ) → dimension_at bytes ≡ Ok (n, mid)
    → HasAnotherDimension mid → behind before (dimensions_at bytes) ≡ behind (before ++ n ∷ []) (dimensions_at mid)
step_more before bytes n mid is goes =
    let here : IsDimension bytes n mid = dimension_agrees.found bytes n mid is in
    let step : dimensions_at bytes ≡ (dimensions_at mid >>= λ ns. ok (n ∷ ns.0, ns.1)) =
    elim (answer_cases (dimensions_at mid)) [
      | inl there ↦
          dimensions_agree.only bytes (n ∷ there.0.0) there.0.1
          (one_more bytes n mid there.0.0 there.0.1 here goes
          (dimensions_agree.found mid there.0.0 there.0.1 there.1))
          ∙ sym (bind_at (dimensions_at mid) (λ ns. ok (n ∷ ns.0, ns.1)) there.0 there.1)
      | inr refused ↦
          let fails = dimensions_agree.failed mid refused.0 refused.1 in
          dimensions_agree.fails bytes refused.0 (n ∷ fails.0, (mid, here, inr (goes, fails.1)))
          ∙ sym (bind_no (dimensions_at mid) (λ ns. ok (n ∷ ns.0, ns.1)) refused.0 refused.1)
    ] in
    ap (λ (r : Answer (List ℕ × List ℕ)). behind before r) step ∙ behind_more before n (dimensions_at mid)

pub step_last : (before : List ℕ) (bytes : List ℕ) (n : ℕ) (rest : List ℕ) → dimension_at bytes ≡ Ok (n, 0 ∷ rest)
    → behind before (dimensions_at bytes) ≡ Ok (before ++ n ∷ [], rest)
step_last before bytes n rest is =
    bind_at (dimensions_at bytes) (λ ns. ok (before ++ ns.0, ns.1)) (n ∷ [], rest)
    (dimensions_agree.only bytes (n ∷ []) rest (dimension_agrees.found bytes n (0 ∷ rest) is))

pub step_cut : (before : List ℕ) (bytes : List ℕ) (n : ℕ) → dimension_at bytes ≡ Ok (n, [])
    → behind before (dimensions_at bytes) ≡ Err unexpected_eof
step_cut before bytes n is =
    bind_no (dimensions_at bytes) (λ ns. ok (before ++ ns.0, ns.1)) unexpected_eof
    (dimensions_agree.fails bytes unexpected_eof
    (n ∷ [], ([], dimension_agrees.found bytes n [] is, inl (refl, refl, refl))))

pub step_refused : (before : List ℕ) (bytes : List ℕ) (e : Refusal) → dimension_at bytes ≡ Err e
    → behind before (dimensions_at bytes) ≡ Err e
step_refused before bytes e is =
    bind_no (dimensions_at bytes) (λ ns. ok (before ++ ns.0, ns.1)) e
    (dimensions_agree.fails bytes e ([], dimension_agrees.failed bytes e is))

pub dimension_shorter : (bytes : List ℕ) (n : ℕ) (rest : List ℕ) → dimension_at bytes ≡ Ok (n, rest)
    → length rest < length bytes
dimension_shorter bytes n rest is = num_takes bytes n rest (dimension_agrees.found bytes n rest is).0

-- ---- the first byte

pub peek_cons : (byte : ℕ) (rest : List ℕ) → peek_number 1 (byte ∷ rest) ≡ Ok byte
unfolding peek_number
peek_cons byte rest = bind_at (number_at 1 (byte ∷ rest)) (λ n. ok n.0) (byte, rest) (byte_read byte rest)

pub peek_none : peek_number 1 [] ≡ Err unexpected_eof
unfolding peek_number
peek_none = bind_no (number_at 1 []) (λ n. ok n.0) unexpected_eof no_byte_read

-- the byte that is seen is the first
pub peek_is : (byte : ℕ) (rest : List ℕ) (seen : ℕ) → peek_number 1 (byte ∷ rest) ≡ Ok seen → byte ≡ seen
peek_is byte rest seen is = ok_is byte seen (sym (peek_cons byte rest) ∙ is)

pub peeked_some : (bytes : List ℕ) (e : Refusal) → bytes ≢ [] → peek_number 1 bytes ≡ Err e → ⊥
peeked_some [] e some is = some refl
peeked_some (byte ∷ rest) e some is = ok_is_no_err byte e (sym (peek_cons byte rest) ∙ is)

-- ---- where dimensions end

pub end_unseen : (bytes : List ℕ) (e : Refusal) → peek_number 1 bytes ≡ Err e → end_at bytes ≡ Err e
end_unseen [] e is = ap (λ (d : Refusal). err d) (err_is {A = ℕ} unexpected_eof e (sym peek_none ∙ is))
end_unseen (byte ∷ rest) e is = absurd (ok_is_no_err byte e (sym (peek_cons byte rest) ∙ is))

pub end_unread : (bytes : List ℕ) (e : Refusal) → number_at 1 bytes ≡ Err e → end_at bytes ≡ Err e
end_unread [] e is = ap (λ (d : Refusal). err d) (err_is {A = ℕ × List ℕ} unexpected_eof e (sym no_byte_read ∙ is))
end_unread (byte ∷ rest) e is = absurd (ok_is_no_err (byte, rest) e (sym (byte_read byte rest) ∙ is))

pub end_no : (bytes : List ℕ) (seen : ℕ) → peek_number 1 bytes ≡ Ok seen → seen ≢ 0 → end_at bytes ≡ Ok (false, bytes)
end_no [] seen is other = absurd (ok_is_no_err seen unexpected_eof (sym is ∙ peek_none))
end_no (zero ∷ rest) seen is other = absurd (other (sym (peek_is 0 rest seen is)))
end_no (suc byte ∷ rest) seen is other = refl

pub end_yes : (bytes : List ℕ) (seen n : ℕ) (rest : List ℕ) → peek_number 1 bytes ≡ Ok seen → seen ≡ 0
    → number_at 1 bytes ≡ Ok (n, rest) → end_at bytes ≡ Ok (true, rest)
end_yes [] seen n rest is nul read = absurd (ok_is_no_err seen unexpected_eof (sym is ∙ peek_none))
end_yes (zero ∷ more) seen n rest is nul read =
    ap (λ (r : List ℕ). ok (true, r)) (ap (λ (p : ℕ × List ℕ). p.1)
    (ok_is (0, more) (n, rest) (sym (byte_read 0 more) ∙ read)))
end_yes (suc byte ∷ more) seen n rest is nul read = absurd (omega (arith, peek_is (suc byte) more seen is, nul))

-- what the end, or none, says of the bytes
pub end_fails : (bytes : List ℕ) (e : Refusal) → end_at bytes ≡ Err e → (bytes ≡ []) × (e ≡ unexpected_eof)
end_fails [] e is = (refl, sym (err_is {A = Bool × List ℕ} unexpected_eof e is))
end_fails (zero ∷ rest) e is = absurd (ok_is_no_err (true, rest) e is)
end_fails (suc byte ∷ rest) e is = absurd (ok_is_no_err (false, suc byte ∷ rest) e is)

pub end_found : (bytes rest : List ℕ) → end_at bytes ≡ Ok (true, rest) → bytes ≡ 0 ∷ rest
end_found [] rest is = absurd (ok_is_no_err (true, rest) unexpected_eof (sym is))
end_found (zero ∷ more) rest is = ap (λ (p : Bool × List ℕ). 0 ∷ p.1) (ok_is (true, more) (true, rest) is)
end_found (suc byte ∷ more) rest is = absurd
    (false≢true (ap (λ (p : Bool × List ℕ). p.0) (ok_is (false, suc byte ∷ more) (true, rest) is)))

pub end_missed : (bytes rest : List ℕ) → end_at bytes ≡ Ok (false, rest) → HasAnotherDimension bytes × (bytes ≡ rest)
end_missed [] rest is = absurd (ok_is_no_err (false, rest) unexpected_eof (sym is))
end_missed (zero ∷ more) rest is = absurd
    (false≢true (sym (ap (λ (p : Bool × List ℕ). p.0) (ok_is (true, more) (false, rest) is))))
end_missed (suc byte ∷ more) rest is = (
  λ nul. absurd (omega (arith, nul)),
  ap (λ (p : Bool × List ℕ). p.1) (ok_is (false, suc byte ∷ more) (false, rest) is),
)

-- ---- the loop over dimensions, by what it calls

pub loop_ends : (before bytes : List ℕ) (n : ℕ) (mid rest : List ℕ) → dimension_at bytes ≡ Ok (n, mid)
    → end_at mid ≡ Ok (true, rest) → behind before (dimensions_at bytes) ≡ Ok (before ++ n ∷ [], rest)
loop_ends before bytes n mid rest is ends =
    step_last before bytes n rest (is ∙ ap (λ (m : List ℕ). ok (n, m)) (end_found mid rest ends))

pub loop_fails : (before bytes : List ℕ) (n : ℕ) (mid : List ℕ) (e : Refusal) → dimension_at bytes ≡ Ok (n, mid)
    → end_at mid ≡ Err e → behind before (dimensions_at bytes) ≡ Err e
loop_fails before bytes n mid e is fails =
    let ends = end_fails mid e fails in
    step_cut before bytes n (is ∙ ap (λ (m : List ℕ). ok (n, m)) ends.0) ∙ ap (λ (d : Refusal). err d) (sym ends.1)

pub loop_goes : (before bytes : List ℕ) (n : ℕ) (mid rest : List ℕ) → dimension_at bytes ≡ Ok (n, mid)
    → end_at mid ≡ Ok (false, rest) → behind before (dimensions_at bytes)
    ≡ behind (before ++ n ∷ []) (dimensions_at rest)
loop_goes before bytes n mid rest is goes =
    let more = end_missed mid rest goes in
    step_more before bytes n mid is more.0 ∙ ap (λ (m : List ℕ). behind (before ++ n ∷ []) (dimensions_at m)) more.1

pub loop_shorter : (bytes : List ℕ) (n : ℕ) (mid rest : List ℕ) → dimension_at bytes ≡ Ok (n, mid)
    → end_at mid ≡ Ok (false, rest) → length rest < length bytes
loop_shorter bytes n mid rest is goes = omega
    (arith, dimension_shorter bytes n mid is, ap length (end_missed mid rest goes).1)

-- ---- padding, by what the code calls

front_parts : (count : ℕ) (bytes pad rest : List ℕ) → front_at count bytes ≡ Ok (pad, rest) → (length pad ≡ count)
    × (pad ++ rest ≡ bytes)
unfolding front_at
front_parts count bytes pad rest is = elim (cases_lt (length bytes) count) [
  | inl short ↦ let test : ltb (length bytes) count ≡ true = lt-ltb (length bytes) count short in
      absurd (ok_is_no_err (pad, rest) unexpected_eof (sym (rw test at is)))
  | inr long ↦
      let test : ltb (length bytes) count ≡ false = le-ltb (length bytes) count long in
      let same : (take count bytes, drop count bytes) ≡ (pad, rest) =
      ok_is (take count bytes, drop count bytes) (pad, rest) (rw test at is) in (
        sym (ap (λ (p : List ℕ × List ℕ). length p.0) same) ∙ length-take-le count bytes long,
        sym (ap (λ (p : List ℕ × List ℕ). p.0 ++ p.1) same) ∙ take-append-drop count bytes,
      )
]

front_missing : (count : ℕ) (bytes : List ℕ) (e : Refusal) → front_at count bytes ≡ Err e → (length bytes < count)
    × (e ≡ unexpected_eof)
unfolding front_at
front_missing count bytes e is = elim (cases_lt (length bytes) count) [
  | inl short ↦ let test : ltb (length bytes) count ≡ true = lt-ltb (length bytes) count short in
      (short, sym (err_is {A = List ℕ × List ℕ} unexpected_eof e (rw test at is)))
  | inr long ↦ let test : ltb (length bytes) count ≡ false = le-ltb (length bytes) count long in
      absurd (ok_is_no_err (take count bytes, drop count bytes) e (rw test at is))
]

-- a front with one byte more than stand behind the first of a pad is a pad
pad_of : (byte : ℕ) (more pad rest : List ℕ) → least_pad ≤ byte → length pad ≡ behind_pad byte + 1 → pad ++ rest ≡ byte
    ∷ more → BeginsPad (byte ∷ more) pad rest
pad_of byte more [] rest large len is = absurd (omega (arith, len))
pad_of byte more (first ∷ pad) rest large len is =
    let same : first ≡ byte = cc in
    ((omega (arith, same, large), omega (arith, len, ap behind_pad same)), is)

pub padding_none : (bytes : List ℕ) (seen : ℕ) → peek_number 1 bytes ≡ Ok seen → seen < least_pad
    → padding_at bytes ≡ Ok (tt, bytes)
unfolding padding_at
padding_none [] seen is small = refl
padding_none (byte ∷ more) seen is small = none_at (byte ∷ more) (omega (arith, peek_is byte more seen is, small))

pub padding_ends : (bytes : List ℕ) → bytes ≡ [] → padding_at bytes ≡ Ok (tt, bytes)
unfolding padding_at
padding_ends [] is = refl
padding_ends (byte ∷ more) is = absurd cc

pub padding_cut : (bytes : List ℕ) (seen : ℕ) (e : Refusal) → peek_number 1 bytes ≡ Ok seen → least_pad ≤ seen
    → front_at (behind_pad seen + 1) bytes ≡ Err e → padding_at bytes ≡ Err e
unfolding padding_at
padding_cut [] seen e is large cut = absurd (ok_is_no_err seen unexpected_eof (sym is ∙ peek_none))
padding_cut (byte ∷ more) seen e is large cut =
    let same = peek_is byte more seen is in
    let short = front_missing (behind_pad seen + 1) (byte ∷ more) e cut in
    cut_at (byte ∷ more) (omega (arith, same, large), omega (arith, short.0, ap behind_pad same))
    ∙ ap (λ (d : Refusal). err d) (sym short.1)

pub padding_step : (bytes : List ℕ) (seen : ℕ) (pad rest : List ℕ) → peek_number 1 bytes ≡ Ok seen → least_pad ≤ seen
    → front_at (behind_pad seen + 1) bytes ≡ Ok (pad, rest) → (padding_at bytes ≡ padding_at rest)
    × (length rest < length bytes)
unfolding padding_at
padding_step [] seen pad rest is large front = absurd (ok_is_no_err seen unexpected_eof (sym is ∙ peek_none))
padding_step (byte ∷ more) seen pad rest is large front =
    let same = peek_is byte more seen is in
    let parts = front_parts (behind_pad seen + 1) (byte ∷ more) pad rest front in
    let begins = pad_of byte more pad rest (omega (arith, same, large))
    (omega (arith, parts.0, ap behind_pad same)) parts.1 in
    (pad_at (byte ∷ more) pad rest begins, omega (arith, parts.0, length-append pad rest, ap length parts.1))
