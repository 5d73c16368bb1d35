-- One step of a list: what a loop keeps while it reads.
use Rattle.std.proofs.Common.{◌≡◌, ◌≢◌, inl, inr, ℕ, zero, suc, ◌+◌, ◌-◌, ◌*◌, ◌<◌, ◌≤◌, List, [], ◌∷◌, ◌++◌, length}
use Rattle.std.proofs.Common.{take, drop, refl, sym, ap, ◌∙◌, arith, append_assoc, Ok, Err}
use Rattle.std.proofs.lemmas.Bool.{cases_lt}
use Rattle.std.proofs.lemmas.List.{append-nil, drop-drop, length-drop}
use Rattle.pdb_base.specs.Endian.{little_number}
use Rattle.pdb_base.specs.Refusal.{Refusal, unexpected_eof}
use Rattle.pdb_base.specs.Answer.{Answer, ◌>>=◌}
use Rattle.pdb_base.specs.Reading.{number_at}
use Rattle.pdb_base.proofs.lemmas.Collected.{ok, answer_cases}
use Rattle.pdb_base.proofs.lemmas.Reading.{number_cut, number_whole}
use Rattle.pdb_records.specs.Agreement.{Agrees}
use Rattle.pdb_base.specs.Repeated.{read_times}
use Rattle.pdb_records.specs.Shape.{index_at}
use Rattle.pdb_records.specs.ToEnd.{TakesBytes, read_upto, to_end}
use Rattle.pdb_records.proofs.Agreeing.{bind_at, bind_no}
use Rattle.pdb_records.proofs.ToEndLaws.{to_end_agrees}

-- values that were read, and what is read behind them
abbrev pub behind : {A : Type 0} → List A → Answer (List A × List ℕ) → Answer (List A × List ℕ)
behind {A} before more = more >>= λ xs. ok (before ++ xs.0, xs.1)

behind_none : {A : Type 0} (more : Answer (List A × List ℕ)) → behind [] more ≡ more
behind_none (Ok xs) = refl
behind_none (Err e) = refl

pub behind_more : {A : Type 0} (before : List A) (x : A) (more : Answer (List A × List ℕ))
    → behind before (more >>= λ xs. ok (x ∷ xs.0, xs.1)) ≡ behind (before ++ x ∷ []) more
behind_more {A} before x (Ok xs) = ap (λ (ys : List A). ok (ys, xs.1)) (sym (append_assoc before (x ∷ []) xs.0))
behind_more {A} before x (Err e) = refl

-- ---- to the end

pub to_end_starts : {A : Type 0} (read : List ℕ → Answer (A × List ℕ)) (bytes : List ℕ)
    → to_end read bytes ≡ behind [] (to_end read bytes)
to_end_starts read bytes = sym (behind_none (to_end read bytes))

pub to_end_step : {A : Type 0} (read : List ℕ → Answer (A × List ℕ)) (Is : List ℕ → A → List ℕ → Type 0)
    (Fails : List ℕ → Refusal → Type 0)
    → Agrees read Is Fails → TakesBytes Is → (before : List A) (bytes : List ℕ) (x : A) (rest : List ℕ)
    → read bytes ≡ Ok (x, rest)
    → behind before (to_end read bytes) ≡ behind (before ++ x ∷ []) (to_end read rest)
to_end_step {A} read Is Fails agrees takes before bytes x rest is =
    let all = to_end_agrees read Is Fails agrees takes in
    let here : Is bytes x rest = agrees.found bytes x rest is in
    let step : to_end read bytes ≡ (to_end read rest >>= λ xs. ok (x ∷ xs.0, xs.1)) =
    elim (answer_cases (to_end read rest)) [
      | inl there ↦
          let fills = all.found rest there.0.0 there.0.1 there.1 in
          all.only bytes (x ∷ there.0.0) there.0.1 ((rest, here, fills.0), fills.1)
          ∙ sym (bind_at (to_end read rest) (λ xs. ok (x ∷ xs.0, xs.1)) there.0 there.1)
      | inr refused ↦
          let fails = all.failed rest refused.0 refused.1 in
          all.fails bytes refused.0 (x ∷ fails.0, fails.1, (rest, here, fails.2), fails.3, fails.4)
          ∙ sym (bind_no (to_end read rest) (λ xs. ok (x ∷ xs.0, xs.1)) refused.0 refused.1)
    ] in
    ap (λ (r : Answer (List A × List ℕ)). behind before r) step ∙ behind_more before x (to_end read rest)

pub to_end_ends : {A : Type 0} (read : List ℕ → Answer (A × List ℕ)) (before : List A)
    → behind before (to_end read []) ≡ Ok (before, [])
unfolding to_end
to_end_ends {A} read before = ap (λ (xs : List A). ok (xs, [])) (append-nil before)

pub to_end_stops : {A : Type 0} (read : List ℕ → Answer (A × List ℕ)) (before : List A) (bytes : List ℕ) (e : Refusal)
    → bytes ≢ [] → read bytes ≡ Err e → behind before (to_end read bytes) ≡ Err e
unfolding to_end
to_end_stops {A} read before [] e some is = absurd (some refl)
to_end_stops {A} read before (byte ∷ bytes) e some is =
    bind_no (read_upto read (suc (length bytes)) (byte ∷ bytes)) (λ xs. ok (before ++ xs.0, xs.1)) e
    (bind_no (read (byte ∷ bytes)) (λ x. read_upto read (length bytes) x.1 >>= λ xs. ok (x.0 ∷ xs.0, xs.1)) e is)

-- ---- so many

pub repeated_step : {A : Type 0} (read : List ℕ → Answer (A × List ℕ)) (before : List A) (count : ℕ) (bytes : List ℕ)
    (x : A) (rest : List ℕ) → 0 < count → read bytes ≡ Ok (x, rest)
    → behind before (read_times read count bytes) ≡ behind (before ++ x ∷ []) (read_times read (count - 1) rest)
repeated_step {A} read before zero bytes x rest some is = absurd (omega (arith, some))
repeated_step {A} read before (suc count) bytes x rest some is =
    let less : suc count - 1 ≡ count = omega arith in
    let one : read_times read (suc count) bytes ≡ (read_times read count rest >>= λ xs. ok (x ∷ xs.0, xs.1)) =
    bind_at (read bytes) (λ y. read_times read count y.1 >>= λ xs. ok (y.0 ∷ xs.0, xs.1)) (x, rest) is in
    ap (λ (r : Answer (List A × List ℕ)). behind before r) one
    ∙ behind_more before x (read_times read count rest)
    ∙ ap (λ (n : ℕ). behind (before ++ x ∷ []) (read_times read n rest)) (sym less)

pub repeated_stops : {A : Type 0} (read : List ℕ → Answer (A × List ℕ)) (before : List A) (count : ℕ) (bytes : List ℕ)
    (e : Refusal) → 0 < count → read bytes ≡ Err e → behind before (read_times read count bytes) ≡ Err e
repeated_stops {A} read before zero bytes e some is = absurd (omega (arith, some))
repeated_stops {A} read before (suc count) bytes e some is =
    bind_no (read_times read (suc count) bytes) (λ xs. ok (before ++ xs.0, xs.1)) e
    (bind_no (read bytes) (λ y. read_times read count y.1 >>= λ xs. ok (y.0 ∷ xs.0, xs.1)) e is)

-- ---- indexes, which have four bytes each

index_whole : {A : Type 0} (said : ℕ → A) (bytes : List ℕ) → 4 ≤ length bytes → (x : A) × (rest : List ℕ)
    × (index_at said bytes ≡ Ok (x, rest)) × (length rest + 4 ≡ length bytes)
index_whole said bytes fits = (
  said (little_number 4 (take 4 bytes)),
  drop 4 bytes,
  bind_at (number_at 4 bytes) (λ n. ok (said n.0, n.1)) (little_number 4 (take 4 bytes), drop 4 bytes)
      (number_whole 4 bytes fits),
  omega (arith, fits, length-drop 4 bytes),
)

index_short : {A : Type 0} (said : ℕ → A) (bytes : List ℕ) → length bytes < 4 → index_at said bytes ≡ Err unexpected_eof
index_short said bytes short = bind_no (number_at 4 bytes) (λ n. ok (said n.0, n.1)) unexpected_eof
    (number_cut 4 bytes short)

-- bytes that can't hold so many end too soon
pub indexes_short : {A : Type 0} (said : ℕ → A) (count : ℕ) (bytes : List ℕ) → length bytes < 4 * count
    → read_times (index_at said) count bytes ≡ Err unexpected_eof
indexes_short {A} said zero bytes short = absurd (omega (arith, short))
indexes_short {A} said (suc count) bytes short = elim (cases_lt (length bytes) 4) [
  | inl few ↦ bind_no (index_at said bytes)
      (λ y. read_times (index_at said) count y.1 >>= λ xs. ok (y.0 ∷ xs.0, xs.1)) unexpected_eof
      (index_short said bytes few)
  | inr enough ↦
      let one = index_whole said bytes enough in
      bind_at (index_at said bytes) (λ y. read_times (index_at said) count y.1 >>= λ xs. ok (y.0 ∷ xs.0, xs.1))
      (one.0, one.1) one.2
      ∙ bind_no (read_times (index_at said) count one.1) (λ xs. ok (one.0 ∷ xs.0, xs.1)) unexpected_eof
      (indexes_short said count one.1 (omega (arith, short, one.3)))
]

-- an index, and so many behind it
one_more : {A : Type 0} (said : ℕ → A) (count : ℕ) (bytes : List ℕ) (x : A) (rest : List ℕ) (xs : List A × List ℕ)
    → index_at said bytes ≡ Ok (x, rest) → read_times (index_at said) count rest ≡ Ok xs
    → read_times (index_at said) (suc count) bytes ≡ Ok (x ∷ xs.0, xs.1)
one_more said count bytes x rest xs is more =
    bind_at (index_at said bytes) (λ y. read_times (index_at said) count y.1 >>= λ ys. ok (y.0 ∷ ys.0, ys.1))
    (x, rest) is
    ∙ bind_at (read_times (index_at said) count rest) (λ ys. ok (x ∷ ys.0, ys.1)) xs more

-- bytes that hold so many have them
indexes_whole : {A : Type 0} (said : ℕ → A) (count : ℕ) (bytes : List ℕ) → 4 * count ≤ length bytes
    → (xs : List A × List ℕ) × (read_times (index_at said) count bytes ≡ Ok xs)
indexes_whole {A} said zero bytes fits = (([], bytes), refl)
indexes_whole {A} said (suc count) bytes fits =
    let one = index_whole said bytes (omega (arith, fits)) in
    let more = indexes_whole said count one.1 (omega (arith, fits, one.3)) in
    ((one.0 ∷ more.0.0, more.0.1), one_more said count bytes one.0 one.1 more.0 one.2 more.1)

-- and they end behind four bytes each
pub indexes_end : {A : Type 0} (said : ℕ → A) (count : ℕ) (bytes : List ℕ) → 4 * count ≤ length bytes → (xs : List A)
    × (read_times (index_at said) count bytes ≡ Ok (xs, drop (4 * count) bytes))
unfolding index_whole
indexes_end {A} said zero bytes fits = ([], refl)
indexes_end {A} said (suc count) bytes fits =
    let one = index_whole said bytes (omega (arith, fits)) in
    let more = indexes_end said count (drop 4 bytes) (omega (arith, fits, length-drop 4 bytes)) in
    let first : index_at said bytes ≡ Ok (said (little_number 4 (take 4 bytes)), drop 4 bytes) = one.2 in
    let behind : drop (4 * count) (drop 4 bytes) ≡ drop (4 * suc count) bytes = drop-drop (4 * count) 4 bytes
    ∙ ap (λ (n : ℕ). drop n bytes) (omega arith) in (
      said (little_number 4 (take 4 bytes)) ∷ more.0,
      one_more said count bytes (said (little_number 4 (take 4 bytes))) (drop 4 bytes)
          (more.0, drop (4 * count) (drop 4 bytes)) first more.1
          ∙ ap (λ (end : List ℕ). ok (said (little_number 4 (take 4 bytes)) ∷ more.0, end)) behind,
    )

-- of more than none there is a first one
pub indexes_item : {A : Type 0} (said : ℕ → A) (count : ℕ) (bytes : List ℕ) → 4 * count ≤ length bytes → 0 < count
    → (x : A) × (xs : List A) × (end : List ℕ) × (read_times (index_at said) count bytes ≡ Ok (x ∷ xs, end))
indexes_item {A} said zero bytes fits some = absurd (omega (arith, some))
indexes_item {A} said (suc count) bytes fits some =
    let one = index_whole said bytes (omega (arith, fits)) in
    let more = indexes_whole said count one.1 (omega (arith, fits, one.3)) in
    (one.0, more.0.0, more.0.1, one_more said count bytes one.0 one.1 more.0 one.2 more.1)
