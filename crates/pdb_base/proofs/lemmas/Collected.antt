-- Answers one after another: what is known of each from what is known of all.
use Rattle.std.proofs.Common.{◌≡◌, ◌⊎◌, inl, inr, ℕ, zero, suc, ◌+◌, ◌-◌, ◌<◌, Bool, true, false, List, [], ◌∷◌, ◌++◌}
use Rattle.std.proofs.Common.{map, refl, ap, ◌∙◌, arith, Option, Some, None, Ok, Err}
use Rattle.std.specs.List.{range_with_len}
use Rattle.std.proofs.lemmas.List.{map-append}
use Rattle.std.proofs.lemmas.List.FromFn.{map-range_with_len_more}
use Rattle.pdb_base.specs.Refusal.{Refusal}
use Rattle.pdb_base.specs.Answer.{Answer, ◌>>=◌, ok_if, values_of_all}
use Rattle.pdb_base.specs.Laws.{CollectsAll, RefusesAsFirst}

abbrev pub ok : {A : Type 0} → A → Answer A
ok x = Ok x

abbrev pub err : {A : Type 0} → Refusal → Answer A
err e = Err e

pub ok_is : {A : Type 0} (x y : A) → ok x ≡ ok y → x ≡ y
ok_is x y e = cc

pub err_is : {A : Type 0} (d e : Refusal) → err {A = A} d ≡ Err e → d ≡ e
err_is d e h = cc

pub ok_is_no_err : {A : Type 0} (x : A) (e : Refusal) → ok x ≡ Err e → ⊥
ok_is_no_err x e h = cc

pub answer_cases : {A : Type 0} (answer : Answer A) → ((x : A) × (answer ≡ Ok x)) ⊎ ((e : Refusal) × (answer ≡ Err e))
answer_cases (Ok x) = inl (x, refl)
answer_cases (Err e) = inr (e, refl)

pub option_cases : {A : Type 0} (option : Option A) → (option ≡ None) ⊎ ((x : A) × (option ≡ Some x))
option_cases None = inl refl
option_cases (Some x) = inr (x, refl)

-- a condition that was required holds
pub required_holds : (test : Bool) (e : Refusal) (x : Unit {0}) → ok_if test e ≡ Ok x → test ≡ true
required_holds true e x is = refl
required_holds false e x is = absurd cc

-- the values of two answers, one after the other
pub bind_ok : {A B : Type 0} (r : Answer A) (f : A → Answer B) (y : B) → (r >>= f) ≡ Ok y → (x : A) × (r ≡ Ok x)
    × (f x ≡ Ok y)
bind_ok (Ok x) f y e = (x, refl, e)
bind_ok (Err d) f y e = absurd cc

-- a refusal behind which no other can come
pub bind_err : {A B : Type 0} (r : Answer A) (f : A → B) (e : Refusal) → (r >>= λ x. Ok (f x)) ≡ Err e → r ≡ Err e
bind_err (Ok x) f e h = absurd cc
bind_err (Err d) f e h = cc

pub values_of_all-append_ok : {A : Type 0} (answers more : List (Answer A)) (xs ys : List A) → values_of_all answers
    ≡ Ok xs
    → values_of_all more ≡ Ok ys → values_of_all (answers ++ more) ≡ Ok (xs ++ ys)
values_of_all-append_ok {A} [] more xs ys e f = f ∙ ap (λ (zs : List A). Ok (zs ++ ys)) (ok_is [] xs e)
values_of_all-append_ok {A} (Ok x ∷ answers) more xs ys e f =
    let b = bind_ok (values_of_all answers) (λ zs. Ok (x ∷ zs)) xs e in
    rw (values_of_all-append_ok answers more b.0 ys b.1 f)
    (ap (λ (zs : List A). Ok (zs ++ ys)) (ok_is (x ∷ b.0) xs b.2))
values_of_all-append_ok {A} (Err d ∷ answers) more xs ys e f = absurd cc

pub values_of_all-append_err : {A : Type 0} (answers more : List (Answer A)) (xs : List A) (r : Refusal)
    → values_of_all answers ≡ Ok xs → values_of_all more ≡ Err r → values_of_all (answers ++ more) ≡ Err r
values_of_all-append_err [] more xs r e f = f
values_of_all-append_err (Ok x ∷ answers) more xs r e f =
    let b = bind_ok (values_of_all answers) (λ zs. Ok (x ∷ zs)) xs e in
    rw (values_of_all-append_err answers more b.0 r b.1 f) refl
values_of_all-append_err (Err d ∷ answers) more xs r e f = absurd cc

-- values that are there are collected
values_of_all-values : {A : Type 0} (xs : List A) → values_of_all (map ok xs) ≡ Ok xs
values_of_all-values [] = refl
values_of_all-values (x ∷ xs) = rw (values_of_all-values xs) refl

-- what was collected is there
values-values_of_all : {A : Type 0} (answers : List (Answer A)) (xs : List A) → values_of_all answers ≡ Ok xs
    → answers ≡ map ok xs
values-values_of_all {A} [] xs e = ap (λ (ys : List A). map ok ys) (ok_is [] xs e)
values-values_of_all {A} (Ok x ∷ answers) xs e =
    let b = bind_ok (values_of_all answers) (λ zs. Ok (x ∷ zs)) xs e in
    ap (λ (r : List (Answer A)). ok x ∷ r) (values-values_of_all answers b.0 b.1)
    ∙ ap (λ (ys : List A). map ok ys) (ok_is (x ∷ b.0) xs b.2)
values-values_of_all (Err d ∷ answers) xs e = absurd cc

pub collects_all : {A : Type 0} (answers : List (Answer A)) → CollectsAll answers
collects_all {A} answers = (
  values-values_of_all answers,
  λ xs e. ap (λ (r : List (Answer A)). values_of_all r) e
      ∙ values_of_all-values xs,
)

-- the first that refuses is found
first_refusal : {A : Type 0} (answers : List (Answer A)) (e : Refusal) → values_of_all answers ≡ Err e
    → (before : List A)
    × (behind : List (Answer A)) × (answers ≡ map ok before ++ err e ∷ behind)
first_refusal [] e h = absurd cc
first_refusal {A} (Ok x ∷ answers) e h =
    let rest = first_refusal answers e (bind_err (values_of_all answers) (λ zs. x ∷ zs) e h) in
    (x ∷ rest.0, rest.1, ap (λ (r : List (Answer A)). ok x ∷ r) rest.2)
first_refusal {A} (Err d ∷ answers) e h =
    ([], answers, ap (λ (r : Refusal). err r ∷ answers) (err_is {A = List A} d e h))

pub refuses_as_first : {A : Type 0} (answers : List (Answer A)) → RefusesAsFirst answers
refuses_as_first {A} answers = (
  first_refusal answers,
  λ e before behind is. ap (λ (r : List (Answer A)). values_of_all r) is
      ∙ values_of_all-append_err (map ok before) (err e ∷ behind) before e (values_of_all-values before) refl,
)

-- ---- answers in turn

-- numbers up to one, that one, and those behind
range_split : (from i more : ℕ) → range_with_len from (i + suc more) ≡ range_with_len from i ++ (from + i)
    ∷ range_with_len (from + i + 1) more
range_split from zero more =
    let count : 0 + suc more ≡ suc more = omega arith in
    let first : from ≡ from + 0 = omega arith in
    ap (range_with_len from) count ∙ ap (λ (n : ℕ). n ∷ range_with_len (n + 1) more) first
range_split from (suc i) more =
    let count : suc i + suc more ≡ suc (i + suc more) = omega arith in
    let first : from + 1 + i ≡ from + suc i = omega arith in
    ap (range_with_len from) count
    ∙ ap (λ (r : List ℕ). from ∷ r) (range_split (from + 1) i more
    ∙ ap (λ (n : ℕ). range_with_len (from + 1) i ++ n ∷ range_with_len (n + 1) more) first)

-- the answers in turn, one more of which gives a value
pub collected_more : {A : Type 0} (f : ℕ → Answer A) (i : ℕ) (xs : List A) (x : A)
    → values_of_all (map f (range_with_len 0 i)) ≡ Ok xs → f i ≡ Ok x
    → values_of_all (map f (range_with_len 0 (i + 1))) ≡ Ok (xs ++ x ∷ [])
collected_more f i xs x so_far here =
    ap values_of_all (map-range_with_len_more f 0 i i (omega arith))
    ∙ values_of_all-append_ok (map f (range_with_len 0 i)) (f i ∷ []) xs (x ∷ []) so_far (rw here refl)

-- the first of them that refuses is the refusal of all
pub collected_stops : {A : Type 0} (f : ℕ → Answer A) (i count : ℕ) (xs : List A) (r : Refusal) → i < count
    → values_of_all (map f (range_with_len 0 i)) ≡ Ok xs → f i ≡ Err r → values_of_all (map f (range_with_len 0 count))
    ≡ Err r
collected_stops f i count xs r within so_far here =
    let all : count ≡ i + suc (count - i - 1) = omega arith in
    ap (λ (n : ℕ). values_of_all (map f (range_with_len 0 n))) all
    ∙ ap (λ (r : List ℕ). values_of_all (map f r))
    (range_split 0 i (count - i - 1) ∙ ap (λ (n : ℕ). range_with_len 0 i ++ n
    ∷ range_with_len (n + 1) (count - i - 1)) (omega arith))
    ∙ ap values_of_all (map-append f (range_with_len 0 i) (i ∷ range_with_len (i + 1) (count - i - 1)))
    ∙ values_of_all-append_err (map f (range_with_len 0 i))
    (f i ∷ map f (range_with_len (i + 1) (count - i - 1))) xs r so_far (rw here refl)
