-- How answers that follow rules are put together.
use Rattle.std.proofs.Common.{◌≡◌, ◌⊎◌, inl, inr, ℕ, Bool, true, false, List, [], ◌∷◌, ◌++◌, map, refl, sym, ap}
use Rattle.std.proofs.Common.{◌∙◌, subst, Ok, Err}
use Rattle.pdb_base.specs.Refusal.{Refusal}
use Rattle.pdb_base.specs.Answer.{Answer, ◌>>=◌, ok_if, values_of_all}
use Rattle.pdb_base.specs.Rules.{Rule, ◌⇒◌, NoneRefuses, FirstRefuses, rules_of_each, rule_of, FollowsRules}
use Rattle.pdb_base.proofs.lemmas.Collected.{ok, err, ok_is, err_is, ok_is_no_err, answer_cases}

-- ---- rules one after another

none_both : (first behind : List Rule) → NoneRefuses first → NoneRefuses behind → NoneRefuses (first ++ behind)
none_both [] behind none others = others
none_both (rule ∷ first) behind none others = (none.0, none_both first behind none.1 others)

none_each : (first behind : List Rule) → NoneRefuses (first ++ behind) → NoneRefuses first × NoneRefuses behind
none_each [] behind none = (tt, none)
none_each (rule ∷ first) behind none = let rest = none_each first behind none.1 in ((none.0, rest.0), rest.1)

first_early : (first behind : List Rule) (e : Refusal) → FirstRefuses first e → FirstRefuses (first ++ behind) e
first_early [] behind e h = absurd h
first_early (rule ∷ first) behind e (inl here) = inl here
first_early (rule ∷ first) behind e (inr later) = inr (later.0, first_early first behind e later.1)

first_late : (first behind : List Rule) (e : Refusal) → NoneRefuses first → FirstRefuses behind e
    → FirstRefuses (first ++ behind) e
first_late [] behind e none h = h
first_late (rule ∷ first) behind e none h = inr (none.0, first_late first behind e none.1 h)

first_cases : (first behind : List Rule) (e : Refusal) → FirstRefuses (first ++ behind) e
    → FirstRefuses first e ⊎ (NoneRefuses first × FirstRefuses behind e)
first_cases [] behind e h = inr (tt, h)
first_cases (rule ∷ first) behind e (inl here) = inl (inl here)
first_cases (rule ∷ first) behind e (inr later) = elim (first_cases first behind e later.1) [
  | inl early ↦ inl (inr (later.0, early))
  | inr late ↦ inr ((later.0, late.0), late.1)
]

pub none_no_first : (rules : List Rule) (e : Refusal) → NoneRefuses rules → FirstRefuses rules e → ⊥
none_no_first [] e none h = absurd h
none_no_first (rule ∷ rules) e none (inl here) = none.0 e here
none_no_first (rule ∷ rules) e none (inr later) = none_no_first rules e none.1 later.1

-- ---- answers that follow rules

pub follows_ok : {A : Type 0} (v : A) → FollowsRules [] (λ x. x ≡ v) (ok v)
follows_ok v = record {
  refused = λ e. (λ h. absurd (ok_is_no_err v e h), λ h. absurd h);
  value = λ x. (λ e. (tt, sym (ok_is v x e)), λ both. ap (λ y. ok y) (sym both.1));
}

-- a value that is there, and is the one that a relation assigns
pub follows_found : {A : Type 0} (Is : A → Type 0) (answer : Answer A) (v : A) → answer ≡ Ok v
    → ((x : A) → answer ≡ Ok x → Is x) → ((x : A) → Is x → answer ≡ Ok x) → FollowsRules [] Is answer
follows_found Is answer v there found only = record {
  refused = λ e. (λ h. absurd (ok_is_no_err v e (sym there ∙ h)), λ h. absurd h);
  value = λ x. (λ h. (tt, found x h), λ both. only x both.1);
}

pub follows_then : {A B : Type 0} (first behind : List Rule) (Is : A → Type 0) (Was : B → Type 0) (answer : Answer A)
    (next : A → Answer B) → FollowsRules first Is answer → ((x : A) → Is x → FollowsRules behind Was (next x))
    → FollowsRules (first ++ behind) Was (answer >>= next)
follows_then first behind Is Was (Ok x) next follows more =
    let given = (follows.value x).0 refl in
    let rest = more x given.1 in
    record {
      refused = λ e. (
        λ h. first_late first behind e given.0 ((rest.refused e).0 h),
        λ h. elim (first_cases first behind e h) [
          | inl early ↦ absurd (ok_is_no_err x e ((follows.refused e).1 early))
          | inr late ↦ (rest.refused e).1 late.1
        ],
      );
      value = λ y. (
        λ h. let is = (rest.value y).0 h in (none_both first behind given.0 is.0, is.1),
        λ both. (rest.value y).1 ((none_each first behind both.0).1, both.1),
      );
    }
follows_then {A} {B} first behind Is Was (Err d) next follows more =
    let early = (follows.refused d).0 refl in
    record {
      refused = λ e. (
        λ h. first_early first behind e (subst (λ (r : Refusal). FirstRefuses first r) (err_is {A = B} d e h) early),
        λ h. elim (first_cases first behind e h) [
          | inl other ↦ ap (λ (r : Refusal). err {A = B} r) (err_is {A = A} d e ((follows.refused e).1 other))
          | inr late ↦ absurd (none_no_first first d late.0 early)
        ],
      );
      value = λ y. (
        λ h. absurd (ok_is_no_err y d (sym h)),
        λ both. absurd (none_no_first first d (none_each first behind both.0).0 early),
      );
    }

-- the same behind an answer whose value is known
pub follows_next : {A B : Type 0} (first behind : List Rule) (v : A) (Was : B → Type 0) (answer : Answer A)
    (next : A → Answer B) → FollowsRules first (λ x. x ≡ v) answer → FollowsRules behind Was (next v)
    → FollowsRules (first ++ behind) Was (answer >>= next)
follows_next {A} first behind v Was answer next follows more =
    follows_then first behind (λ x. x ≡ v) Was answer next follows
    (λ x is. subst (λ (y : A). FollowsRules behind Was (next y)) (sym is) more)

-- what is made of a value that is known
pub follows_map : {A B : Type 0} (rules : List Rule) (v : A) (answer : Answer A) (f : A → B)
    → FollowsRules rules (λ x. x ≡ v) answer → FollowsRules rules (λ y. y ≡ f v) (answer >>= λ x. Ok (f x))
follows_map rules v (Ok x) f follows =
    let given = (follows.value x).0 refl in
    record {
      refused = λ e. (
        λ h. absurd (ok_is_no_err (f x) e h),
        λ h. absurd (ok_is_no_err x e ((follows.refused e).1 h)),
      );
      value = λ y. (
        λ h. (given.0, sym (ok_is (f x) y h) ∙ ap f given.1),
        λ both. ap (λ z. ok z) (ap f given.1 ∙ sym both.1),
      );
    }
follows_map {A} {B} rules v (Err d) f follows =
    record {
      refused = λ e. (
        λ h. (follows.refused e).0 (ap (λ (r : Refusal). err {A = A} r) (err_is {A = B} d e h)),
        λ h. ap (λ (r : Refusal). err {A = B} r) (err_is {A = A} d e ((follows.refused e).1 h)),
      );
      value = λ y. (
        λ h. absurd (ok_is_no_err y d (sym h)),
        λ both. absurd (none_no_first rules d both.0 ((follows.refused d).0 refl)),
      );
    }

-- a rule that refuses
pub follows_fails : {A : Type 0} (P : Type 0) (e : Refusal) (behind : List Rule) (Is : A → Type 0) → P
    → FollowsRules ((P ⇒ e) ∷ behind) Is (err e)
follows_fails {A} P e behind Is fails = record {
  refused = λ d. (
    λ h. inl (fails, sym (err_is {A = A} e d h)),
    λ h. elim h [
      | inl here ↦ ap (λ (r : Refusal). err {A = A} r) (sym here.1)
      | inr later ↦ absurd (later.0 e (fails, refl))
    ],
  );
  value = λ x. (
    λ h. absurd (ok_is_no_err x e (sym h)),
    λ both. absurd (both.0.0 e (fails, refl)),
  );
}

-- a rule that refuses with this refusal and no other
pub follows_refused : {A : Type 0} (rule : Rule) (e : Refusal) (Is : A → Type 0) → rule e
    → ((d : Refusal) → rule d → d ≡ e) → FollowsRules (rule ∷ []) Is (err e)
follows_refused {A} rule e Is fails one = record {
  refused = λ d. (
    λ h. inl (subst rule (err_is {A = A} e d h) fails),
    λ h. elim h [
      | inl here ↦ ap (λ (r : Refusal). err {A = A} r) (sym (one d here))
      | inr later ↦ absurd later.1
    ],
  );
  value = λ x. (λ h. absurd (ok_is_no_err x e (sym h)), λ both. absurd (both.0.0 e fails));
}

-- a rule that refuses with nothing, where there is a value
pub follows_passed : {A : Type 0} (rule : Rule) (behind : List Rule) (Is : A → Type 0) (answer : Answer A)
    → ((e : Refusal) → ¬ rule e) → FollowsRules behind Is answer → FollowsRules (rule ∷ behind) Is answer
follows_passed rule behind Is answer passes follows = record {
  refused = λ e. (
    λ h. inr (passes, (follows.refused e).0 h),
    λ h. elim h [ inl here ↦ absurd (passes e here) | inr later ↦ (follows.refused e).1 later.1 ],
  );
  value = λ x. (
    λ h. let is = (follows.value x).0 h in ((passes, is.0), is.1),
    λ both. (follows.value x).1 (both.0.1, both.1),
  );
}

-- a rule that is kept
pub follows_kept : {A : Type 0} (P : Type 0) (e : Refusal) (behind : List Rule) (Is : A → Type 0) (answer : Answer A)
    → ¬ P → FollowsRules behind Is answer → FollowsRules ((P ⇒ e) ∷ behind) Is answer
follows_kept P e behind Is answer holds follows =
    follows_passed (P ⇒ e) behind Is answer (λ d here. holds here.0) follows

-- a test that decides whether the last rule refuses
pub follows_last : (P : Type 0) (test : Bool) (e : Refusal) → (test ≡ true → ¬ P) → (test ≡ false → P)
    → FollowsRules ((P ⇒ e) ∷ []) (λ x. x ≡ tt) (ok_if test e)
follows_last P true e holds fails = follows_kept P e [] (λ x. x ≡ tt) (ok tt) (holds refl) (follows_ok tt)
follows_last P false e holds fails = follows_fails P e [] (λ x. x ≡ tt) (fails refl)

-- a test that decides whether the rule refuses
pub follows_if : {A : Type 0} (P : Type 0) (test : Bool) (e : Refusal) (behind : List Rule) (Is : A → Type 0)
    (next : Unit {0} → Answer A) → (test ≡ true → ¬ P) → (test ≡ false → P)
    → (test ≡ true → FollowsRules behind Is (next tt)) → FollowsRules ((P ⇒ e) ∷ behind) Is (ok_if test e >>= next)
follows_if P true e behind Is next holds fails more = follows_kept P e behind Is (next tt) (holds refl) (more refl)
follows_if P false e behind Is next holds fails more = follows_fails P e behind Is (fails refl)

-- what follows rules, one for each number
pub follows_each : {A : Type 0} (rules : ℕ → List Rule) (f : ℕ → Answer A) (value : ℕ → A) (numbers : List ℕ)
    → ((i : ℕ) → FollowsRules (rules i) (λ x. x ≡ value i) (f i))
    → FollowsRules (rules_of_each numbers rules) (λ xs. xs ≡ map value numbers) (values_of_all (map f numbers))
follows_each rules f value [] each = follows_ok []
follows_each rules f value (i ∷ numbers) each =
    follows_next (rules i) (rules_of_each numbers rules) (value i) (λ xs. xs ≡ map value (i ∷ numbers)) (f i)
    (λ x. values_of_all (map f numbers) >>= λ xs. Ok (x ∷ xs)) (each i)
    (follows_map (rules_of_each numbers rules) (map value numbers) (values_of_all (map f numbers)) (λ xs. value i ∷ xs)
    (follows_each rules f value numbers each))

-- the same value in other words
pub follows_restated : {A : Type 0} (rules : List Rule) (Is Was : A → Type 0) (answer : Answer A)
    → FollowsRules rules Is answer → ((x : A) → answer ≡ Ok x → Was x) → ((x : A) → Was x → answer ≡ Ok x)
    → FollowsRules rules Was answer
follows_restated rules Is Was answer follows found only = record {
  refused = follows.refused;
  value = λ x. (λ h. (((follows.value x).0 h).0, found x h), λ both. only x both.1);
}

-- ---- rules behind what a relation assigns

-- rules taken as one
pub follows_as_one : {A : Type 0} (rules : List Rule) (Is : A → Type 0) (answer : Answer A)
    → FollowsRules rules Is answer → FollowsRules (FirstRefuses rules ∷ []) Is answer
follows_as_one rules Is (Ok x) follows =
    let given = (follows.value x).0 refl in
    record {
      refused = λ e. (
        λ h. absurd (ok_is_no_err x e h),
        λ h. elim h [ inl here ↦ (follows.refused e).1 here | inr later ↦ absurd later.1 ],
      );
      value = λ y. (
        λ h. ((λ e. none_no_first rules e given.0, tt), ((follows.value y).0 h).1),
        λ both. (follows.value y).1 (given.0, both.1),
      );
    }
follows_as_one rules Is (Err d) follows = record {
  refused = λ e. (
    λ h. inl ((follows.refused e).0 h),
    λ h. elim h [ inl here ↦ (follows.refused e).1 here | inr later ↦ absurd later.1 ],
  );
  value = λ y. (
    λ h. absurd (ok_is_no_err y d (sym h)),
    λ both. absurd (both.0.0 d ((follows.refused d).0 refl)),
  );
}

-- rules that never refuse where the answer is a value
none_behind : {A : Type 0} (rules : List Rule) (Is : A → Type 0) (answer : Answer A) → FollowsRules rules Is answer
    → ((e : Refusal) → ¬ FirstRefuses rules e) → NoneRefuses rules
none_behind rules Is answer follows never = elim (answer_cases answer) [
  | inl there ↦ ((follows.value there.0).0 there.1).0
  | inr refused ↦ absurd (never refused.0 ((follows.refused refused.0).0 refused.1))
]

pub follows_assigned : {A B : Type 0} (first : List Rule) (behind : A → List Rule) (Is : A → Type 0)
    (Was : A → B → Type 0) (answer : Answer A) (next : A → Answer B) → FollowsRules first Is answer
    → ((x : A) → Is x → FollowsRules (behind x) (Was x) (next x))
    → FollowsRules (first ++ rule_of Is behind ∷ []) (λ y. (x : A) × Is x × Was x y) (answer >>= next)
follows_assigned {A} {B} first behind Is Was (Ok x) next follows more =
    let given = (follows.value x).0 refl in
    let rest = more x given.1 in
    let one : (z : A) → Is z → z ≡ x = λ z is. sym (ok_is x z ((follows.value z).1 (given.0, is))) in
    record {
      refused = λ e. (
        λ h. first_late first (rule_of Is behind ∷ []) e given.0 (inl (x, given.1, (rest.refused e).0 h)),
        λ h. elim (first_cases first (rule_of Is behind ∷ []) e h) [
          | inl early ↦ absurd (ok_is_no_err x e ((follows.refused e).1 early))
          | inr late ↦ elim late.1 [
            | inl here ↦ (rest.refused e).1
                (subst (λ (z : A). FirstRefuses (behind z) e) (one here.0 here.1) here.2)
            | inr later ↦ absurd later.1
          ]
        ],
      );
      value = λ y. (
        λ h. let is = (rest.value y).0 h in (
          none_both first (rule_of Is behind ∷ []) given.0 (
            (λ e here. none_no_first (behind x) e is.0
                (subst (λ (z : A). FirstRefuses (behind z) e) (one here.0 here.1) here.2)),
            tt,
          ),
          (x, given.1, is.1),
        ),
        λ both.
            let none = (none_each first (rule_of Is behind ∷ []) both.0).1 in
            let was = both.1 in
            (rest.value y).1 (
              none_behind (behind x) (Was x) (next x) rest (λ e here. none.0 e (x, given.1, here)),
              subst (λ (z : A). Was z y) (one was.0 was.1) was.2,
            ),
      );
    }
follows_assigned {A} {B} first behind Is Was (Err d) next follows more =
    let early = (follows.refused d).0 refl in
    record {
      refused = λ e. (
        λ h. first_early first (rule_of Is behind ∷ []) e
            (subst (λ (r : Refusal). FirstRefuses first r) (err_is {A = B} d e h) early),
        λ h. elim (first_cases first (rule_of Is behind ∷ []) e h) [
          | inl other ↦ ap (λ (r : Refusal). err {A = B} r) (err_is {A = A} d e ((follows.refused e).1 other))
          | inr late ↦ absurd (none_no_first first d late.0 early)
        ],
      );
      value = λ y. (
        λ h. absurd (ok_is_no_err y d (sym h)),
        λ both. absurd (none_no_first first d (none_each first (rule_of Is behind ∷ []) both.0).0 early),
      );
    }

-- what is made of a value that a relation assigns
pub follows_said : {A B : Type 0} (rules : List Rule) (Is : A → Type 0) (answer : Answer A) (f : A → B)
    → FollowsRules rules Is answer
    → FollowsRules rules (λ y. (x : A) × Is x × (y ≡ f x)) (answer >>= λ x. Ok (f x))
follows_said {A} rules Is (Ok x) f follows =
    let given = (follows.value x).0 refl in
    record {
      refused = λ e. (
        λ h. absurd (ok_is_no_err (f x) e h),
        λ h. absurd (ok_is_no_err x e ((follows.refused e).1 h)),
      );
      value = λ y. (
        λ h. (given.0, (x, given.1, sym (ok_is (f x) y h))),
        λ both.
            let said = both.1 in
            ap (λ z. ok z) (ap f (ok_is x said.0 ((follows.value said.0).1 (given.0, said.1))) ∙ sym said.2),
      );
    }
follows_said {A} {B} rules Is (Err d) f follows = record {
  refused = λ e. (
    λ h. (follows.refused e).0 (ap (λ (r : Refusal). err {A = A} r) (err_is {A = B} d e h)),
    λ h. ap (λ (r : Refusal). err {A = B} r) (err_is {A = A} d e ((follows.refused e).1 h)),
  );
  value = λ y. (
    λ h. absurd (ok_is_no_err y d (sym h)),
    λ both. absurd (none_no_first rules d both.0 ((follows.refused d).0 refl)),
  );
}

-- one step behind two others
pub bind_apart : {A B C : Type 0} (answer : Answer A) (f : A → Answer B) (g : B → Answer C)
    → (answer >>= f >>= g) ≡ (answer >>= λ x. f x >>= g)
bind_apart (Ok x) f g = refl
bind_apart (Err e) f g = refl
