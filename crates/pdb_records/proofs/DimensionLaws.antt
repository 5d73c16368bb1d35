-- Dimensions are read as they stand.
use Rattle.std.proofs.Common.{◌≡◌, inl, inr, ℕ, zero, suc, ◌+◌, ◌<◌, ◌≤◌, true, false, leb, List, [], ◌∷◌, length, refl}
use Rattle.std.proofs.Common.{sym, ap, ◌∙◌, subst, arith, length-append, Ok, Err, if◌then◌else◌}
use Rattle.std.proofs.lemmas.Bool.{cases_lt, le-leb, lt-leb}
use Rattle.pdb_base.specs.Refusal.{Refusal, unexpected_eof}
use Rattle.pdb_base.specs.Answer.{Answer, ◌>>=◌}
use Rattle.pdb_base.specs.Numeric.{num_at, Numeral, unsigned_leaves}
use Rattle.pdb_base.specs.Spelling.{SpellsNum, SpellsNumeral, Begins}
use Rattle.pdb_base.proofs.lemmas.Collected.{ok, err, ok_is, err_is, ok_is_no_err, bind_ok, answer_cases, bind_err}
use Rattle.pdb_records.specs.Agreement.{Agrees}
use Rattle.pdb_records.specs.Shape.{num}
use Rattle.pdb_records.specs.Dimensions.{IsDimension, NoDimension, HasAnotherDimension, AreDimensions}
use Rattle.pdb_records.specs.Dimensions.{NoDimensionBehind, NoDimensions, dimension_at, behind_dimension}
use Rattle.pdb_records.specs.Dimensions.{dimensions_upto, dimensions_at, largest_dimension, too_large}
use Rattle.pdb_records.proofs.Agreeing.{bind_at, bind_no}
use Rattle.pdb_records.proofs.ShapeLaws.{shapes}

-- ---- one dimension

-- a number of variable width has two bytes at least
numeral_long : (numeral : Numeral) (front : List ℕ) → SpellsNumeral unsigned_leaves numeral front → 2 ≤ length front
numeral_long numeral front (inl itself) = omega (arith, itself.spelled.len)
numeral_long numeral front (inr prefixed) =
    omega (arith, prefixed.head_spelled.len, length-append prefixed.head prefixed.tail, ap length prefixed.is)

pub num_long : (bytes : List ℕ) (n : ℕ) (rest : List ℕ) → Begins SpellsNum bytes n rest → 2 + length rest ≤ length bytes
num_long bytes n rest begins =
    let long : 2 ≤ length begins.front = numeral_long begins.spelled.numeral begins.front begins.spelled.spelled in
    omega (arith, long, length-append begins.front rest, ap length begins.is)

pub num_takes : (bytes : List ℕ) (n : ℕ) (rest : List ℕ) → Begins SpellsNum bytes n rest → length rest < length bytes
num_takes bytes n rest begins = omega (arith, num_long bytes n rest begins)

judged : ℕ × List ℕ → Answer (ℕ × List ℕ)
judged n = if leb n.0 largest_dimension then ok n else err too_large

judged_small : (n : ℕ × List ℕ) → n.0 ≤ largest_dimension → judged n ≡ Ok n
unfolding judged
judged_small n small = let test : leb n.0 largest_dimension ≡ true = le-leb n.0 largest_dimension small in rw test refl

judged_large : (n : ℕ × List ℕ) → largest_dimension < n.0 → judged n ≡ Err too_large
unfolding judged
judged_large n large = let test : leb n.0 largest_dimension ≡ false = lt-leb n.0 largest_dimension large in rw test refl

dimension_is : (bytes : List ℕ) → dimension_at bytes ≡ (num_at bytes >>= judged)
unfolding judged
dimension_is bytes = refl

pub dimension_agrees : Agrees dimension_at IsDimension NoDimension
dimension_agrees = record {
  found = λ bytes n rest is.
      let read = bind_ok (num_at bytes) judged (n, rest) (sym (dimension_is bytes) ∙ is) in
      elim (cases_lt largest_dimension read.0.0) [
        | inl large ↦ absurd (ok_is_no_err (n, rest) too_large (sym read.2 ∙ judged_large read.0 large))
        | inr small ↦
            let same : read.0 ≡ (n, rest) = ok_is read.0 (n, rest) (sym (judged_small read.0 small) ∙ read.2) in
            let all : IsDimension bytes read.0.0 read.0.1 =
            ((shapes num).found bytes read.0.0 read.0.1 read.1, small) in
            subst (λ (p : ℕ × List ℕ). IsDimension bytes p.0 p.1) same all
      ];
  only = λ bytes n rest is.
      dimension_is bytes ∙ bind_at (num_at bytes) judged (n, rest) ((shapes num).only bytes n rest is.0)
      ∙ judged_small (n, rest) is.1;
  failed = λ bytes e is.
      elim (answer_cases (num_at bytes)) [
        | inl there ↦
            let known = sym (bind_at (num_at bytes) judged there.0 there.1) ∙ sym (dimension_is bytes) ∙ is in
            elim (cases_lt largest_dimension there.0.0) [
              | inl large ↦ inr (
                there.0.0,
                there.0.1,
                (shapes num).found bytes there.0.0 there.0.1 there.1,
                large,
                err_is {A = ℕ × List ℕ} e too_large (sym known ∙ judged_large there.0 large),
              )
              | inr small ↦ absurd (ok_is_no_err there.0 e (sym (judged_small there.0 small) ∙ known))
            ]
        | inr refused ↦
            let same : refused.0 ≡ e = err_is {A = ℕ × List ℕ} refused.0 e
            (sym (bind_no (num_at bytes) judged refused.0 refused.1) ∙ sym (dimension_is bytes) ∙ is) in
            inl ((shapes num).failed bytes e (refused.1 ∙ ap (λ (d : Refusal). err d) same))
      ];
  fails = λ bytes e is.
      elim is [
        | inl refused ↦ dimension_is bytes ∙ bind_no (num_at bytes) judged e ((shapes num).fails bytes e refused)
        | inr large ↦
            dimension_is bytes
            ∙ bind_at (num_at bytes) judged (large.0, large.1) ((shapes num).only bytes large.0 large.1 large.2)
            ∙ judged_large (large.0, large.1) large.3
            ∙ ap (λ (d : Refusal). err d) (sym large.4)
      ];
}

-- ---- dimensions one behind the other

pub one_more : (bytes : List ℕ) (n : ℕ) (mid : List ℕ) (ns : List ℕ) (rest : List ℕ) → IsDimension bytes n mid
    → HasAnotherDimension mid → AreDimensions mid ns rest → AreDimensions bytes (n ∷ ns) rest
one_more bytes n mid [] rest one goes more = absurd more
one_more bytes n mid (m ∷ ns) rest one goes more = (mid, one, goes, more)

goes_on : (byte : ℕ) (bytes : List ℕ) → HasAnotherDimension (suc byte ∷ bytes)
goes_on byte bytes = λ is. absurd (omega (arith, is))

found_behind : (most : ℕ) → ((bytes : List ℕ) → length bytes < most → (ns rest : List ℕ)
    → dimensions_upto most bytes ≡ Ok (ns, rest) → AreDimensions bytes ns rest)
    → (bytes : List ℕ) (n : ℕ) (mid : List ℕ) → IsDimension bytes n mid → length mid < most → (ns rest : List ℕ)
    → behind_dimension (dimensions_upto most) n mid ≡ Ok (ns, rest) → AreDimensions bytes ns rest
found_behind most found bytes n [] here fits ns rest is = absurd (ok_is_no_err (ns, rest) unexpected_eof (sym is))
found_behind most found bytes n (zero ∷ mid) here fits ns rest is =
    let same : (n ∷ [], mid) ≡ (ns, rest) = ok_is (n ∷ [], mid) (ns, rest) is in
    subst (λ (p : List ℕ × List ℕ). AreDimensions bytes p.0 p.1) same here
found_behind most found bytes n (suc byte ∷ mid) here fits ns rest is =
    let more = bind_ok (dimensions_upto most (suc byte ∷ mid)) (λ ms. Ok (n ∷ ms.0, ms.1)) (ns, rest) is in
    let behind = found (suc byte ∷ mid) fits more.0.0 more.0.1 more.1 in
    let same : (n ∷ more.0.0, more.0.1) ≡ (ns, rest) = ok_is (n ∷ more.0.0, more.0.1) (ns, rest) more.2 in
    subst (λ (p : List ℕ × List ℕ). AreDimensions bytes p.0 p.1) same
    (one_more bytes n (suc byte ∷ mid) more.0.0 more.0.1 here (goes_on byte mid) behind)

found_upto : (most : ℕ) (bytes : List ℕ) → length bytes < most → (ns rest : List ℕ)
    → dimensions_upto most bytes ≡ Ok (ns, rest) → AreDimensions bytes ns rest
found_upto zero bytes fits ns rest is = absurd (omega (arith, fits))
found_upto (suc most) bytes fits ns rest is =
    let first = bind_ok (dimension_at bytes) (λ n. behind_dimension (dimensions_upto most) n.0 n.1) (ns, rest) is in
    let here : IsDimension bytes first.0.0 first.0.1 = dimension_agrees.found bytes first.0.0 first.0.1 first.1 in
    found_behind most (found_upto most) bytes first.0.0 first.0.1 here
    (omega (arith, fits, num_takes bytes first.0.0 first.0.1 here.0)) ns rest first.2

behind_goes : (more : List ℕ → Answer (List ℕ × List ℕ)) (n : ℕ) (mid : List ℕ) (ns rest : List ℕ)
    → HasAnotherDimension mid
    → more mid ≡ Ok (ns, rest) → behind_dimension more n mid ≡ Ok (n ∷ ns, rest)
behind_goes more n [] ns rest goes is = absurd goes
behind_goes more n (zero ∷ mid) ns rest goes is = absurd (goes refl)
behind_goes more n (suc byte ∷ mid) ns rest goes is =
    bind_at (more (suc byte ∷ mid)) (λ ms. Ok (n ∷ ms.0, ms.1)) (ns, rest) is

behind_stops : (more : List ℕ → Answer (List ℕ × List ℕ)) (n : ℕ) (mid : List ℕ) (e : Refusal) → HasAnotherDimension mid
    → more mid ≡ Err e → behind_dimension more n mid ≡ Err e
behind_stops more n [] e goes is = absurd goes
behind_stops more n (zero ∷ mid) e goes is = absurd (goes refl)
behind_stops more n (suc byte ∷ mid) e goes is = bind_no (more (suc byte ∷ mid)) (λ ms. Ok (n ∷ ms.0, ms.1)) e is

only_upto : (most : ℕ) (bytes : List ℕ) → length bytes < most → (ns rest : List ℕ) → AreDimensions bytes ns rest
    → dimensions_upto most bytes ≡ Ok (ns, rest)
only_upto zero bytes fits ns rest is = absurd (omega (arith, fits))
only_upto (suc most) bytes fits [] rest is = absurd is
only_upto (suc most) bytes fits (n ∷ []) rest is =
    bind_at (dimension_at bytes) (λ m. behind_dimension (dimensions_upto most) m.0 m.1) (n, 0 ∷ rest)
    (dimension_agrees.only bytes n (0 ∷ rest) is)
only_upto (suc most) bytes fits (n ∷ m ∷ ns) rest is =
    let more = only_upto most is.0 (omega (arith, fits, num_takes bytes n is.0 is.1.0)) (m ∷ ns) rest is.3 in
    bind_at (dimension_at bytes) (λ m. behind_dimension (dimensions_upto most) m.0 m.1) (n, is.0)
    (dimension_agrees.only bytes n is.0 is.1)
    ∙ behind_goes (dimensions_upto most) n is.0 (m ∷ ns) rest is.2 more

failed_behind : (most : ℕ) → ((bytes : List ℕ) → length bytes < most → (e : Refusal)
    → dimensions_upto most bytes ≡ Err e → NoDimensions bytes e)
    → (bytes : List ℕ) (n : ℕ) (mid : List ℕ) → IsDimension bytes n mid → length mid < most → (e : Refusal)
    → behind_dimension (dimensions_upto most) n mid ≡ Err e → NoDimensions bytes e
failed_behind most failed bytes n [] here fits e is =
    (n ∷ [], ([], here, inl (refl, refl, err_is {A = List ℕ × List ℕ} e unexpected_eof (sym is))))
failed_behind most failed bytes n (zero ∷ mid) here fits e is = absurd (ok_is_no_err (n ∷ [], mid) e is)
failed_behind most failed bytes n (suc byte ∷ mid) here fits e is =
    let more = failed (suc byte ∷ mid) fits e
    (bind_err (dimensions_upto most (suc byte ∷ mid)) (λ ms. (n ∷ ms.0, ms.1)) e is) in
    (n ∷ more.0, (suc byte ∷ mid, here, inr (goes_on byte mid, more.1)))

failed_upto : (most : ℕ) (bytes : List ℕ) → length bytes < most → (e : Refusal) → dimensions_upto most bytes ≡ Err e
    → NoDimensions bytes e
failed_upto zero bytes fits e is = absurd (omega (arith, fits))
failed_upto (suc most) bytes fits e is =
    elim (answer_cases (dimension_at bytes)) [
      | inl there ↦
          let here : IsDimension bytes there.0.0 there.0.1 = dimension_agrees.found bytes there.0.0 there.0.1 there.1 in
          failed_behind most (failed_upto most) bytes there.0.0 there.0.1 here
          (omega (arith, fits, num_takes bytes there.0.0 there.0.1 here.0)) e
          (sym (bind_at (dimension_at bytes) (λ m. behind_dimension (dimensions_upto most) m.0 m.1) there.0 there.1)
          ∙ is)
      | inr refused ↦
          let same : refused.0 ≡ e = err_is {A = List ℕ × List ℕ} refused.0 e
          (sym (bind_no (dimension_at bytes) (λ m. behind_dimension
          (dimensions_upto most) m.0 m.1) refused.0 refused.1) ∙ is) in
          ([], dimension_agrees.failed bytes e (refused.1 ∙ ap (λ (d : Refusal). err d) same))
    ]

fails_upto : (most : ℕ) (bytes : List ℕ) → length bytes < most → (e : Refusal) (ns : List ℕ)
    → NoDimensionBehind ns bytes e → dimensions_upto most bytes ≡ Err e
fails_upto zero bytes fits e ns is = absurd (omega (arith, fits))
fails_upto (suc most) bytes fits e [] is =
    bind_no (dimension_at bytes) (λ m. behind_dimension (dimensions_upto most) m.0 m.1) e
    (dimension_agrees.fails bytes e is)
fails_upto (suc most) bytes fits e (n ∷ ns) is =
    let read = bind_at (dimension_at bytes) (λ m. behind_dimension (dimensions_upto most) m.0 m.1) (n, is.0)
    (dimension_agrees.only bytes n is.0 is.1) in
    elim is.2 [
      | inl ends ↦ read ∙ ap (λ (b : List ℕ). behind_dimension (dimensions_upto most) n b) ends.0
          ∙ ap (λ (d : Refusal). err d) (sym ends.2)
      | inr more ↦
          read
          ∙ behind_stops (dimensions_upto most) n is.0 e more.0
          (fails_upto most is.0 (omega (arith, fits, num_takes bytes n is.0 is.1.0)) e ns more.1)
    ]

pub dimensions_agree : Agrees dimensions_at AreDimensions NoDimensions
unfolding dimensions_at
dimensions_agree = record {
  found = λ bytes ns rest. found_upto (suc (length bytes)) bytes (omega arith) ns rest;
  only = λ bytes ns rest. only_upto (suc (length bytes)) bytes (omega arith) ns rest;
  failed = λ bytes e. failed_upto (suc (length bytes)) bytes (omega arith) e;
  fails = λ bytes e is. fails_upto (suc (length bytes)) bytes (omega arith) e is.0 is.1;
}
