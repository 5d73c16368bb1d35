-- Shapes are read as they are spelled.
use Rattle.std.proofs.Common.{◌≡◌, ◌⊎◌, inl, inr, ℕ, zero, suc, ◌==◌, Bool, true, false, List, [], ◌∷◌, ◌++◌, refl, sym}
use Rattle.std.proofs.Common.{ap, ◌∙◌, subst, arith, append_assoc, Option, Some, None, Ok, Err, if◌then◌else◌}
use Rattle.std.proofs.lemmas.Bool.{cases_Bool, cases_lt}
use Rattle.std.proofs.lemmas.Option.{none-some}
use Rattle.pdb_base.specs.Refusal.{Refusal, unexpected_eof, unexpected_numeric_prefix, unimplemented_type_kind}
use Rattle.pdb_base.specs.Answer.{Answer, ◌>>=◌}
use Rattle.pdb_base.specs.Reading.{front_at, number_at, text_at, pascal_text_at}
use Rattle.pdb_base.specs.Numeric.{NumberKind, numeric_leaves, unsigned_leaves, least_leaf, kind_behind, num_at}
use Rattle.pdb_base.specs.Numeric.{variant_at}
use Rattle.pdb_base.specs.Spelling.{SpellsNumber, SpellsNum, SpellsVariant, SpellsText, SpellsPascalText, Begins}
use Rattle.pdb_base.specs.Spelling.{ReadsWhatIsSpelled}
use Rattle.pdb_base.specs.Laws.{BeginsBadly, RefusesPrefixFirst}
use Rattle.pdb_base.proofs.lemmas.Collected.{ok, err, ok_is, err_is, ok_is_no_err, bind_ok}
use Rattle.pdb_base.proofs.lemmas.Collected.{answer_cases, bind_err, option_cases}
use Rattle.pdb_base.proofs.lemmas.Spelling.{numbers, texts, pascal_texts}
use Rattle.pdb_base.proofs.lemmas.Numeric.{nums, variants, num_refusals, variant_refusals}
use Rattle.pdb_flags.specs.PointerAttributes.{is_pointer_word}
use Rattle.pdb_records.specs.Agreement.{Agrees}
use Rattle.pdb_base.specs.Repeated.{read_times}
use Rattle.pdb_records.specs.Shape.{Shape, u8, u16, u32, num, variant, type_index, id_index, some_type, some_id}
use Rattle.pdb_records.specs.Shape.{pointer_word, text, when, times, Spells, SpellsTextBy, SpellsIndex, SpellsPointer}
use Rattle.pdb_records.specs.Shape.{SpellsWhen, SpellsTimes, as_type, as_id, type_named, id_named, ends_texts}
use Rattle.pdb_records.specs.Shape.{pointer_leaf, index_at, pointer_word_at, text_by, when_at, read_shape}
use Rattle.pdb_records.specs.Fault.{BeginsNone, Judged, BeginsBadPointer, FirstOf, Fault, Refuses}
use Rattle.pdb_records.proofs.Agreeing.{bind_at, bind_no, reworded, given, mapped, chained, by_fault, by_end, with_none}
use Rattle.pdb_base.proofs.lemmas.Reading.{front_ends, number_ends}

-- ---- numbers, and texts that end with a NUL or stand behind their length

text_ends : (bytes : List ℕ) (e : Refusal) → text_at bytes ≡ Err e → e ≡ unexpected_eof
text_ends [] e is = sym (err_is {A = List ℕ × List ℕ} unexpected_eof e is)
text_ends (byte ∷ bytes) e is = elim (cases_Bool (byte == 0)) [
  | inl nul ↦ absurd (ok_is_no_err ([], bytes) e (rw nul at is))
  | inr other ↦ text_ends bytes e (bind_err (text_at bytes) (λ t. (byte ∷ t.0, t.1)) e (rw other at is))
]

counted_ends : (bytes : List ℕ) (e : Refusal) → pascal_text_at bytes ≡ Err e → e ≡ unexpected_eof
unfolding pascal_text_at
counted_ends bytes e is = elim (answer_cases (number_at 1 bytes)) [
  | inl len ↦ front_ends len.0.0 len.0.1 e (sym (bind_at (number_at 1 bytes) (λ n. front_at n.0 n.1) len.0 len.1) ∙ is)
  | inr none ↦ number_ends 1 bytes e (none.1
      ∙ ap (λ (r : Refusal). err r) (err_is {A = List ℕ × List ℕ} none.0 e
      (sym (bind_no (number_at 1 bytes) (λ n. front_at n.0 n.1) none.0 none.1) ∙ is)))
]

pub numbers_agree : (width : ℕ) → Agrees (number_at width) (Begins (SpellsNumber width))
    (λ bytes e. BeginsNone (SpellsNumber width) bytes × (e ≡ unexpected_eof))
numbers_agree width = by_end (SpellsNumber width) (number_at width) (numbers width) (number_ends width)

texts_agree : (nul : Bool) → Agrees (text_by nul) (Begins (SpellsTextBy nul))
    (λ bytes e. BeginsNone (SpellsTextBy nul) bytes × (e ≡ unexpected_eof))
texts_agree true = by_end SpellsText text_at texts text_ends
texts_agree false = by_end SpellsPascalText pascal_text_at pascal_texts counted_ends

-- ---- indexes

indexes : {A : Type 0} (said : ℕ → A) → ReadsWhatIsSpelled (SpellsIndex said) (index_at said)
indexes {A} said = record {
  found = λ bytes value rest e.
      let plain = bind_ok (number_at 4 bytes) (λ n. Ok (said n.0, n.1)) (value, rest) e in
      let begins = (numbers 4).found bytes plain.0.0 plain.0.1 plain.1 in
      let is : (said plain.0.0, plain.0.1) ≡ (value, rest) = ok_is (said plain.0.0, plain.0.1) (value, rest) plain.2 in
      record {
        front = begins.front;
        spelled = record { number = plain.0.0; spelled = begins.spelled; is = ap (λ (p : A × List ℕ). p.0) is };
        is = ap (λ (p : A × List ℕ). begins.front ++ p.1) (sym is) ∙ begins.is;
      };
  only = λ bytes value rest begins.
      let plain = (numbers 4).only bytes begins.spelled.number rest
      (record { front = begins.front; spelled = begins.spelled.spelled; is = begins.is }) in
      bind_at (number_at 4 bytes) (λ n. Ok (said n.0, n.1)) (begins.spelled.number, rest) plain
      ∙ ap (λ (o : A). ok (o, rest)) begins.spelled.is;
}

indexes_agree : {A : Type 0} (said : ℕ → A)
    → Agrees (index_at said) (Begins (SpellsIndex said))
    (λ bytes e. BeginsNone (SpellsIndex said) bytes × (e ≡ unexpected_eof))
indexes_agree {A} said = by_end (SpellsIndex said) (index_at said) (indexes said)
    (λ bytes e is. number_ends 4 bytes e (bind_err (number_at 4 bytes) (λ n. (said n.0, n.1)) e is))

-- ---- refusals that name a number

-- bytes are judged in one way
judged_once : (IsBad : ℕ → Type 0) (why : ℕ → Refusal) (d e : Refusal) → ((m n : ℕ) → IsBad m → IsBad n → why m ≡ why n)
    → Judged IsBad why d → Judged IsBad why e → d ≡ e
judged_once IsBad why d e same (inl a) (inl b) = a.2 ∙ same a.0 b.0 a.1 b.1 ∙ sym b.2
judged_once IsBad why d e same (inl a) (inr b) = absurd (b.0 a.0 a.1)
judged_once IsBad why d e same (inr a) (inl b) = absurd (a.0 b.0 b.1)
judged_once IsBad why d e same (inr a) (inr b) = a.1 ∙ sym b.1

-- the number that bytes begin with is the one that is read of them
same_number : (width : ℕ) (bytes : List ℕ) (m n : ℕ) (rest more : List ℕ) → number_at width bytes ≡ Ok (m, rest)
    → Begins (SpellsNumber width) bytes n more → n ≡ m
same_number width bytes m n rest more is begins =
    ap (λ (p : ℕ × List ℕ). p.0) (ok_is (n, more) (m, rest) (sym ((numbers width).only bytes n more begins) ∙ is))

no_number : (width : ℕ) (bytes : List ℕ) (e : Refusal) (n : ℕ) (rest : List ℕ) → number_at width bytes ≡ Err e
    → ¬ Begins (SpellsNumber width) bytes n rest
no_number width bytes e n rest is begins =
    ok_is_no_err (n, rest) e (sym ((numbers width).only bytes n rest begins) ∙ is)

-- bytes begin with a bad prefix or they don't
prefix_cases : (leaves : List (ℕ × NumberKind)) (bytes : List ℕ) → ((p : ℕ) × BeginsBadly leaves bytes p)
    ⊎ ((p : ℕ) → ¬ BeginsBadly leaves bytes p)
prefix_cases leaves bytes = elim (answer_cases (number_at 2 bytes)) [
  | inl there ↦ elim (cases_lt there.0.0 least_leaf) [
    | inl small ↦ inr (λ p bad. let same = same_number 2 bytes there.0.0 p there.0.1 bad.rest there.1 bad.begins in
        absurd (omega (arith, same, small, bad.large)))
    | inr large ↦ elim (option_cases (kind_behind leaves there.0.0)) [
      | inl none ↦ inl (
        there.0.0,
        record {
          rest = there.0.1;
          begins = (numbers 2).found bytes there.0.0 there.0.1 there.1;
          large = large;
          unknown = none;
        },
      )
      | inr some ↦ inr (λ p bad. let same = same_number 2 bytes there.0.0 p there.0.1 bad.rest there.1 bad.begins in
          absurd (none-some some.0 (sym (sym some.1 ∙ ap (λ (n : ℕ). kind_behind leaves n) (sym same) ∙ bad.unknown))))
    ]
  ]
  | inr none ↦ inr (λ p bad. no_number 2 bytes none.0 p bad.rest none.1 bad.begins)
]

prefixed_agree : {A : Type 0} (Spells : A → List ℕ → Type 0) (read : List ℕ → Answer (A × List ℕ))
    (leaves : List (ℕ × NumberKind))
    → ReadsWhatIsSpelled Spells read → RefusesPrefixFirst leaves read
    → Agrees read (Begins Spells) (λ bytes e. BeginsNone Spells bytes
    × Judged (BeginsBadly leaves bytes) (λ prefix. unexpected_numeric_prefix prefix) e)
prefixed_agree {A} Spells read leaves spelled refuses =
    by_fault Spells read (λ bytes e. Judged (BeginsBadly leaves bytes)
    (λ prefix. unexpected_numeric_prefix prefix) e) spelled
    (λ bytes e is. elim (prefix_cases leaves bytes) [
      | inl bad ↦ inl (
        bad.0,
        bad.1,
        err_is {A = A × List ℕ} e (unexpected_numeric_prefix bad.0)
            (sym is ∙ refuses.named bytes bad.0 bad.1),
      )
      | inr none ↦ inr (none, refuses.short bytes e none is)
    ])
    (λ bytes d e. judged_once (BeginsBadly leaves bytes) (λ prefix. unexpected_numeric_prefix prefix) d e
    (λ m n p q. err_is {A = A × List ℕ} (unexpected_numeric_prefix m) (unexpected_numeric_prefix n)
    (sym (refuses.named bytes m p) ∙ refuses.named bytes n q)))

-- ---- the attributes of a pointer

pointers : ReadsWhatIsSpelled SpellsPointer pointer_word_at
pointers = record {
  found = λ bytes word rest is.
      let read = bind_ok (number_at 4 bytes) (λ n. if is_pointer_word n.0 then Ok n else Err
      (unimplemented_type_kind pointer_leaf)) (word, rest) is in
      elim (cases_Bool (is_pointer_word read.0.0)) [
        | inl good ↦
            let same : read.0 ≡ (word, rest) = ok_is read.0 (word, rest) (rw good at read.2) in
            let begins = (numbers 4).found bytes read.0.0 read.0.1 read.1 in
            let all : Begins SpellsPointer bytes read.0.0 read.0.1 =
            record {
              front = begins.front;
              spelled = record { spelled = begins.spelled; good = good };
              is = begins.is;
            } in
            subst (λ (p : ℕ × List ℕ). Begins SpellsPointer bytes p.0 p.1) same all
        | inr bad ↦ absurd (ok_is_no_err (word, rest) (unimplemented_type_kind pointer_leaf) (sym (rw bad at read.2)))
      ];
  only = λ bytes word rest begins.
      let plain = (numbers 4).only bytes word rest
      (record { front = begins.front; spelled = begins.spelled.spelled; is = begins.is }) in
      let good : is_pointer_word word ≡ true = begins.spelled.good in
      bind_at (number_at 4 bytes) (λ n. if is_pointer_word n.0 then Ok n else Err
      (unimplemented_type_kind pointer_leaf)) (word, rest) plain ∙ rw good refl;
}

pointer_faults : (bytes : List ℕ) (e : Refusal) → pointer_word_at bytes ≡ Err e
    → Judged (BeginsBadPointer bytes) (λ word. unimplemented_type_kind pointer_leaf) e
pointer_faults bytes e is = elim (answer_cases (number_at 4 bytes)) [
  | inl there ↦
      let judged = sym (bind_at (number_at 4 bytes)
      (λ n. if is_pointer_word n.0 then Ok n else Err (unimplemented_type_kind pointer_leaf)) there.0 there.1)
      ∙ is in
      elim (cases_Bool (is_pointer_word there.0.0)) [
        | inl good ↦ absurd (ok_is_no_err there.0 e (rw good at judged))
        | inr bad ↦
            inl (
              there.0.0,
              record { rest = there.0.1; begins = (numbers 4).found bytes there.0.0 there.0.1 there.1; bad = bad },
              err_is {A = ℕ × List ℕ} e (unimplemented_type_kind pointer_leaf) (sym (rw bad at judged)),
            )
      ]
  | inr none ↦
      let same : none.0 ≡ e = err_is {A = ℕ × List ℕ} none.0 e
      (sym (bind_no (number_at 4 bytes) (λ n. if is_pointer_word n.0 then Ok n else Err
      (unimplemented_type_kind pointer_leaf)) none.0 none.1) ∙ is) in
      inr (λ n bad. no_number 4 bytes none.0 n bad.rest none.1 bad.begins, sym same ∙ number_ends 4 bytes none.0 none.1)
]

pointers_agree : Agrees pointer_word_at (Begins SpellsPointer)
    (λ bytes e. BeginsNone SpellsPointer bytes
    × Judged (BeginsBadPointer bytes) (λ word. unimplemented_type_kind pointer_leaf) e)
pointers_agree =
    by_fault SpellsPointer pointer_word_at (λ bytes e. Judged (BeginsBadPointer bytes)
    (λ word. unimplemented_type_kind pointer_leaf) e) pointers pointer_faults
    (λ bytes d e. judged_once (BeginsBadPointer bytes) (λ word. unimplemented_type_kind pointer_leaf) d e
    (λ m n p q. refl))

-- ---- what stands there only under a condition

when_agree : {A : Type 0} (Spells : A → List ℕ → Type 0) (read : List ℕ → Answer (A × List ℕ))
    (Fault : List ℕ → Refusal → Type 0) (test : Bool)
    → Agrees read (Begins Spells) (λ bytes e. BeginsNone Spells bytes × Fault bytes e)
    → Agrees (when_at test read) (Begins (SpellsWhen Spells test))
    (λ bytes e. BeginsNone (SpellsWhen Spells test) bytes × Fault bytes e)
when_agree {A} Spells read Fault true agrees = record {
  found = λ bytes value rest is.
      let plain = bind_ok (read bytes) (λ x. Ok (Some x.0, x.1)) (value, rest) is in
      let same : (Some plain.0.0, plain.0.1) ≡ (value, rest) =
      ok_is (Some plain.0.0, plain.0.1) (value, rest) plain.2 in
      let begins = agrees.found bytes plain.0.0 plain.0.1 plain.1 in
      let all : Begins (SpellsWhen Spells true) bytes (Some plain.0.0) plain.0.1 =
      record { front = begins.front; spelled = begins.spelled; is = begins.is } in
      subst (λ (p : Option A × List ℕ). Begins (SpellsWhen Spells true) bytes p.0 p.1) same all;
  only = λ bytes value rest begins. only_there bytes value rest begins;
  failed = λ bytes e is.
      let plain : read bytes ≡ Err e = bind_err (read bytes) (λ x. (Some x.0, x.1)) e is in (
        λ value rest begins. none_there bytes value rest begins (agrees.failed bytes e plain).0,
        (agrees.failed bytes e plain).1,
      );
  fails = λ bytes e none.
      bind_no (read bytes) (λ x. Ok (Some x.0, x.1)) e
      (agrees.fails bytes e (
        λ x rest begins. none.0 (Some x) rest
            (record { front = begins.front; spelled = begins.spelled; is = begins.is }),
        none.1,
      ));
} where
  only_there : (bytes : List ℕ) (value : Option A) (rest : List ℕ) → Begins (SpellsWhen Spells true) bytes value rest
      → when_at true read bytes ≡ Ok (value, rest)
  only_there bytes (Some x) rest begins = bind_at (read bytes) (λ y. Ok (Some y.0, y.1)) (x, rest)
      (agrees.only bytes x rest (record { front = begins.front; spelled = begins.spelled; is = begins.is }))
  only_there bytes None rest begins = absurd begins.spelled

  none_there : (bytes : List ℕ) (value : Option A) (rest : List ℕ) → Begins (SpellsWhen Spells true) bytes value rest
      → BeginsNone Spells bytes → ⊥
  none_there bytes (Some x) rest begins none =
      none x rest (record { front = begins.front; spelled = begins.spelled; is = begins.is })
  none_there bytes None rest begins none = absurd begins.spelled
when_agree {A} Spells read Fault false agrees = record {
  found = λ bytes value rest is.
      let nothing : Begins (SpellsWhen Spells false) bytes None bytes =
      record { front = []; spelled = refl; is = refl } in
      subst (λ (p : Option A × List ℕ). Begins (SpellsWhen Spells false) bytes p.0 p.1)
      (ok_is (None, bytes) (value, rest) is) nothing;
  only = λ bytes value rest begins. only_nothing bytes value rest begins;
  failed = λ bytes e is. absurd (ok_is_no_err (None, bytes) e is);
  fails = λ bytes e none. absurd (none.0 None bytes (record { front = []; spelled = refl; is = refl }));
} where
  only_nothing : (bytes : List ℕ) (value : Option A) (rest : List ℕ) → Begins (SpellsWhen Spells false) bytes value rest
      → when_at false read bytes ≡ Ok (value, rest)
  only_nothing bytes (Some x) rest begins = absurd begins.spelled
  only_nothing bytes None rest begins = ap (λ (r : List ℕ). ok (None, r))
      (sym begins.is ∙ ap (λ (f : List ℕ). f ++ rest) begins.spelled)

-- ---- so many of a shape

none_agree : {A : Type 0} (Spells : A → List ℕ → Type 0) (read : List ℕ → Answer (A × List ℕ))
    (Fault : List ℕ → Refusal → Type 0)
    → Agrees (read_times read 0) (Begins (SpellsTimes Spells 0)) (FirstOf Spells Fault 0)
none_agree {A} Spells read Fault =
    reworded (read_times read 0) (λ bytes xs rest. ([] ≡ xs) × (bytes ≡ rest)) (Begins (SpellsTimes Spells 0))
    (λ bytes e. ⊥) (FirstOf Spells Fault 0) (given []) there back (λ bytes e no. no) (λ bytes e no. no) where
      there : (bytes : List ℕ) (xs : List A) (rest : List ℕ) → ([] ≡ xs) × (bytes ≡ rest)
          → Begins (SpellsTimes Spells 0) bytes xs rest
      there bytes xs rest is =
          let nothing : Begins (SpellsTimes Spells 0) bytes [] bytes =
          record { front = []; spelled = record { len = refl; each = refl }; is = refl } in
          let empty : Begins (SpellsTimes Spells 0) bytes xs bytes =
          subst (λ (ys : List A). Begins (SpellsTimes Spells 0) bytes ys bytes) is.0 nothing in
          subst (λ (r : List ℕ). Begins (SpellsTimes Spells 0) bytes xs r) is.1 empty

      back : (bytes : List ℕ) (xs : List A) (rest : List ℕ) → Begins (SpellsTimes Spells 0) bytes xs rest → ([] ≡ xs)
          × (bytes ≡ rest)
      back bytes [] rest begins = (refl, sym begins.is ∙ ap (λ (f : List ℕ). f ++ rest) begins.spelled.each)
      back bytes (x ∷ xs) rest begins = absurd (omega (arith, begins.spelled.len))

-- a value, and so many behind it
abbrev Parts : {A : Type 0} → (A → List ℕ → Type 0) → ℕ → List ℕ → List A → List ℕ → Type 0
Parts {A} Spells count bytes ys rest = (x : A) × (mid : List ℕ) × Begins Spells bytes x mid
    × ((xs : List A) × Begins (SpellsTimes Spells count) mid xs rest × (x ∷ xs ≡ ys))

more_agree : {A : Type 0} (Spells : A → List ℕ → Type 0) (read : List ℕ → Answer (A × List ℕ))
    (Fault : List ℕ → Refusal → Type 0) (count : ℕ)
    → Agrees read (Begins Spells) (λ bytes e. BeginsNone Spells bytes × Fault bytes e)
    → Agrees (read_times read count) (Begins (SpellsTimes Spells count)) (FirstOf Spells Fault count)
    → Agrees (read_times read (suc count)) (Begins (SpellsTimes Spells (suc count))) (FirstOf Spells Fault (suc count))
more_agree {A} Spells read Fault count one more =
    reworded (read_times read (suc count)) (Parts Spells count) (Begins (SpellsTimes Spells (suc count)))
    (FirstOf Spells Fault (suc count)) (FirstOf Spells Fault (suc count))
    (chained read (Begins Spells) (λ bytes e. BeginsNone Spells bytes × Fault bytes e)
    (λ x mid. read_times read count mid >>= λ xs. ok (x ∷ xs.0, xs.1))
    (λ x mid ys rest. (xs : List A) × Begins (SpellsTimes Spells count) mid xs rest × (x ∷ xs ≡ ys))
    (λ x mid e. FirstOf Spells Fault count mid e)
    one (λ x. mapped (λ xs. x ∷ xs) (read_times read count) (Begins (SpellsTimes Spells count))
    (FirstOf Spells Fault count) more))
    there back (λ bytes e is. is) (λ bytes e is. is) where
      there : (bytes : List ℕ) (ys : List A) (rest : List ℕ) → Parts Spells count bytes ys rest
          → Begins (SpellsTimes Spells (suc count)) bytes ys rest
      there bytes ys rest is =
          let first = is.2 in
          let behind = is.3.1 in
          let all : Begins (SpellsTimes Spells (suc count)) bytes (is.0 ∷ is.3.0) rest = record {
            front = first.front ++ behind.front;
            spelled = record {
              len = omega (arith, behind.spelled.len);
              each = (first.front, behind.front, first.spelled, behind.spelled.each, refl);
            };
            is = append_assoc first.front behind.front rest ∙ ap (λ (f : List ℕ). first.front ++ f) behind.is
                ∙ first.is;
          } in
          subst (λ (zs : List A). Begins (SpellsTimes Spells (suc count)) bytes zs rest) is.3.2 all

      back : (bytes : List ℕ) (ys : List A) (rest : List ℕ) → Begins (SpellsTimes Spells (suc count)) bytes ys rest
          → Parts Spells count bytes ys rest
      back bytes [] rest begins = absurd (omega (arith, begins.spelled.len))
      back bytes (x ∷ xs) rest begins =
          let each = begins.spelled.each in (
            x,
            each.1 ++ rest,
            record {
              front = each.0;
              spelled = each.2;
              is = sym (append_assoc each.0 each.1 rest)
                  ∙ ap (λ (f : List ℕ). f ++ rest) each.4 ∙ begins.is;
            },
            (
              xs,
              record {
                front = each.1;
                spelled = record { len = omega (arith, begins.spelled.len); each = each.3 };
                is = refl;
              },
              refl,
            ),
          )

times_agree : {A : Type 0} (Spells : A → List ℕ → Type 0) (read : List ℕ → Answer (A × List ℕ))
    (Fault : List ℕ → Refusal → Type 0) (count : ℕ)
    → Agrees read (Begins Spells) (λ bytes e. BeginsNone Spells bytes × Fault bytes e)
    → Agrees (read_times read count) (Begins (SpellsTimes Spells count)) (FirstOf Spells Fault count)
times_agree Spells read Fault zero one = none_agree Spells read Fault
times_agree Spells read Fault (suc count) one =
    more_agree Spells read Fault count one (times_agree Spells read Fault count one)

pub shapes : (shape : Shape) → Agrees (read_shape shape) (Begins (Spells shape)) (Refuses shape)
shapes u8 = numbers_agree 1
shapes u16 = numbers_agree 2
shapes u32 = numbers_agree 4
shapes num = prefixed_agree SpellsNum num_at unsigned_leaves nums num_refusals
shapes variant = prefixed_agree SpellsVariant variant_at numeric_leaves variants variant_refusals
shapes type_index = indexes_agree as_type
shapes id_index = indexes_agree as_id
shapes some_type = indexes_agree type_named
shapes some_id = indexes_agree id_named
shapes pointer_word = pointers_agree
shapes (text leaf) = texts_agree (ends_texts leaf)
shapes (when test shape) = when_agree (Spells shape) (read_shape shape) (Fault shape) test (shapes shape)
shapes (times count shape) =
    with_none (SpellsTimes (Spells shape) count) (read_times (read_shape shape) count)
    (FirstOf (Spells shape) (Fault shape) count)
    (times_agree (Spells shape) (read_shape shape) (Fault shape) count (shapes shape))
