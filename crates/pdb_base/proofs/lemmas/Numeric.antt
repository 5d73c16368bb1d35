-- Numbers of variable width: they are read just where they are spelled, and refused by their prefix
-- first.
use Rattle.std.proofs.Common.{◌≡◌, ℕ, ◌<◌, ◌≤◌, ltb, true, false, List, ◌++◌, Option, Some, None}
use Rattle.std.proofs.Common.{refl, sym, ap, ◌∙◌, arith, subst, ◌⊎◌, inl, inr, Ok, Err}
use Rattle.std.proofs.lemmas.Bool.{cases_lt, le-ltb, lt-ltb, ne_eqb}
use Rattle.std.proofs.lemmas.List.{append_assoc}
use Rattle.pdb_base.specs.declared.variant.Variant.{Variant}
use Rattle.pdb_base.specs.Refusal.{Refusal, unexpected_eof, unexpected_numeric_prefix}
use Rattle.pdb_base.specs.Answer.{Answer, ◌>>=◌}
use Rattle.pdb_base.specs.Reading.{number_at}
use Rattle.pdb_base.specs.Numeric.{NumberKind, u16, Numeral, least_leaf, numeric_leaves, unsigned_leaves, kind_behind}
use Rattle.pdb_base.specs.Numeric.{number_width, variant_of, number_of_kind, numeral_behind, numeral_at, num_at}
use Rattle.pdb_base.specs.Numeric.{variant_at}
use Rattle.pdb_base.specs.Spelling.{SpellsNumber, SpellsItself, SpellsPrefixed, SpellsNumeral, SpellsNum, SpellsVariant}
use Rattle.pdb_base.specs.Spelling.{Begins, ReadsWhatIsSpelled}
use Rattle.pdb_base.specs.Laws.{BeginsBadly, RefusesPrefixFirst}
use Rattle.pdb_base.proofs.lemmas.Collected.{ok, ok_is, ok_is_no_err, bind_ok}
use Rattle.pdb_base.proofs.lemmas.Spelling.{numbers}
use Rattle.pdb_base.proofs.lemmas.Reading.{number_ends}

-- ---- what follows two bytes

itself : (leaves : List (ℕ × NumberKind)) (prefix : ℕ) (bytes : List ℕ) → prefix < least_leaf
    → numeral_behind leaves prefix bytes ≡ Ok (record { kind = u16; number = prefix }, bytes)
unfolding numeral_behind
itself leaves prefix bytes small = let test : ltb prefix least_leaf ≡ true = lt-ltb prefix least_leaf small in
    rw test refl

announced : (leaves : List (ℕ × NumberKind)) (prefix : ℕ) (bytes : List ℕ) → least_leaf ≤ prefix
    → numeral_behind leaves prefix bytes ≡ number_of_kind prefix (kind_behind leaves prefix) bytes
unfolding numeral_behind
announced leaves prefix bytes large = let test : ltb prefix least_leaf ≡ false = le-ltb prefix least_leaf large in
    rw test refl

-- no leaf is a number that stands for itself
abbrev AreLarge : List (ℕ × NumberKind) → Type 0
AreLarge leaves = (prefix : ℕ) → prefix < least_leaf → kind_behind leaves prefix ≡ None

large_leaves : AreLarge numeric_leaves
large_leaves prefix small =
    rw (
      ne_eqb 0x8000 prefix (λ h. omega arith),
      ne_eqb 0x8001 prefix (λ h. omega arith),
      ne_eqb 0x8002 prefix (λ h. omega arith),
      ne_eqb 0x8003 prefix (λ h. omega arith),
      ne_eqb 0x8004 prefix (λ h. omega arith),
      ne_eqb 0x8009 prefix (λ h. omega arith),
      ne_eqb 0x800a prefix (λ h. omega arith),
    ) refl

large_unsigned_leaves : AreLarge unsigned_leaves
large_unsigned_leaves prefix small =
    rw (
      ne_eqb 0x8000 prefix (λ h. omega arith),
      ne_eqb 0x8002 prefix (λ h. omega arith),
      ne_eqb 0x8004 prefix (λ h. omega arith),
      ne_eqb 0x800a prefix (λ h. omega arith),
    ) refl

-- ---- what is read is spelled

-- a number of a kind that was read
of_kind : (prefix : ℕ) (found : Option NumberKind) (bytes : List ℕ) (numeral : Numeral) (rest : List ℕ)
    → number_of_kind prefix found bytes ≡ Ok (numeral, rest) → (found ≡ Some numeral.kind)
    × Begins (SpellsNumber (number_width numeral.kind)) bytes numeral.number rest
of_kind prefix None bytes numeral rest e = absurd cc
of_kind prefix (Some kind) bytes numeral rest e =
    let read = bind_ok (number_at (number_width kind) bytes) (λ n. Ok (record { kind = kind; number = n.0 }, n.1))
    (numeral, rest) e in
    let begins = (numbers (number_width kind)).found bytes read.0.0 read.0.1 read.1 in
    let is : (record { kind = kind; number = read.0.0 }, read.0.1) ≡ (numeral, rest) =
    ok_is (record { kind = kind; number = read.0.0 }, read.0.1) (numeral, rest) read.2 in
    subst (λ (x : Numeral × List ℕ). (Some kind ≡ Some x.0.kind)
    × Begins (SpellsNumber (number_width x.0.kind)) bytes x.0.number x.1) is (refl, begins)

found : (leaves : List (ℕ × NumberKind)) (bytes : List ℕ) (numeral : Numeral) (rest : List ℕ)
    → numeral_at leaves bytes ≡ Ok (numeral, rest) → Begins (SpellsNumeral leaves) bytes numeral rest
unfolding numeral_at
found leaves bytes numeral rest e =
    let first = bind_ok (number_at 2 bytes) (λ p. numeral_behind leaves p.0 p.1) (numeral, rest) e in
    let head = (numbers 2).found bytes first.0.0 first.0.1 first.1 in
    elim (cases_lt first.0.0 least_leaf) [
      | inl small ↦
          let is : (record { kind = u16; number = first.0.0 }, first.0.1) ≡ (numeral, rest) =
          ok_is (record { kind = u16; number = first.0.0 }, first.0.1) (numeral, rest)
          (sym (itself leaves first.0.0 first.0.1 small) ∙ first.2) in
          let begins : Begins (SpellsNumeral leaves) bytes (record { kind = u16; number = first.0.0 }) first.0.1 =
          record {
            front = head.front;
            spelled = inl (record { kind = refl; small = small; spelled = head.spelled });
            is = head.is;
          } in
          subst (λ (x : Numeral × List ℕ). Begins (SpellsNumeral leaves) bytes x.0 x.1) is begins
      | inr large ↦
          let behind = of_kind first.0.0 (kind_behind leaves first.0.0) first.0.1 numeral rest
          (sym (announced leaves first.0.0 first.0.1 large) ∙ first.2) in
          record {
            front = head.front ++ behind.1.front;
            spelled = inr (record {
              prefix = first.0.0;
              says = behind.0;
              head = head.front;
              head_spelled = head.spelled;
              tail = behind.1.front;
              tail_spelled = behind.1.spelled;
              is = refl;
            });
            is = append_assoc head.front behind.1.front rest ∙ ap (λ (r : List ℕ). head.front ++ r) behind.1.is
                ∙ head.is;
          }
    ]

-- ---- what is spelled is read

only_itself : (leaves : List (ℕ × NumberKind)) (bytes : List ℕ) (numeral : Numeral) (rest : List ℕ)
    (begins : Begins SpellsItself bytes numeral rest) → numeral_at leaves bytes ≡ Ok (numeral, rest)
unfolding numeral_at
only_itself leaves bytes numeral rest begins =
    let read : number_at 2 bytes ≡ Ok (numeral.number, rest) =
    (numbers 2).only bytes numeral.number rest
    (record { front = begins.front; spelled = begins.spelled.spelled; is = begins.is }) in
    rw read (itself leaves numeral.number rest begins.spelled.small
    ∙ ap (λ (kind : NumberKind). ok (record { kind = kind; number = numeral.number }, rest))
    (sym begins.spelled.kind))

only_prefixed : (leaves : List (ℕ × NumberKind)) → AreLarge leaves
    → (bytes : List ℕ) (numeral : Numeral) (rest : List ℕ) (begins : Begins (SpellsPrefixed leaves) bytes numeral rest)
    → numeral_at leaves bytes ≡ Ok (numeral, rest)
unfolding numeral_at
only_prefixed leaves large bytes numeral rest begins =
    let spelled = begins.spelled in
    let whole : spelled.head ++ (spelled.tail ++ rest) ≡ bytes = sym (append_assoc spelled.head spelled.tail rest)
    ∙ ap (λ (f : List ℕ). f ++ rest) spelled.is ∙ begins.is in
    let first : number_at 2 bytes ≡ Ok (spelled.prefix, spelled.tail ++ rest) =
    (numbers 2).only bytes spelled.prefix (spelled.tail ++ rest)
    (record { front = spelled.head; spelled = spelled.head_spelled; is = whole }) in
    let second : number_at (number_width numeral.kind) (spelled.tail ++ rest) ≡ Ok (numeral.number, rest) =
    (numbers (number_width numeral.kind)).only (spelled.tail ++ rest) numeral.number rest
    (record { front = spelled.tail; spelled = spelled.tail_spelled; is = refl }) in
    let says : kind_behind leaves spelled.prefix ≡ Some numeral.kind = spelled.says in
    elim (cases_lt spelled.prefix least_leaf) [
      | inl small ↦ absurd (let none : kind_behind leaves spelled.prefix ≡ None = large spelled.prefix small in cc)
      | inr above ↦ rw first (announced leaves spelled.prefix (spelled.tail ++ rest) above ∙ rw (says, second) refl)
    ]

pub numerals : (leaves : List (ℕ × NumberKind)) → AreLarge leaves
    → ReadsWhatIsSpelled (SpellsNumeral leaves) (numeral_at leaves)
numerals leaves large = record {
  found = found leaves;
  only = λ bytes numeral rest begins. elim begins.spelled [
    | inl itself ↦ only_itself leaves bytes numeral rest
        (record { front = begins.front; spelled = itself; is = begins.is })
    | inr prefixed ↦ only_prefixed leaves large bytes numeral rest
        (record { front = begins.front; spelled = prefixed; is = begins.is })
  ];
}

pub nums : ReadsWhatIsSpelled SpellsNum num_at
unfolding num_at
nums = record {
  found = λ bytes number rest e.
      let read = bind_ok (numeral_at unsigned_leaves bytes) (λ n. Ok (n.0.number, n.1)) (number, rest) e in
      let begins = found unsigned_leaves bytes read.0.0 read.0.1 read.1 in
      let is : (read.0.0.number, read.0.1) ≡ (number, rest) = ok_is (read.0.0.number, read.0.1) (number, rest) read.2 in
      record {
        front = begins.front;
        spelled = record { numeral = read.0.0; spelled = begins.spelled; is = ap (λ (p : ℕ × List ℕ). p.0) is };
        is = ap (λ (p : ℕ × List ℕ). begins.front ++ p.1) (sym is) ∙ begins.is;
      };
  only = λ bytes number rest begins.
      let read = (numerals unsigned_leaves large_unsigned_leaves).only bytes begins.spelled.numeral rest
      (record { front = begins.front; spelled = begins.spelled.spelled; is = begins.is }) in
      rw read (ap (λ (n : ℕ). ok (n, rest)) begins.spelled.is);
}

pub variants : ReadsWhatIsSpelled SpellsVariant variant_at
unfolding variant_at
variants = record {
  found = λ bytes value rest e.
      let read = bind_ok (numeral_at numeric_leaves bytes) (λ n. Ok (variant_of n.0, n.1)) (value, rest) e in
      let begins = found numeric_leaves bytes read.0.0 read.0.1 read.1 in
      let is : (variant_of read.0.0, read.0.1) ≡ (value, rest) =
      ok_is (variant_of read.0.0, read.0.1) (value, rest) read.2 in
      record {
        front = begins.front;
        spelled = record { numeral = read.0.0; spelled = begins.spelled; is = ap (λ (p : Variant × List ℕ). p.0) is };
        is = ap (λ (p : Variant × List ℕ). begins.front ++ p.1) (sym is) ∙ begins.is;
      };
  only = λ bytes value rest begins.
      let read = (numerals numeric_leaves large_leaves).only bytes begins.spelled.numeral rest
      (record { front = begins.front; spelled = begins.spelled.spelled; is = begins.is }) in
      rw read (ap (λ (v : Variant). ok (v, rest)) begins.spelled.is);
}

-- ---- refusals

-- a refusal of a step or of what comes behind it
bind_err : {A B : Type 0} (r : Answer A) (f : A → Answer B) (e : Refusal) → (r >>= f) ≡ Err e → (r ≡ Err e)
    ⊎ ((x : A) × (r ≡ Ok x) × (f x ≡ Err e))
bind_err (Ok x) f e h = inr (x, refl, h)
bind_err (Err d) f e h = inl cc

-- a number behind a prefix is refused since there is none of a kind, or since the bytes end too soon
short_kind : (prefix : ℕ) (found : Option NumberKind) (bytes : List ℕ) (e : Refusal)
    → number_of_kind prefix found bytes ≡ Err e → (found ≡ None) ⊎ (e ≡ unexpected_eof)
short_kind prefix None bytes e refused = inl refl
short_kind prefix (Some kind) bytes e refused =
    elim (bind_err (number_at (number_width kind) bytes)
    (λ n. Ok (record { kind = kind; number = n.0 }, n.1)) e refused) [
      | inl cut ↦ inr (number_ends (number_width kind) bytes e cut)
      | inr read ↦ absurd (ok_is_no_err (record { kind = kind; number = read.0.0 }, read.0.1) e read.2)
    ]

named : (leaves : List (ℕ × NumberKind)) (bytes : List ℕ) (prefix : ℕ) → BeginsBadly leaves bytes prefix
    → numeral_at leaves bytes ≡ Err (unexpected_numeric_prefix prefix)
unfolding numeral_at
named leaves bytes prefix bad =
    let first : number_at 2 bytes ≡ Ok (prefix, bad.rest) = (numbers 2).only bytes prefix bad.rest bad.begins in
    let unknown : kind_behind leaves prefix ≡ None = bad.unknown in
    rw first (announced leaves prefix bad.rest bad.large ∙ rw unknown refl)

ends : (leaves : List (ℕ × NumberKind)) (bytes : List ℕ) (e : Refusal)
    → ((prefix : ℕ) → ¬ BeginsBadly leaves bytes prefix) → numeral_at leaves bytes ≡ Err e → e ≡ unexpected_eof
unfolding numeral_at
ends leaves bytes e none refused = elim (bind_err (number_at 2 bytes) (λ p. numeral_behind leaves p.0 p.1) e refused) [
  | inl cut ↦ number_ends 2 bytes e cut
  | inr first ↦ elim (cases_lt first.0.0 least_leaf) [
    | inl small ↦ absurd (ok_is_no_err (record { kind = u16; number = first.0.0 }, first.0.1) e
        (sym (itself leaves first.0.0 first.0.1 small) ∙ first.2))
    | inr large ↦ elim (short_kind first.0.0 (kind_behind leaves first.0.0) first.0.1 e
        (sym (announced leaves first.0.0 first.0.1 large) ∙ first.2)) [
          | inl unknown ↦ absurd (none first.0.0 (record {
            rest = first.0.1;
            begins = (numbers 2).found bytes first.0.0 first.0.1 first.1;
            large = large;
            unknown = unknown;
          }))
          | inr cut ↦ cut
        ]
  ]
]

pub num_refusals : RefusesPrefixFirst unsigned_leaves num_at
unfolding num_at
num_refusals = record {
  named = λ bytes prefix bad. rw (named unsigned_leaves bytes prefix bad) refl;
  short = λ bytes e none refused. elim (bind_err (numeral_at unsigned_leaves bytes)
      (λ n. Ok (n.0.number, n.1)) e refused) [
        | inl numeral ↦ ends unsigned_leaves bytes e none numeral
        | inr read ↦ absurd (ok_is_no_err (read.0.0.number, read.0.1) e read.2)
      ];
}

pub variant_refusals : RefusesPrefixFirst numeric_leaves variant_at
unfolding variant_at
variant_refusals = record {
  named = λ bytes prefix bad. rw (named numeric_leaves bytes prefix bad) refl;
  short = λ bytes e none refused. elim (bind_err (numeral_at numeric_leaves bytes)
      (λ n. Ok (variant_of n.0, n.1)) e refused) [
        | inl numeral ↦ ends numeric_leaves bytes e none numeral
        | inr read ↦ absurd (ok_is_no_err (variant_of read.0.0, read.0.1) e read.2)
      ];
}
