-- Each primitive type has one index.
use Rattle.std.proofs.Common.{◌≡◌, ℕ, ◌+◌, ◌*◌, ◌^◌, ◌<◌, true, ◌==◌, List, [], ◌∷◌, Option, Some, None, Ok, Err, refl}
use Rattle.std.proofs.Common.{sym, ap, ◌∙◌, arith, lit<}
use Rattle.std.specs.List.{list_all}
use Rattle.std.proofs.lemmas.Bool.Decides.{nat_tests}
use Rattle.pdb_base.specs.Bits.{bits}
use Rattle.pdb_base.specs.Refusal.{Refusal, type_not_found}
use Rattle.pdb_base.specs.Answer.{Answer, ◌>>=◌}
use Rattle.pdb_base.proofs.lemmas.Collected.{bind_ok, ok_is, ok_is_no_err, err_is}
use Rattle.pdb_base.proofs.lemmas.BitFields.{all_bits, put_together}
use Rattle.pdb_values.specs.declared.primitive.Indirection.{Indirection}
use Rattle.pdb_values.specs.declared.primitive.Indirection.TheVariants as pointers
use Rattle.pdb_values.specs.declared.primitive.PrimitiveKind.{PrimitiveKind}
use Rattle.pdb_values.specs.declared.primitive.PrimitiveKind.TheVariants as kinds
use Rattle.pdb_values.specs.declared.primitive.PrimitiveType.{PrimitiveType}
use Rattle.pdb_values.specs.Primitive.{first_record, primitive_kinds, indirections, value_or_not_found, beside_number}
use Rattle.pdb_values.specs.Primitive.{primitive_kind, primitive_indirection, primitive_type}
use Rattle.pdb_values.specs.Laws.{HasOneIndex, IsRefusedByIndex}

-- the number of a kind
kind_number : PrimitiveKind → ℕ
kind_number kinds.NoType = 0x00
kind_number kinds.Void = 0x03
kind_number kinds.HRESULT = 0x08
kind_number kinds.Char = 0x10
kind_number kinds.Short = 0x11
kind_number kinds.Long = 0x12
kind_number kinds.Quad = 0x13
kind_number kinds.Octa = 0x14
kind_number kinds.UChar = 0x20
kind_number kinds.UShort = 0x21
kind_number kinds.ULong = 0x22
kind_number kinds.UQuad = 0x23
kind_number kinds.UOcta = 0x24
kind_number kinds.Bool8 = 0x30
kind_number kinds.Bool16 = 0x31
kind_number kinds.Bool32 = 0x32
kind_number kinds.Bool64 = 0x33
kind_number kinds.F32 = 0x40
kind_number kinds.F64 = 0x41
kind_number kinds.F80 = 0x42
kind_number kinds.F128 = 0x43
kind_number kinds.F48 = 0x44
kind_number kinds.F32PP = 0x45
kind_number kinds.F16 = 0x46
kind_number kinds.Complex32 = 0x50
kind_number kinds.Complex64 = 0x51
kind_number kinds.Complex80 = 0x52
kind_number kinds.Complex128 = 0x53
kind_number kinds.I8 = 0x68
kind_number kinds.U8 = 0x69
kind_number kinds.RChar = 0x70
kind_number kinds.WChar = 0x71
kind_number kinds.I16 = 0x72
kind_number kinds.U16 = 0x73
kind_number kinds.I32 = 0x74
kind_number kinds.U32 = 0x75
kind_number kinds.I64 = 0x76
kind_number kinds.U64 = 0x77
kind_number kinds.I128 = 0x78
kind_number kinds.U128 = 0x79
kind_number kinds.RChar16 = 0x7a
kind_number kinds.RChar32 = 0x7b

-- the number of a pointer, or of none
pointer_number : Option Indirection → ℕ
pointer_number None = 0
pointer_number (Some pointers.Near16) = 1
pointer_number (Some pointers.Far16) = 2
pointer_number (Some pointers.Huge16) = 3
pointer_number (Some pointers.Near32) = 4
pointer_number (Some pointers.Far32) = 5
pointer_number (Some pointers.Near64) = 6
pointer_number (Some pointers.Near128) = 7

kind_row : (kind : PrimitiveKind) → beside_number primitive_kinds (kind_number kind) ≡ Some kind
unfolding kind_number
kind_row kinds.NoType = refl
kind_row kind = refl

kind_number-lt : (kind : PrimitiveKind) → kind_number kind < 256
unfolding kind_number
kind_number-lt kinds.NoType = lit< tt
kind_number-lt kind = lit< tt

pointer_row : (pointer : Option Indirection) → beside_number indirections (pointer_number pointer) ≡ Some pointer
unfolding pointer_number
pointer_row None = refl
pointer_row (Some pointers.Near16) = refl
pointer_row (Some pointer) = refl

pointer_number-lt : (pointer : Option Indirection) → pointer_number pointer < 16
unfolding pointer_number
pointer_number-lt None = lit< tt
pointer_number-lt (Some pointers.Near16) = lit< tt
pointer_number-lt (Some pointer) = lit< tt

-- what a table says under a number, where each row has the number of what it says
found_number : {A : Type 0} (number : A → ℕ) (rows : List (ℕ × A)) (n : ℕ) (x : A)
    → list_all (λ (row : ℕ × A). row.0 == number row.1) rows ≡ true → beside_number rows n ≡ Some x → n ≡ number x
found_number number [] n x all is = absurd cc
found_number {A} number (row ∷ rows) n x all is =
    let rest = found_number number rows n x in
    grind (arith, nat_tests)

kinds_numbered : list_all (λ (row : ℕ × PrimitiveKind). row.0 == kind_number row.1) primitive_kinds ≡ true
unfolding kind_number
kinds_numbered = refl

pointers_numbered : list_all (λ (row : ℕ × Option Indirection). row.0 == pointer_number row.1) indirections ≡ true
unfolding pointer_number
pointers_numbered = refl

-- what was found was in the table
found_there : {A : Type 0} (index : ℕ) (row : Option A) (x : A) → value_or_not_found index row ≡ Ok x → row ≡ Some x
found_there {A} index (Some y) x e = ap (λ (z : A). Some z) (ok_is y x e)
found_there index None x e = absurd cc

-- the low byte and the four bits above it
split : (index : ℕ) → index < first_record → index ≡ bits index 0 8 + 2 ^ 8 * bits index 8 4
split index small = omega (arith, all_bits index 12 small, put_together index 0 8 4)

-- what an index says that is made of two numbers
low : (kind pointer : ℕ) → kind < 256 → bits (kind + 256 * pointer) 0 8 ≡ kind
unfolding bits
low kind pointer small = omega arith

high : (kind pointer : ℕ) → kind < 256 → pointer < 16 → bits (kind + 256 * pointer) 8 4 ≡ pointer
unfolding bits
high kind pointer small few = omega arith

-- both tables were read
both : (index : ℕ) (type : PrimitiveType) → primitive_type index ≡ Ok type → (primitive_kind index ≡ Ok type.kind)
    × (primitive_indirection index ≡ Ok type.indirection)
unfolding primitive_type
both index type is =
    let kind = bind_ok (primitive_kind index)
    (λ k. primitive_indirection index >>= λ i. Ok (record { kind = k; indirection = i })) type is in
    let pointer = bind_ok (primitive_indirection index)
    (λ i. Ok (record { kind = kind.0; indirection = i })) type kind.2 in
    let same = ok_is (record { kind = kind.0; indirection = pointer.0 }) type pointer.2 in
    (kind.1 ∙ ap (λ (t : PrimitiveType). Ok t.kind) same, pointer.1 ∙ ap (λ (t : PrimitiveType). Ok t.indirection) same)

-- so an index is made of the numbers of what it stands for
index_is : (index : ℕ) (type : PrimitiveType) → index < first_record → primitive_type index ≡ Ok type
    → index ≡ kind_number type.kind + 256 * pointer_number type.indirection
unfolding primitive_kind primitive_indirection
index_is index type small is =
    let read = both index type is in
    let kind = found_number kind_number primitive_kinds (bits index 0 8) type.kind kinds_numbered
    (found_there index (beside_number primitive_kinds (bits index 0 8)) type.kind read.0) in
    let pointer = found_number pointer_number indirections (bits index 8 4) type.indirection pointers_numbered
    (found_there index (beside_number indirections (bits index 8 4)) type.indirection read.1) in
    omega (arith, split index small, kind, pointer)

-- and the index that is made of them stands for it
stands : (type : PrimitiveType) → primitive_type (kind_number type.kind + 256 * pointer_number type.indirection)
    ≡ Ok type
unfolding primitive_type primitive_kind primitive_indirection
stands type =
    rw (
      low (kind_number type.kind) (pointer_number type.indirection) (kind_number-lt type.kind),
      kind_row type.kind,
      high (kind_number type.kind) (pointer_number type.indirection) (kind_number-lt type.kind)
          (pointer_number-lt type.indirection),
      pointer_row type.indirection,
    ) refl

pub has_one_index : (type : PrimitiveType) → HasOneIndex type
has_one_index type = record {
  index = kind_number type.kind + 256 * pointer_number type.indirection;
  below = omega (arith, kind_number-lt type.kind, pointer_number-lt type.indirection);
  stands = stands type;
  only = λ other small is. index_is other type small is;
}

-- what is not found is refused as the index
not_found : {A : Type 0} (index : ℕ) (row : Option A) (e : Refusal) → value_or_not_found index row ≡ Err e → e
    ≡ type_not_found index
not_found {A} index (Some x) e is = absurd (ok_is_no_err x e is)
not_found {A} index None e is = sym (err_is {A = A} (type_not_found index) e is)

-- what is refused of two steps, the second or the first
refused_step : {A B : Type 0} (answer : Answer A) (more : A → Answer B) (e d : Refusal)
    → ((e : Refusal) → answer ≡ Err e → e ≡ d) → ((x : A) → more x ≡ Err e → e ≡ d) → (answer >>= more) ≡ Err e → e ≡ d
refused_step (Ok x) more e d first second is = second x is
refused_step {A} {B} (Err c) more e d first second is = sym (err_is {A = B} c e is) ∙ first c refl

pub is_refused_by_index : (index : ℕ) → IsRefusedByIndex index
unfolding primitive_type primitive_kind primitive_indirection
is_refused_by_index index = λ e is.
    refused_step (primitive_kind index) (λ k. primitive_indirection index
    >>= λ i. Ok (record { kind = k; indirection = i })) e (type_not_found index)
    (not_found index (beside_number primitive_kinds (bits index 0 8)))
    (λ k. refused_step (primitive_indirection index) (λ i. Ok (record { kind = k; indirection = i })) e
    (type_not_found index) (not_found index (beside_number indirections (bits index 8 4)))
    (λ i no. absurd (ok_is_no_err _ e no)))
    is
