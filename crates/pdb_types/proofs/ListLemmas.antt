-- Lists have no names.
use Rattle.std.proofs.Common.{◌≡◌, inl, inr, ℕ, List, [], refl, true, eqb, ltb, None, Ok, Err}
use Rattle.std.proofs.Common.{◌∷◌, ◌++◌, ◌||◌, take, drop, length}
use Rattle.std.proofs.lemmas.Bool.{cases_Bool, eqb-true, or_cases}
use Rattle.std.proofs.lemmas.List.{append-nil}
use Rattle.pdb_base.specs.Answer.{Answer, ◌>>=◌}
use Rattle.pdb_base.specs.Endian.{little_number}
use Rattle.pdb_base.specs.Reading.{number_at, front_at}
use Rattle.pdb_values.specs.Primitive.{first_record, primitive_type}
use Rattle.pdb_values.specs.TypeValue.{TypeValue, plain, primitive, argument_list, method_list}
use Rattle.pdb_values.specs.TypeView.{primitive_of}
use Rattle.pdb_values.specs.declared.primitive.PrimitiveType.{PrimitiveType}
use Rattle.pdb_records.specs.Counted.{counted_at}
use Rattle.pdb_records.specs.Fields.{field_list_leaf, field_list_of, field_at, record_at, record_of, type_record}
use Rattle.pdb_records.specs.Row.{row}
use Rattle.pdb_records.specs.Rows.{listed_method_row}
use Rattle.pdb_records.specs.Shape.{as_type}
use Rattle.pdb_records.specs.ToEnd.{to_end}
use Rattle.pdb_records.specs.declared.parse.counted.CountWidth.TheVariants.{Bits32}
use Rattle.pdb_records.specs.Records.{behind_leaf}
use Rattle.pdb_tpi.specs.Record.{kind_of, type_of}
use Rattle.pdb_types.specs.declared.numbering.Numbering.{Numbering}
use Rattle.pdb_types.specs.Declaration.{declaration_of}
use Rattle.pdb_types.specs.Numbering.{type_numbers, is_list}

-- what is read and made into types without a name has no numbers
nameless : {X : Type 0} (numbering : Numbering) (index : ℕ) (made : X → TypeValue)
    → ((x : X) → declaration_of (made x) ≡ None) → (read : Answer (X × List ℕ))
    → type_numbers numbering index (◌>>=◌ {A = TypeValue × List ℕ} {B = TypeValue}
    (◌>>=◌ {A = X × List ℕ} {B = TypeValue × List ℕ} read (λ x. Ok (made x.0, x.1))) (λ x. Ok x.0)) ≡ []
nameless numbering index made none (Ok x) = rw (none x.0) refl
nameless numbering index made none (Err refusal) = refl

-- what follows the leaf of a list
behind : (numbering : Numbering) (index number : ℕ) (rest : List ℕ) → is_list number ≡ true
    → type_numbers numbering index (◌>>=◌ {A = TypeValue × List ℕ} {B = TypeValue}
    (record_of (eqb number field_list_leaf) number rest) (λ x. Ok x.0)) ≡ []
unfolding behind_leaf
behind numbering index number rest is =
    elim (or_cases (eqb number 0x1203 || eqb number 0x1201) (eqb number 0x1206) is) [
      | inl others ↦ elim (or_cases (eqb number 0x1203) (eqb number 0x1201) others) [
        | inl fields ↦
            rw (eqb-true number 0x1203 fields)
            (nameless numbering index field_list_of (λ entries. refl) (to_end field_at rest))
        | inr arguments ↦
            rw (eqb-true number 0x1201 arguments)
            (nameless numbering index argument_list (λ list. refl) (counted_at Bits32 as_type rest))
      ]
      | inr methods ↦
          rw (eqb-true number 0x1206 methods)
          (nameless numbering index method_list (λ list. refl) (to_end (row listed_method_row) rest))
    ]

-- the first two bytes say the kind
first_two : (item : List ℕ) → little_number 2 (take 2 item) ≡ little_number 2 item
first_two [] = refl
first_two (a ∷ []) = refl
first_two (a ∷ b ∷ rest) = refl

of_record : (numbering : Numbering) (index : ℕ) (item : List ℕ) → is_list (kind_of item) ≡ true
    → type_numbers numbering index (type_record item) ≡ []
unfolding type_record record_at number_at front_at
of_record numbering index item is = elim (cases_Bool (ltb (length item) 2)) [
  | inl short ↦ rw short refl
  | inr long ↦ rw (long, first_two item) (behind numbering index (kind_of item) (drop 2 item) is)
]

of_primitive : (numbering : Numbering) (index : ℕ) (type : Answer PrimitiveType)
    → type_numbers numbering index (type >>= λ t. Ok (plain (primitive t))) ≡ []
of_primitive numbering index (Ok type) = refl
of_primitive numbering index (Err refusal) = refl

-- the record of a list has no numbers
list_numbers : (numbering : Numbering) (index : ℕ) (item : List ℕ) → is_list (kind_of item) ≡ true
    → type_numbers numbering index (type_of index item) ≡ []
unfolding type_of primitive_of
list_numbers numbering index item is = elim (cases_Bool (ltb index first_record)) [
  | inl low ↦ rw low (of_primitive numbering index (primitive_type index))
  | inr high ↦ rw high (of_record numbering index item is)
]

-- and adds none
pub list_adds : (numbering : Numbering) (numbers : List ℕ) (index : ℕ) (item : List ℕ) → is_list (kind_of item) ≡ true
    → numbers ≡ numbers ++ type_numbers numbering index (type_of index item)
list_adds numbering numbers index item is =
    rw (list_numbers numbering index item is, append-nil) refl
