-- A definition has one layout with itself.
use Rattle.std.proofs.Common.{◌≡◌, ◌≢◌, ℕ, List, [], ◌∷◌, refl, sym, ap, ◌∙◌, Bool, true, false, eqb, Option, Some}
use Rattle.std.proofs.Common.{None}
use Rattle.std.proofs.Common.{Ok, Err, arith, cond}
use Rattle.std.proofs.lemmas.Bool.Decides.{nat_tests}
use Rattle.std.proofs.lemmas.Slice.Eq.{bytes_eq-Decides}
use Rattle.std.specs.Bool.{beq, nat_eq}
use Rattle.std.specs.Option.{option_eq}
use Rattle.std.specs.Str.{bytes_eq}
use Rattle.pdb_base.specs.Answer.{Answer, ◌>>=◌}
use Rattle.pdb_base.specs.declared.index.TypeIndex.{TypeIndex}
use Rattle.pdb_tpi.specs.Table.{Table}
use Rattle.pdb_types.specs.declared.comparison.Comparison.{Comparison}
use Rattle.pdb_types.specs.declared.comparison.Comparison.TheVariants.{Equal, TypesDiffer, LayoutDiffers}
use Rattle.pdb_types.specs.Agreement.{do_types_agree}
use Rattle.pdb_types.specs.Comparison.{Described, EnumeratorValue, compared, comparison_of, described_class}
use Rattle.pdb_types.specs.Comparison.{described_enumeration, description_of, each_like, have_one_layout, have_one_role}
use Rattle.pdb_types.specs.Comparison.{is_enumerator_like, is_field_like, enumerated_number, other_type}
use Rattle.pdb_types.specs.Comparison.{described_types}
use Rattle.pdb_types.specs.Extent.{bits_of}
use Rattle.pdb_types.specs.FieldPlace.{FieldRole, base, virtual_function_pointer, virtual_base_pointer, member}
use Rattle.pdb_types.specs.Layout.{FieldValue}

one_number : (n : ℕ) → eqb n n ≡ true
one_number n = grind (arith, nat_tests)

one_text : (text : List ℕ) → bytes_eq text text ≡ true
one_text text = (bytes_eq-Decides text text).1 refl

one_bit : (bit : Bool) → beq bit bit ≡ true
one_bit true = refl
one_bit false = refl

one_size : (size : Option ℕ) → option_eq nat_eq size size ≡ true
one_size (Some size) = one_number size
one_size None = refl

one_role : (role : FieldRole) → have_one_role role role ≡ true
one_role base = refl
one_role virtual_function_pointer = refl
one_role (virtual_base_pointer class) = rw (one_bit class.direct, one_number class.position) refl
one_role (member name) = one_text name

one_field : (field : FieldValue) → is_field_like field field ≡ true
one_field field =
    rw (
      one_role field.place.role,
      one_number field.place.offset,
      one_number (bits_of field.place.offset field.extent).start,
      one_number (bits_of field.place.offset field.extent).end,
    )
    refl

one_enumerator : (over : TypeIndex) (enumerator : EnumeratorValue)
    → is_enumerator_like over over enumerator enumerator ≡ true
one_enumerator over enumerator = rw (one_text enumerator.name, one_number (enumerated_number over enumerator)) refl

each_same : {A : Type 0} (like : A → A → Bool) → ((x : A) → like x x ≡ true) → (xs : List A)
    → each_like like xs xs ≡ true
each_same like same [] = refl
each_same like same (x ∷ xs) = rw (same x, each_same like same xs) refl

pub one_layout : (one : Described) → have_one_layout one one ≡ true
one_layout (described_class keyword size fields) =
    rw (one_text keyword, one_number size, each_same is_field_like one_field fields) refl
one_layout (described_enumeration size over values) =
    rw (one_size size, each_same (is_enumerator_like over over) (one_enumerator over) values) refl
one_layout (other_type index) = refl

types_or : (agree : Bool) (comparison : Comparison)
    → (cond agree Equal TypesDiffer) ≡ comparison → comparison ≡ LayoutDiffers → ⊥
types_or true comparison is differs = absurd cc
types_or false comparison is differs = absurd cc

with_itself : (table : Table) (index : TypeIndex) (description : Answer Described) (comparison : Comparison)
    → (description >>= λ one. description >>= λ two. Ok (compared table table one two)) ≡ Ok comparison
    → comparison ≡ LayoutDiffers → ⊥
with_itself table index (Ok one) comparison is differs =
    let same : compared table table one one ≡ comparison = cc in
    types_or (do_types_agree table table (described_types one) (described_types one)) comparison
    (sym (ap (λ (b : Bool). cond b
    (cond (do_types_agree table table (described_types one) (described_types one)) Equal TypesDiffer)
    LayoutDiffers) (one_layout one))
    ∙ same) differs
with_itself table index (Err refusal) comparison is differs = absurd cc

pub never_differs : (table : Table) (index : TypeIndex) (comparison : Comparison)
    → comparison_of table index table index ≡ Ok comparison → comparison ≢ LayoutDiffers
unfolding comparison_of
never_differs table index comparison is differs =
    with_itself table index (description_of table index) comparison is differs
