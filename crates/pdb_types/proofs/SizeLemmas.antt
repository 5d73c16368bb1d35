-- The sizes of types.
use Rattle.std.proofs.Common.{◌≡◌, inl, inr, ℕ, zero, suc, ◌<◌, ◌≤◌, refl, sym, ap, ◌∙◌, arith, Bool, true, false}
use Rattle.std.proofs.Common.{ltb, cond, Option, Some, None, Ok, Err}
use Rattle.std.proofs.lemmas.Bool.{cases_lt, ltb-true, le-ltb, lt-ltb}
use Rattle.std.proofs.lemmas.Bool.Decides.{nat_tests}
use Rattle.std.specs.Ordering.{is_ge, nat_cmp}
use Rattle.pdb_base.specs.Answer.{Answer, Answers, ◌>>=◌}
use Rattle.pdb_base.specs.Refusal.{refusal_of}
use Rattle.pdb_base.specs.declared.error.Error.{Error}
use Rattle.pdb_base.specs.declared.index.TypeIndex.{TypeIndex}
use Rattle.pdb_tpi.specs.Table.{Table}
use Rattle.pdb_types.specs.declared.size_source.SizeSource.{SizeSource}
use Rattle.pdb_types.specs.declared.size_source.SizeSource.TheVariants.{Stated, SameAs, Unknown}
use Rattle.pdb_types.specs.Shortcut.{IsAsLarge}
use Rattle.pdb_types.specs.Size.{Sizes, AreSizes, size_along, one_size, size_from, size_of, source_of_size}

-- ---- only the sizes of lower indexes matter

lower_by : (sizes others : Sizes) (index other : ℕ) (test : Bool) → ltb other index ≡ test
    → ((lower : ℕ) → lower < index → sizes lower ≡ others lower)
    → cond test (sizes other) (Ok None) ≡ cond test (others other) (Ok None)
lower_by sizes others index other true is same = same other (ltb-true other index is)
lower_by sizes others index other false is same = refl

from_lower : (sizes others : Sizes) (index : ℕ) (source : SizeSource)
    → ((lower : ℕ) → lower < index → sizes lower ≡ others lower)
    → size_from sizes index source ≡ size_from others index source
from_lower sizes others index (Stated size) same = refl
from_lower sizes others index (SameAs other) same = lower_by sizes others index other.0 (ltb other.0 index) refl same
from_lower sizes others index Unknown same = refl

answer_lower : (sizes others : Sizes) (index : ℕ) (source : Answer SizeSource)
    → ((lower : ℕ) → lower < index → sizes lower ≡ others lower)
    → (source >>= size_from sizes index) ≡ (source >>= size_from others index)
answer_lower sizes others index (Ok source) same = from_lower sizes others index source same
answer_lower sizes others index (Err refusal) same = refl

pub one_lower : (table : Table) (sizes others : Sizes) (index : ℕ)
    → ((lower : ℕ) → lower < index → sizes lower ≡ others lower)
    → one_size table sizes index ≡ one_size table others index
one_lower table sizes others index same = answer_lower sizes others index (source_of_size table index) same

-- more types than there are lower indexes change nothing
along_more : (table : Table) (most more index : ℕ) → index < most → index < more
    → size_along most table index ≡ size_along more table index
unfolding size_along
along_more table zero more index few many = absurd (omega (arith, few))
along_more table (suc most) zero index few many = absurd (omega (arith, many))
along_more table (suc most) (suc more) index few many =
    one_lower table (size_along most table) (size_along more table) index
    (λ lower below. along_more table most more lower (omega (arith, below, few)) (omega (arith, below, many)))

-- ---- the laws

pub are_sizes : (table : Table) → AreSizes table (size_of table)
unfolding size_of size_along
are_sizes table index =
    one_lower table (size_along index table) (size_of table) index
    (λ lower below. along_more table index (suc lower) lower below (omega arith))

only_below : (table : Table) (sizes : Sizes) → AreSizes table sizes → (bound index : ℕ) → index < bound
    → sizes index ≡ size_of table index
only_below table sizes are zero index below = absurd (omega (arith, below))
only_below table sizes are (suc bound) index below =
    are index
    ∙ one_lower table sizes (size_of table) index
    (λ lower under. only_below table sizes are bound lower (omega (arith, under, below)))
    ∙ sym (are_sizes table index)

pub only_sizes : (table : Table) (sizes : Sizes) → AreSizes table sizes → (index : ℕ)
    → sizes index ≡ size_of table index
only_sizes table sizes are index = only_below table sizes are (suc index) index (omega arith)

-- ---- steps along types

size_by : (table : Table) (index : ℕ) (source : Answer SizeSource) → source_of_size table index ≡ source
    → size_of table index ≡ (source >>= size_from (size_of table) index)
size_by table index source is = are_sizes table index
    ∙ ap (λ (s : Answer SizeSource). s >>= size_from (size_of table) index) is

pub size_stated : (table : Table) (index size : ℕ) → source_of_size table index ≡ Ok (Stated size)
    → size_of table index ≡ Ok (Some size)
size_stated table index size is = size_by table index (Ok (Stated size)) is

pub size_same : (table : Table) (index : ℕ) (other : TypeIndex) → source_of_size table index ≡ Ok (SameAs other)
    → other.0 < index → size_of table index ≡ size_of table other.0
size_same table index other is below =
    size_by table index (Ok (SameAs other)) is ∙ rw (lt-ltb other.0 index below) refl

pub size_above : (table : Table) (index : ℕ) (other : TypeIndex) → source_of_size table index ≡ Ok (SameAs other)
    → index ≤ other.0 → size_of table index ≡ Ok None
size_above table index other is above =
    size_by table index (Ok (SameAs other)) is ∙ rw (le-ltb other.0 index above) refl

pub size_unknown : (table : Table) (index : ℕ) → source_of_size table index ≡ Ok Unknown → size_of table index ≡ Ok None
size_unknown table index is = size_by table index (Ok Unknown) is

-- a type that is said to be as large as one of a lower index
pub lower_large : (table : Table) (index : ℕ) (other : TypeIndex) → source_of_size table index ≡ Ok (SameAs other)
    → other.0 < index → IsAsLarge table index other.0
lower_large table index other is below = record {
  low = omega (arith, below);
  same = size_same table index other is below;
}

-- along types that are as large
pub large_still : (table : Table) (index between other : ℕ) → IsAsLarge table index between
    → IsAsLarge table between other → IsAsLarge table index other
large_still table index between other first second = record {
  low = let one = first.low in let more = second.low in omega (arith, one, more);
  same = first.same ∙ second.same;
}

-- a fault is that of the size at which the types lead there
pub size_refused : (table : Table) (start index : ℕ) (e : Error) → size_of table start ≡ size_of table index
    → Answers {X = SizeSource} {Y = SizeSource} (λ source. source) (Err e) (source_of_size table index)
    → Answers {X = Option ℕ} {Y = Option ℕ} (λ size. size) (Err e) (size_of table start)
size_refused table start index e leads (inl is) = inl (leads ∙ size_by table index (Err (refusal_of e)) is)
size_refused table start index e leads (inr memory) = inr memory

-- ---- the test of the code

pub is_above : (a b : ℕ) → is_ge (nat_cmp a b) ≡ true → b ≤ a
is_above a b is = elim (cases_lt a b) [
  | inl below ↦ let less : is_ge (nat_cmp a b) ≡ false = rw (lt-ltb a b below) refl in absurd cc
  | inr above ↦ above
]

pub is_below : (a b : ℕ) → is_ge (nat_cmp a b) ≡ false → a < b
is_below a b is = grind (arith, nat_tests)
