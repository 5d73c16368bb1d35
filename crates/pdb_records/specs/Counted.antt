-- How a list that follows its count is read.
use Rattle.std.specs.Prelude.{ℕ, List, Ok}
use Rattle.pdb_base.specs.Answer.{Answer, ◌>>=◌}
use Rattle.pdb_base.specs.Reading.{number_at}
use Rattle.pdb_base.specs.Repeated.{read_times}
use Rattle.pdb_records.specs.Shape.{index_at}
use Rattle.pdb_records.specs.declared.parse.counted.CountWidth.{CountWidth}
use Rattle.pdb_records.specs.declared.parse.counted.CountWidth.TheVariants.{Bits16, Bits32}

-- the number of bytes that a count takes
abbrev pub count_bytes : CountWidth → ℕ
count_bytes Bits16 = 2
count_bytes Bits32 = 4

-- reads a count, and then that many indexes
abbrev pub counted_at : {A : Type 0} → CountWidth → (ℕ → A) → List ℕ → Answer (List A × List ℕ)
counted_at width said bytes =
    number_at (count_bytes width) bytes >>= λ count. read_times (index_at said) count.0 count.1
    >>= λ items. Ok (items.0, items.1)
