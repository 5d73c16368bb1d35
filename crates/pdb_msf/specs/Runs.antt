-- Which pages of a list are joined: its longest runs.
use Rattle.std.specs.Prelude.{◌≡◌, ◌≢◌, ℕ, ◌+◌, ◌*◌, ◌<◌, List, [], ◌∷◌, map}
use Rattle.std.specs.List.{flat_map, range_with_len}
use Rattle.pdb_msf.specs.declared.source.SourceSlice.{SourceSlice}
use Rattle.pdb_msf.specs.PageList.{slices_of}

-- a run of consecutive pages: its first page, and how many there are
pub record Run : Type 0 where
  pub first : ℕ
  pub count : ℕ

-- the pages of a run
abbrev pub run_pages : Run → List ℕ
run_pages run = range_with_len run.first run.count

-- the slice that a run of pages makes up
abbrev pub run_slice : ℕ → Run → SourceSlice
run_slice page_size run = record { offset = run.first * page_size; size = run.count * page_size }

-- The first of the runs, if there is one, does not begin with this page.
abbrev pub BeginElsewhere : ℕ → List Run → Type 0
BeginElsewhere page [] = Unit {0}
BeginElsewhere page (run ∷ runs) = run.first ≢ page

-- No run could be longer: each has at least one page, and the run after it does not begin with the
-- page that follows its last one.
abbrev pub AreLongest : List Run → Type 0
AreLongest [] = Unit {0}
AreLongest (run ∷ runs) = (0 < run.count) × BeginElsewhere (run.first + run.count) runs × AreLongest runs

-- The runs are the longest runs of a list of pages: one after another they are the
-- pages, and none could be longer.
pub record AreRuns (pages : List ℕ) (runs : List Run) : Type 0 where
  pub laid : flat_map run_pages runs ≡ pages
  pub longest : AreLongest runs

-- The pages have these longest runs and no others, and are joined into the slices that these runs make up.
pub record AreJoined (page_size : ℕ) (pages : List ℕ) : Type 0 where
  pub runs : List Run
  pub are : AreRuns pages runs
  pub only : (other : List Run) → AreRuns pages other → other ≡ runs
  pub slices : slices_of page_size pages ≡ map (run_slice page_size) runs
