-- The streams whose bytes can't be read, among those from a number on.
use Rattle.std.proofs.Common.{◌≡◌, ℕ, suc, ◌+◌, ◌-◌, ◌<◌, ◌≤◌, List, [], ◌++◌, refl, arith}
use Rattle.std.specs.List.{flat_map, range_with_len}
use Rattle.std.specs.Option.{option_to_list}
use Rattle.pdb_msf.specs.Layout.{LayoutValue}
use Rattle.pdb_validation.specs.Finding.{FaultPlace}
use Rattle.pdb_validation.specs.Streams.{bytes_fault, streams_faults}

unfoldable pub faults_from : LayoutValue → List ℕ → ℕ → ℕ → List FaultPlace
faults_from layout file count n =
    flat_map (λ number. option_to_list (bytes_fault layout file number)) (range_with_len n (count - n))

pub from_first : (layout : LayoutValue) (file : List ℕ) (count : ℕ)
    → faults_from layout file count 0 ≡ streams_faults layout file count
unfolding streams_faults faults_from
from_first layout file count = let all : count - 0 ≡ count = omega arith in rw all refl

pub faults_next : (layout : LayoutValue) (file : List ℕ) (count n : ℕ) → n < count
    → faults_from layout file count n
    ≡ option_to_list (bytes_fault layout file n) ++ faults_from layout file count (n + 1)
unfolding faults_from
faults_next layout file count n within =
    let left : count - n ≡ suc (count - (n + 1)) = omega (arith, within) in
    rw left refl

pub none_left : (layout : LayoutValue) (file : List ℕ) (count n : ℕ) → count ≤ n
    → faults_from layout file count n ≡ []
unfolding faults_from
none_left layout file count n over = let none : count - n ≡ 0 = omega (arith, over) in rw none refl
