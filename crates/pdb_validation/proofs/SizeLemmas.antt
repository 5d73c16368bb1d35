-- The sizes of the streams of a file.
use Rattle.std.proofs.Common.{◌≡◌, ℕ, ◌+◌, arith}
use Rattle.std.proofs.lemmas.List.FromFn.{sum_by-map-range_with_len_more}
use Rattle.pdb_msf.specs.Layout.{LayoutValue, size_by}
use Rattle.pdb_validation.specs.Sizes.{layout_sizes, size_or_none}

-- the size of one stream more
pub sizes_more : (layout : LayoutValue) (n : ℕ)
    → layout_sizes layout (n + 1) ≡ layout_sizes layout n + size_or_none (size_by layout n)
unfolding layout_sizes
sizes_more layout n = sum_by-map-range_with_len_more size_or_none (size_by layout) 0 n n (omega arith)
