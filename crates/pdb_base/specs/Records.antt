-- Records of the same size that follow one another in bytes.
use Rattle.std.specs.Prelude.{ℕ, ◌*◌, ◌/◌, List, length, map, take, drop}
use Rattle.std.specs.List.{range_with_len}

-- the values that bytes spell, `size` bytes each: value k begins at offset `size` times k
unfoldable pub values_of_size : {A : Type 0} → ℕ → (List ℕ → A) → List ℕ → List A
values_of_size size value bytes =
    map (λ k. value (take size (drop (size * k) bytes))) (range_with_len 0 (length bytes / size))
