-- The first NUL from an offset on is found in a part of the names, or behind it.
use Rattle.std.proofs.Common.{◌≡◌, ℕ, ◌+◌, ◌*◌, ◌-◌, ◌<◌, ◌≤◌, ◌==◌, inl, inr, List, [], ◌∷◌, ◌++◌, length, take, drop}
use Rattle.std.proofs.Common.{Option, Some, None, slice_index, sym, ap, ◌∙◌, arith}
use Rattle.std.proofs.lemmas.Bool.{cases_lt}
use Rattle.std.proofs.lemmas.List.{get_or_append_left, get_or_push, length-append}
use Rattle.std.proofs.lemmas.Simd.{get_or-chunk, length-chunk}
use Rattle.memchr.specs.Find.{IsFirstByte, Passes, is_byte}
use Rattle.pdb_file.specs.NameEnds.{AreFirstNuls, IsFirstNul}

module _ (names : List ℕ) (start end : ℕ) (order : start ≤ end) (within : end ≤ length names) where
  abbrev part : List ℕ
  part = take (end - start) (drop start names)

  part_len : length part ≡ end - start
  part_len = length-chunk start (end - start) names (omega (arith, order, within))

  -- a NUL of the names that is in the part
  in_part : (k : ℕ) → start ≤ k → k < end → Passes (is_byte 0) names k → Passes (is_byte 0) part (k - start)
  in_part k low high nul =
      let place : start + (k - start) ≡ k = omega arith in
      ap (λ (byte : ℕ). byte == 0) (get_or-chunk start (end - start) names (k - start) 0 (omega arith)
      ∙ ap (slice_index names) place) ∙ nul

  pub found_in_part : (len : ℕ) → IsFirstByte (is_byte 0) part (Some len) → IsFirstNul names start (Some (start + len))
  found_in_part len first =
      let high : len < end - start = omega (arith, first.0.high, part_len) in (
        record {
          low = omega arith;
          high = omega (arith, high, order, within);
          before = λ k low below nul. first.0.before (k - start) (omega arith) (omega arith)
              (in_part k low (omega (arith, high)) nul);
        },
        ap (λ (byte : ℕ). byte == 0) (sym (get_or-chunk start (end - start) names len 0 high)) ∙ first.1,
      )

  pub found_behind : (behind : Option ℕ) → IsFirstByte (is_byte 0) part None → IsFirstNul names end behind
      → IsFirstNul names start behind
  found_behind None none behind = λ k low high nul. elim (cases_lt k end) [
    | inl below ↦ none (k - start) (omega arith) (omega (arith, part_len)) (in_part k low below nul)
    | inr above ↦ behind k above high nul
  ]
  found_behind (Some place) none behind = (
    record {
      low = omega (arith, behind.0.low, order);
      high = behind.0.high;
      before = λ k low high nul. elim (cases_lt k end) [
        | inl below ↦ none (k - start) (omega arith) (omega (arith, part_len)) (in_part k low below nul)
        | inr above ↦ behind.0.before k above high nul
      ];
    },
    behind.1,
  )

-- one more of the first NULs
pub one_more : (names : List ℕ) (nuls : List (Option ℕ)) (nul : Option ℕ) → AreFirstNuls names nuls
    → IsFirstNul names (length names - 512 * length nuls) nul → AreFirstNuls names (nuls ++ nul ∷ [])
one_more names nuls nul so_far here n within = elim (cases_lt n (length nuls)) [
  | inl below ↦ rw (get_or_append_left nuls (nul ∷ []) None n below) (so_far n below)
  | inr above ↦
      let last : length nuls ≡ n = omega (arith, within, length-append nuls (nul ∷ [])) in
      rw (get_or_push nuls nul None n last, ← last) here
]
