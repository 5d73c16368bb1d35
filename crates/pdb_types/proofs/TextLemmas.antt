-- Texts that are cut.
use Rattle.std.proofs.Common.{◌≡◌, ℕ, ◌+◌, ◌-◌, ◌≤◌, inl, inr, sym, ap, ◌∙◌, arith, Bool, cond}
use Rattle.std.proofs.Common.{ltb}
use Rattle.std.proofs.Common.{List, ◌++◌, length, take, length-append, length-take}
use Rattle.std.proofs.lemmas.Bool.{both_ways, cases_Bool, ltb-false, or_parts}
use Rattle.pdb_types.specs.declared.text.TypeText.{TypeText}
use Rattle.pdb_types.specs.Text.{IsShownText, is_left_out, points, shown_bytes}

cut_length : (most : ℕ) (text : List ℕ) → 2 ≤ most → length (take (most - 2) text ++ points) ≤ most
cut_length most text room =
    omega (arith, room, length-append (take (most - 2) text) points, length-take (most - 2) text)

pub cut_is : (most : ℕ) (text : List ℕ) (shown : TypeText) → 2 ≤ most
    → shown.bytes.items ≡ take (most - 2) text ++ points → IsShownText most shown
cut_is most text shown room is =
    record { short = rw is (cut_length most text room); ends = λ told. (take (most - 2) text, is) }

pub shown_is : (most : ℕ) (text : List ℕ) (cut : Bool) (shown : TypeText) → 2 ≤ most
    → shown.bytes.items ≡ shown_bytes most text cut → shown.is_cut ≡ is_left_out most text cut
    → IsShownText most shown
shown_is most text cut shown room bytes left =
    let pick : Bool → List ℕ = λ b. cond b (take (most - 2) text ++ points) text in
    elim (cases_Bool (is_left_out most text cut)) as (λ _. IsShownText most shown) [
      | inl out ↦
          let is : shown.bytes.items ≡ take (most - 2) text ++ points = bytes ∙ ap pick out in
          cut_is most text shown room is
      | inr whole ↦
          let is : shown.bytes.items ≡ text = bytes ∙ ap pick whole in
          let parts = or_parts cut (ltb most (length text)) whole in record {
            short = rw is (ltb-false most (length text) parts.1);
            ends = λ told. absurd (both_ways (is_left_out most text cut) whole (sym left ∙ told));
          }
    ]
