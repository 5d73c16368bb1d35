-- The page of a free page map that is kept.
use Rattle.std.proofs.Common.{◌≡◌, ℕ, ◌+◌, ◌-◌, ◌/◌, ◌%◌, ◌<◌, List, [], length, min, take, drop, refl}
use Rattle.std.proofs.Common.{sym, ap, ◌∙◌, arith, Ok, inl, inr, suc, zero, Some}
use Rattle.std.proofs.Math.Seq.{drop-length}
use Rattle.std.proofs.lemmas.Bool.{cases_lt, le-ltb}
use Rattle.std.proofs.lemmas.List.{get_or-drop, get_or-take, length-drop, length-take, take_all}
use Rattle.std.proofs.lemmas.Option.{slice_get-get_or, slice_get_past}
use Rattle.std.specs.List.{slice_get}
use Rattle.pdb_msf.specs.Source.{file_part}
use Rattle.pdb_validation.specs.Pages.{free_byte}
use Rattle.pdb_validation.specs.FreeMap.{map_start}

-- of a part that reaches past the end as much is there as up to the end
cut : (file : List ℕ) (start size there : ℕ) → there ≡ min (length file - start) size
    → take there (drop start file) ≡ take size (drop start file)
cut file start size there is = elim (cases_lt (length file - start) size) [
  | inl short ↦
      let long = length-drop start file in
      take_all there (drop start file) (omega (arith, long, is))
      ∙ sym (take_all size (drop start file) (omega (arith, long)))
  | inr enough ↦ ap (λ (n : ℕ). take n (drop start file)) (omega (arith, is))
]

pub page_read : (file : List ℕ) (start size there : ℕ) → there ≡ min (length file - start) size → 0 < there
    → file_part file start there ≡ Ok (take size (drop start file))
unfolding file_part
page_read file start size there is some =
    let reach = le-ltb (length file) (start + there) (omega (arith, is)) in
    rw reach (ap (λ (bytes : List ℕ). Ok bytes) (cut file start size there is))

pub page_past : (file : List ℕ) (start size : ℕ) → min (length file - start) size ≡ 0
    → take size (drop start file) ≡ []
page_past file start size none = sym (cut file start size 0 (sym none))

none_taken : (n : ℕ) → take n (let none : List ℕ = [] in none) ≡ []
none_taken zero = refl
none_taken (suc n) = refl

-- at the end of a file there are no bytes
pub end_read : (file : List ℕ) (size end : ℕ) → end ≡ length file → take size (drop end file) ≡ []
end_read file size end is = rw is (ap (take size) (drop-length file) ∙ none_taken size)

-- a byte of a part of a file is one of the file
in_part : (file : List ℕ) (start size i : ℕ) → i < size
    → slice_get (take size (drop start file)) i ≡ slice_get file (start + i)
in_part file start size i within =
    let long = length-drop start file in
    let part = length-take size (drop start file) in
    elim (cases_lt (start + i) (length file)) [
      | inl there ↦
          slice_get-get_or (take size (drop start file)) i 0 (omega (arith, long, part))
          ∙ ap (λ (byte : ℕ). Some byte) (get_or-take size (drop start file) i 0 within ∙ get_or-drop start file i 0)
          ∙ sym (slice_get-get_or file (start + i) 0 there)
      | inr past ↦
          slice_get_past (take size (drop start file)) i (omega (arith, long, part))
          ∙ sym (slice_get_past file (start + i) past)
    ]

-- the byte with the bit of a page
pub byte_kept : (file : List ℕ) (page_size map page : ℕ) → 0 < page_size
    → slice_get (take page_size (drop (map_start page_size map page) file)) (page / 8 % page_size)
    ≡ slice_get file (free_byte page_size map page)
byte_kept file page_size map page positive =
    in_part file (map_start page_size map page) page_size (page / 8 % page_size) (omega arith)
