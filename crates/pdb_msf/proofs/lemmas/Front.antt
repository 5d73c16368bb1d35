-- What stands at the front of a file whose header can be read.
use Rattle.std.proofs.Common.{◌≡◌, ℕ, ◌≤◌, List, length, take, drop, arith, inl, inr, sym, ap, ◌∙◌, Ok}
use Rattle.std.proofs.lemmas.Bool.{cases_lt, le-ltb, lt-ltb}
use Rattle.std.proofs.lemmas.List.{drop-take, length-take, take-take}
use Rattle.pdb_base.specs.Answer.{ok_if}
use Rattle.pdb_base.specs.Endian.{little_number}
use Rattle.pdb_base.specs.Reading.{word_at}
use Rattle.pdb_base.proofs.lemmas.Collected.{bind_ok, ok_is}
use Rattle.pdb_msf.specs.declared.header.Geometry.{Geometry}
use Rattle.pdb_msf.specs.Header.{Head, fields_of_header, file_head, geometry_of, head_of, is_page_size, location_pages}
use Rattle.pdb_msf.specs.Header.{magic_of, opening}
use Rattle.pdb_msf.specs.Pages.{page_numbers, words}
use Rattle.pdb_msf.proofs.LawLemmas.{stand_at_offsets}

opened_view : (file view : List ℕ) → opening 4096 file ≡ Ok view → (4096 ≤ length file) × (view ≡ take 4096 file)
unfolding opening
opened_view file view is = elim (cases_lt (length file) 4096) [
  | inl under ↦ let test = lt-ltb (length file) 4096 under in let wrong = rw test at is in absurd cc
  | inr over ↦
      let test = le-ltb (length file) 4096 over in
      (over, sym (ok_is (take 4096 file) view (rw test at is)))
]

front_word : (file : List ℕ) → word_at 44 (take 4096 file) ≡ word_at 44 file
front_word file =
    ap (λ (bytes : List ℕ). little_number 4 bytes)
    (ap (take 4) (drop-take 44 4052 file) ∙ take-take 4 4052 (drop 44 file) (omega arith))

view_sized : (view : List ℕ) (fields : Geometry × List ℕ) → 52 ≤ length view → geometry_of view ≡ Ok fields
    → fields.0.directory_size ≡ word_at 44 view
unfolding geometry_of
view_sized view fields long is =
    let magic = bind_ok (magic_of view) _ fields is in
    let read = bind_ok (fields_of_header view) _ fields magic.2 in
    let sized = bind_ok (ok_if (is_page_size read.0.0.page_size) _) _ fields read.2 in
    let same = ok_is read.0 fields sized.2 in
    let there = ok_is _ read.0 (sym (stand_at_offsets view long) ∙ read.1) in
    rw (← same) (ap (λ (f : Geometry × List ℕ). f.0.directory_size) (sym there))

-- the size of the directory that a header says
pub directory_sized : (file : List ℕ) (head : Head) → file_head file ≡ Ok head
    → head.geometry.directory_size ≡ word_at 44 file
unfolding file_head head_of
directory_sized file head is =
    let view = bind_ok (opening 4096 file) head_of head is in
    let fields = bind_ok (geometry_of view.0) _ head view.2 in
    let location = bind_ok (page_numbers fields.0.0.pages_used (location_pages fields.0.0) (words fields.0.1)) _ head
    fields.2 in
    let front = opened_view file view.0 view.1 in
    let many = length-take 4096 file in
    let long : 52 ≤ length view.0 = rw front.1 (omega (arith, many, front.0)) in
    ap (λ (h : Head). h.geometry.directory_size) (sym (ok_is _ head location.2))
    ∙ view_sized view.0 fields.0 long fields.1 ∙ rw front.1 (front_word file)
