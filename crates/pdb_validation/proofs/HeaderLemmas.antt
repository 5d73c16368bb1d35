-- What a file that has a layout begins with.
use Rattle.std.proofs.Common.{◌≡◌, ℕ, ◌≤◌, List, length, arith, inl, inr, Ok}
use Rattle.std.proofs.lemmas.Bool.{cases_lt, lt-ltb}
use Rattle.pdb_base.proofs.lemmas.Collected.{bind_ok}
use Rattle.pdb_msf.specs.Header.{Head, file_head, head_of, opening}
use Rattle.pdb_msf.specs.Layout.{LayoutValue, layout_of}

opening_long : (file view : List ℕ) → opening 4096 file ≡ Ok view → 4096 ≤ length file
unfolding opening
opening_long file view is = elim (cases_lt (length file) 4096) [
  | inl under ↦ let test = lt-ltb (length file) 4096 under in let wrong = rw test at is in absurd cc
  | inr over ↦ over
]

head_long : (file : List ℕ) (head : Head) → file_head file ≡ Ok head → 4096 ≤ length file
unfolding file_head
head_long file head is = let view = bind_ok (opening 4096 file) head_of head is in opening_long file view.0 view.1

pub layout_long : (file : List ℕ) (layout : LayoutValue) → layout_of file ≡ Ok layout → 44 ≤ length file
unfolding layout_of
layout_long file layout is =
    let head = bind_ok (file_head file) _ layout is in
    let long = head_long file head.0 head.1 in
    omega (arith, long)
