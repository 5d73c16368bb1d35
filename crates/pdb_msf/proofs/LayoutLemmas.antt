-- The layout of a file over the file's own bytes.
use Rattle.std.proofs.Common.{◌≡◌, ℕ, List, refl, ap, sym, ◌∙◌, Option, Ok}
use Rattle.pdb_base.proofs.lemmas.Collected.{ok_is, bind_ok}
use Rattle.pdb_msf.specs.Header.{Head, file_head}
use Rattle.pdb_msf.specs.Directory.{directory_of}
use Rattle.pdb_msf.specs.File.{stream_of}
use Rattle.pdb_msf.specs.Layout.{LayoutValue, layout_of, stream_by}

record Read (file : List ℕ) (layout : LayoutValue) : Type 0 where
  pub head : file_head file ≡ Ok layout.head
  pub directory : directory_of file layout.head ≡ Ok layout.directory

layout_read : (file : List ℕ) (layout : LayoutValue) → layout_of file ≡ Ok layout → Read file layout
unfolding layout_of
layout_read file layout is =
    let head = bind_ok (file_head file) _ layout is in
    let directory = bind_ok (directory_of file head.0) _ layout head.2 in
    let meant : LayoutValue = record { head = head.0; directory = directory.0 } in
    let same : meant ≡ layout = ok_is meant layout directory.2 in
    let said : head.0 ≡ layout.head = ap (λ (p : LayoutValue). p.head) same in
    record {
      head = head.1 ∙ ap (λ (h : Head). Ok h) said;
      directory = ap (λ (h : Head). directory_of file h) (sym said) ∙ directory.1
          ∙ ap (λ (d : List ℕ). Ok d) (ap (λ (p : LayoutValue). p.directory) same);
    }

pub head_read : (file : List ℕ) (layout : LayoutValue) → layout_of file ≡ Ok layout → file_head file ≡ Ok layout.head
head_read file layout is = (layout_read file layout is).head

pub same_stream : (file : List ℕ) (layout : LayoutValue) (n : ℕ) (limit : Option ℕ) → layout_of file ≡ Ok layout
    → stream_by layout file n limit ≡ stream_of file layout.head n limit
unfolding stream_of stream_by
same_stream file layout n limit is = rw (layout_read file layout is).directory refl
