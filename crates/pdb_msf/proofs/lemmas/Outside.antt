-- An error from outside a file, as `comes_from_outside` says it, is none that a definition assigns to the file.
use Rattle.std.proofs.Common.{◌≡◌, ◌≢◌, ◌⊎◌, ℕ, ltb, leb, List, [], length, take, drop, inl, inr, refl}
use Rattle.std.proofs.Common.{Option, Some, None, Err}
use Rattle.std.proofs.lemmas.Bool.{cases_Bool}
use Rattle.std.proofs.lemmas.Option.{none-some}
use Rattle.std.specs.IoError.{error_kind}
use Rattle.std.specs.List.{starts_with}
use Rattle.std.specs.Prelude.{codes, nat_eq, not}
use Rattle.std.specs.declared.io.ErrorKind.TheVariants as kinds
use Rattle.pdb_base.specs.declared.error.Error.{Error}
use Rattle.pdb_base.specs.declared.error.Error.TheVariants as errors
use Rattle.pdb_base.specs.Answer.{Answer, IsOtherFault, RefusesUnless}
use Rattle.pdb_base.specs.Endian.{little_number}
use Rattle.pdb_base.specs.Reading.{front_at, number_at}
use Rattle.pdb_base.specs.Refusal.{invalid_page_size, io_error, refusal_of, unexpected_eof, unimplemented_feature}
use Rattle.pdb_base.specs.Refusal.{unrecognized_file_format}
use Rattle.pdb_msf.specs.Directory.{directory_numbers, directory_of}
use Rattle.pdb_msf.specs.Header.{Head, big_magic, directory_pages, fields_of_header, file_head, geometry_of, head_of}
use Rattle.pdb_msf.specs.Header.{is_page_size, location_pages, magic_of, opening, small_magic}
use Rattle.pdb_msf.specs.Layout.{LayoutValue, layout_behind, stream_by}
use Rattle.pdb_msf.specs.Pages.{words}
use Rattle.pdb_msf.specs.Source.{IsFixed, ReadsSource, State, TellsKind, bytes_or_eof, in_memory}
use Rattle.pdb_msf.proofs.KindLemmas.{Plain, plain_entry, plain_err, plain_numbers, plain_ok, plain_required}
use Rattle.pdb_msf.proofs.KindLemmas.{plain_then}

plain_front : (count : ℕ) (bytes : List ℕ) → Plain (front_at count bytes)
unfolding front_at
plain_front count bytes = elim (cases_Bool (ltb (length bytes) count)) [
  | inl short ↦ rw short (plain_err unexpected_eof (λ state. tt))
  | inr long ↦ rw long (plain_ok (take count bytes, drop count bytes))
]

plain_number : (width : ℕ) (bytes : List ℕ) → Plain (number_at width bytes)
unfolding number_at
plain_number width bytes =
    plain_then _ _ (plain_front width bytes) (λ front. plain_ok (little_number width front.0, front.1))

plain_magic : (view : List ℕ) → Plain (magic_of view)
unfolding magic_of
plain_magic view =
    plain_then _ _ (plain_required (leb 52 (length view)) unexpected_eof (λ state. tt)) (λ whole.
    plain_then _ _ (plain_required (not (starts_with nat_eq view small_magic))
    (unimplemented_feature (codes "small MSF file format")) (λ state. tt)) (λ newer.
    plain_required (starts_with nat_eq view big_magic) unrecognized_file_format (λ state. tt)))

plain_fields : (view : List ℕ) → Plain (fields_of_header view)
unfolding fields_of_header
plain_fields view =
    plain_then _ _ (plain_front 32 view) (λ magic.
    plain_then _ _ (plain_number 4 magic.1) (λ page_size.
    plain_then _ _ (plain_number 4 page_size.1) (λ free_page_map.
    plain_then _ _ (plain_number 4 free_page_map.1) (λ pages_used.
    plain_then _ _ (plain_number 4 pages_used.1) (λ directory_size.
    plain_then _ _ (plain_number 4 directory_size.1) (λ reserved. plain_ok _))))))

plain_geometry : (view : List ℕ) → Plain (geometry_of view)
unfolding geometry_of
plain_geometry view =
    plain_then _ _ (plain_magic view) (λ magic.
    plain_then _ _ (plain_fields view) (λ fields.
    plain_then _ _ (plain_required (is_page_size fields.0.page_size) (invalid_page_size fields.0.page_size)
    (λ state. tt)) (λ sized. plain_ok fields)))

pub plain_head : (file : List ℕ) → Plain (file_head file)
unfolding file_head opening head_of
plain_head file = elim (cases_Bool (ltb (length file) 4096)) [
  | inl short ↦ rw short (plain_err unrecognized_file_format (λ state. tt))
  | inr long ↦ rw long (plain_then _ _ (plain_geometry (take 4096 file)) (λ fields.
      plain_then _ _ (plain_numbers fields.0.pages_used (location_pages fields.0) (words fields.1))
      (λ location. plain_ok _)))
]

-- the end of the bytes is no failure of the source
ends : (state : State) → TellsKind state (io_error kinds.UnexpectedEof)
ends state = λ other. absurd (other.no_end refl)

plain_bytes : (found : Option (List ℕ)) → Plain (bytes_or_eof found)
plain_bytes (Some bytes) = plain_ok bytes
plain_bytes None = plain_err (io_error kinds.UnexpectedEof) ends

pub plain_directory_numbers : (file : List ℕ) (head : Head) → Plain (directory_numbers file head)
unfolding directory_numbers
plain_directory_numbers file head =
    plain_then _ _ (plain_bytes _) (λ location.
    plain_numbers head.geometry.pages_used (directory_pages head.geometry) (words location))

plain_directory : (file : List ℕ) (head : Head) → Plain (directory_of file head)
unfolding directory_of
plain_directory file head = plain_then _ _ (plain_directory_numbers file head) (λ numbers. plain_bytes _)

pub plain_behind : (file : List ℕ) (head : Head) → Plain (layout_behind file head)
plain_behind file head = plain_then _ _ (plain_directory file head) (λ directory. plain_ok _)

pub plain_stream : (layout : LayoutValue) (file : List ℕ) (n : ℕ) (limit : Option ℕ)
    → Plain (stream_by layout file n limit)
unfolding stream_by
plain_stream layout file n limit =
    plain_then _ _ (plain_entry layout.head.geometry n limit layout.directory) (λ entry. plain_bytes _)

-- a state in which the source has failed in no way
abbrev unfailed : State
unfailed = in_memory []

no_fault : (e : Error) → TellsKind unfailed (refusal_of e) → IsOtherFault e → ⊥
no_fault (errors.IoError cause) tells other =
    none-some (error_kind cause) (tells (record { no_end = other.0; no_want = other.1 }))
no_fault e tells other = absurd other

failing : {A : Type 0} (e : Error) (meant : Answer A) (failed : Type 0) → Plain meant
    → RefusesUnless failed e meant → IsOtherFault e → (e ≡ errors.OutOfMemory) ⊎ (IsOtherFault e × failed)
failing e meant failed plain (inl is) other = absurd (no_fault e (plain.tells unfailed (refusal_of e) is) other)
failing e meant failed plain (inr fails) other = fails

-- An error from outside the file is what a call tells that reads more.
pub outside : {A B X Y : Type 0} (old new : State) (view : X → A) (further : Y → B) (e : Error)
    (meant : List ℕ → Answer A) (more : List ℕ → Answer B) → ((file : List ℕ) → Plain (meant file))
    → ReadsSource old new view (Err e) meant → (e ≡ errors.OutOfMemory) ⊎ IsOtherFault e
    → ReadsSource old new further (Err e) more
outside old new view further e meant more plain reads is = record {
  answer = λ fixed. elim is [
    | inl want ↦ inr (inl want)
    | inr other ↦ inr (failing e (meant old.bytes) _ (plain old.bytes) (reads.answer fixed) other)
  ];
  kept = reads.kept;
}

-- Any other is the refusal that is meant.
pub inside : {A X : Type 0} (old new : State) (view : X → A) (e : Error) (meant : List ℕ → Answer A)
    → ReadsSource old new view (Err e) meant → e ≢ errors.OutOfMemory → ¬ IsOtherFault e → IsFixed old
    → meant old.bytes ≡ Err (refusal_of e)
inside old new view e meant reads some none fixed = elim (reads.answer fixed) [
  | inl is ↦ is
  | inr (inl want) ↦ absurd (some want)
  | inr (inr failed) ↦ absurd (none failed.0)
]
