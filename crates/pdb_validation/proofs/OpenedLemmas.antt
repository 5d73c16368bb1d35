-- What is found in a file whose header was read, by the size of its directory.
use Rattle.std.proofs.Common.{◌≡◌, ℕ, ◌<◌, ◌≤◌, List, [], ◌∷◌, length, true, false, nat_lt, refl, arith, inl, inr}
use Rattle.std.proofs.Common.{Result, Ok, Err}
use Rattle.std.proofs.lemmas.Bool.{le-ltb, lt-ltb}
use Rattle.pdb_base.specs.Answer.{Answer, Answers, AnswersUnless}
use Rattle.pdb_base.specs.declared.error.Error.{Error}
use Rattle.pdb_base.proofs.lemmas.Collected.{ok_is}
use Rattle.pdb_validation.specs.declared.inconsistency.Inconsistency.TheVariants as kinds
use Rattle.pdb_validation.specs.declared.mismatch.Extent.{Extent}
use Rattle.pdb_msf.specs.Header.{file_head, header_view}
use Rattle.pdb_msf.specs.Layout.{layout_of}
use Rattle.pdb_msf.specs.declared.header.Header.{Header}
use Rattle.pdb_msf.proofs.lemmas.Front.{directory_sized}
use Rattle.pdb_validation.specs.Finding.{file_fault}
use Rattle.pdb_validation.specs.Problem.{inconsistent}
use Rattle.pdb_validation.specs.Sizes.{directory_size}
use Rattle.pdb_validation.specs.Whole.{faults_by, opened_faults}
use Rattle.pdb_validation.specs.declared.finding.Part.TheVariants as parts

abbrev counted : ℕ → Answer ℕ
counted size = Ok size

-- the directory is larger than the file
pub opened_past : (extent : Extent) (file : List ℕ) (header : Header) (size : ℕ)
    → file_head file ≡ Ok (header_view header) → counted (length file) ≡ Ok size
    → size < header.geometry.directory_size
    → opened_faults extent file ≡ file_fault parts.Sizes (inconsistent kinds.DirectoryTooLarge) ∷ []
unfolding opened_faults
opened_past extent file header size is many past =
    let sized = directory_sized file (header_view header) is in
    let long = ok_is (length file) size many in
    let test : nat_lt (length file) (directory_size file) ≡ true =
    lt-ltb (length file) (directory_size file) (omega (arith, sized, long, past)) in
    rw test refl

-- it is no larger
pub opened_within : (extent : Extent) (file : List ℕ) (header : Header) (size : ℕ)
    → file_head file ≡ Ok (header_view header) → counted (length file) ≡ Ok size
    → header.geometry.directory_size ≤ size
    → opened_faults extent file ≡ faults_by extent file (layout_of file)
unfolding opened_faults
opened_within extent file header size is many within =
    let sized = directory_sized file (header_view header) is in
    let long = ok_is (length file) size many in
    let test : nat_lt (length file) (directory_size file) ≡ false =
    le-ltb (length file) (directory_size file) (omega (arith, sized, long, within)) in
    rw test refl

-- a call that reads no source, where a source was read before
pub read_before : {X A : Type 0} (failed : Type 0) (view : X → A) (result : Result X Error) (meant : Answer A)
    → Answers view result meant → AnswersUnless failed view result meant
read_before failed view (Ok x) meant is = is
read_before failed view (Err e) meant (inl is) = inl is
read_before failed view (Err e) meant (inr want) = inr (inl want)

-- a call that fails only where another one fails
pub fails_more : {X A : Type 0} (failed more : Type 0) (view : X → A) (result : Result X Error) (meant : Answer A)
    → (failed → more) → AnswersUnless failed view result meant → AnswersUnless more view result meant
fails_more failed more view (Ok x) meant so is = is
fails_more failed more view (Err e) meant so (inl is) = inl is
fails_more failed more view (Err e) meant so (inr (inl want)) = inr (inl want)
fails_more failed more view (Err e) meant so (inr (inr other)) = inr (inr (other.0, so other.1))
