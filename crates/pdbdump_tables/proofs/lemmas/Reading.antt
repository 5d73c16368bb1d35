-- What is read of a source, as it was before.
use Rattle.std.proofs.Common.{◌≡◌, inl, inr, ap, List, ℕ, Result, Ok, Err}
use Rattle.pdb_base.specs.Answer.{Answer, ◌>>=◌, RefusesUnless}
use Rattle.pdb_base.specs.declared.error.Error.{Error}
use Rattle.pdb_msf.specs.File.{Opened, ReadsFile}
use Rattle.pdb_msf.specs.Header.{Head}
use Rattle.pdb_msf.specs.Source.{State, IsKept}
use Rattle.pdb_msf.proofs.lemmas.Kept.{unsound}
use Rattle.pdbdump_tables.specs.Reading.{Reads}

refuses_if : {A : Type 0} {failed failed' : Type 0} (fault : Error) (meant : Answer A) → (failed → failed')
    → RefusesUnless failed fault meant → RefusesUnless failed' fault meant
refuses_if fault meant more (inl is) = inl is
refuses_if fault meant more (inr (inl want)) = inr (inl want)
refuses_if fault meant more (inr (inr (other, failed))) = inr (inr (other, more failed))

-- a refusal of the first answer is one of what comes of it
refused_then : {A B : Type 0} {failed : Type 0} (answer : Answer A) (more : A → Answer B) (fault : Error)
    → RefusesUnless failed fault answer → RefusesUnless failed fault (answer >>= more)
refused_then answer more fault (inl is) = inl (ap (λ a. a >>= more) is)
refused_then answer more fault (inr other) = inr other

-- what is read after other reads
pub reads_before : {A : Type 0} (first later : State) (meant : List ℕ → Answer A) (result : Result A Error)
    → IsKept first later → Reads later meant result → Reads first meant result
reads_before first later meant (Ok value) kept reads fixed = rw kept.bytes at (reads (rw kept.fixed fixed))
reads_before first later meant (Err fault) kept reads fixed =
    refuses_if fault _ (λ fails sound. fails (kept.sound sound).0) (rw kept.bytes at (reads (rw kept.fixed fixed)))

-- one value is read, and then one that depends on it
pub reads_then : {A B : Type 0} (first later : State) (meant : List ℕ → Answer A) (more : List ℕ → A → Answer B)
    (value : A) (result : Result B Error) → Reads first meant (Ok value) → IsKept first later
    → Reads later (λ bytes. more bytes value) result → Reads first (λ bytes. meant bytes >>= more bytes) result
reads_then first later meant more value (Ok next) reads kept reads_next fixed =
    rw (reads fixed) (reads_before first later (λ bytes. more bytes value) (Ok next) kept reads_next fixed)
reads_then first later meant more value (Err fault) reads kept reads_next fixed =
    rw (reads fixed) (reads_before first later (λ bytes. more bytes value) (Err fault) kept reads_next fixed)

-- nothing is read where the first value isn't
pub unread_then : {A B : Type 0} (file : State) (meant : List ℕ → Answer A) (more : List ℕ → A → Answer B)
    (fault : Error) → Reads {A = A} file meant (Err fault)
    → Reads {A = B} file (λ bytes. meant bytes >>= more bytes) (Err fault)
unread_then file meant more fault reads fixed = refused_then _ _ fault (reads fixed)

module _ {S X : Type 0} (state : S → State) (meant : List ℕ → Head → Answer X) where
  -- what is read of an open file
  pub read_of : (old new : Opened S) (result : Result X Error) → ReadsFile state old new (λ value. value) result meant
      → Reads (state old.source) (λ bytes. meant bytes old.head) result
  read_of old new (Ok value) reads fixed = reads.answer fixed
  read_of old new (Err fault) reads fixed =
      refuses_if fault _ (λ failed. unsound _ _ reads.source failed) (reads.answer fixed)

  -- what is read of it after other reads
  pub read_later : (first old new : Opened S) (result : Result X Error)
      → IsKept (state first.source) (state old.source) → old.head ≡ first.head
      → ReadsFile state old new (λ value. value) result meant
      → Reads (state first.source) (λ bytes. meant bytes first.head) result
  read_later first old new result kept same reads =
      reads_before _ _ (λ bytes. meant bytes first.head) result kept (rw same at (read_of old new result reads))
