-- What is listed behind other rows.
use Rattle.std.proofs.Common.{◌≡◌, List, Result, Ok, Err, inl, inr, refl, sym}
use Rattle.std.proofs.Common.{subst}
use Rattle.std.proofs.lemmas.List.{append-nil}
use Rattle.pdb_base.specs.declared.error.Error.{Error}
use Rattle.pdb_base.specs.Answer.{Answer}
use Rattle.pdb_base.specs.Refusal.{refusal_of}
use Rattle.pdb_base.specs.Index.{stream_number}
use Rattle.pdb_file.specs.File.{stream_numbered}
use Rattle.pdb_file.specs.declared.debug_header.DBIExtraStreams.{DBIExtraStreams}
use Rattle.pdb_msf.specs.Header.{Head}
use Rattle.pdb_msf.specs.Source.{State, IsKept}
use Rattle.pdb_output.specs.Output.{OutputState}
use Rattle.pdbdump_rows.proofs.lemmas.Rows.{rows_first, rows_none, rows_second}
use Rattle.pdbdump_rows.specs.Line.{WritesWhat}
use Rattle.pdbdump_rows.specs.Row.{ShownRow}
use Rattle.pdbdump_rows.specs.Rows.{AreRows}
use Rattle.pdbdump_rows.specs.declared.form.Form.{Form}
use Rattle.pdbdump_tables.specs.Files.{AreBothListed}
use Rattle.pdbdump_tables.proofs.lemmas.Reading.{reads_before}
use Rattle.pdbdump_tables.specs.Listing.{Listing, IsListed, followed_by, listed_of, with_rows_before}

-- a refusal before the first row
pub refused_listed : {A : Type 0} (form : Form) (listing : A → Listing) (meant : Answer A) (e : Error)
    (old : OutputState) → meant ≡ Err (refusal_of e) → IsListed form (listed_of listing meant) old old (Err e)
refused_listed form listing meant e old is = inl (rw is (refl, rows_none form old))

-- a listing behind rows
pub listed_headed : (form : Form) (front : List ShownRow) (listing : Listing) (old mid new : OutputState)
    (result : Result (Unit {0}) Error) → WritesWhat (AreRows form front) old mid (Ok tt)
    → IsListed form listing mid new result → IsListed form (with_rows_before front listing) old new result
listed_headed form front listing old mid new (Ok done) got (ends, rows) =
    (ends, rows_second form front listing.rows old mid new (Ok tt) got rows)
listed_headed form front listing old mid new (Err e) got (inl (ends, rows)) =
    inl (ends, rows_second form front listing.rows old mid new (Ok tt) got rows)
listed_headed form front listing old mid new (Err e) got (inr cut) =
    inr (rows_second form front listing.rows old mid new (Err e) got cut)

-- the rows before a listing are cut short
pub head_cut : (form : Form) (front : List ShownRow) (listing : Listing) (old new : OutputState) (e : Error)
    → WritesWhat (AreRows form front) old new (Err e)
    → IsListed form (with_rows_before front listing) old new (Err e)
head_cut form front listing old new e cut = inr (rows_first form front listing.rows old new e cut)

behind_whole : (first next : Listing) → first.end ≡ Ok tt → followed_by first next ≡ with_rows_before first.rows next
behind_whole first next ends = rw ends refl

behind_refused : (first next : Listing) (e : Error) → first.end ≡ Err (refusal_of e)
    → followed_by first next ≡ record { rows = first.rows; end = Err (refusal_of e) }
behind_refused first next e ends = rw (ends, append-nil first.rows) refl

-- one listing behind another that is whole
pub listed_second : (form : Form) (first next : Listing) (old mid new : OutputState)
    (result : Result (Unit {0}) Error) → IsListed form first old mid (Ok tt) → IsListed form next mid new result
    → IsListed form (followed_by first next) old new result
listed_second form first next old mid new result (ends, rows) listed =
    subst (λ (listing : Listing). IsListed form listing old new result) (sym (behind_whole first next ends))
    (listed_headed form first.rows next old mid new result rows listed)

-- nothing follows a listing that is refused or cut short
pub listed_first : (form : Form) (first next : Listing) (old new : OutputState) (e : Error)
    → IsListed form first old new (Err e) → IsListed form (followed_by first next) old new (Err e)
listed_first form first next old new e (inl (ends, rows)) =
    subst (λ (listing : Listing). IsListed form listing old new (Err e)) (sym (behind_refused first next e ends))
    (inl (refl, rows))
listed_first form first next old new e (inr cut) = inr (rows_first form first.rows _ old new e cut)

-- both OMAP tables are those of the file before other reads
pub both_before : (form : Form) (first later : State) (head : Head) (roles : DBIExtraStreams) (out out' : OutputState)
    (result : Result (Unit {0}) Error) → IsKept first later → AreBothListed form later head roles out out' result
    → AreBothListed form first head roles out out' result
both_before form first later head roles out out' result kept both = record {
  to_source = both.to_source;
  from_source = both.from_source;
  to_read = reads_before first later (λ bytes. stream_numbered bytes head (stream_number roles.omap_to_src.0))
      both.to_source kept both.to_read;
  from_read = reads_before first later (λ bytes. stream_numbered bytes head (stream_number roles.omap_from_src.0))
      both.from_source kept both.from_read;
  listed = both.listed;
}
