-- Lines of what was read.
use Rattle.std.proofs.Common.{inl, inr, Ok, ℕ, List, Option, sym, subst, ◌∙◌}
use Rattle.pdb_output.specs.Output.{OutputState}
use Rattle.pdbdump_rows.specs.declared.form.Form.{Form}
use Rattle.pdbdump_rows.specs.Rows.{WritesLines}
use Rattle.pdbdump_tables.specs.Counted.{CountsAgree, AreCountedIn, HasItsCount}
use Rattle.pdbdump_tables.specs.declared.completeness.RecordCounts.{RecordCounts}
use Rattle.pdbdump_tables.specs.Listing.{ListsLines}

-- if nothing failed, they are whole
pub lists_whole : (form : Form) (old new : OutputState) → ListsLines form old new (Ok tt)
    → WritesLines form old new (Ok tt)
lists_whole form old new (inl lines) = lines
lists_whole form old new (inr lines) = lines

-- if the counts of a table are the same, it has as many items as its header counts
pub has_count : (stream : List ℕ) (given : Option RecordCounts) → AreCountedIn stream given → CountsAgree given
    → HasItsCount stream
has_count stream given found agree =
    let counted = found.counted in
    let same = subst CountsAgree counted.is agree in
    record { table = found.table; is = found.is; agrees = sym counted.counted ∙ same ∙ counted.present }
