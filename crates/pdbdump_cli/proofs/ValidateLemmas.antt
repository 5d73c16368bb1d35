-- The findings of `validate`, and the status with which it ends.
use Rattle.std.proofs.Common.{◌≡◌, ◌∙◌, refl, ap, ℕ, ◌+◌, ◌<◌, Bool, true, false, List, [], ◌∷◌}
use Rattle.std.proofs.Common.{filter, get_or, length}
use Rattle.std.proofs.Common.{length-append, map, take, Ok, Err, Result}
use Rattle.std.proofs.lemmas.List.{map-append, take_more}
use Rattle.std.proofs.lemmas.List.Elements.{filter-append}
use Rattle.pdb_base.specs.declared.error.Error.{Error}
use Rattle.pdb_validation.specs.Finding.{FaultPlace, finding_view, warning_count}
use Rattle.pdb_validation.specs.Problem.{is_tolerated}
use Rattle.pdb_validation.specs.declared.finding.Finding.{Finding}
use Rattle.pdbdump_rows.specs.declared.form.Form.TheVariants as forms
use Rattle.pdbdump_rows.specs.Rows.{AreRows, WritesLines}
use Rattle.pdb_base.specs.declared.error.Error.TheVariants.{OutOfMemory}
use Rattle.pdb_output.proofs.lemmas.Written.{lacks_all}
use Rattle.pdb_output.specs.Output.{OutputState, Writes}
use Rattle.std.proofs.KnownBytes.{Appends-nil}
use Rattle.pdbdump_rows.specs.declared.form.Form.{Form}
use Rattle.pdbdump_cli.specs.Validated.{AreFindingsWritten, HasPassed, IsJudged}

-- the number of warnings with one finding more
pub warnings_more : (findings : List Finding) (i : ℕ) (d : Finding) → i < length findings
    → warning_count (map finding_view (take (i + 1) findings))
    ≡ warning_count (map finding_view (take i findings))
    + warning_count (finding_view (get_or findings i d) ∷ [])
warnings_more findings i d within =
    ap (λ (some : List Finding). warning_count (map finding_view some)) (take_more findings i d within)
    ∙ ap warning_count (map-append finding_view (take i findings) (get_or findings i d ∷ []))
    ∙ ap (λ (l : List FaultPlace). length l) (filter-append (λ (fault : FaultPlace). is_tolerated fault.problem)
    (map finding_view (take i findings)) (finding_view (get_or findings i d) ∷ []))
    ∙ length-append (filter (λ (fault : FaultPlace). is_tolerated fault.problem) (map finding_view (take i findings)))
    (filter (λ (fault : FaultPlace). is_tolerated fault.problem) (finding_view (get_or findings i d) ∷ []))

-- the file has passed
pub judged_passed : (is_strict : Bool) (faults : List FaultPlace) (ended : ℕ) → HasPassed is_strict faults
    → IsJudged is_strict faults ended ended
judged_passed is_strict faults ended has = record { passed = λ h. refl; other = λ not. absurd (not has) }

-- it has not
pub judged_other : (is_strict : Bool) (faults : List FaultPlace) (ended : ℕ) → ¬ HasPassed is_strict faults
    → IsJudged is_strict faults ended 1
judged_other is_strict faults ended not = record { passed = λ has. absurd (not has); other = λ h. refl }

-- memory ran out before anything is written
pub findings_lack : (is_quiet : Bool) (form : Form) (old : OutputState) (e : Error) → e ≡ OutOfMemory
    → AreFindingsWritten is_quiet form old old (Err e)
findings_lack true form old e want = record { text = []; lines = refl; writes = lacks_all old [] e want }
findings_lack false forms.Text old e want = record { text = []; lines = tt; writes = lacks_all old [] e want }
findings_lack false forms.Json old e want = record {
  text = [];
  lines = record { fronts = []; rows = AreRows.none };
  writes = lacks_all old [] e want;
}

-- nothing is written if only the status is wanted
pub findings_none : (form : Form) (old : OutputState) → AreFindingsWritten true form old old (Ok tt)
findings_none form old =
    record { text = []; lines = refl; writes = record { holds = refl; added = Appends-nil old.contents } }

-- the lines of a text
pub findings_text : (text : List ℕ) (old new : OutputState) (result : Result (Unit {0}) Error)
    → Writes text old new result → AreFindingsWritten false forms.Text old new result
findings_text text old new result writes = record { text = text; lines = tt; writes = writes }

-- the rows of JSON
pub findings_rows : (old new : OutputState) (result : Result (Unit {0}) Error) → WritesLines forms.Json old new result
    → AreFindingsWritten false forms.Json old new result
findings_rows old new result writes =
    record { text = writes.text; lines = writes.holds; writes = writes.written }
