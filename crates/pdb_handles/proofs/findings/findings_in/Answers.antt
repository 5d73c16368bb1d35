use Rattle.std.proofs.Common.{◌≡◌, Vec, Global, List, map, refl, sym, ap, subst, ◌∙◌, Ok}
use Rattle.std.proofs.lemmas.Simd.{map-map}
use Rattle.pdb_base.specs.Answer.{Answer, Answers}
use Rattle.pdb_base.proofs.lemmas.Collected.{ok_is}
use Rattle.pdb_validation.specs.declared.mismatch.Extent.{Extent}
use Rattle.pdb_validation.specs.Finding.{finding_view}
use Rattle.pdb_validation.specs.Whole.{faults_of}
use Rattle.pdb_handles.specs.Findings.{extent_of, finding_of}
use Rattle.pdb_handles.specs.declared.findings.FoundFault.{FoundFault}
use Rattle.pdb_handles.proofs.findings.findings_in.Goals as goal

pub returns : goal.returns
returns c =
    let found = ok_is _ _ (c.in_ok-found.ensures.findings refl) in
    let rows : map (λ one. finding_of (finding_view one)) c.deref.result.now
    ≡ map finding_of (faults_of (extent_of c.args.every) c.args.file.now) =
    rw c.deref.ensures.value (sym (map-map finding_of finding_view c.in_ok-found.found.items)
    ∙ ap (map finding_of) (sym found)
    ∙ ap (λ (extent : Extent). map finding_of (faults_of extent c.args.file.now)) c.extent_of.ensures) in
    subst (λ (told : List FoundFault). Answers (λ (rows : Vec FoundFault Global). rows.items) c.findings_listed.result
    (let answer : Answer (List FoundFault) = Ok told in answer)) rows c.findings_listed.ensures
