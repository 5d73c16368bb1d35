use Rattle.std.proofs.Common.{◌≡◌, ◌↔◌, map, sym, subst}
use Rattle.std.specs.Prelude.{IfOk}
use Rattle.pdb_msf.specs.Source.{IsFixed}
use Rattle.pdb_validation.specs.Finding.{error_count, finding_view}
use Rattle.pdb_validation.specs.IsWhole.{IsWhole}
use Rattle.pdb_validation.proofs.WholeLemmas.{whole_findings}
use Rattle.pdb_validation.proofs.checks.validate.Goals as goal

pub returns-clause-whole : goal.returns-clause-whole
returns-clause-whole g c fixed =
    let same = c.new.ensures.source in
    let still = subst (λ source. IsFixed (g.S.Source.state source)) (sym same) fixed in
    subst (λ source. IfOk c.check_file.result (λ findings.
    (error_count (map finding_view findings.items) ≡ 0) ↔ IsWhole (g.S.Source.state source).bytes)) same
    (whole_findings (λ findings. findings.items) _ _ _ _ (c.check_file.ensures.answer still))
