use Rattle.pdb_base.proofs.lemmas.Refused.{passed_on}
use Rattle.pdb_file.specs.Identity.{file_identity}
use Rattle.pdb_msf.specs.Header.{file_head}
use Rattle.pdbdump_tables.proofs.lemmas.Reading.{read_of, reads_then, unread_then}
use Rattle.pdbdump_cli.specs.Identified.{identity_in}
use Rattle.pdbdump_cli.proofs.identified.identity_in.Goals as goal

pub returns-in_err-file : goal.returns-in_err-file
unfolding identity_in
returns-in_err-file g c = rw (passed_on _ _ c.from_residual.ensures.1)
    (unread_then (g.S.Source.state c.args.source) file_head file_identity _ c.in_err-file.ensures.head)

pub returns : goal.returns
unfolding identity_in
returns g c = reads_then _ _ file_head file_identity _ _ c.in_ok-file.ensures.head c.in_ok-file.ensures.kept
    (read_of _ _ _ _ _ c.of.ensures)
