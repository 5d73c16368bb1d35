use Rattle.std.proofs.Common.{None}
use Rattle.pdb_base.proofs.lemmas.Refused.{passed_on}
use Rattle.pdb_msf.specs.File.{stream_of}
use Rattle.pdb_msf.specs.Header.{file_head}
use Rattle.pdbdump_tables.proofs.lemmas.Reading.{reads_then, unread_then}
use Rattle.pdbdump_cli.proofs.laid_out.stream_in.Goals as goal

pub returns-in_err-file : goal.returns-in_err-file
returns-in_err-file g c = rw (passed_on _ _ c.from_residual.ensures.1)
    (unread_then (g.S.Source.state c.args.source) file_head (λ bytes head. stream_of bytes head c.args.number None) _
    c.in_err-file.ensures.head)

pub returns : goal.returns
returns g c = reads_then _ _ file_head (λ bytes head. stream_of bytes head c.args.number None) _ _
    c.in_ok-file.ensures.head c.in_ok-file.ensures.kept c.last_stream.ensures
