use Rattle.pdbdump_cli.proofs.laid_out.type_stream.Goals as goal

pub returns : goal.returns
returns g c = c.stream_in.ensures
