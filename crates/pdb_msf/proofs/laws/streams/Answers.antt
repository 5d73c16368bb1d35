use Rattle.pdb_msf.proofs.StreamLaws.{is_stream, only_stream}
use Rattle.pdb_msf.proofs.laws.streams.Goals as goal

pub returns : goal.returns
returns g = record { is = is_stream; only = only_stream }
