use Rattle.std.specs.Prelude.{Some}
use Rattle.pdb_msf.proofs.LayoutLemmas.{head_read, same_stream}
use Rattle.pdb_handles.proofs.laws.kept_layouts.Goals as goal

pub returns : goal.returns
returns c =
    λ file layout number limit is. rw (head_read file layout is) (same_stream file layout number (Some limit) is)
