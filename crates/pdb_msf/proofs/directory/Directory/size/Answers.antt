use Rattle.std.proofs.Common.{ap}
use Rattle.pdb_base.proofs.lemmas.Refused.{passed_on}
use Rattle.pdb_msf.specs.Pages.{present}
use Rattle.pdb_msf.specs.Directory.{sizes_of}
use Rattle.pdb_msf.proofs.PlaceLemmas.{sizes_left}
use Rattle.pdb_msf.proofs.WordLemmas.{next_word, no_word}
use Rattle.pdb_msf.proofs.directory.Directory.size.Goals as goal

pub returns-in_err-size : goal.returns-in_err-size
returns-in_err-size c =
    let n = c.args.stream_number in
    let d = c.args.self.now.bytes.items in
    let none = no_word (sizes_of d) n _ _
    (sizes_left n d _ _ _ c.as_slice.ensures.value c.from-buffer.ensures c.seek.ensures) c.in_err-size.ensures.read in
    rw (passed_on _ _ c.from_residual.ensures.1, none.1) (ap present none.0)

pub returns : goal.returns
returns c =
    let n = c.args.stream_number in
    let d = c.args.self.now.bytes.items in
    ap present (next_word (sizes_of d) n _ _
    (sizes_left n d _ _ _ c.as_slice.ensures.value c.from-buffer.ensures c.seek.ensures) c.in_ok-size.ensures.read).0
