use Rattle.std.proofs.Common.{ap}
use Rattle.pdb_base.proofs.lemmas.Refused.{passed_on}
use Rattle.pdb_msf.specs.Pages.{present, words}
use Rattle.pdb_msf.proofs.PlaceLemmas.{all_left}
use Rattle.pdb_msf.proofs.WordLemmas.{next_word, no_word}
use Rattle.pdb_msf.proofs.directory.Directory.stream_count.Goals as goal

pub returns-in_err-count : goal.returns-in_err-count
returns-in_err-count c =
    let d = c.args.self.now.bytes.items in
    let none = no_word (words d) 0 _ _ (all_left d _ _ c.as_slice.ensures.value c.from-buffer.ensures)
    c.in_err-count.ensures.read in
    rw (passed_on _ _ c.from_residual.ensures.1, none.1) (ap present none.0)

pub returns : goal.returns
returns c =
    let d = c.args.self.now.bytes.items in
    ap present (next_word (words d) 0 _ _ (all_left d _ _ c.as_slice.ensures.value c.from-buffer.ensures)
    c.in_ok-count.ensures.read).0
