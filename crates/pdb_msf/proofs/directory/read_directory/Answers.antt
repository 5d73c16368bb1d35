use Rattle.std.proofs.Common.{◌≡◌, ◌^◌, ◌<◌, length, arith, rules, ◌∙◌}
use Rattle.pdb_msf.specs.Header.{directory_pages}
use Rattle.pdb_msf.proofs.PageLemmas.{page_size_bounds, pages_le, pages_reach}
use Rattle.pdb_msf.proofs.directory.read_directory.Goals as goal

pub read_scattered-requires-clause-reached : goal.read_scattered-requires-clause-reached
read_scattered-requires-clause-reached g c =
    let geometry = c.args.header.now.geometry in
    let size = page_size_bounds geometry.page_size c.requires.sized in
    let reach = pages_reach geometry.page_size geometry.directory_size (omega arith) in
    let counted : length c.deref.result.now ≡ directory_pages geometry = c.deref.ensures.len
    ∙ c.in_ok-numbers.ensures.count in
    rw counted reach

pub read_scattered-requires-clause-few : goal.read_scattered-requires-clause-few
read_scattered-requires-clause-few g c =
    let geometry = c.args.header.now.geometry in
    let size = page_size_bounds geometry.page_size c.requires.sized in
    let few = pages_le geometry.page_size geometry.directory_size (omega arith) in
    let short : geometry.directory_size < 2 ^ 32 = search rules in
    omega (arith, few, short, c.deref.ensures.len, c.in_ok-numbers.ensures.count)
