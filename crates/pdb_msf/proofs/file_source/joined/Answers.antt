use Rattle.std.proofs.Common.{◌≡◌, ◌+◌, arith, refl}
use Rattle.pdb_msf.proofs.ReadLemmas.{joined_within, joined_positions}
use Rattle.pdb_msf.proofs.file_source.joined.Goals as goal

pub returns : goal.returns
returns c =
    let meets : c.args.run.offset + c.args.run.size ≡ c.args.slice.offset = omega arith in
    record {
      within = joined_within c.args.len c.args.run c.args.slice c.requires.run c.requires.slice meets;
      positions = joined_positions c.args.run c.args.slice meets;
      size = refl;
    }
