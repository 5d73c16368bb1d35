use Rattle.std.proofs.Common.{refl}
use Rattle.pdb_file.specs.DbiHeader.{dbi_header}
use Rattle.pdb_file.proofs.dbi_header.DBIHeader.fields.Goals as goal

pub returns : goal.returns
unfolding dbi_header
returns c =
    rw (
      c.u32_in.ensures,
      c.u32_in-2.ensures,
      c.u32_in-3.ensures,
      c.u16_in.ensures,
      c.u16_in-2.ensures,
      c.u16_in-3.ensures,
      c.u16_in-4.ensures,
      c.u16_in-5.ensures,
      c.u16_in-6.ensures,
      c.u32_in-4.ensures,
      c.u32_in-5.ensures,
      c.u32_in-6.ensures,
      c.u32_in-7.ensures,
      c.u32_in-8.ensures,
      c.u32_in-9.ensures,
      c.u32_in-10.ensures,
      c.u32_in-11.ensures,
      c.u16_in-7.ensures,
      c.u16_in-8.ensures,
      c.u32_in-12.ensures,
    ) refl
