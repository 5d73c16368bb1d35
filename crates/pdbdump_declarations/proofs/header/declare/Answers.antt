use Rattle.std.proofs.Common.{◌∙◌, ap, refl}
use Rattle.pdb_base.specs.Answer.{Answer, ◌>>=◌}
use Rattle.pdb_tpi.specs.Table.{Table}
use Rattle.pdb_types.specs.Definition.{whole_table}
use Rattle.pdbdump_declarations.proofs.header.declare.Goals as goal

pub returns : goal.returns
returns g c = record {
  table = c.in_ok-definitions.definitions;
  walked = ap (λ (a : Answer Table). a >>= whole_table) c.in_ok-types.ensures ∙ c.in_ok-definitions.ensures;
  accounts = c.in_ok-declare_asked.ensures c.args.err.now (rw c.new-progress.ensures.whole refl);
}
