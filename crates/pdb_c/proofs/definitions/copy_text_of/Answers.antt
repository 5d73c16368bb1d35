use Rattle.std.proofs.Common.{ap, subst, ◌∙◌}
use Rattle.pdb_tpi.specs.{Steps.WalkPosition, Table.Table}
use Rattle.pdb_handles.specs.Definitions.{WritesText}
use Rattle.pdb_c.proofs.DefinitionLemmas.{same_table}
use Rattle.pdb_c.proofs.definitions.copy_text_of.Goals as goal

pub returns-in-Ok-clause-told : goal.returns-in-Ok-clause-told
returns-in-Ok-clause-told c =
    let same = same_table _ c.in-Ok.definitions c.in-Ok.ensures
    ∙ ap (λ (stand : WalkPosition). stand.table) c.in_default.ensures.kept in
    subst (λ (table : Table). WritesText table c.args.room.now (record {
      fault = c.copy_declaration.result;
      length = c.copy_declaration.new.length;
      room = c.copy_declaration.new.room;
    })) same c.copy_declaration.ensures
