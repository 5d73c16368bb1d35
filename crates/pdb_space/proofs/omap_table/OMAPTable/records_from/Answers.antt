use Rattle.std.proofs.Common.{◌*◌, ◌∙◌, ap, drop, List, lit<, arith}
use Rattle.pdb_base.proofs.lemmas.Records.{spelled_behind}
use Rattle.pdb_space.specs.Omap.{OmapValue, mapping_of, mappings_of}
use Rattle.pdb_space.proofs.RecordLemmas.{from_place}
use Rattle.pdb_space.proofs.omap_table.OMAPTable.records_from.Goals as goal

pub returns : goal.returns
returns c =
    c.new.ensures
    ∙ ap mappings_of (from_place c.bytes.result.now (c.args.place * 8) (8 * c.args.place) (omega arith))
    ∙ spelled_behind 8 mapping_of c.args.place c.bytes.result.now (lit< tt)
    ∙ ap (λ (table : List OmapValue). drop c.args.place table) c.bytes.ensures.records
