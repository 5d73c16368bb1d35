use Rattle.std.proofs.Common.{◌-◌, drop, arith}
use Rattle.std.proofs.lemmas.List.{length-drop}
use Rattle.pdb_space.proofs.RangeLemmas.{parts_until_few, parts_until_not_empty}
use Rattle.pdb_space.proofs.SearchLemmas.{found_in, found_parts, found_laid}
use Rattle.pdb_space.proofs.omap_table.OMAPTable.lookup_range.Goals as goal

pub returns : goal.returns
returns c =
    let table = c.args.self.now in
    let place = c.search_apart.new.found.place in
    let source = c.search_apart.new.found.source in
    let rest = drop (place - 1) table in
    let found = found_in c.bytes.result.now table c.args.range.start place source c.bytes.ensures.records
    c.search_apart.ensures in
    rw (c.over_records.ensures, c.records_from.ensures, c.saturating_sub.ensures) (record {
      parts = found_parts table c.args.range place source found;
      laid = found_laid table c.args.range place source found;
      few = omega (arith, parts_until_few rest c.args.range, length-drop (place - 1) table);
      not_empty = parts_until_not_empty rest c.args.range;
    })
