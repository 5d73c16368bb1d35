use Rattle.std.proofs.Common.{◌≤◌, length, ap}
use Rattle.std.proofs.Math.Bridge.{le_prop}
use Rattle.pdb_tpi.specs.declared.item.Item.{Item}
use Rattle.pdb_tpi.proofs.item.ItemClone.clone.Goals as goal

pub returns : goal.returns
returns g c =
    let item = c.args.self.now in
    let made : 2 ≤ length item.bytes.now → Item g.row.I.Denot =
    λ (least : 2 ≤ length item.bytes.now). record { index = item.index; bytes = item.bytes; least = least } in
    record { cases = ap made (le_prop _ item.least) }
