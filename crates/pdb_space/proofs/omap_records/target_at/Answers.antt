use Rattle.std.proofs.Common.{◌≡◌, ◌+◌, ◌-◌, ◌*◌, List, ℕ, length, take, drop, sym, ap, ◌∙◌, arith}
use Rattle.byteorder.specs.Endian.{little_number}
use Rattle.pdb_space.proofs.RecordLemmas.{target_there, from_place}
use Rattle.pdb_space.proofs.omap_records.target_at.Goals as goal

pub returns : goal.returns
returns c =
    let read : c.read_u32.result ≡ little_number 4
    (take (length c.args.bytes.now - (c.args.place * 8 + 4)) (drop (c.args.place * 8 + 4) c.args.bytes.now)) =
    c.read_u32.ensures in
    read ∙ ap (λ (b : List ℕ). little_number 4 b) (from_place c.args.bytes.now _ _ (omega arith))
    ∙ sym (target_there c.args.bytes.now c.args.place c.requires)
