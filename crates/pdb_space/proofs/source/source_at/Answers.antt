use Rattle.std.proofs.Common.{◌≡◌, ◌-◌, ◌*◌, List, ℕ, length, take, drop, sym, ap, ◌∙◌, arith}
use Rattle.byteorder.specs.Endian.{little_number}
use Rattle.pdb_space.proofs.RecordLemmas.{source_there, from_place}
use Rattle.pdb_space.proofs.source.source_at.Goals as goal

pub returns-clause-source : goal.returns-clause-source
returns-clause-source c =
    let read : c.read_u32.result ≡ little_number 4
    (take (length c.args.bytes.now - c.args.place * 8) (drop (c.args.place * 8) c.args.bytes.now)) =
    c.read_u32.ensures in
    read ∙ ap (λ (b : List ℕ). little_number 4 b) (from_place c.args.bytes.now _ _ (omega arith))
    ∙ sym (source_there c.args.bytes.now c.args.place c.requires)
