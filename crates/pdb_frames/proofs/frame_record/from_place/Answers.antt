use Rattle.std.proofs.Common.{◌≡◌, ◌*◌, ◌<◌, ◌∙◌, ap, drop, List, ℕ, rules}
use Rattle.std.proofs.lemmas.List.{take_rest}
use Rattle.std.proofs.Math.Nat.{mul_comm}
use Rattle.pdb_base.specs.Records.{values_of_size}
use Rattle.pdb_base.proofs.lemmas.Records.{spelled_behind}
use Rattle.pdb_frames.proofs.frame_record.from_place.Goals as goal

pub returns : goal.returns
returns g c =
    let size = g.R.FrameRecord.SIZE in
    let some : 0 < size = search rules in
    let place : c.args.place * c.SIZE.result ≡ size * c.args.place = ap (λ (n : ℕ). c.args.place * n) c.SIZE.ensures
    ∙ mul_comm c.args.place size in
    ap (λ (b : List ℕ). values_of_size size g.R.FrameRecord.value b)
    (take_rest c.args.bytes.now (c.args.place * c.SIZE.result) ∙ ap (λ (n : ℕ). drop n c.args.bytes.now) place)
    ∙ spelled_behind size g.R.FrameRecord.value c.args.place c.args.bytes.now some
