use Rattle.std.proofs.Common.{◌≡◌, ◌+◌, arith}
use Rattle.std.proofs.lemmas.List.FromFn.{map-range_with_len_more}
use Rattle.std.proofs.lemmas.Grind.{common_steps}
use Rattle.pdb_validation.specs.PageOwners.{owner_at}
use Rattle.pdb_validation.proofs.page_owners.push_stream_pages.Goals as goal

pub loop-place-preserved : goal.loop-place-preserved
loop-place-preserved c =
    let here : 0 + c.loop-place.place ≡ c.loop-place.place = omega arith in
    let more = map-range_with_len_more (owner_at c.args.number c.args.page_size c.args.pages.now) 0 c.loop-place.place
    c.loop-place.place here in
    grind (arith, common_steps, more)
