use Rattle.std.proofs.Common.{◌∙◌, ap, sym, arith, List, [], ◌∷◌, map}
use Rattle.std.proofs.lemmas.List.{map-append}
use Rattle.pdb_base.proofs.lemmas.Collected.{ok, collected_more}
use Rattle.pdb_file.specs.StreamNames.{Named, map_view, named_at, named_view}
use Rattle.pdb_file.proofs.stream_names.NameMap.all_named.Goals as goal

pub loop-place-preserved : goal.loop-place-preserved
loop-place-preserved c = record {
  so_far = collected_more (named_at (map_view c.args.self.now)) c.loop-place.place _
      (named_view c.in_ok-named_at.field-0) c.loop-place.invariant.so_far c.in_ok-named_at.ensures
      ∙ ap (λ (all : List Named). ok all) (sym (ap (map named_view) c.push_reserved.ensures.items
      ∙ map-append named_view c.loop-place.names.items (c.in_ok-named_at.field-0 ∷ [])));
  counted = omega (arith, c.push_reserved.ensures.len, c.loop-place.invariant.counted);
  room = omega (arith, c.push_reserved.ensures.capacity, c.loop-place.invariant.room);
}
