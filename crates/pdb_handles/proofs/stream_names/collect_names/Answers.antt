use Rattle.std.proofs.Common.{refl, ◌∙◌}
use Rattle.pdb_file.specs.StreamNames.{Named, named_view}
use Rattle.pdb_handles.specs.StreamNames.{named_row}
use Rattle.pdb_handles.proofs.ListingLemmas.{listed_more}
use Rattle.pdb_handles.proofs.stream_names.collect_names.Goals as goal

pub loop-named-preserved : goal.loop-named-preserved
loop-named-preserved c =
    listed_more named_view named_row (λ (named : Named). named.name) c.as_slice-streams.result.now
    c.loop-named.named-index _ _ c.loop-named.rows.items c.push.new.self.items c.loop-named.names.items
    c.push_name.new.names.items c.as_bytes.result.now c.named_row.result c.len.result c.loop-named-test.true refl
    c.loop-named.invariant.0 c.loop-named.invariant.1 (c.len.ensures ∙ c.loop-named.names.ok.0)
    c.named_row.ensures c.in_ok-push.ensures.items c.as_bytes.ensures c.in_ok-push_name.ensures.ok
