-- The findings of the mismatches so far.
use Rattle.std.proofs.Common.{◌≡◌, ◌++◌, map, take}
use Rattle.pdb_validation.specs.Finding.{finding_view}
use Rattle.pdb_validation.specs.Places.{stream_pages}
use Rattle.pdb_validation.specs.Relations.{mismatch_fault}
use Rattle.pdb_validation.proofs.relations.add_mismatches.Given as goal

abbrev pub invariant-loop-mismatch : goal.invariant-loop-mismatch
invariant-loop-mismatch l = record {
  told : map finding_view l.findings.items ≡ map finding_view l.initial.findings.items
      ++ map (mismatch_fault l.scope.layout.now l.part) (take l.mismatch-index l.mismatches);
  last : l.last.pages ≡ stream_pages l.scope.layout.now l.last.number;
}
