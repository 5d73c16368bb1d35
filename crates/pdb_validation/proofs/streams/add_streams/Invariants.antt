-- So far the streams below the number are told.
use Rattle.std.proofs.Common.{map}
use Rattle.pdb_msf.specs.Source.{IsFixed, IsKept}
use Rattle.pdb_validation.specs.Finding.{finding_view}
use Rattle.pdb_validation.specs.Streams.{streams_faults}
use Rattle.pdb_validation.proofs.StreamLemmas.{faults_from}
use Rattle.pdb_validation.proofs.ToldLemmas.{IsTelling}
use Rattle.pdb_validation.proofs.streams.add_streams.Given as goal

abbrev pub invariant-loop-number : goal.invariant-loop-number
invariant-loop-number g l =
    let old = g.S.Source.state l.fn.source.source in
    record {
      kept : IsKept old (g.S.Source.state l.source.source);
      told : IsFixed old →
          IsTelling l.scope.extent (map finding_view l.initial.findings.items)
          (streams_faults l.scope.layout.now old.bytes l.count)
          (map finding_view l.findings.items) (faults_from l.scope.layout.now old.bytes l.count l.number);
    }
