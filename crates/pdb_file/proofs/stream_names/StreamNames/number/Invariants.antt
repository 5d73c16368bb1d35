-- The first of all that has the name is the first of those that are left.
use Rattle.std.proofs.Common.{◌≡◌, drop, map}
use Rattle.std.specs.Prelude.{find}
use Rattle.std.specs.Str.{bytes_eq}
use Rattle.pdb_file.specs.StreamNames.{named_view}
use Rattle.pdb_file.proofs.stream_names.StreamNames.number.Given as goal

abbrev pub invariant-loop-named : goal.invariant-loop-named
invariant-loop-named l = record {
  same : map named_view l.named-items ≡ l.self;
  past : find (λ named. bytes_eq named.name l.name) l.self
      ≡ find (λ named. bytes_eq named.name l.name) (map named_view (drop l.named-index l.named-items));
}
