use Rattle.std.proofs.Common.{rules}
use Rattle.pdbdump_cli.proofs.reports.error_line.Goals as goal

pub returns : goal.returns
returns c = record {
  rest = c.push_error.new.line.items;
  begins = search rules;
}
