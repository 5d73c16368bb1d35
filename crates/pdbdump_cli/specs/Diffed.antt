-- What `diff` ends with.
use Rattle.std.specs.Prelude.{◌≡◌, Ok, Result}
use Rattle.pdb_base.specs.declared.error.Error.{Error}
use Rattle.pdb_output.specs.Output.{OutputState, Flushes}
use Rattle.pdbdump_differences.specs.declared.differences.Outcome.{Outcome}
use Rattle.pdbdump_differences.specs.declared.differences.Outcome.TheVariants.{Equal}

-- Nothing was written or reported, and the output is flushed.
pub record IsSilentEnd (out out' err err' : OutputState) : Type 0 where
  pub flushed : Flushes out out' (Ok tt)
  pub unreported : err' ≡ err

-- The program ended behind a comparison, with status 0 only if that found nothing that differs.
pub record IsEqualEnd (compared : Result Outcome Error) (out out' err err' : OutputState) : Type 0 where
  pub equal : compared ≡ Ok Equal
  pub silent : IsSilentEnd out out' err err'
