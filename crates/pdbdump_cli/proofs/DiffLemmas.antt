-- What `diff` ends with.
use Rattle.std.specs.Prelude.{IfOk}
use Rattle.std.proofs.Common.{subst, Result, Ok, Err}
use Rattle.pdb_base.specs.declared.error.Error.{Error}
use Rattle.pdb_output.specs.Output.{OutputState}
use Rattle.pdbdump_differences.specs.Compared.{IsCompared, different, equal, incomplete}
use Rattle.pdbdump_differences.specs.declared.differences.Outcome.{Outcome}
use Rattle.pdbdump_cli.specs.Diffed.{IsEqualEnd, IsSilentEnd}

-- a comparison that found nothing wrote nothing, so that its end is that of the whole
silent_outcome : (outcome : Outcome) (out mid out' err told err' : OutputState) → IsCompared out mid err told outcome
    → IsEqualEnd (Ok outcome) mid out' told err' → IsSilentEnd out out' err err'
silent_outcome _ out mid out' err told err' (equal unwritten unreported) ends =
    subst (λ (o : OutputState). IsSilentEnd o out' err err') unwritten
    (subst (λ (e : OutputState). IsSilentEnd mid out' e err') unreported ends.silent)
silent_outcome _ out mid out' err told err' (different unreported) ends = let is = ends.equal in absurd cc
silent_outcome _ out mid out' err told err' (incomplete messages) ends = let is = ends.equal in absurd cc

pub silent_whole : (compared : Result Outcome Error) (out mid out' err told err' : OutputState)
    → IfOk compared (IsCompared out mid err told) → IsEqualEnd compared mid out' told err'
    → IsSilentEnd out out' err err'
silent_whole (Ok outcome) out mid out' err told err' is ends = silent_outcome outcome out mid out' err told err' is ends
silent_whole (Err e) out mid out' err told err' is ends = let is = ends.equal in absurd cc
