-- What is wrong in a part of a file.
use Rattle.std.specs.Prelude.{Bool, false}
use Rattle.pdb_base.specs.Refusal.{Refusal, refusal_of}
use Rattle.pdb_validation.specs.Inconsistency.{is_warning}
use Rattle.pdb_validation.specs.declared.inconsistency.Inconsistency.{Inconsistency}
use Rattle.pdb_validation.specs.declared.problem.Problem.{Problem}
use Rattle.pdb_validation.specs.declared.problem.Problem.TheVariants as problems

-- an error that a definition assigns to the part, or what is inconsistent in it
pub data ProblemValue : Type 0 where
  failure : Refusal → ProblemValue
  inconsistent : Inconsistency → ProblemValue

abbrev pub problem_view : Problem → ProblemValue
problem_view (problems.Error error) = failure (refusal_of error)
problem_view (problems.Inconsistent what) = inconsistent what

-- whether files of known tools have it too, so that it makes no file damaged
abbrev pub is_tolerated : ProblemValue → Bool
is_tolerated (failure refusal) = false
is_tolerated (inconsistent what) = is_warning what
