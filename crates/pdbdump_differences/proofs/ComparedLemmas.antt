-- Steps of comparing tables.
use Rattle.std.proofs.Common.{◌≡◌, sym, subst, Bool, true, false, Result, Ok, Err}
use Rattle.std.specs.Prelude.{OnOk}
use Rattle.pdb_base.specs.declared.error.Error.{Error}
use Rattle.pdb_output.specs.Output.{OutputState}
use Rattle.pdbdump_differences.specs.Compared.{Compares, IsCompared, IsSilent, found}
use Rattle.pdbdump_types.specs.Shown.{Accounts, StaysAccounted}
use Rattle.pdbdump_types.specs.declared.progress.Progress.{Progress}

-- nothing was done
pub none_yet : (progress : Progress) (out err : OutputState) → Compares progress progress out out err err
none_yet progress out err = record { silent = λ start was. was; accounted = λ start was. was }

-- one part behind another
pub compared_then : (was mid is : Progress) (out out' out'' err err' err'' : OutputState)
    → Compares was mid out out' err err' → Compares mid is out' out'' err' err''
    → Compares was is out out'' err err''
compared_then was mid is out out' out'' err err' err'' first next = record {
  silent = λ start so. next.silent start (first.silent start so);
  accounted = λ start so. next.accounted start (first.accounted start so);
}

-- something was reported, and nothing was written
pub told_only : (was is : Progress) (out err err' : OutputState) → StaysAccounted was is err err'
    → is.has_shown ≡ was.has_shown → Compares was is out out err err'
told_only was is out err err' told same = record {
  silent = λ start so. subst (λ shown. IsSilent start out shown) (sym same) so;
  accounted = told;
}

-- something was written, and nothing was reported
pub written : (was is : Progress) (out out' err : OutputState) (result : Result (Unit {0}) Error)
    → is.is_whole ≡ was.is_whole → OnOk result (is.has_shown ≡ true) → OnOk result (Compares was is out out' err err)
written was is out out' err (Ok done) same shown = record {
  silent = λ start so. subst (λ has. IsSilent start out' has) (sym shown) tt;
  accounted = λ start so. subst (λ whole. Accounts start err whole) (sym same) so;
}
written was is out out' err (Err e) same shown = tt

-- what was found
pub finished : (shown whole : Bool) (out out' err err' : OutputState) → IsSilent out out' shown
    → Accounts err err' whole → IsCompared out out' err err' (found shown whole)
finished true true out out' err err' silent same = IsCompared.different same
finished false true out out' err err' silent same = IsCompared.equal silent same
finished true false out out' err err' silent told = IsCompared.incomplete told
finished false false out out' err err' silent told = IsCompared.incomplete told
