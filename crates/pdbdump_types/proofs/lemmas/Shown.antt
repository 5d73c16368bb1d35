-- Steps of showing layouts.
use Rattle.std.proofs.Common.{◌≡◌, subst, ℕ, Bool, true, false, List, Result, Ok, Err}
use Rattle.std.specs.Prelude.{OnOk}
use Rattle.pdb_base.specs.declared.error.Error.{Error}
use Rattle.pdb_output.specs.Output.{GetsUnlessFailed, OutputState}
use Rattle.pdbdump_types.specs.Shown.{Accounts, GetsMessages}

-- one message more
pub reported : (start old new : OutputState) (message : List ℕ) (whole : Bool) → Accounts start old whole
    → GetsUnlessFailed old new message → GetsMessages start new
reported start old new message true is gets =
    GetsMessages.one new message (subst (λ from. GetsUnlessFailed from new message) is gets)
reported start old new message false before gets = GetsMessages.more old new message before gets

-- nothing is reported
pub kept : (was is : Bool) (err : OutputState) (result : Result (Unit {0}) Error) → is ≡ was
    → OnOk result ((start : OutputState) → Accounts start err was → Accounts start err is)
kept was is err (Ok done) same = λ start before. rw same before
kept was is err (Err e) same = tt

-- one call behind another
pub accounted_then : (was mid is : Bool) (err err' err'' : OutputState) (result : Result (Unit {0}) Error)
    → ((start : OutputState) → Accounts start err was → Accounts start err' mid)
    → OnOk result ((start : OutputState) → Accounts start err' mid → Accounts start err'' is)
    → OnOk result ((start : OutputState) → Accounts start err was → Accounts start err'' is)
accounted_then was mid is err err' err'' (Ok done) first next = λ start before. next start (first start before)
accounted_then was mid is err err' err'' (Err e) first next = tt
