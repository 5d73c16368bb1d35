-- A walk over a table that tells of the records that are refused.
use Rattle.std.proofs.Common.{◌≡◌, ◌≢◌, ℕ, suc, ◌+◌, ◌-◌, ◌≤◌, List, [], ◌∷◌, ◌++◌, length, drop, Bool, true, false}
use Rattle.std.proofs.Common.{refl, sym, ap, ◌∙◌, arith, Option, Some, None, Ok, Err}
use Rattle.std.specs.Option.{option_to_list}
use Rattle.std.proofs.Math.Seq.{drop-cons}
use Rattle.std.proofs.Math.ListN.{drop_of_length-le}
use Rattle.std.proofs.lemmas.Option.{get_or_from_slice_get}
use Rattle.pdb_base.specs.Answer.{Answer}
use Rattle.pdb_base.specs.Refusal.{Refusal, refusal_of}
use Rattle.pdb_base.specs.declared.error.Error.{Error}
use Rattle.pdb_tpi.specs.Place.{IsPlace}
use Rattle.pdb_tpi.specs.Steps.{WalkPosition, IsStep, steps_taken, walk, walk_rest}
use Rattle.pdb_tpi.specs.Table.{Table}
use Rattle.pdb_tpi.specs.Walk.{fault_of}
use Rattle.pdb_tpi.proofs.PositionLemmas.{stands_at}
use Rattle.pdb_tpi.proofs.StepLemmas.{step_some, step_none, step_err}
use Rattle.pdb_validation.specs.Finding.{FaultPlace, by_extent, is_enough}
use Rattle.pdb_validation.specs.Places.{PagesValue}
use Rattle.pdb_validation.specs.Tables.{byte_of, fault_at, fault_behind, item_fault, item_faults, missing_fault}
use Rattle.pdb_validation.specs.Tables.{record_faults, refusal_fault}
use Rattle.pdb_validation.specs.declared.mismatch.Extent.{Extent}
use Rattle.pdb_validation.specs.declared.finding.Part.{Part}
use Rattle.pdb_validation.proofs.ToldLemmas.{IsTelling, said, telling_enough, telling_last, telling_more}

-- the fault behind the items of a table
abbrev behind : (ℕ → Refusal → FaultPlace) → Table → Option FaultPlace
behind fault table = fault_behind fault (table.header.minimum_index + length (walk table)) table.header.maximum_index
    (walk_rest table)

-- the faults of the records that an iterator has still to give
abbrev pub faults_left : {A : Type 0} → (ℕ → Refusal → FaultPlace) → (ℕ → List ℕ → Answer A) → WalkPosition
    → List FaultPlace
faults_left fault means stand = item_faults fault means stand.index (drop (steps_taken stand) (walk stand.table))
    (behind fault stand.table)

-- The records before those of an iterator are told, which stands in the table.
pub record IsChecking {A : Type 0} (fault : ℕ → Refusal → FaultPlace) (means : ℕ → List ℕ → Answer A) (table : Table)
    (stand : WalkPosition) (extent : Extent) (before now : List FaultPlace) : Type 0 where
  pub same : stand.table ≡ table
  pub least : stand.table.header.minimum_index ≤ stand.index
  pub reached : steps_taken stand ≤ length (walk stand.table)
  pub told : IsTelling extent before (record_faults fault means table) now (faults_left fault means stand)

pub checking_none : {A : Type 0} (fault : ℕ → Refusal → FaultPlace) (means : ℕ → List ℕ → Answer A) (table : Table)
    (extent : Extent) (before : List FaultPlace)
    → IsChecking fault means table (record { table = table; index = table.header.minimum_index }) extent before before
unfolding record_faults
checking_none fault means table extent before =
    let none : table.header.minimum_index - table.header.minimum_index ≡ 0 = omega arith in
    record { same = refl; least = omega arith; reached = rw none (omega arith); told = rw none refl }

-- the record of a step, and then those that are left
left_more : {A X : Type 0} (fault : ℕ → Refusal → FaultPlace) (means : ℕ → List ℕ → Answer A) (seen : X → ℕ × List ℕ)
    (old : WalkPosition) (x : X) (new : WalkPosition)
    → old.table.header.minimum_index ≤ old.index → IsStep seen old (Ok (Some x)) new
    → faults_left fault means old
    ≡ option_to_list (refusal_fault (fault old.index) (means (seen x).0 (seen x).1)) ++ faults_left fault means new
left_more fault means seen old x new least step =
    let given = step_some seen old x new step in
    let n = steps_taken old in
    let here = get_or_from_slice_get (walk old.table) n (seen x).1 (seen x).1 given.there in
    let next : suc n ≡ old.index + 1 - old.table.header.minimum_index = omega arith in
    rw (given.moved, drop-cons (walk old.table) n (seen x).1 given.within, here, ← given.index, ← next) refl

-- an iterator stands where the item before which it stands begins
begins_there : (table : Table) (stand : WalkPosition) (index byte : ℕ) → stand.table ≡ table → index ≡ stand.index
    → IsPlace stand.table stand.index byte → byte ≡ byte_of table index
begins_there table stand index byte same at place =
    stands_at stand.table stand.index byte place ∙ ap (λ (t : Table). byte_of t stand.index) same
    ∙ ap (byte_of table) (sym at)

-- the fault of a record as the walk tells it, and as it is
fault_here : (part : Part) (stream : ℕ) (pages : PagesValue) (table : Table) (stand : WalkPosition) (index byte : ℕ)
    → stand.table ≡ table → index ≡ stand.index → IsPlace stand.table stand.index byte
    → fault_at part stream pages index byte ≡ item_fault part stream pages table stand.index
fault_here part stream pages table stand index byte same at place =
    ap (λ (b : ℕ). fault_at part stream pages index b) (begins_there table stand index byte same at place)
    ∙ ap (item_fault part stream pages table) at

-- what a record is checked for, as the walk tells it
here : {A X : Type 0} (part : Part) (stream : ℕ) (pages : PagesValue) (means : ℕ → List ℕ → Answer A)
    (seen : X → ℕ × List ℕ) (table : Table) (stand : WalkPosition) (x : X) (index byte : ℕ) (found : Option FaultPlace)
    → stand.table ≡ table → index ≡ stand.index → IsPlace stand.table stand.index byte
    → said (refusal_fault (fault_at part stream pages index byte) (means (seen x).0 (seen x).1)) ≡ Ok found
    → said (refusal_fault (item_fault part stream pages table stand.index) (means (seen x).0 (seen x).1)) ≡ Ok found
here part stream pages means seen table stand x index byte found same at place is =
    ap (λ (f : Refusal → FaultPlace). said (refusal_fault f (means (seen x).0 (seen x).1)))
    (sym (fault_here part stream pages table stand index byte same at place)) ∙ is

-- a record more
pub checking_more : {A X : Type 0} (part : Part) (stream : ℕ) (pages : PagesValue) (means : ℕ → List ℕ → Answer A)
    (seen : X → ℕ × List ℕ) (table : Table) (old : WalkPosition) (x : X) (new : WalkPosition) (extent : Extent)
    (before now now' : List FaultPlace) (index byte : ℕ) (found : Option FaultPlace) (flag : Bool)
    → IsChecking (item_fault part stream pages table) means table old extent before now
    → IsStep seen old (Ok (Some x)) new → index ≡ old.index → IsPlace old.table old.index byte
    → said (refusal_fault (fault_at part stream pages index byte) (means (seen x).0 (seen x).1)) ≡ Ok found
    → said (now ++ option_to_list found) ≡ Ok now' → flag ≡ is_enough extent found → flag ≡ false
    → IsChecking (item_fault part stream pages table) means table new extent before now'
checking_more part stream pages means seen table old x new extent before now now' index byte found flag are step at
    place is adds last more =
    let given = step_some seen old x new step in
    let fault = item_fault part stream pages table in
    record {
      same = rw given.moved are.same;
      least = rw given.moved (omega (arith, are.least));
      reached = rw given.moved (omega (arith, are.least, given.within));
      told = telling_more extent before (record_faults fault means table) now now' (faults_left fault means old)
          (faults_left fault means new) _ found flag are.told
          (left_more fault means seen old x new are.least step)
          (here part stream pages means seen table old x index byte found are.same at place is) adds last more;
    }

-- a record that is enough
pub checking_enough : {A X : Type 0} (part : Part) (stream : ℕ) (pages : PagesValue) (means : ℕ → List ℕ → Answer A)
    (seen : X → ℕ × List ℕ) (table : Table) (old : WalkPosition) (x : X) (new : WalkPosition) (extent : Extent)
    (before now now' : List FaultPlace) (index byte : ℕ) (found : Option FaultPlace) (flag : Bool)
    → IsChecking (item_fault part stream pages table) means table old extent before now
    → IsStep seen old (Ok (Some x)) new → index ≡ old.index → IsPlace old.table old.index byte
    → said (refusal_fault (fault_at part stream pages index byte) (means (seen x).0 (seen x).1)) ≡ Ok found
    → said (now ++ option_to_list found) ≡ Ok now' → flag ≡ is_enough extent found → flag ≡ true
    → said (before ++ by_extent extent (record_faults (item_fault part stream pages table) means table)) ≡ Ok now'
checking_enough part stream pages means seen table old x new extent before now now' index byte found flag are step at
    place is adds last stop =
    let fault = item_fault part stream pages table in
    telling_enough extent before (record_faults fault means table) now now' (faults_left fault means old)
    (faults_left fault means new) _ found flag are.told (left_more fault means seen old x new are.least step)
    (here part stream pages means seen table old x index byte found are.same at place is) adds last stop

-- behind the last record
left_none : {A : Type 0} (fault : ℕ → Refusal → FaultPlace) (means : ℕ → List ℕ → Answer A) (stand : WalkPosition)
    → length (walk stand.table) ≤ steps_taken stand
    → faults_left fault means stand ≡ option_to_list (behind fault stand.table)
left_none fault means stand past = rw (drop_of_length-le (walk stand.table) past) refl

behind_none : (fault : ℕ → Refusal → FaultPlace) (index maximum : ℕ) (rest : List ℕ) → rest ≡ []
    → fault_behind fault index maximum rest ≡ missing_fault fault index maximum
behind_none fault index maximum rest none = rw none refl

behind_some : (fault : ℕ → Refusal → FaultPlace) (index maximum : ℕ) (rest : List ℕ) → rest ≢ []
    → fault_behind fault index maximum rest ≡ Some (fault index (fault_of rest))
behind_some fault index maximum [] some = absurd (some refl)
behind_some fault index maximum (byte ∷ rest) some = refl

last_index : (stand : WalkPosition) → stand.table.header.minimum_index ≤ stand.index
    → steps_taken stand ≤ length (walk stand.table) → length (walk stand.table) ≤ steps_taken stand
    → stand.table.header.minimum_index + length (walk stand.table) ≡ stand.index
last_index stand least reached past = omega (arith, least, reached, past)

missing_here : (one other : ℕ → Refusal → FaultPlace) (index maximum : ℕ) → one index ≡ other index
    → missing_fault one index maximum ≡ missing_fault other index maximum
missing_here one other index maximum same = rw same refl

pub checking_ended : {A X : Type 0} (part : Part) (stream : ℕ) (pages : PagesValue) (means : ℕ → List ℕ → Answer A)
    (seen : X → ℕ × List ℕ) (table : Table) (old new : WalkPosition) (extent : Extent) (before now : List FaultPlace)
    (index byte maximum : ℕ) (found : Option FaultPlace)
    → IsChecking (item_fault part stream pages table) means table old extent before now
    → IsStep seen old (Ok None) new → index ≡ old.index → IsPlace old.table old.index byte
    → maximum ≡ table.header.maximum_index
    → found ≡ missing_fault (λ i. fault_at part stream pages i byte) index maximum
    → before ++ by_extent extent (record_faults (item_fault part stream pages table) means table)
    ≡ now ++ option_to_list found
checking_ended part stream pages means seen table old new extent before now index byte maximum found are step at place
    most is =
    let fault = item_fault part stream pages table in
    let end = step_none seen old new step in
    telling_last extent before (record_faults fault means table) now (faults_left fault means old) found are.told
    (left_none fault means old end.0 ∙ ap (λ (o : Option FaultPlace). option_to_list o)
    (behind_none fault (old.table.header.minimum_index + length (walk old.table)) old.table.header.maximum_index
    (walk_rest old.table) end.1
    ∙ ap (λ (i : ℕ). missing_fault fault i old.table.header.maximum_index)
    (last_index old are.least are.reached end.0 ∙ sym at)
    ∙ ap (λ (t : Table). missing_fault fault index t.header.maximum_index) are.same
    ∙ ap (λ (m : ℕ). missing_fault fault index m) (sym most)
    ∙ missing_here fault (λ i. fault_at part stream pages i byte) index maximum
    (ap fault at ∙ sym (fault_here part stream pages table old index byte are.same at place))
    ∙ sym is))

pub checking_stopped : {A X : Type 0} (part : Part) (stream : ℕ) (pages : PagesValue) (means : ℕ → List ℕ → Answer A)
    (seen : X → ℕ × List ℕ) (table : Table) (old new : WalkPosition) (e : Error) (extent : Extent)
    (before now : List FaultPlace) (index byte : ℕ) (found : FaultPlace)
    → IsChecking (item_fault part stream pages table) means table old extent before now
    → IsStep seen old (Err e) new → index ≡ old.index → IsPlace old.table old.index byte
    → found ≡ fault_at part stream pages index byte (refusal_of e)
    → before ++ by_extent extent (record_faults (item_fault part stream pages table) means table)
    ≡ now ++ option_to_list (Some found)
checking_stopped part stream pages means seen table old new e extent before now index byte found are step at place is =
    let fault = item_fault part stream pages table in
    let end = step_err seen old new e step in
    let told : fault old.index (refusal_of e) ≡ found =
    ap (λ (f : Refusal → FaultPlace). f (refusal_of e))
    (sym (fault_here part stream pages table old index byte are.same at place)) ∙ sym is in
    telling_last extent before (record_faults fault means table) now (faults_left fault means old) (Some found)
    are.told
    (left_none fault means old end.past ∙ ap (λ (o : Option FaultPlace). option_to_list o)
    (behind_some fault (old.table.header.minimum_index + length (walk old.table)) old.table.header.maximum_index
    (walk_rest old.table) end.some
    ∙ ap (λ (i : ℕ). Some (fault i (fault_of (walk_rest old.table)))) (last_index old are.least are.reached end.past)
    ∙ ap (λ (r : Refusal). Some (fault old.index r)) end.is
    ∙ ap (λ (f : FaultPlace). Some f) told))
