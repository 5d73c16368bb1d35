-- What is shown of words and an input.
use Rattle.std.proofs.Common.{◌≡◌, List, [], ℕ, Option, Some, None, IfSome, refl, sym, subst}
use Rattle.pdb_cli.specs.declared.outcome.Outcome.{Outcome}
use Rattle.pdb_cli.specs.Channels.{IsShownOf}
use Rattle.pdb_cli.specs.Printed.{Shows, question_of}

-- what words ask is shown of the file that was read
pub shown_of : (words texts : List (List ℕ)) (had : Option (List ℕ)) (file : List ℕ) (outcome : Outcome) → words ≡ texts
    → IfSome had (λ bytes. file ≡ bytes)
    → Shows (question_of texts file) outcome → IsShownOf words had outcome
shown_of words texts had file outcome same whole shows =
    record {
      file = file;
      whole = whole;
      shows =
          subst (λ (ws : List (List ℕ)). Shows (question_of ws file) outcome) (sym same) shows;
    }

-- without words no input is read
pub shown_of_nothing : (words : List (List ℕ)) (had : Option (List ℕ)) (outcome : Outcome) → words ≡ []
    → Shows (question_of [] []) outcome → IsShownOf words had outcome
shown_of_nothing words None outcome none shows = shown_of words [] None [] outcome none tt shows
shown_of_nothing words (Some bytes) outcome none shows = shown_of words [] (Some bytes) bytes outcome none refl shows
