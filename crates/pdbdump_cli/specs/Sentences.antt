-- The errors of the library as they are reported.
use Rattle.std.specs.Prelude.{◌≡◌, ◌⊎◌, ◌++◌, ℕ, List, codes, Some}
use Rattle.pdb_base.specs.Refusal.{Refusal, refusal_of}
use Rattle.pdb_base.specs.declared.error.Error.{Error}
use Rattle.pdb_cli.specs.Channels.{IsFaultReported}
use Rattle.pdb_output.specs.Output.{OutputState, GetsUnlessFailed}
use Rattle.pdbdump_rows.specs.Sentences.{sentence_of}

-- A refusal is reported on standard error by its sentence, with status 1; or standard error failed.
pub record IsSentenceTold (refusal : Refusal) (err err' : OutputState) (status : ℕ) : Type 0 where
  pub is_status : status ≡ 1
  pub sentence : List ℕ
  pub is_sentence : sentence_of refusal ≡ Some sentence
  pub told : GetsUnlessFailed err err' (sentence ++ codes "\n")

-- A fault is reported by a sentence, or by the library's text.
unfoldable pub IsFaultTold : Error → OutputState → OutputState → ℕ → Type 0
IsFaultTold fault err err' status =
    IsSentenceTold (refusal_of fault) err err' status ⊎ IsFaultReported fault err err' status
