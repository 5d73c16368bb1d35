-- What the program prints, on which channel, and with which status.
use Rattle.std.specs.Prelude.{◌≡◌, ◌⊎◌, ◌++◌, ℕ, List, [], codes, Option, Some, None, IfSome, Ok, Err}
use Rattle.std.specs.Option.{option_map}
use Rattle.std.specs.declared.ops.Range.{Range}
use Rattle.pdb_container.specs.declared.query.Query.{Query}
use Rattle.pdb_container.specs.declared.query.Query.TheVariants as queries
use Rattle.pdb_container.specs.declared.query.Reply.{Reply}
use Rattle.pdb_container.specs.declared.query.Reply.TheVariants as replies
use Rattle.std.specs.declared.io.ErrorKind.{ErrorKind}
use Rattle.pdb_container.specs.Refusal.{Refusal, refusal_of, io_error, out_of_memory}
use Rattle.pdb_container.specs.ErrorText.{io_error_front, text_of}
use Rattle.pdb_base.specs.Text.{lossy}
use Rattle.pdb_container.specs.Answer.{Answer}
use Rattle.pdb_container.specs.Reply.{ReplyValue, bytes, item_record, fields, name, moved, AreMoved, answer_of}
use Rattle.pdb_fixtures.specs.Example.{s1_bytes}
use Rattle.pdb_cli.specs.declared.outcome.Outcome.{Outcome}
use Rattle.pdb_cli.specs.Lines.{line, hex_lines, record_line, name_lines, range_lines, reply_lines}
use Rattle.pdb_cli.specs.Words.{query_of}

-- What is printed for a reply: the bytes of a stream in lines of hexadecimal digits, a record on one
-- line, one line with the name of each field, the text of a name on a line, or one line for each range to
-- which the addresses are moved.
abbrev pub IsPrinted : ReplyValue → List ℕ → Type 0
IsPrinted (bytes stream) out = out ≡ hex_lines stream
IsPrinted (item_record index kind text) out = out ≡ record_line index kind text
IsPrinted (fields names) out = out ≡ name_lines names
IsPrinted (name text) out = out ≡ line (lossy text)
IsPrinted (moved table asked) out = (ranges : List (Range ℕ)) × AreMoved table asked ranges × (out ≡ range_lines ranges)

-- status 0: the reply on standard output, and nothing on standard error
pub record IsAnswered (said : ReplyValue) (outcome : Outcome) : Type 0 where
  pub status : outcome.status ≡ 0
  pub out : IsPrinted said outcome.out.items
  pub err : outcome.err.items ≡ []

-- status 0: these lines on standard output, and nothing on standard error
pub record IsAnsweredBy (lines : List ℕ) (outcome : Outcome) : Type 0 where
  pub status : outcome.status ≡ 0
  pub out : outcome.out.items ≡ lines
  pub err : outcome.err.items ≡ []

-- The text of a refusal is the library's own. An `io::Error` has a text that isn't the library's, and
-- that text follows the library's words.
pub record IsTextOf (refusal : Refusal) (text : List ℕ) : Type 0 where
  pub own : IfSome (text_of refusal) (λ own. text ≡ own)
  pub front : (kind : ErrorKind) → refusal ≡ io_error kind → (cause : List ℕ) × (text ≡ io_error_front ++ cause)

-- the text of a refusal on a line
pub record IsLineOf (refusal : Refusal) (out : List ℕ) : Type 0 where
  pub text : List ℕ
  pub is_text : IsTextOf refusal text
  pub ended : out ≡ line text

-- status 1: the text of a refusal on a line of standard error, and nothing on standard output
pub record IsRefused (refusal : Refusal) (outcome : Outcome) : Type 0 where
  pub status : outcome.status ≡ 1
  pub out : outcome.out.items ≡ []
  pub err : IsLineOf refusal outcome.err.items

-- what is shown for a reply: its lines, or the text of a refusal
abbrev pub ShowsReply : Reply → Outcome → Type 0
ShowsReply (replies.Refused e) outcome = IsRefused (refusal_of e) outcome
ShowsReply reply outcome = IsAnsweredBy (reply_lines reply) outcome

-- the text that shows how the program is called
abbrev pub usage_text : List ℕ
usage_text = codes "usage: pdbq stream N [LIMIT] | type S I | id S I | name S O | ranges S A B | fields S I"

-- status 2: the words that the program takes, on a line of standard error
pub record IsUsage (outcome : Outcome) : Type 0 where
  pub status : outcome.status ≡ 2
  pub out : outcome.out.items ≡ []
  pub err : outcome.err.items ≡ line usage_text

-- what the program does with an answer: it prints what is said, or shows the refusal
abbrev pub IsOutcomeOf : Answer ReplyValue → Outcome → Type 0
IsOutcomeOf (Ok said) outcome = IsAnswered said outcome
IsOutcomeOf (Err refusal) outcome = IsRefused refusal outcome

-- the query that the words form, and the file that it is about; without words, these are stream 1 and the
-- file S1
abbrev pub question_of : List (List ℕ) → List ℕ → Option (Query × List ℕ)
question_of [] file = Some (queries.Stream 1 None, s1_bytes)
question_of words file = option_map (λ query. (query, file)) (query_of words)

-- what the program shows: the answer to the query, or that memory ran out, or else the usage
abbrev pub Shows : Option (Query × List ℕ) → Outcome → Type 0
Shows (Some question) outcome = IsOutcomeOf (answer_of question.1 question.0) outcome ⊎ IsRefused out_of_memory outcome
Shows None outcome = IsUsage outcome
