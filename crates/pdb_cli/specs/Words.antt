-- The words that the program takes.
use Rattle.std.specs.Prelude.{ℕ, Bool, ◌&&◌, nat_eq, nat_lt, nat_le, if◌then◌else◌, List, [], ◌∷◌, length, drop, codes}
use Rattle.std.specs.Prelude.{Option, Some, None, option_and_then}
use Rattle.std.specs.Option.{option_map}
use Rattle.std.specs.List.{starts_with, list_all}
use Rattle.std.specs.Cmp.Lexicographic.{pointwise}
use Rattle.std.specs.Char.{digit_value}
use Rattle.std.specs.Str.Parse.{digits_value}
use Rattle.pdb_container.specs.declared.query.Query.{Query}
use Rattle.pdb_container.specs.declared.query.Query.TheVariants as queries

-- whether each byte is a digit in the base
abbrev pub are_digits : ℕ → List ℕ → Bool
are_digits base digits = list_all (λ digit. nat_lt (digit_value digit) base) digits

-- the number of one to `most` digits, if it fits 32 bits
unfoldable pub number_in_digits : ℕ → ℕ → List ℕ → Option ℕ
number_in_digits base most digits =
    if (nat_lt 0 (length digits) && nat_le (length digits) most)
    && (are_digits base digits && nat_le (digits_value base digits) 0xffffffff)
    then Some (digits_value base digits) else None

-- the number that a word of 1 to 10 decimal digits, or of `0x` and 1 to 8 hexadecimal digits of either
-- case, stands for
unfoldable pub number_of : List ℕ → Option ℕ
number_of word =
    if starts_with nat_eq word (codes "0x") then number_in_digits 16 8 (drop 2 word) else number_in_digits 10 10 word

-- the two numbers that two words stand for
unfoldable pub two_numbers : List (List ℕ) → Option (ℕ × ℕ)
two_numbers (first ∷ second ∷ []) = option_and_then (λ a. option_map (λ b. (a, b)) (number_of second)) (number_of first)
two_numbers _ = None

-- `N` and `N LIMIT`: a stream's number, and how many of its bytes at most
unfoldable pub stream_words : List (List ℕ) → Option Query
stream_words (number ∷ []) = option_map (λ n. queries.Stream n None) (number_of number)
stream_words words = option_map (λ two. queries.Stream two.0 (Some two.1)) (two_numbers words)

-- `S A B`: the number of a table's stream, and the ends of a range
unfoldable pub ranges_asked : List (List ℕ) → Option Query
ranges_asked (stream ∷ ends) = option_and_then
    (λ s. option_map (λ two. queries.Ranges s two.0 two.1) (two_numbers ends)) (number_of stream)
ranges_asked [] = None

-- whether two words are the same
abbrev pub same : List ℕ → List ℕ → Bool
same word other = pointwise nat_eq word other

-- the query of a command that takes two numbers, of which the first is a stream: a record by its index, a
-- name by its offset, or the fields of a list by its index
abbrev pub pair_of : List ℕ → ℕ → ℕ → Option Query
pair_of command stream number =
    if same command (codes "type") then Some (queries.TypeRecord stream number)
    else if same command (codes "id") then Some (queries.IdRecord stream number)
    else if same command (codes "name") then Some (queries.Name stream number)
    else if same command (codes "fields") then Some (queries.Fields stream number)
    else None

-- the query of a command with the words behind it
unfoldable pub query_of : List (List ℕ) → Option Query
query_of [] = None
query_of (command ∷ words) =
    if same command (codes "stream") then stream_words words
    else if same command (codes "ranges") then ranges_asked words
    else option_and_then (λ two. pair_of command two.0 two.1) (two_numbers words)
