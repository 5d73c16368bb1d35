-- Tables that stay open between queries, each the one that a stream of the file holds.
use Rattle.std.specs.Prelude.{◌≡◌, ℕ, List, length, Option, None, Result, Ok, IfOk, IfSome}
use Rattle.std.specs.Option.{option_map_or}
use Rattle.std.specs.Result.{result_ok}
use Rattle.pdb_base.specs.declared.error.Error.{Error}
use Rattle.pdb_base.specs.Answer.{Answer, AnswersUnless, ◌>>=◌}
use Rattle.pdb_space.specs.StringTable.{names_of}
use Rattle.pdb_space.specs.Omap.{omap_table_of}
use Rattle.pdb_tpi.specs.Table.{Table, table_of}
use Rattle.pdb_tpi.specs.Finder.{FinderState, item_of, known_when_new}
use Rattle.pdb_tpi.specs.LookedUp.{lists_looked_up}
use Rattle.pdb_container.specs.declared.query.Query.{Query}
use Rattle.pdb_container.specs.declared.query.Query.TheVariants as queries
use Rattle.pdb_container.specs.declared.open_tables.Numbered.{Numbered}
use Rattle.pdb_container.specs.declared.open_tables.OpenTables.{OpenTables}

-- a table of items of which nothing is learned
abbrev pub new_table : Table → FinderState
new_table table = record { table = table; known = known_when_new table }

-- the table of items in the bytes of a stream
unfoldable pub items_in : List ℕ → Answer FinderState
items_in stream = table_of stream >>= λ table. Ok (new_table table)

-- the same table before anything was learned
abbrev pub unlearned : FinderState → FinderState
unlearned state = new_table state.table

-- the table in the stream of a number
abbrev pub table_of_stream : {T : Type 0} → (List ℕ → Answer T) → (ℕ → Option ℕ → Answer (List ℕ)) → ℕ → Answer T
table_of_stream table_in streams number = streams number None >>= table_in

-- A call returns the table in the stream of a number, with this number; or it fails as reading the stream does, or as
-- the table does.
abbrev pub OpensTable : {T : Type 0} → Type 0 → (T → T) → (List ℕ → Answer T) → (ℕ → Option ℕ → Answer (List ℕ)) → ℕ
    → Result (Numbered T) Error → Type 0
OpensTable failed before table_in streams number result =
    AnswersUnless failed (λ opened. before opened.table.value) result (table_of_stream table_in streams number)
    × IfOk result (λ opened. opened.number ≡ number)

-- An open table, if there is one, is the one in the stream of its number, whatever look-ups have learned of it.
abbrev pub IsOf : {T : Type 0} → (T → T) → (List ℕ → Answer T) → (ℕ → Option ℕ → Answer (List ℕ))
    → Option (Numbered T) → Type 0
IsOf before table_in streams last =
    IfSome last (λ kept. table_of_stream table_in streams kept.number ≡ Ok (before kept.table.value))

-- Each open table is the one in the stream of its number.
pub record AreOf (streams : ℕ → Option ℕ → Answer (List ℕ)) (tables : OpenTables) : Type 0 where
  pub types : IsOf unlearned items_in streams tables.types
  pub ids : IsOf unlearned items_in streams tables.ids
  pub names : IsOf (λ names. names) names_of streams tables.names
  pub omap : IsOf (λ omap. omap) omap_table_of streams tables.omap

-- How many records a query looks up at most: the lists of a chain, or else one.
abbrev pub most_look_ups : (ℕ → Option ℕ → Answer (List ℕ)) → Query → ℕ
most_look_ups streams (queries.Fields number index) =
    option_map_or (λ table. length (lists_looked_up (item_of table) index))
    (result_ok (table_of_stream table_of streams number)) 0
most_look_ups streams query = 1
