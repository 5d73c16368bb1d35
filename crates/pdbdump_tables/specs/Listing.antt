-- A listing: rows, each a line, and how they end.
use Rattle.std.specs.Prelude.{◌≡◌, ◌⊎◌, List, [], ◌++◌, Result, Ok, Err}
use Rattle.pdb_base.specs.declared.error.Error.{Error}
use Rattle.pdb_base.specs.Answer.{Answer, ◌>>=◌}
use Rattle.pdb_base.specs.Refusal.{Refusal, refusal_of}
use Rattle.pdb_output.specs.Output.{OutputState}
use Rattle.pdbdump_rows.specs.declared.form.Form.{Form}
use Rattle.pdbdump_rows.specs.Line.{WritesWhat}
use Rattle.pdbdump_rows.specs.Row.{ShownRow}
use Rattle.pdbdump_rows.specs.Rows.{AreRows, WritesLines}

-- What each row up to the first fault begins with, and the refusal behind them, if there is one.
pub record Listing : Type 0 where
  pub rows : List ShownRow
  pub end : Answer (Unit {0})

-- rows that no refusal follows
abbrev pub whole : List ShownRow → Listing
whole rows = record { rows = rows; end = Ok tt }

-- a refusal with no row before it
abbrev pub refusal_alone : Refusal → Listing
refusal_alone fault = record { rows = []; end = Err fault }

-- the listing of a value, or the refusal if there is no value
abbrev pub listed_of : {A : Type 0} → (A → Listing) → Answer A → Listing
listed_of listing (Ok value) = listing value
listed_of listing (Err fault) = refusal_alone fault

-- a listing with further rows before its own
abbrev pub with_rows_before : List ShownRow → Listing → Listing
with_rows_before front listing = record { rows = front ++ listing.rows; end = listing.end }

-- the rows that follow a listing: none, if it ends with a refusal
abbrev pub rows_behind : Answer (Unit {0}) → List ShownRow → List ShownRow
rows_behind (Ok done) rows = rows
rows_behind (Err fault) rows = []

-- one listing, followed by another unless the first ends with a refusal
abbrev pub followed_by : Listing → Listing → Listing
followed_by first next = record {
  rows = first.rows ++ rows_behind first.end next.rows;
  end = first.end >>= λ done. next.end;
}

-- An output received the lines of a listing, and the result is how the listing ends; or the output failed
-- or memory ran out, and the output received a prefix of such lines.
abbrev pub IsListed : Form → Listing → OutputState → OutputState → Result (Unit {0}) Error → Type 0
IsListed form listing old new (Ok done) =
    (listing.end ≡ Ok tt) × WritesWhat (AreRows form listing.rows) old new (Ok tt)
IsListed form listing old new (Err e) =
    ((listing.end ≡ Err (refusal_of e)) × WritesWhat (AreRows form listing.rows) old new (Ok tt))
    ⊎ WritesWhat (AreRows form listing.rows) old new (Err e)

-- Lines of what was read were written; or they were cut short, as the result says.
abbrev pub ListsLines : Form → OutputState → OutputState → Result (Unit {0}) Error → Type 0
ListsLines form old new result = WritesLines form old new (Ok tt) ⊎ WritesLines form old new result
