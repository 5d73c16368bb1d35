-- What stands on an output at each exit of showing one record.
use Rattle.std.proofs.Common.{◌≡◌, ℕ, List, [], ◌++◌, Result, Ok, Err, refl, sym, ap, subst, ◌∙◌}
use Rattle.std.proofs.lemmas.List.{append-nil}
use Rattle.pdb_base.specs.declared.error.Error.{Error}
use Rattle.pdb_output.specs.Output.{OutputState, IsReceived, Writes}
use Rattle.pdb_output.proofs.lemmas.Written.{received_none, second_writes}
use Rattle.pdbdump_rows.specs.declared.form.Form.{Form}
use Rattle.pdbdump_rows.specs.Line.{HasText, IsRow, WritesWhat, indexed}
use Rattle.pdbdump_rows.specs.Lines.{full_text}
use Rattle.pdbdump_rows.specs.Rows.{AreLines, none}
use Rattle.pdbdump_tables.specs.Listed.{IsInFull, IsShown, part_shown, whole_shown}

-- a record before its members
abbrev pub InFull : Form → ℕ → List ℕ → Type 0
InFull form index text = IsRow (full_text form) (indexed index) text

-- a record without members
alone : (form : Form) (index : ℕ) (row : List ℕ) → InFull form index row → IsInFull form index row
alone form index row is = record {
  row = row;
  members = [];
  is = sym (append-nil row);
  begins = is;
  lines = record { fronts = []; rows = none };
}

-- nothing was written
pub unshown : (form : Form) (index : ℕ) (out : OutputState) (e : Error) → IsShown form index out out (Err e)
unshown form index out e =
    let row : List ℕ = full_text form (indexed index ++ []) in
    part_shown row e (alone form index row (record { rest = []; shown = refl })) (row, received_none out.contents row)

-- the record was written, and the call fails behind it
pub row_shown : (form : Form) (index : ℕ) (out out' : OutputState) (e : Error)
    → WritesWhat (InFull form index) out out' (Ok tt) → IsShown form index out out' (Err e)
row_shown form index out out' e row =
    let all : IsReceived out.contents out'.contents row.text [] = record {
      done = row.text;
      got = row.written.added;
      left = sym (append-nil row.text);
    } in
    part_shown row.text e (alone form index row.text row.holds) ([], all)

-- the record was cut short
pub row_cut : (form : Form) (index : ℕ) (out out' : OutputState) (e : Error)
    → WritesWhat (InFull form index) out out' (Err e) → IsShown form index out out' (Err e)
row_cut form index out out' e row = part_shown row.text e (alone form index row.text row.holds) row.written.prefix

-- a record without members was written
pub shown_alone : (form : Form) (index : ℕ) (out out' : OutputState) → WritesWhat (InFull form index) out out' (Ok tt)
    → IsShown form index out out' (Ok tt)
shown_alone form index out out' row = whole_shown row.text (alone form index row.text row.holds) row.written

ended : (form : Form) (index : ℕ) (out out' : OutputState) (text : List ℕ) (result : Result (Unit {0}) Error)
    → IsInFull form index text → Writes text out out' result → IsShown form index out out' result
ended form index out out' text (Ok done) full writes = whole_shown text full writes
ended form index out out' text (Err e) full cut = part_shown text e full cut.prefix

-- the members were written behind it, or cut short
pub members_shown : (form : Form) (index : ℕ) (out mid out' : OutputState) (old new bytes : List ℕ)
    (result : Result (Unit {0}) Error) → WritesWhat (InFull form index) out mid (Ok tt) → old ≡ []
    → HasText (AreLines form) old new → bytes ≡ new → Writes bytes mid out' result → IsShown form index out out' result
members_shown form index out mid out' old new bytes result row empty members same more =
    let all : bytes ≡ members.text = same ∙ members.added ∙ ap (λ (front : List ℕ). front ++ members.text) empty in
    let both : Writes (row.text ++ members.text) out out' result =
    second_writes out mid out' row.text members.text result row.written
    (subst (λ (text : List ℕ). Writes text mid out' result) all more) in
    let full : IsInFull form index (row.text ++ members.text) = record {
      row = row.text;
      members = members.text;
      is = refl;
      begins = row.holds;
      lines = members.holds;
    } in
    ended form index out out' (row.text ++ members.text) result full both
