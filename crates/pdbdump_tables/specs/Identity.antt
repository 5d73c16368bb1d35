-- How the identity of a file is shown.
use Rattle.std.specs.Prelude.{⊤, ℕ, List, []}
use Rattle.pdbdump_rows.specs.declared.form.Form.{Form}
use Rattle.pdbdump_rows.specs.declared.form.Form.TheVariants as forms
use Rattle.pdbdump_rows.specs.Line.{IsRow}
use Rattle.pdbdump_rows.specs.Lines.{row_text}

-- A text is the line of a file's identity: in JSON it is one row.
abbrev pub IsIdentity : Form → List ℕ → Type 0
IsIdentity forms.Text text = ⊤
IsIdentity forms.Json text = IsRow (row_text forms.Json) [] text
