-- What is reported on standard error.
use Rattle.std.specs.Prelude.{◌≡◌, ℕ, List, ◌++◌, codes, Option, Some, None}
use Rattle.std.specs.Option.{option_map}
use Rattle.pdbdump_rows.specs.Text.{shown_text}
use Rattle.pdbdump_rows.specs.declared.form.Form.{Form}
use Rattle.pdbdump_rows.specs.declared.form.Form.TheVariants.{Text, Json}
use Rattle.pdbdump_cli.specs.declared.reports.Subject.{Subject}

-- what a line about a file or a channel begins with: the program, and the name
unfoldable pub named_front : Form → List ℕ → List ℕ
named_front Text name = codes "pdbdump: " ++ shown_text Text name ++ codes ": "
named_front Json name = codes "{\"file\":\"" ++ shown_text Json name ++ codes "\","

-- what the line of an error begins with, which is about a file or a channel if it has a name
abbrev pub front_in : Form → Option (List ℕ) → List ℕ
front_in form (Some name) = named_front form name
front_in Text None = codes "pdbdump: "
front_in Json None = codes "{"

abbrev pub front_of : Subject → List ℕ
front_of subject = front_in subject.form (option_map (λ name. name.now) subject.name)

-- The line of an error begins so.
pub record IsAbout (subject : Subject) (line : List ℕ) : Type 0 where
  pub rest : List ℕ
  pub begins : line ≡ front_of subject ++ rest
