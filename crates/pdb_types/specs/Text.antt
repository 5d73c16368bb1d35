-- The text of types.
use Rattle.std.specs.Prelude.{◌≡◌, ◌⊎◌, ℕ, ◌-◌, ◌≤◌, nat_lt, min, max, Bool, true, ◌||◌, if◌then◌else◌}
use Rattle.std.specs.Prelude.{List, [], ◌∷◌, ◌++◌}
use Rattle.std.specs.Prelude.{length, take}
use Rattle.std.specs.Prelude.{Result, Err, IfErr}
use Rattle.pdb_base.specs.declared.error.Error.{Error}
use Rattle.pdb_base.specs.declared.error.Error.TheVariants.{OutOfMemory}
use Rattle.pdb_base.specs.Refusal.{refusal_of}
use Rattle.pdb_tpi.specs.Table.{Table}
use Rattle.pdb_types.specs.declared.text.TypeText.{TypeText}
use Rattle.pdb_types.specs.Size.{size_of}
use Rattle.pdb_types.specs.TypeAt.{type_at}

-- a call fails only with `OutOfMemory`, or with the error of a type in the table or of its size
abbrev pub FailsAsTable : {X : Type 0} → Table → Result X Error → Type 0
FailsAsTable table result = IfErr result (λ e. (e ≡ OutOfMemory)
    ⊎ ((index : ℕ) × ((type_at table index ≡ Err (refusal_of e)) ⊎ (size_of table index ≡ Err (refusal_of e)))))

-- the two points that stand for what is left out
abbrev pub points : List ℕ
points = 46 ∷ 46 ∷ []

-- how many bytes a text has at most where so many are asked for: no more than 65,536, and as many as the points have
abbrev pub most_shown : ℕ → ℕ
most_shown asked = max 2 (min asked 65536)

-- whether something of a text is left out: a part of it was, or it has more bytes than the most
abbrev pub is_left_out : ℕ → List ℕ → Bool → Bool
is_left_out most text cut = cut || nat_lt most (length text)

-- a text as it is shown: cut, and with the points behind it, if something is left out
abbrev pub shown_bytes : ℕ → List ℕ → Bool → List ℕ
shown_bytes most text cut = if is_left_out most text cut then take (most - 2) text ++ points else text

-- A text has no more bytes than the most, and ends with the points if it says that something is left out.
pub record IsShownText (most : ℕ) (text : TypeText) : Type 0 where
  pub short : length text.bytes.items ≤ most
  pub ends : text.is_cut ≡ true → (front : List ℕ) × (text.bytes.items ≡ front ++ points)
