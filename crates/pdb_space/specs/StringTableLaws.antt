-- The definitions of `StringTable`, stated in other words.
use Rattle.pdb_base.specs.Reading.{word_at}
use Rattle.std.specs.Prelude.{◌≡◌, ◌≢◌, ◌⊎◌, ℕ, ◌+◌, ◌<◌, ◌≤◌, List, [], ◌∷◌, ◌++◌, length, take, drop, slice_get}
use Rattle.std.specs.Prelude.{Some, Ok}
use Rattle.std.specs.Prelude.{Err, codes}
use Rattle.std.specs.List.{AllByRecursion}
use Rattle.pdb_base.specs.Refusal.{Refusal, unexpected_eof, unimplemented_feature}
use Rattle.pdb_base.specs.Rules.{Rule, ◌⇒◌}
use Rattle.pdb_space.specs.StringTable.{names_signature, name_of, names_of}

-- The stream holds a string table with these names: it begins with the u32 signature, a u32 version that is
-- known and the u32 size of the names, and the names follow.
pub record HoldsNames (stream names : List ℕ) : Type 0 where
  pub signed : word_at 0 stream ≡ names_signature
  pub version : (word_at 4 stream ≡ 1) ⊎ (word_at 4 stream ≡ 2)
  pub size : word_at 8 stream ≡ length names
  pub fits : 12 + length names ≤ length stream
  pub behind : take (length names) (drop 12 stream) ≡ names

-- `names_of` gives the names that the stream holds.
pub record FindsNames (stream : List ℕ) : Type 0 where
  pub found : (names : List ℕ) → names_of stream ≡ Ok names → HoldsNames stream names
  pub only : (names : List ℕ) → HoldsNames stream names → names_of stream ≡ Ok names

-- A stream that holds no string table is refused with the first of four faults: it is shorter than a header,
-- it has another signature, the names don't fit in it, or the version is not known.
pub record RefusesByFirstFault (stream : List ℕ) : Type 0 where
  pub short : length stream < 12 → names_of stream ≡ Err unexpected_eof
  pub unsigned : 12 ≤ length stream → word_at 0 stream ≢ names_signature
      → names_of stream ≡ Err (unimplemented_feature (codes "invalid string table signature"))
  pub cut : 12 ≤ length stream → word_at 0 stream ≡ names_signature → length stream < 12 + word_at 8 stream
      → names_of stream ≡ Err unexpected_eof
  pub unknown : 12 + word_at 8 stream ≤ length stream → word_at 0 stream ≡ names_signature → word_at 4 stream ≢ 1
      → word_at 4 stream ≢ 2 → names_of stream ≡ Err (unimplemented_feature (codes "unknown string table hash version"))

-- The name at an offset: the names consist of as many bytes as the offset says, the name, its NUL and the
-- rest, and no byte of the name is NUL.
pub record IsNameAt (names : List ℕ) (offset : ℕ) (name : List ℕ) : Type 0 where
  pub before : List ℕ
  pub behind : List ℕ
  pub place : length before ≡ offset
  pub no_nul : AllByRecursion (λ byte. byte ≢ 0) name
  pub is : before ++ name ++ 0 ∷ behind ≡ names

-- There is no NUL in the names at the offset or after it.
abbrev pub HasNoNul : List ℕ → ℕ → Type 0
HasNoNul names offset = (place : ℕ) → offset ≤ place → slice_get names place ≢ Some 0

-- A name is found if and only if there is a NUL in the names at the offset or after it, and it is the
-- bytes before the first such NUL.
pub record FindsName (names : List ℕ) (offset : ℕ) : Type 0 where
  pub found : (name : List ℕ) → name_of names offset ≡ Ok name → IsNameAt names offset name
  pub only : (name : List ℕ) → IsNameAt names offset name → name_of names offset ≡ Ok name
  pub missing : (e : Refusal) → name_of names offset ≡ Err e → (e ≡ unexpected_eof) × HasNoNul names offset
  pub none : HasNoNul names offset → name_of names offset ≡ Err unexpected_eof

-- the rules of a string table: its header is whole and has the signature, the names fit, and their version is known
abbrev pub names_rules : List ℕ → List Rule
names_rules stream =
    (length stream < 12 ⇒ unexpected_eof)
    ∷ (word_at 0 stream ≢ names_signature ⇒ unimplemented_feature (codes "invalid string table signature"))
    ∷ (length stream < 12 + word_at 8 stream ⇒ unexpected_eof)
    ∷ ((word_at 4 stream ≢ 1) × (word_at 4 stream ≢ 2)
    ⇒ unimplemented_feature (codes "unknown string table hash version"))
    ∷ []

-- the rule of a name: there is a NUL at its offset or after it
abbrev pub name_rules : List ℕ → ℕ → List Rule
name_rules names offset = (HasNoNul names offset ⇒ unexpected_eof) ∷ []
