-- The shapes of the fields in a record, and the bytes that spell their values. The shapes are those of
-- the records in Microsoft's cvinfo.h.
use Rattle.std.specs.Prelude.{◌≡◌, ℕ, Bool, true, false, ◌==◌, ◌||◌, nat_lt, if◌then◌else◌, List, [], length, Option}
use Rattle.std.specs.Prelude.{Some, None, Ok, Err, IsTrue}
use Rattle.pdb_base.specs.declared.index.IdIndex.{IdIndex}
use Rattle.pdb_base.specs.declared.index.TypeIndex.{TypeIndex}
use Rattle.pdb_base.specs.declared.variant.Variant.{Variant}
use Rattle.pdb_base.specs.Refusal.{unimplemented_type_kind}
use Rattle.pdb_base.specs.Answer.{Answer, ◌>>=◌}
use Rattle.pdb_base.specs.Reading.{number_at, text_at, pascal_text_at}
use Rattle.pdb_base.specs.Numeric.{num_at, variant_at}
use Rattle.pdb_base.specs.Spelling.{SpellsNumber, SpellsNum, SpellsVariant, SpellsText, SpellsPascalText}
use Rattle.pdb_flags.specs.PointerAttributes.{is_pointer_word}
use Rattle.pdb_base.specs.Repeated.{SpellsEach, read_times}

-- the shape of a field in a record
pub data Shape : Type 0 where
  u8 u16 u32 : Shape  -- a number, its lowest byte first
  num : Shape  -- a number of variable width, without a sign
  variant : Shape  -- a number of variable width, in its width
  type_index id_index : Shape  -- the index of a type, and of an id
  some_type some_id : Shape  -- the same, or none
  pointer_word : Shape  -- the attributes of a pointer
  text : ℕ → Shape  -- a text in a record of a leaf
  when : Bool → Shape → Shape  -- what stands there only under a condition
  times : ℕ → Shape → Shape  -- so many of a shape

-- the type of the values of a shape
abbrev pub Value : Shape → Type 0
Value u8 = ℕ
Value u16 = ℕ
Value u32 = ℕ
Value num = ℕ
Value variant = Variant
Value type_index = TypeIndex
Value id_index = IdIndex
Value some_type = Option TypeIndex
Value some_id = Option IdIndex
Value pointer_word = ℕ
Value (text leaf) = List ℕ
Value (when test shape) = Option (Value shape)
Value (times count shape) = List (Value shape)

-- the type of this index
abbrev pub as_type : ℕ → TypeIndex
as_type n = record { 0 = n }

-- the id of this index
abbrev pub as_id : ℕ → IdIndex
as_id n = record { 0 = n }

-- the type that an index names: 0 and 0xffff name none
abbrev pub type_named : ℕ → Option TypeIndex
type_named n = if n == 0 || n == 0xffff then None else Some (as_type n)

-- the id that an index names: 0 names none
abbrev pub id_named : ℕ → Option IdIndex
id_named n = if n == 0 then None else Some (as_id n)

-- the last leaf whose texts have their length before them: LF_ST_MAX
abbrev pub last_pascal_leaf : ℕ
last_pascal_leaf = 0x1500

-- whether texts in records of a leaf end with a NUL; in the others their length stands before them
abbrev pub ends_texts : ℕ → Bool
ends_texts leaf = nat_lt last_pascal_leaf leaf

-- a text that ends with a NUL, or one that has its length before it
abbrev pub SpellsTextBy : Bool → List ℕ → List ℕ → Type 0
SpellsTextBy true = SpellsText
SpellsTextBy false = SpellsPascalText

-- a number of four bytes, and the value that `said` makes of it
pub record SpellsIndex {A : Type 0} (said : ℕ → A) (value : A) (front : List ℕ) : Type 0 where
  pub number : ℕ
  pub spelled : SpellsNumber 4 number front
  pub is : said number ≡ value

-- a word of four bytes that is a valid word of pointer attributes: it has a kind and a mode of pointer
pub record SpellsPointer (word : ℕ) (front : List ℕ) : Type 0 where
  pub spelled : SpellsNumber 4 word front
  pub good : IsTrue (is_pointer_word word)

-- a field that is present only under a condition: it has no bytes if the condition fails
abbrev pub SpellsWhen : {A : Type 0} → (A → List ℕ → Type 0) → Bool → Option A → List ℕ → Type 0
SpellsWhen Spells true (Some value) front = Spells value front
SpellsWhen Spells true None front = ⊥
SpellsWhen Spells false (Some value) front = ⊥
SpellsWhen Spells false None front = front ≡ []

-- `count` values, one after another
pub record SpellsTimes {A : Type 0} (Spells : A → List ℕ → Type 0) (count : ℕ) (values : List A)
    (front : List ℕ) : Type 0 where
  pub len : length values ≡ count
  pub each : SpellsEach Spells values front

-- the bytes that spell a value of a shape
abbrev pub Spells : (shape : Shape) → Value shape → List ℕ → Type 0
Spells u8 = SpellsNumber 1
Spells u16 = SpellsNumber 2
Spells u32 = SpellsNumber 4
Spells num = SpellsNum
Spells variant = SpellsVariant
Spells type_index = SpellsIndex as_type
Spells id_index = SpellsIndex as_id
Spells some_type = SpellsIndex type_named
Spells some_id = SpellsIndex id_named
Spells pointer_word = SpellsPointer
Spells (text leaf) = SpellsTextBy (ends_texts leaf)
Spells (when test shape) = SpellsWhen (Spells shape) test
Spells (times count shape) = SpellsTimes (Spells shape) count

-- ---- what is read

-- the leaf of pointers: LF_POINTER
abbrev pub pointer_leaf : ℕ
pointer_leaf = 0x1002

-- reads an index of four bytes, and returns what `said` makes of it
abbrev pub index_at : {A : Type 0} → (ℕ → A) → List ℕ → Answer (A × List ℕ)
index_at said bytes = number_at 4 bytes >>= λ n. Ok (said n.0, n.1)

-- reads the attributes of a pointer; a word without a kind and a mode is refused with the leaf of
-- pointers
abbrev pub pointer_word_at : List ℕ → Answer (ℕ × List ℕ)
pointer_word_at bytes = number_at 4 bytes
    >>= λ n. if is_pointer_word n.0 then Ok n else Err (unimplemented_type_kind pointer_leaf)

-- reads a text that ends with a NUL, or one that has its length before it
abbrev pub text_by : Bool → List ℕ → Answer (List ℕ × List ℕ)
text_by true = text_at
text_by false = pascal_text_at

-- reads a field that is present only under a condition
abbrev pub when_at : {A : Type 0} → Bool → (List ℕ → Answer (A × List ℕ)) → List ℕ → Answer (Option A × List ℕ)
when_at true read bytes = read bytes >>= λ x. Ok (Some x.0, x.1)
when_at false read bytes = Ok (None, bytes)

-- reads a value of a shape at the front of bytes
abbrev pub read_shape : (shape : Shape) → List ℕ → Answer (Value shape × List ℕ)
read_shape u8 = number_at 1
read_shape u16 = number_at 2
read_shape u32 = number_at 4
read_shape num = num_at
read_shape variant = variant_at
read_shape type_index = index_at as_type
read_shape id_index = index_at as_id
read_shape some_type = index_at type_named
read_shape some_id = index_at id_named
read_shape pointer_word = pointer_word_at
read_shape (text leaf) = text_by (ends_texts leaf)
read_shape (when test shape) = when_at test (read_shape shape)
read_shape (times count shape) = read_times (read_shape shape) count
