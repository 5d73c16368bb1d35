-- The bits of a class that no field takes.
use Rattle.std.specs.Prelude.{◌≡◌, ℕ, ◌+◌, ◌-◌, ◌*◌, ◌/◌, ◌%◌, ◌≤◌, max, Bool, true, false, ◌&&◌, nat_lt, if◌then◌else◌}
use Rattle.std.specs.Prelude.{List, [], ◌∷◌, map}
use Rattle.std.specs.List.{All, list_any}
use Rattle.pdb_types.specs.declared.gap.Gap.{Gap}
use Rattle.pdb_types.specs.declared.gap.GapKind.{GapKind}
use Rattle.pdb_types.specs.declared.gap.GapKind.TheVariants.{Hole, UnusedBits, VirtualBases}
use Rattle.pdb_types.specs.declared.span.Span.{Span}
use Rattle.pdb_types.specs.Span.{AreGaps, holds}

-- a field takes a bit
abbrev pub IsTaken : List Span → ℕ → Type 0
IsTaken spans bit = list_any (holds bit) spans ≡ true

-- a span of bits has those of whole bytes
pub record IsWholeBytes (bits : Span) : Type 0 where
  pub start : bits.start % 8 ≡ 0
  pub end : bits.end % 8 ≡ 0

-- A hole has whole bytes. If the class has virtual base classes, a field takes a bit behind it.
pub record IsHole (spans : List Span) (virtual : Bool) (bits : Span) : Type 0 where
  pub whole : IsWholeBytes bits
  pub before : virtual ≡ true → (bit : ℕ) × (bits.end ≤ bit) × IsTaken spans bit

-- each bit of unused bits is in a byte of which a field takes some bit
abbrev pub AreUnusedBits : List Span → Span → Type 0
AreUnusedBits spans bits = (bit : ℕ) → holds bit bits ≡ true → (other : ℕ) × (other / 8 ≡ bit / 8) × IsTaken spans other

-- The virtual bases have whole bytes up to the end of a class that has virtual base classes. No field takes a bit
-- there or behind.
pub record AreVirtualBases (spans : List Span) (size : ℕ) (virtual : Bool) (bits : Span) : Type 0 where
  pub has : virtual ≡ true
  pub whole : IsWholeBytes bits
  pub ends : bits.end ≡ size * 8
  pub last : (bit : ℕ) → bits.start ≤ bit → list_any (holds bit) spans ≡ false

-- bits of a class that are of a kind
abbrev pub AreOfKind : List Span → ℕ → Bool → GapKind → Span → Type 0
AreOfKind spans size virtual Hole bits = IsHole spans virtual bits
AreOfKind spans size virtual UnusedBits bits = AreUnusedBits spans bits
AreOfKind spans size virtual VirtualBases bits = AreVirtualBases spans size virtual bits

-- Rows are the gaps of a class whose fields take these spans of bits: each bit of the class that no field takes is
-- in exactly one row, no other bit is in any, and each row is of its kind.
pub record AreGapRows (spans : List Span) (size : ℕ) (virtual : Bool) (rows : List Gap) : Type 0 where
  pub gaps : AreGaps spans (size * 8) (map (λ row. row.bits) rows)
  pub kinds : All (λ row. AreOfKind spans size virtual row.kind row.bits) rows

-- the bytes of which a span of bits has some
abbrev pub bytes_touched : Span → Span
bytes_touched bits = if nat_lt bits.start bits.end then record
    { start = bits.start / 8; end = (bits.end - 1) / 8 + 1 } else record { start = 0; end = 0 }

-- the greatest end of spans
abbrev pub greatest_end : List Span → ℕ
greatest_end [] = 0
greatest_end (span ∷ spans) = max span.end (greatest_end spans)

-- the byte where the virtual bases of a class begin: behind its fields if it has any, and else behind the class
abbrev pub tail_start : List Span → ℕ → Bool → ℕ
tail_start bytes size virtual = if virtual && nat_lt (greatest_end bytes) size then greatest_end bytes else size

-- the bits of bytes
abbrev pub bits_in : Span → Span
bits_in bytes = record { start = bytes.start * 8; end = bytes.end * 8 }

-- a row of each kind
abbrev pub hole_row : Span → Gap
hole_row bytes = record { kind = Hole; bits = bits_in bytes }

abbrev pub tail_row : Span → Gap
tail_row bytes = record { kind = VirtualBases; bits = bits_in bytes }

abbrev pub unused_row : Span → Gap
unused_row bits = record { kind = UnusedBits; bits = bits }
