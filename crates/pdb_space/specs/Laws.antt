-- What sums, comparisons and conversions of addresses come to, and the definitions of tables, ranges and
-- sections, stated in other words.
use Rattle.std.specs.Prelude.{◌≡◌, ◌≢◌, ◌↔◌, ◌⊎◌, ◌+◌, ◌-◌, ◌%◌, ◌<◌, ◌≤◌, ℕ, List, [], ◌∷◌, length, slice_get, codes}
use Rattle.std.specs.Prelude.{Option, Some, None}
pub use Rattle.pdb_base.specs.Derived.{TellsApart}
use Rattle.pdb_base.specs.Refusal.{invalid_stream_length}
use Rattle.pdb_base.specs.Rules.{Rule, ◌⇒◌}
use Rattle.pdb_space.specs.declared.section_header.ImageSectionHeader.{ImageSectionHeader}
use Rattle.pdb_space.specs.Omap.{OmapValue}
use Rattle.pdb_space.specs.Conversions.{AddressMapValue, rva_to_internal_rva, internal_rva_to_rva}
use Rattle.std.specs.declared.cmp.Ordering.{Ordering}
use Rattle.std.specs.declared.cmp.Ordering.TheVariants.{Less, Equal, Greater}
use Rattle.std.specs.Ordering.{MatchOrdering}
use Rattle.pdb_space.specs.Sum.{Fits, if_fits_32_bits, clip_to_32_bits, wrap_to_32_bits, largest, distance_from}
use Rattle.pdb_space.specs.Sum.{wrapped_distance_from}
use Rattle.pdb_space.specs.SectionPlace.{SectionPlace}

-- A number of at most 32 bits stays as it is. For a larger number, `if_fits_32_bits` gives None and
-- `clip_to_32_bits` the largest number of 32 bits.
pub record IsCutToFit (number : ℕ) : Type 0 where
  pub fits : Fits number → (if_fits_32_bits number ≡ Some number) × (clip_to_32_bits number ≡ number)
      × (wrap_to_32_bits number ≡ number)
  pub past : largest < number → (if_fits_32_bits number ≡ None) × (clip_to_32_bits number ≡ largest)

-- The start plus the distance of a number from it is the number.
pub record IsReached (start number : ℕ) : Type 0 where
  pub straight : (far : ℕ) → distance_from start number ≡ Some far → start + far ≡ number
  pub wrapping : Fits start → Fits number → wrap_to_32_bits (start + wrapped_distance_from start number) ≡ number

-- Numbers compare as less, equal or greater in their usual order.
abbrev pub OrdersByNumber : (ℕ → ℕ → Ordering) → Type 0
OrdersByNumber compared = (a b : ℕ) → MatchOrdering (compared a b) (a < b) (a ≡ b) (b < a)

-- Places don't compare if and only if they are in different sections. They compare as equal if and
-- only if they are the same place, and as less or greater if and only if they are in the same
-- section and their offsets compare so.
pub record OrdersWithinSections (compared : SectionPlace → SectionPlace → Option Ordering) : Type 0 where
  pub across : (a b : SectionPlace) → (compared a b ≡ None) ↔ (a.section ≢ b.section)
  pub equal : (a b : SectionPlace) → (compared a b ≡ Some Equal) ↔ (a ≡ b)
  pub less : (a b : SectionPlace) → (compared a b ≡ Some Less) ↔ ((a.section ≡ b.section) × (a.offset < b.offset))
  pub greater : (a b : SectionPlace) → (compared a b ≡ Some Greater) ↔ ((a.section ≡ b.section) × (b.offset < a.offset))

-- A value that is converted and then converted back is the same value.
abbrev pub IsUndone : {A B : Type 0} → (A → B → Type 0) → (B → A → Type 0) → Type 0
IsUndone {A} {B} made back = (x y : A) (between : B) → made x between → back between y → y ≡ x

-- Each of two conversions undoes the other.
abbrev pub UndoEachOther : {A B : Type 0} → (A → B → Type 0) → (B → A → Type 0) → Type 0
UndoEachOther made back = IsUndone made back × IsUndone back made

-- A record comes before those with a higher source and, among records with the same source,
-- before those with a higher target.
abbrev pub ComesBefore : OmapValue → OmapValue → Type 0
ComesBefore a b = (a.source < b.source) ⊎ ((a.source ≡ b.source) × (a.target < b.target))

-- Records compare as less, equal or greater by `ComesBefore`.
abbrev pub OrdersBySource : (OmapValue → OmapValue → Ordering) → Type 0
OrdersBySource compared = (a b : OmapValue) → MatchOrdering (compared a b) (ComesBefore a b) (a ≡ b) (ComesBefore b a)

-- With each item that an iterator yields, it has fewer left. After it has yielded None, it yields only None.
pub record EndsForGood {S A : Type 0} (next_gives : S → Option A → S → Type 0) (left : S → ℕ) : Type 0 where
  pub fewer : (before after : S) (item : A) → next_gives before (Some item) after → left after < left before
  pub ended : (before after later : S) (answer : Option A) → next_gives before None after
      → next_gives after answer later → answer ≡ None

-- If no table leads to the other image, an address has the same number there.
pub record KeepsNumbers (map : AddressMapValue) (address : ℕ) : Type 0 where
  pub internal : map.transformed_to_original ≡ None → rva_to_internal_rva map address ≡ Some address
  pub loaded : map.original_to_transformed ≡ None → internal_rva_to_rva map address ≡ Some address

-- The place of an address in the section at an index. All sections up to that one begin at or below the
-- address, and it is the first that reaches the address. Its number, which is the index plus one, fits in 16
-- bits, and the offset of the place is the distance of the address from the section's start.
pub record IsFirstToReach (sections : List ImageSectionHeader) (address : ℕ) (place : SectionPlace) : Type 0 where
  pub index : ℕ
  pub section : ImageSectionHeader
  pub at_index : slice_get sections index ≡ Some section
  pub begun : (k : ℕ) (other : ImageSectionHeader) → k ≤ index → slice_get sections k ≡ Some other
      → other.virtual_address ≤ address
  pub reached : address - section.virtual_address < section.size_of_raw_data
  pub first : (k : ℕ) (other : ImageSectionHeader) → k < index → slice_get sections k ≡ Some other
      → other.size_of_raw_data ≤ address - other.virtual_address
  pub numbered : place.section ≡ index + 1
  pub fits : index + 1 ≤ 0xffff
  pub distance : place.offset ≡ address - section.virtual_address

-- the rule of an OMAP table: its records have eight bytes each
abbrev pub omap_rules : List ℕ → List Rule
omap_rules stream = (length stream % 8 ≢ 0 ⇒ invalid_stream_length (codes "OMAP")) ∷ []
