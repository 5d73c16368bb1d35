-- Sections one after another, and the way back from a place to its address.
use Rattle.std.proofs.Common.{◌≡◌, ◌↔◌, ℕ, zero, suc, ◌+◌, ◌-◌, ◌<◌, ◌≤◌, true, false, leb, ltb, eqb, List, [], ◌∷◌}
use Rattle.std.proofs.Common.{get_or, drop, length, refl, sym, ap, subst, ◌∙◌, inl, inr, arith, Some, None, Option, Ok}
use Rattle.std.proofs.Common.{Err, Result}
use Rattle.std.specs.List.{slice_get, take_while, prefix_len}
use Rattle.std.specs.Option.{option_and_then}
use Rattle.std.specs.Result.{OkIff, result_ok}
use Rattle.std.proofs.lemmas.List.{at_drop_more, drop_all}
use Rattle.std.proofs.lemmas.Bool.{cases_lt, le-ltb, lt-ltb, le-leb, lt-leb, ne_eqb}
use Rattle.std.proofs.lemmas.Option.{none-some, same_Some}
use Rattle.pdb_space.specs.declared.section_header.ImageSectionHeader.{ImageSectionHeader}
use Rattle.pdb_space.specs.Sum.{largest, if_fits_32_bits}
use Rattle.pdb_space.specs.SectionPlace.{SectionPlace}
use Rattle.pdb_space.specs.Laws.{IsFirstToReach}
use Rattle.pdb_space.specs.Sections.{begins_by, place_in, section_from, section_of, address_of}

-- ---- the first section of a list

take_while-on : (a : ℕ) (here : ImageSectionHeader) (rest : List ImageSectionHeader) → here.virtual_address ≤ a
    → take_while (begins_by a) (here ∷ rest) ≡ here ∷ take_while (begins_by a) rest
take_while-on a here rest at =
    let begun : leb here.virtual_address a ≡ true = le-leb here.virtual_address a at in
    let one : 1 + prefix_len (begins_by a) rest ≡ suc (prefix_len (begins_by a) rest) = omega arith in
    rw (begun, one) refl

take_while-stop : (a : ℕ) (here : ImageSectionHeader) (rest : List ImageSectionHeader) → a < here.virtual_address
    → take_while (begins_by a) (here ∷ rest) ≡ []
take_while-stop a here rest above =
    let begun : leb here.virtual_address a ≡ false = lt-leb here.virtual_address a above in
    rw begun refl

-- it ends the search where it begins above the address,
pub from-above : (first : ℕ) (here : ImageSectionHeader) (rest : List ImageSectionHeader) (a : ℕ)
    → a < here.virtual_address → section_from first (here ∷ rest) a ≡ None
unfolding section_from
from-above first here rest a above = rw (take_while-stop a here rest above) refl

-- is the one where it reaches it,
pub from-here : (first : ℕ) (here : ImageSectionHeader) (rest : List ImageSectionHeader) (a : ℕ)
    → here.virtual_address ≤ a → a - here.virtual_address < here.size_of_raw_data
    → section_from first (here ∷ rest) a ≡ place_in a (first, here)
unfolding section_from
from-here first here rest a at within =
    let reached : ltb (a - here.virtual_address) here.size_of_raw_data ≡ true =
    lt-ltb (a - here.virtual_address) here.size_of_raw_data within in
    rw (take_while-on a here rest at, reached) refl

-- and else is passed by
pub from-later : (first : ℕ) (here : ImageSectionHeader) (rest : List ImageSectionHeader) (a : ℕ)
    → here.virtual_address ≤ a → here.size_of_raw_data ≤ a - here.virtual_address
    → section_from first (here ∷ rest) a ≡ section_from (first + 1) rest a
unfolding section_from
from-later first here rest a at short =
    let reached : ltb (a - here.virtual_address) here.size_of_raw_data ≡ false =
    le-ltb (a - here.virtual_address) here.size_of_raw_data short in
    rw (take_while-on a here rest at, reached) refl

-- ---- the way back

-- the address of an offset in the section at an index
abbrev address_at : List ImageSectionHeader → ℕ → ℕ → Option ℕ
address_at sections index offset = option_and_then (λ section. if_fits_32_bits (section.virtual_address + offset))
    (slice_get sections index)

-- a place that was found is in a section from the first on, and its address is what was searched for
record LeadsBack (first : ℕ) (sections : List ImageSectionHeader) (a : ℕ) (place : SectionPlace) : Type 0 where
  from : first ≤ place.section
  back : address_at sections (place.section - first) place.offset ≡ Some a

in-first : (first : ℕ) (here : ImageSectionHeader) (rest : List ImageSectionHeader) (a : ℕ) (place : SectionPlace)
    → a ≤ largest → here.virtual_address ≤ a → place_in a (first, here) ≡ Some place
    → LeadsBack first (here ∷ rest) a place
in-first first here rest a place fits at found =
    let same : first - first ≡ 0 = omega arith in
    let sum : here.virtual_address + (a - here.virtual_address) ≡ a = omega arith in
    let held : leb a largest ≡ true = le-leb a largest fits in
    elim (cases_lt 0xffff first) [
      | inl past ↦ let no : leb first 0xffff ≡ false = lt-leb first 0xffff past in
          absurd (none-some place (sym (sym found ∙ rw no refl)))
      | inr numbered ↦
          let yes : leb first 0xffff ≡ true = le-leb first 0xffff numbered in
          let is : record { section = first; offset = a - here.virtual_address } ≡ place =
          same_Some (record { section = first; offset = a - here.virtual_address }) place
          (sym (rw yes refl) ∙ found) in
          subst (λ (p : SectionPlace). LeadsBack first (here ∷ rest) a p) is
          (record { from = omega arith; back = rw (same, sum, held) refl })
    ]

in-rest : (first : ℕ) (here : ImageSectionHeader) (rest : List ImageSectionHeader) (a : ℕ) (place : SectionPlace)
    → LeadsBack (first + 1) rest a place → LeadsBack first (here ∷ rest) a place
in-rest first here rest a place there =
    let one : place.section - first ≡ suc (place.section - (first + 1)) = omega (arith, there.from) in
    record { from = omega (arith, there.from); back = rw one there.back }

leads_back : (first : ℕ) (sections : List ImageSectionHeader) (a : ℕ) (place : SectionPlace) → a ≤ largest
    → section_from first sections a ≡ Some place → LeadsBack first sections a place
unfolding section_from
leads_back first [] a place fits found = absurd cc
leads_back first (here ∷ rest) a place fits found =
    elim (cases_lt a here.virtual_address) [
      | inl above ↦ absurd (none-some place (sym (from-above first here rest a above) ∙ found))
      | inr at ↦ elim (cases_lt (a - here.virtual_address) here.size_of_raw_data) [
        | inl within ↦ in-first first here rest a place fits at (sym (from-here first here rest a at within) ∙ found)
        | inr short ↦ in-rest first here rest a place
            (leads_back (first + 1) rest a place fits (sym (from-later first here rest a at short) ∙ found))
      ]
    ]

pub section_back : (sections : List ImageSectionHeader) (a : ℕ) (place : SectionPlace) → a ≤ largest
    → section_of sections a ≡ Some place → address_of sections place ≡ Some a
unfolding address_of
section_back sections a place fits found =
    let there = leads_back 1 sections a place fits found in
    let some : eqb place.section 0 ≡ false = ne_eqb place.section 0
    (λ (zero_ : place.section ≡ 0). omega (arith, there.from)) in
    rw some there.back

-- ---- a section at an index

-- a header without a name, of which all numbers are 0
abbrev pub blank : ImageSectionHeader
blank = record {
  name = [];
  virtual_size = 0;
  virtual_address = 0;
  size_of_raw_data = 0;
  pointer_to_raw_data = 0;
  pointer_to_relocations = 0;
  pointer_to_line_numbers = 0;
  number_of_relocations = 0;
  number_of_line_numbers = 0;
  characteristics = record { 0 = 0 };
}

abbrev header_at : List ImageSectionHeader → ℕ → ImageSectionHeader
header_at sections index = get_or sections index blank

pub at-above : (first index : ℕ) (sections : List ImageSectionHeader) (a : ℕ) → index < length sections
    → ((header_at sections index).virtual_address ≤ a → ⊥) → section_from first (drop index sections) a ≡ None
at-above first index sections a there above =
    at_drop_more (λ (rest : List ImageSectionHeader). section_from first rest a) sections index blank there
    ∙ from-above first (header_at sections index) (drop (index + 1) sections) a (omega (arith, above))

pub at-here : (first index : ℕ) (sections : List ImageSectionHeader) (a : ℕ) → index < length sections
    → (header_at sections index).virtual_address ≤ a
    → a - (header_at sections index).virtual_address < (header_at sections index).size_of_raw_data
    → section_from first (drop index sections) a ≡ place_in a (first, header_at sections index)
at-here first index sections a there at within =
    at_drop_more (λ (rest : List ImageSectionHeader). section_from first rest a) sections index blank there
    ∙ from-here first (header_at sections index) (drop (index + 1) sections) a at within

pub at-later : (first index : ℕ) (sections : List ImageSectionHeader) (a : ℕ) → index < length sections
    → (header_at sections index).virtual_address ≤ a
    → (header_at sections index).size_of_raw_data ≤ a - (header_at sections index).virtual_address
    → section_from first (drop index sections) a ≡ section_from (first + 1) (drop (index + 1) sections) a
at-later first index sections a there at short =
    at_drop_more (λ (rest : List ImageSectionHeader). section_from first rest a) sections index blank there
    ∙ from-later first (header_at sections index) (drop (index + 1) sections) a at short

-- at the end there is none
pub at-end : (first index : ℕ) (sections : List ImageSectionHeader) (a : ℕ) → length sections ≤ index
    → section_from first (drop index sections) a ≡ None
unfolding section_from
at-end first index sections a past = rw (drop_all index sections past) refl

-- a number that fits 16 bits, and one that doesn't
pub numbered : {E : Type 0} (converted : Result ℕ E) (number wide : ℕ) (section : ImageSectionHeader) (a : ℕ)
    → Some number ≡ result_ok converted → OkIff converted (wide < 65536) wide
    → place_in a (wide, section) ≡ Some (record { section = number; offset = a - section.virtual_address })
numbered (Ok x) number wide section a is fits =
    let held : leb wide 0xffff ≡ true = le-leb wide 0xffff (omega (arith, fits.0)) in
    let same : wide ≡ number = sym (same_Some number x is ∙ fits.1) in
    rw held (ap (λ (n : ℕ). Some (record { section = n; offset = a - section.virtual_address })) same)
numbered (Err e) number wide section a is fits = absurd (none-some number (sym is))

pub unnumbered : {E : Type 0} (converted : Result ℕ E) (wide : ℕ) (section : ImageSectionHeader) (a : ℕ)
    → None ≡ result_ok converted → OkIff converted (wide < 65536) wide → place_in a (wide, section) ≡ None
unnumbered (Ok x) wide section a is fits = absurd (none-some x is)
unnumbered (Err e) wide section a is past =
    let no : leb wide 0xffff ≡ false = lt-leb wide 0xffff (omega (arith, past)) in
    rw no refl

-- ---- the first section to reach an address

-- what holds of the first section and of so many behind it
each-more : (P : ImageSectionHeader → Type 0) (here : ImageSectionHeader) (rest : List ImageSectionHeader) (count : ℕ)
    → P here
    → ((k : ℕ) (other : ImageSectionHeader) → k < count → slice_get rest k ≡ Some other → P other)
    → (k : ℕ) (other : ImageSectionHeader) → k < suc count → slice_get (here ∷ rest) k ≡ Some other → P other
each-more P here rest count first others zero other within at_k = subst P (same_Some here other at_k) first
each-more P here rest count first others (suc k) other within at_k = others k other (omega arith) at_k

-- the same as `IsFirstToReach`, where sections are numbered from `first_number` on
record FirstFrom (first_number : ℕ) (sections : List ImageSectionHeader) (a : ℕ) (place : SectionPlace) : Type 0 where
  index : ℕ
  section : ImageSectionHeader
  at_index : slice_get sections index ≡ Some section
  begun : (k : ℕ) (other : ImageSectionHeader) → k < suc index → slice_get sections k ≡ Some other
      → other.virtual_address ≤ a
  reached : a - section.virtual_address < section.size_of_raw_data
  first : (k : ℕ) (other : ImageSectionHeader) → k < index → slice_get sections k ≡ Some other
      → other.size_of_raw_data ≤ a - other.virtual_address
  number : place.section ≡ first_number + index
  fits : first_number + index ≤ 0xffff
  distance : place.offset ≡ a - section.virtual_address

first-found : (n : ℕ) (here : ImageSectionHeader) (rest : List ImageSectionHeader) (a : ℕ) (place : SectionPlace)
    → here.virtual_address ≤ a → a - here.virtual_address < here.size_of_raw_data → place_in a (n, here) ≡ Some place
    → FirstFrom n (here ∷ rest) a place
first-found n here rest a place at within found =
    elim (cases_lt 0xffff n) [
      | inl past ↦ let no : leb n 0xffff ≡ false = lt-leb n 0xffff past in
          absurd (none-some place (sym (sym found ∙ rw no refl)))
      | inr held ↦
          let yes : leb n 0xffff ≡ true = le-leb n 0xffff held in
          let is : record { section = n; offset = a - here.virtual_address } ≡ place =
          same_Some (record { section = n; offset = a - here.virtual_address }) place (sym (rw yes refl) ∙ found) in
          record {
            index = 0;
            section = here;
            at_index = refl;
            begun = each-more (λ s. s.virtual_address ≤ a) here rest 0 at (λ k other none. absurd (omega arith));
            reached = within;
            first = λ k other none. absurd (omega arith);
            number = sym (ap (λ (p : SectionPlace). p.section) is) ∙ omega arith;
            fits = omega arith;
            distance = sym (ap (λ (p : SectionPlace). p.offset) is);
          }
    ]

later-found : (n : ℕ) (here : ImageSectionHeader) (rest : List ImageSectionHeader) (a : ℕ) (place : SectionPlace)
    → here.virtual_address ≤ a → here.size_of_raw_data ≤ a - here.virtual_address → FirstFrom (n + 1) rest a place
    → FirstFrom n (here ∷ rest) a place
later-found n here rest a place at short there = record {
  index = suc there.index;
  section = there.section;
  at_index = there.at_index;
  begun = each-more (λ s. s.virtual_address ≤ a) here rest (suc there.index) at there.begun;
  reached = there.reached;
  first = each-more (λ s. s.size_of_raw_data ≤ a - s.virtual_address) here rest there.index short there.first;
  number = there.number ∙ omega arith;
  fits = omega (arith, there.fits);
  distance = there.distance;
}

found-from : (n : ℕ) (sections : List ImageSectionHeader) (a : ℕ) (place : SectionPlace)
    → section_from n sections a ≡ Some place → FirstFrom n sections a place
unfolding section_from
found-from n [] a place found = absurd cc
found-from n (here ∷ rest) a place found =
    elim (cases_lt a here.virtual_address) [
      | inl above ↦ absurd (none-some place (sym (from-above n here rest a above) ∙ found))
      | inr at ↦ elim (cases_lt (a - here.virtual_address) here.size_of_raw_data) [
        | inl within ↦ first-found n here rest a place at within (sym (from-here n here rest a at within) ∙ found)
        | inr short ↦ later-found n here rest a place at short
            (found-from (n + 1) rest a place (sym (from-later n here rest a at short) ∙ found))
      ]
    ]

only-from : (n index : ℕ) (sections : List ImageSectionHeader) (section : ImageSectionHeader) (a : ℕ)
    (place : SectionPlace) → slice_get sections index ≡ Some section
    → ((k : ℕ) (other : ImageSectionHeader) → k < suc index → slice_get sections k ≡ Some other
    → other.virtual_address ≤ a)
    → a - section.virtual_address < section.size_of_raw_data
    → ((k : ℕ) (other : ImageSectionHeader) → k < index → slice_get sections k ≡ Some other
    → other.size_of_raw_data ≤ a - other.virtual_address)
    → place.section ≡ n + index → n + index ≤ 0xffff → place.offset ≡ a - section.virtual_address
    → section_from n sections a ≡ Some place
only-from n index [] section a place at_index begun reached first number fits distance =
    absurd (none-some section at_index)
only-from n zero (here ∷ rest) section a place at_index begun reached first number fits distance =
    let held : leb n 0xffff ≡ true = le-leb n 0xffff (omega (arith, fits)) in
    let is : here ≡ section = same_Some here section at_index in
    let within : a - here.virtual_address < here.size_of_raw_data =
    subst (λ (s : ImageSectionHeader). a - s.virtual_address < s.size_of_raw_data) (sym is) reached in
    let one : n ≡ place.section = omega (arith, number) in
    let far : a - here.virtual_address ≡ place.offset = ap (λ (s : ImageSectionHeader). a - s.virtual_address) is
    ∙ sym distance in
    from-here n here rest a (begun 0 here (omega arith) refl) within
    ∙ rw held (ap (λ (m : ℕ). Some (record { section = m; offset = a - here.virtual_address })) one
    ∙ ap (λ (m : ℕ). Some (record { section = place.section; offset = m })) far)
only-from n (suc index) (here ∷ rest) section a place at_index begun reached first number fits distance =
    from-later n here rest a (begun 0 here (omega arith) refl) (first 0 here (omega arith) refl)
    ∙ only-from (n + 1) index rest section a place at_index
    (λ k other within at_k. begun (suc k) other (omega arith) at_k) reached
    (λ k other within at_k. first (suc k) other (omega arith) at_k) (omega (arith, number))
    (omega (arith, fits)) distance

pub finds_first : (sections : List ImageSectionHeader) (address : ℕ) (place : SectionPlace)
    → (section_of sections address ≡ Some place) ↔ IsFirstToReach sections address place
finds_first sections address place = (
  λ found. let there = found-from 1 sections address place found in record {
    index = there.index;
    section = there.section;
    at_index = there.at_index;
    begun = λ k other within at_k. there.begun k other (omega arith) at_k;
    reached = there.reached;
    first = there.first;
    numbered = there.number ∙ omega arith;
    fits = omega (arith, there.fits);
    distance = there.distance;
  },
  λ is. only-from 1 is.index sections is.section address place is.at_index
      (λ k other within at_k. is.begun k other (omega arith) at_k) is.reached is.first (omega (arith, is.numbered))
      (omega (arith, is.fits)) is.distance,
)
