-- The rows of a layout.
use Rattle.std.proofs.Common.{◌≡◌, ℕ, suc, ◌*◌, ◌<◌, ◌≤◌, ◌^◌, List, [], ◌∷◌, map, refl, sym, ap, subst}
use Rattle.std.proofs.Common.{arith, Bool, ◌||◌, inl, Some, Ok}
use Rattle.std.specs.List.{All, list_any}
use Rattle.std.proofs.lemmas.List.Elements.{All-cons, All-nil, All-weaker}
use Rattle.std.proofs.lemmas.Simd.{map-map}
use Rattle.pdb_types.specs.declared.gap.Gap.{Gap}
use Rattle.pdb_types.specs.declared.layout.Layout.{Layout}
use Rattle.pdb_types.specs.declared.layout.LayoutField.{LayoutField}
use Rattle.pdb_types.specs.declared.span.Span.{Span}
use Rattle.pdb_types.specs.Gap.{AreGapRows}
use Rattle.pdb_types.specs.Layout.{HasGaps, field_span, field_value, is_virtual_field, layout_value}
use Rattle.pdb_handles.specs.declared.layout_row.LayoutRow.{LayoutRow}
use Rattle.pdb_handles.specs.Listing.{Listed, ended_names, rows_copied}
use Rattle.pdb_handles.specs.LayoutRow.{LaysOutOrLacks, field_name, is_virtual_value, rows_of}
use Rattle.pdb_handles.specs.LayoutRow.{value_span}

abbrev row_bits : Gap → Span
row_bits row = row.bits

-- what holds of the bits of each gap
all_bits : (P : Span → Type 0) (rows : List Gap) → All P (map row_bits rows) → All (λ row. P row.bits) rows
all_bits P [] h = All-nil (λ row. P row.bits)
all_bits P (row ∷ rows) h =
    All-cons (λ row. P row.bits) row rows (h 0 row.bits (omega arith))
    (all_bits P rows (λ k d lt. h (suc k) d (omega (arith, lt))))

pub gaps_order : (spans : List Span) (size : ℕ) (virtual : Bool) (rows gaps : List Gap)
    → AreGapRows spans size virtual rows → gaps ≡ rows → All (λ gap. gap.bits.start < gap.bits.end) gaps
gaps_order spans size virtual rows gaps are is =
    rw is (all_bits (λ bits. bits.start < bits.end) rows are.gaps.some)

pub gaps_within : (spans : List Span) (size : ℕ) (virtual : Bool) (rows gaps : List Gap)
    → AreGapRows spans size virtual rows → gaps ≡ rows → size < 2 ^ 64 → All (λ gap. gap.bits.end < 2 ^ 67) gaps
gaps_within spans size virtual rows gaps are is below =
    rw is (all_bits (λ bits. bits.end < 2 ^ 67) rows
    (All-weaker (λ (bits : Span). bits.end ≤ size * 8) (λ (bits : Span). bits.end < 2 ^ 67)
    (λ bits le. omega (arith, below, le)) (map row_bits rows) are.gaps.within))

virtual_seen : (fields : List LayoutField)
    → list_any is_virtual_field fields ≡ list_any is_virtual_value (map field_value fields)
virtual_seen [] = refl
virtual_seen (field ∷ fields) = ap (λ (b : Bool). is_virtual_field field || b) (virtual_seen fields)

-- the gaps of a layout are those that the values of its fields leave
pub gaps_seen : (fields : List LayoutField) (size : ℕ) (rows : List Gap)
    → AreGapRows (map field_span fields) size (list_any is_virtual_field fields) rows
    → AreGapRows (map value_span (map field_value fields)) size
    (list_any is_virtual_value (map field_value fields)) rows
gaps_seen fields size rows are =
    let P : List Span → Type 0 = λ l. AreGapRows l size (list_any is_virtual_field fields) rows in
    let Q : Bool → Type 0 = λ b. AreGapRows (map value_span (map field_value fields)) size b rows in
    subst Q (virtual_seen fields) (subst P (sym (map-map value_span field_value fields)) are)

-- the rows of a layout, which are written with the names of its fields
pub laid_out : (layout : Layout) (rows all : List LayoutRow) (names more : List ℕ) (told : Listed LayoutRow)
    → HasGaps layout → all ≡ rows_of (layout_value layout).fields layout.gaps.items
    → more ≡ ended_names field_name (layout_value layout).fields → told ≡ rows_copied rows names all more
    → LaysOutOrLacks rows names (Ok (Some (layout_value layout))) told
laid_out layout rows all names more told has are called is =
    inl (record {
      gaps = layout.gaps.items;
      are = gaps_seen layout.fields.items layout.size layout.gaps.items has;
      done = rw (← are, ← called) is;
    })
