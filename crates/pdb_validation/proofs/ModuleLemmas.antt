-- The entries of modules, one behind another.
use Rattle.std.proofs.Common.{◌≡◌, ◌≢◌, ℕ, zero, suc, ◌+◌, ◌-◌, ◌*◌, ◌<◌, ◌≤◌, List, [], ◌∷◌, ◌++◌, length, refl, sym}
use Rattle.std.proofs.Common.{◌∙◌, arith, inl, inr, Option, eqb, false, Ok}
use Rattle.std.specs.Int.{div_ceil}
use Rattle.std.specs.Option.{option_map, option_to_list}
use Rattle.std.proofs.Math.Dec.{eqb-suc-zero}
use Rattle.std.proofs.lemmas.Bool.{cases_lt, false≢true}
use Rattle.std.proofs.lemmas.Grind.{div_ceil_times}
use Rattle.std.proofs.lemmas.List.{length-drop, length-take-le}
use Rattle.pdb_base.specs.Reading.{front_at, text_at}
use Rattle.pdb_base.proofs.lemmas.Collected.{bind_ok, ok_is}
use Rattle.pdb_base.proofs.lemmas.Reading.{front_cut, front_whole}
use Rattle.pdb_msf.specs.Layout.{LayoutValue}
use Rattle.pdb_validation.specs.Mismatch.{with_further}
use Rattle.pdb_validation.specs.Modules.{entries_mismatches, module_at, entry_inconsistency, entry_mismatches}
use Rattle.pdb_validation.specs.Modules.{entry_size}
use Rattle.pdb_validation.specs.Records.{at_byte}
use Rattle.pdb_validation.specs.declared.inconsistency.Inconsistency.{Inconsistency}
use Rattle.pdb_validation.specs.declared.mismatch.Extent.{Extent}
use Rattle.pdb_validation.specs.declared.mismatch.Mismatch.{Mismatch}
use Rattle.pdb_validation.proofs.MismatchLemmas.{further_more, told}

-- there are bytes if their number is not 0
pub some_bytes : (bytes : List ℕ) → eqb (length bytes) 0 ≡ false → bytes ≢ []
some_bytes [] e none = absurd (false≢true (sym e))
some_bytes (byte ∷ bytes) e none = cc

-- ---- one entry

front_left : (count : ℕ) (bytes : List ℕ) (front : List ℕ × List ℕ) → front_at count bytes ≡ Ok front
    → length front.1 + count ≡ length bytes
front_left count bytes front is = elim (cases_lt (length bytes) count) [
  | inl short ↦ let cut = front_cut count bytes short in absurd (cc)
  | inr long ↦
      let same = sym (front_whole count bytes long) ∙ is in
      rw (← ok_is _ front same) (omega (arith, length-drop count bytes))
]

-- a text takes a byte at least, that of its NUL
text_left : (bytes : List ℕ) (text : List ℕ × List ℕ) → text_at bytes ≡ Ok text → length text.1 < length bytes
text_left [] text is = absurd cc
text_left (zero ∷ bytes) text is = rw (← ok_is ([], bytes) text is) (omega arith)
text_left (suc byte ∷ bytes) text is =
    let behind = bind_ok (text_at bytes) (λ t. Ok (suc byte ∷ t.0, t.1)) text (rw (eqb-suc-zero byte) at is) in
    let less = text_left bytes behind.0 behind.1 in
    rw (← ok_is (suc byte ∷ behind.0.0, behind.0.1) text behind.2) (omega (arith, less))

rounded : (taken all left : ℕ) → left + 66 ≤ all → taken ≡ all - left → 64 ≤ div_ceil taken 4 * 4
rounded taken all left some is = let least = div_ceil_times taken 4 (omega arith) in omega (arith, least.0, some, is)

-- an entry has its fields
pub entry_fields : (bytes : List ℕ) (size : ℕ) → entry_size bytes ≡ Ok size → 64 ≤ size
unfolding entry_size
entry_fields bytes size is =
    let fields = bind_ok (front_at 64 bytes) _ size is in
    let name = bind_ok (text_at fields.0.1) _ size fields.2 in
    let object = bind_ok (text_at name.0.1) _ size name.2 in
    let behind = front_left 64 bytes fields.0 fields.1 in
    let first = text_left fields.0.1 name.0 name.1 in
    let second = text_left name.0.1 object.0 object.1 in
    rw (← ok_is _ size object.2)
    (rounded (length bytes - length object.0.1) (length bytes) (length object.0.1)
    (omega (arith, behind, first, second)) refl)

-- an entry and the bytes behind it are the bytes
pub entry_joined : (bytes : List ℕ) (entry : List ℕ × List ℕ) → module_at bytes ≡ Ok entry
    → length entry.0 + length entry.1 ≡ length bytes
unfolding module_at
entry_joined bytes entry is =
    let size = bind_ok (entry_size bytes) (λ size. front_at size bytes) entry is in
    elim (cases_lt (length bytes) size.0) [
      | inl short ↦ let cut = front_cut size.0 bytes short in absurd (cc)
      | inr long ↦
          let same = sym (front_whole size.0 bytes long) ∙ size.2 in
          rw (← ok_is _ entry same) (omega (arith, length-drop size.0 bytes, length-take-le size.0 bytes long))
    ]

-- ---- all entries

pub entries_more : (layout : LayoutValue) (limit most index byte : ℕ) (left : List ℕ) (entry : List ℕ × List ℕ)
    → limit ≡ suc most → left ≢ [] → module_at left ≡ Ok entry
    → entries_mismatches layout limit index byte left
    ≡ entry_mismatches layout index byte entry.0
    ++ entries_mismatches layout most (index + 1) (byte + length entry.0) entry.1
entries_more layout limit most index byte [] entry here some is = absurd (some refl)
entries_more layout limit most index byte (b ∷ left) entry here some is = rw (here, is) refl

-- the mismatches of one entry more
pub adding_entry : (extent : Extent) (layout : LayoutValue) (index byte count : ℕ) (left : List ℕ)
    (entry : List ℕ × List ℕ) (what : Option Inconsistency) (kept now all : List Mismatch)
    → with_further extent kept (entries_mismatches layout (count - index) index byte left) ≡ all
    → index < count → left ≢ [] → module_at left ≡ Ok entry → what ≡ entry_inconsistency layout entry.0
    → told (with_further extent kept (option_to_list (option_map (at_byte 3 index byte) what))) ≡ Ok now
    → with_further extent now
    (entries_mismatches layout (count - (index + 1)) (index + 1) (byte + length entry.0) entry.1) ≡ all
adding_entry extent layout index byte count left entry what kept now all so_far within some is of added =
    let step = entries_more layout (count - index) (count - (index + 1)) index byte left entry (omega arith) some is in
    further_more extent kept (entries_mismatches layout (count - index) index byte left)
    (entry_mismatches layout index byte entry.0)
    (entries_mismatches layout (count - (index + 1)) (index + 1) (byte + length entry.0) entry.1) now all so_far step
    (rw of at added)
