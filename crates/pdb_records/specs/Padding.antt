-- Padding between records: LF_PAD0 to LF_PAD15 of Microsoft's cvinfo.h. A byte of 0xf0 or above begins a
-- pad, and its low four bits are the number of bytes in the pad; 0xf0 is a pad of a single byte.
use Rattle.std.specs.Prelude.{◌≡◌, ℕ, zero, suc, ◌-◌, ◌%◌, ◌<◌, ◌≤◌, List, [], ◌∷◌, ◌++◌, length, nat_le, if◌then◌else◌}
use Rattle.std.specs.Prelude.{Ok, Err}
use Rattle.pdb_base.specs.Refusal.{Refusal, unexpected_eof}
use Rattle.pdb_base.specs.Answer.{Answer}
use Rattle.pdb_records.specs.ToEnd.{Sequence}

-- the least byte that begins a pad: LF_PAD0
abbrev pub least_pad : ℕ
least_pad = 0xf0

-- the number of bytes behind the first one of a pad
abbrev pub behind_pad : ℕ → ℕ
behind_pad byte = byte % 16 - 1

-- a whole pad
abbrev pub IsPad : List ℕ → Type 0
IsPad [] = ⊥
IsPad (byte ∷ more) = (least_pad ≤ byte) × (length more ≡ behind_pad byte)

-- a pad that ends too soon, since the bytes end within it
abbrev pub IsCutPad : List ℕ → Type 0
IsCutPad [] = ⊥
IsCutPad (byte ∷ more) = (least_pad ≤ byte) × (length more < behind_pad byte)

-- bytes that begin with no pad
abbrev pub IsNoPad : List ℕ → Type 0
IsNoPad [] = Unit {0}
IsNoPad (byte ∷ more) = byte < least_pad

-- the bytes begin with this whole pad, followed by `rest`
abbrev pub BeginsPad : List ℕ → List ℕ → List ℕ → Type 0
BeginsPad bytes pad rest = IsPad pad × (pad ++ rest ≡ bytes)

-- Padding is any number of pads, followed by the end of the bytes or by a byte that begins no pad.
abbrev pub IsPadded : List ℕ → Unit {0} → List ℕ → Type 0
IsPadded bytes nothing rest = (pads : List (List ℕ)) × Sequence BeginsPad bytes pads rest × IsNoPad rest

-- Padding that ends within a pad is refused, since the bytes end too soon.
abbrev pub IsPaddedShort : List ℕ → Refusal → Type 0
IsPaddedShort bytes refusal = (pads : List (List ℕ)) × (mid : List ℕ) × Sequence BeginsPad bytes pads mid × IsCutPad mid
    × (refusal ≡ unexpected_eof)

-- the bytes behind padding, if the given number of bytes are still left of a pad
abbrev pub padding_behind : ℕ → List ℕ → Answer (Unit {0} × List ℕ)
padding_behind zero [] = Ok (tt, [])
padding_behind zero (byte ∷ bytes) = if nat_le least_pad byte then padding_behind (behind_pad byte) bytes else Ok
    (tt, byte ∷ bytes)
padding_behind (suc more) [] = Err unexpected_eof
padding_behind (suc more) (byte ∷ bytes) = padding_behind more bytes

-- the bytes behind padding
unfoldable pub padding_at : List ℕ → Answer (Unit {0} × List ℕ)
padding_at bytes = padding_behind zero bytes
