-- The items of a table stand one behind another, each behind a u16 with its length.
use Rattle.std.specs.Prelude.{◌≡◌, ◌≢◌, ℕ, zero, suc, ◌+◌, ◌^◌, ◌<◌, ◌≤◌, nat_le, List, [], ◌∷◌, ◌++◌, length, drop, Ok}
use Rattle.std.specs.Prelude.{Err}
use Rattle.std.specs.Option.{option_map_or}
use Rattle.std.specs.Result.{result_ok}
use Rattle.std.specs.List.{AllByRecursion, flat_map}
use Rattle.pdb_base.specs.Endian.{little_bytes}
use Rattle.pdb_base.specs.Refusal.{Refusal, type_too_short, type_not_found}
use Rattle.pdb_base.specs.Answer.{Answer, ◌>>=◌, ok_if}
use Rattle.pdb_base.specs.Reading.{number_at, front_at}

-- an item with its length before it
abbrev pub with_length : List ℕ → List ℕ
with_length item = little_bytes 2 (length item) ++ item

-- An item has room for its kind, and at most as many bytes as a u16 can count.
pub record IsItem (item : List ℕ) : Type 0 where
  pub least : 2 ≤ length item
  pub most : length item < 2 ^ 16

-- The items at the front of bytes, at most `limit` of them, and the rest behind them. The items, each
-- with its length before it, followed by the rest, are the bytes. If there are fewer than `limit` items,
-- the rest doesn't begin with an item.
pub record IsWalk (limit : ℕ) (bytes : List ℕ) (items : List (List ℕ)) (rest : List ℕ) : Type 0 where
  pub joined : flat_map with_length items ++ rest ≡ bytes
  pub sized : AllByRecursion IsItem items
  pub few : length items ≤ limit
  pub ends : length items < limit → (item more : List ℕ) → IsItem item → rest ≢ with_length item ++ more

-- Reads the item at the front of bytes. The first fault is that the bytes end within the length, then
-- that the length leaves no room for a kind, then that the bytes end within the item.
unfoldable pub first_item : List ℕ → Answer (List ℕ)
first_item bytes = do
  len ← number_at 2 bytes
  kind ← ok_if (nat_le 2 len.0) type_too_short
  item ← front_at len.0 len.1
  Ok item.0

-- the bytes behind an item at the front of bytes
abbrev pub behind : List ℕ → List ℕ → List ℕ
behind item bytes = drop (2 + length item) bytes

-- the items at the front of bytes, at most as many as the first argument
unfoldable pub items : ℕ → List ℕ → List (List ℕ)
items zero bytes = []
items (suc limit) bytes = option_map_or (λ item. item ∷ items limit (behind item bytes))
    (result_ok (first_item bytes)) []

-- the bytes that are left behind those items
unfoldable pub rest : ℕ → List ℕ → List ℕ
rest zero bytes = bytes
rest (suc limit) bytes = option_map_or (λ item. rest limit (behind item bytes)) (result_ok (first_item bytes)) bytes

-- the fault at which a walk stops: that of an item that can't be read, or else that a whole item stands
-- behind the item of the last index, 0xffffffff
abbrev pub stop_of : Answer (List ℕ) → Refusal
stop_of (Err fault) = fault
stop_of (Ok item) = type_not_found 0xffffffff

-- the fault of a walk that stops before these bytes
unfoldable pub fault_of : List ℕ → Refusal
fault_of rest = stop_of (first_item rest)
