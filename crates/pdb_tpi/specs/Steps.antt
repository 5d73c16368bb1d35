-- The walk over a table, and an iterator's steps along it.
use Rattle.std.specs.Prelude.{◌≡◌, ℕ, ◌+◌, ◌-◌, ◌^◌, ◌<◌, ◌||◌, nat_lt, nat_le, if◌then◌else◌, List, [], ◌∷◌, length}
use Rattle.std.specs.Prelude.{drop, slice_get, Option, Some, None, Result, Ok, Err, OnErr, IfOk, IfSome}
use Rattle.std.specs.Option.{option_map, option_map_or}
use Rattle.pdb_base.specs.declared.error.Error.{Error}
use Rattle.pdb_base.specs.Answer.{Answer, Gives}
use Rattle.pdb_base.specs.Count.{one_more}
use Rattle.pdb_tpi.specs.Table.{Table}
use Rattle.pdb_tpi.specs.Walk.{items, rest, fault_of}

-- the number of indexes from a table's minimum to the last one, 0xffffffff
abbrev pub room : Table → ℕ
room table = 2 ^ 32 - table.header.minimum_index

-- the bytes behind the header
abbrev pub body : Table → List ℕ
body table = drop table.header.header_size table.bytes

-- the items of a table, whatever maximum its header has; the first item has the minimum as its index
unfoldable pub walk : Table → List (List ℕ)
walk table = items (room table) (body table)

-- the bytes that are left behind those items
unfoldable pub walk_rest : Table → List ℕ
walk_rest table = rest (room table) (body table)

-- item `n` of the walk, or the fault at which the walk stops before it; if the walk ends before it with
-- no bytes left, the fault is `UnexpectedEof`
unfoldable pub nth_item : Table → ℕ → Answer (List ℕ)
nth_item table n = option_map_or (λ item. Ok item) (slice_get (walk table) n) (Err (fault_of (walk_rest table)))

-- where an iterator stands: before the item of an index
pub record WalkPosition : Type 0 where
  pub table : Table
  pub index : ℕ

-- the place in the walk of the item before which an iterator stands
abbrev pub steps_taken : WalkPosition → ℕ
steps_taken stand = stand.index - stand.table.header.minimum_index

-- how many items an iterator has yet to return
abbrev pub items_left : WalkPosition → ℕ
items_left stand = length (walk stand.table) - steps_taken stand

-- what a step returns behind the last item: None if no byte is left, and else the fault
abbrev pub step_at_end : WalkPosition → List ℕ → Answer (Option (ℕ × List ℕ) × WalkPosition)
step_at_end stand [] = Ok (None, stand)
step_at_end stand (byte ∷ rest) = Err (fault_of (byte ∷ rest))

-- what a step returns: the next item with its index, and where the iterator stands afterwards
unfoldable pub step_of : WalkPosition → Answer (Option (ℕ × List ℕ) × WalkPosition)
step_of stand =
    option_map_or (λ item. Ok (Some (stand.index, item), record stand { index = stand.index + 1 }))
    (slice_get (walk stand.table) (steps_taken stand)) (step_at_end stand (walk_rest stand.table))

-- A step returns what `step_of` gives, if `seen` shows each item as its index and bytes, and stays in its
-- table. A step that fails doesn't move the iterator, so the next one fails with the same refusal. A step
-- that returns an item leaves fewer items.
pub record IsStep {X : Type 0} (seen : X → ℕ × List ℕ) (old : WalkPosition) (result : Result (Option X) Error)
    (new : WalkPosition) : Type 0 where
  pub gives : Gives (λ item. (option_map seen item, new)) result (step_of old)
  pub kept : OnErr result (new ≡ old)
  pub stays : new.table ≡ old.table
  pub fewer : IfOk result (λ given. IfSome given (λ item. items_left new < items_left old))

-- the count of length words after the next step, which reads one if two bytes are left for it
abbrev pub reads_one : WalkPosition → ℕ → ℕ
reads_one stand calls =
    if nat_lt (steps_taken stand) (length (walk stand.table)) || nat_le 2
    (length (walk_rest stand.table)) then one_more calls else calls
