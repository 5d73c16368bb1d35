-- Sums of what is asked of a source.
use Rattle.std.proofs.Common.{◌≡◌, ℕ, ◌+◌, ◌^◌, ◌<◌, ◌≤◌, List, refl, ap, sym, ◌∙◌, arith, Option, Result, Ok, Err}
use Rattle.pdb_base.specs.declared.error.Error.{Error}
use Rattle.pdb_msf.specs.Asked.{Asks, raised_by}
use Rattle.pdb_msf.specs.Header.{Head}
use Rattle.pdb_msf.specs.Directory.{PagesOfStream, directory_of, stream_entry_of}
use Rattle.pdb_msf.specs.File.{described_stream, requested_size}

-- a call that stops after a first part has asked for no more than this part
pub asks_stopped : (X : Type 0) (old new part rest : ℕ) (e : Error) → old < 2 ^ 64 → new ≡ raised_by part old
    → Asks old new (part + rest) (let r : Result X Error = Err e in r)
asks_stopped X old new part rest e fits asked = (omega arith, omega arith)

-- one that is refused within the rest has asked for no more than both
pub asks_refused : (X : Type 0) (old middle new part rest : ℕ) (e : Error) → old < 2 ^ 64 → middle ≡ raised_by part old
    → (middle ≤ new) × (new ≤ middle + rest) → Asks old new (part + rest) (let r : Result X Error = Err e in r)
asks_refused X old middle new part rest e fits first second = let low = second.0 in let high = second.1 in
    (omega arith, omega arith)

-- of a stream that the directory describes its size is wanted, cut to the limit
pub wanted_is : (old file : List ℕ) (before head : Head) (n : ℕ) (limit : Option ℕ) (directory : List ℕ)
    (entry : PagesOfStream)
    → file ≡ old → head ≡ before
    → directory_of file head ≡ Ok directory → stream_entry_of head.geometry n limit directory ≡ Ok entry
    → requested_size (described_stream old before n limit) ≡ entry.size
wanted_is old file before head n limit directory entry same_file same_head read is =
    let here : requested_size (described_stream file head n limit) ≡ entry.size = rw (read, is) refl in
    ap (λ (f : List ℕ). requested_size (described_stream f before n limit)) (sym same_file)
    ∙ ap (λ (h : Head). requested_size (described_stream file h n limit)) (sym same_head) ∙ here
