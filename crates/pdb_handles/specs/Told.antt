-- Which refusal a fault stands for, so that refusals can be told apart and shown as text.
use Rattle.std.specs.Prelude.{codes, Bool, ℕ, zero, suc, ◌<◌, ◌^◌, ◌==◌, ◌&&◌, nat_lt, if◌then◌else◌, ⊤, List, [], ◌∷◌}
use Rattle.std.specs.Prelude.{Contains, slice_get, Option, Some, None, option_map}
use Rattle.std.specs.{declared.io.ErrorKind.ErrorKind, Option.option_map_or}
use Rattle.std.specs.declared.io.ErrorKind.TheVariants as kinds
use Rattle.pdb_base.specs.{Refusal.Refusal, ErrorText.text_of}
use Rattle.pdb_base.specs.Refusal as refusals
use Rattle.pdb_handles.specs.{declared.fault.Fault.Fault, Fault.fault_of_refusal, Fault.no_text, Fault.texts}
use Rattle.pdb_handles.specs.Copied.{Copied, nothing_copied, text_copied}

-- the refusal that a status can stand for, if any, by the two numbers that go with it
abbrev pub RefusalByNumbers : Type 0
RefusalByNumbers = ℕ → ℕ → Option Refusal

-- a refusal with no number
abbrev pub plain : Refusal → RefusalByNumbers
plain refusal first second = Some refusal

-- a refusal with one number
abbrev pub number_fault : (ℕ → Refusal) → RefusalByNumbers
number_fault refusal first second = Some (refusal first)

-- a refusal with one number, which must be below a bound
abbrev pub below : ℕ → (ℕ → Refusal) → RefusalByNumbers
below bound refusal first second = if nat_lt first bound then Some (refusal first) else None

-- the text with this number; numbers begin at 1
abbrev pub text_numbered : ℕ → Option (List ℕ)
text_numbered zero = None
text_numbered (suc place) = slice_get texts place

-- a refusal with a text
abbrev pub text_fault : (List ℕ → Refusal) → RefusalByNumbers
text_fault refusal first second = option_map refusal (text_numbered first)

-- the kind with this number; numbers begin at 1
abbrev pub kind_numbered : ℕ → Option ErrorKind
kind_numbered zero = None
kind_numbered (suc place) = slice_get (kinds.UnexpectedEof ∷ kinds.OutOfMemory ∷ []) place

-- the refusal for each status, from 0 on
abbrev pub tellings : List RefusalByNumbers
tellings =
    (λ first second. None) ∷ plain refusals.unrecognized_file_format
    ∷ number_fault refusals.page_reference_out_of_range ∷ number_fault refusals.invalid_page_size
    ∷ number_fault refusals.stream_not_found ∷ plain refusals.stream_name_not_found
    ∷ text_fault refusals.invalid_stream_length ∷ (λ first second. option_map refusals.io_error (kind_numbered first))
    ∷ plain refusals.unexpected_eof ∷ text_fault refusals.unimplemented_feature
    ∷ plain refusals.global_symbols_not_found ∷ plain refusals.symbol_too_short
    ∷ below (2 ^ 16) refusals.unimplemented_symbol_kind ∷ text_fault refusals.invalid_type_information_header
    ∷ plain refusals.type_too_short ∷ number_fault refusals.type_not_found
    ∷ (λ first second. Some (refusals.type_not_indexed first second))
    ∷ below (2 ^ 16) refusals.unimplemented_type_kind ∷ number_fault refusals.not_a_cross_module_ref
    ∷ number_fault refusals.cross_module_ref_not_found ∷ below (2 ^ 16) refusals.unexpected_numeric_prefix
    ∷ plain refusals.address_map_not_found ∷ number_fault refusals.unimplemented_debug_subsection
    ∷ below (2 ^ 8) refusals.unimplemented_file_checksum_kind ∷ number_fault refusals.invalid_file_checksum_offset
    ∷ plain refusals.lines_not_found ∷ plain refusals.invalid_compressed_annotation
    ∷ number_fault refusals.unknown_binary_annotation ∷ plain refusals.out_of_memory ∷ []

-- the refusal that a fault can stand for
abbrev pub candidate : Fault → Option Refusal
candidate fault = option_map_or (λ tells. tells fault.first fault.second) (slice_get tellings fault.status) None

-- whether two faults have the same numbers
abbrev pub is_same : Fault → Fault → Bool
is_same one other = one.status == other.status && one.first == other.first && one.second == other.second

-- a refusal, if its fault is this one
abbrev pub if_told : Fault → Option Refusal → Option Refusal
if_told fault (Some refusal) = if is_same (fault_of_refusal refusal) fault then Some refusal else None
if_told fault None = None

-- the refusal that a fault stands for: the one that has this fault
unfoldable pub refusal_told : Fault → Option Refusal
refusal_told fault = if_told fault (candidate fault)

-- A refusal that this library returns: its text is one of the library's, its numbers of 16 and of 8 bits are below
-- their bounds, and an error of a source is one that bytes in memory give.
abbrev pub IsOurs : Refusal → Type 0
IsOurs (refusals.invalid_stream_length stream) = Contains texts stream
IsOurs (refusals.unimplemented_feature feature) = Contains texts feature
IsOurs (refusals.invalid_type_information_header rule) = Contains texts rule
IsOurs (refusals.io_error kind) = Contains (kinds.UnexpectedEof ∷ kinds.OutOfMemory ∷ []) kind
IsOurs (refusals.unimplemented_symbol_kind kind) = kind < 2 ^ 16
IsOurs (refusals.unimplemented_type_kind kind) = kind < 2 ^ 16
IsOurs (refusals.unexpected_numeric_prefix prefix) = prefix < 2 ^ 16
IsOurs (refusals.unimplemented_file_checksum_kind kind) = kind < 2 ^ 8
IsOurs refusal = ⊤

-- the texts of the statuses that need no number
abbrev pub plain_texts : List (ℕ × List ℕ)
plain_texts =
    (0, codes "success") ∷ (1, codes "not a program database of version 7.00") ∷ (5, codes "no stream has this name")
    ∷ (7, codes "the file ends too soon") ∷ (8, codes "the bytes end too soon")
    ∷ (14, codes "a record's length leaves no room for its kind")
    ∷ (21, codes "the file has no section headers, and so no address map") ∷ (28, codes "an allocation failed")
    ∷ (100, codes "the handle is open already") ∷ (101, codes "the handle is not open")
    ∷ (102, codes "the array has no room for the answer") ∷ (104, codes "no text for this fault")
    ∷ (105, codes "the walk is at its end") ∷ (106, codes "there is no such value")
    ∷ (107, codes "the table moves the address nowhere") ∷ []

-- the text of such a status
abbrev pub text_among : List (ℕ × List ℕ) → ℕ → Option (List ℕ)
text_among [] status = None
text_among ((other, text) ∷ more) status = if status == other then Some text else text_among more status

abbrev pub plain_text : ℕ → Option (List ℕ)
plain_text status = text_among plain_texts status

-- the library's text of a refusal that may be absent
abbrev pub text_if : Option Refusal → Option (List ℕ)
text_if (Some refusal) = text_of refusal
text_if None = None

-- the text of a fault: that of its status, or else that of the refusal that it stands for
abbrev pub text_else : Option (List ℕ) → Option Refusal → Option (List ℕ)
text_else (Some text) refusal = Some text
text_else None refusal = text_if refusal

abbrev pub fault_text : Fault → Option (List ℕ)
fault_text fault = text_else (plain_text fault.status) (refusal_told fault)

-- a text is written, or the fault is `no_text` if there is none
abbrev pub text_or_none : List ℕ → Option (List ℕ) → Copied ℕ
text_or_none room (Some text) = text_copied room text
text_or_none room None = nothing_copied no_text room
