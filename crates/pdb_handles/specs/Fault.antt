-- How an exported function says how it ended: with a status, and the numbers that go with it.
use Rattle.std.specs.Prelude.{ℕ, ◌+◌, bytes_eq, if◌then◌else◌, List, [], ◌∷◌, codes}
use Rattle.std.specs.declared.io.ErrorKind.{ErrorKind}
use Rattle.std.specs.declared.io.ErrorKind.TheVariants as kinds
use Rattle.pdb_base.specs.Refusal as refusals
use Rattle.pdb_base.specs.Refusal.{Refusal}
use Rattle.pdb_handles.specs.declared.fault.Fault.{Fault}

-- ---- misuse, and other faults that are no refusals

-- nothing is wrong
abbrev pub fine : Fault
fine = record { status = 0; first = 0; second = 0 }

-- the handle holds something already
abbrev pub already_open : Fault
already_open = record { status = 100; first = 0; second = 0 }

-- the handle holds nothing of the kind that the call needs
abbrev pub not_open : Fault
not_open = record { status = 101; first = 0; second = 0 }

-- the caller's array has no room for the answer
abbrev pub too_small : Fault
too_small = record { status = 102; first = 0; second = 0 }

-- the caller's fault isn't one that a call leaves
abbrev pub no_text : Fault
no_text = record { status = 104; first = 0; second = 0 }

-- the walk is at its end
abbrev pub no_more : Fault
no_more = record { status = 105; first = 0; second = 0 }

-- there is no such value
abbrev pub no_value : Fault
no_value = record { status = 106; first = 0; second = 0 }

-- the table moves the address nowhere
abbrev pub not_mapped : Fault
not_mapped = record { status = 107; first = 0; second = 0 }

-- ---- texts within refusals

-- the number of a text among others, which are numbered from `n` on; 0 if it is not among them
abbrev pub place_among : ℕ → List (List ℕ) → List ℕ → ℕ
place_among n [] text = 0
place_among n (known ∷ more) text = if bytes_eq text known then n else place_among (n + 1) more text

-- the texts that the library's refusals have, in the order of their numbers from 1 on
abbrev pub texts : List (List ℕ)
texts =
    codes "OMAP" ∷ codes "FPO" ∷ codes "FrameData" ∷ codes "small MSF file format" ∷ codes "ancient DBI header"
    ∷ codes "invalid string table signature" ∷ codes "unknown string table hash version" ∷ codes "u64 array sizes"
    ∷ codes "field list continuation not below its list" ∷ codes "header size is impossibly small"
    ∷ codes "header size is unreasonably large" ∷ codes "minimum type index is < 4096"
    ∷ codes "maximum type index is < minimum type index" ∷ codes "OMAP table that is not sorted"
    ∷ codes "frames that are not sorted" ∷ codes "directory that is larger than its file"
    ∷ codes "streams that are larger than their file" ∷ codes "stream names that share bytes" ∷ []

-- the number of a text
abbrev pub text_number : List ℕ → ℕ
text_number text = place_among 1 texts text

-- the number of the kind of an error of a source; a file in memory has no other kinds
abbrev pub error_kind_number : ErrorKind → ℕ
error_kind_number kinds.UnexpectedEof = 1
error_kind_number kinds.OutOfMemory = 2
error_kind_number kind = 0

-- ---- refusals

-- the fault of a refusal: a status for each, and the refusal's own numbers, or the number of its text
abbrev pub fault_of_refusal : Refusal → Fault
fault_of_refusal refusals.unrecognized_file_format = record { status = 1; first = 0; second = 0 }
fault_of_refusal (refusals.page_reference_out_of_range page) = record { status = 2; first = page; second = 0 }
fault_of_refusal (refusals.invalid_page_size size) = record { status = 3; first = size; second = 0 }
fault_of_refusal (refusals.stream_not_found number) = record { status = 4; first = number; second = 0 }
fault_of_refusal refusals.stream_name_not_found = record { status = 5; first = 0; second = 0 }
fault_of_refusal (refusals.invalid_stream_length stream) = record { status = 6; first = text_number stream; second = 0 }
fault_of_refusal (refusals.io_error kind) = record { status = 7; first = error_kind_number kind; second = 0 }
fault_of_refusal refusals.unexpected_eof = record { status = 8; first = 0; second = 0 }
fault_of_refusal (refusals.unimplemented_feature feature) =
    record { status = 9; first = text_number feature; second = 0 }
fault_of_refusal refusals.global_symbols_not_found = record { status = 10; first = 0; second = 0 }
fault_of_refusal refusals.symbol_too_short = record { status = 11; first = 0; second = 0 }
fault_of_refusal (refusals.unimplemented_symbol_kind kind) = record { status = 12; first = kind; second = 0 }
fault_of_refusal (refusals.invalid_type_information_header rule) =
    record { status = 13; first = text_number rule; second = 0 }
fault_of_refusal refusals.type_too_short = record { status = 14; first = 0; second = 0 }
fault_of_refusal (refusals.type_not_found index) = record { status = 15; first = index; second = 0 }
fault_of_refusal (refusals.type_not_indexed index covered) = record { status = 16; first = index; second = covered }
fault_of_refusal (refusals.unimplemented_type_kind kind) = record { status = 17; first = kind; second = 0 }
fault_of_refusal (refusals.not_a_cross_module_ref index) = record { status = 18; first = index; second = 0 }
fault_of_refusal (refusals.cross_module_ref_not_found index) = record { status = 19; first = index; second = 0 }
fault_of_refusal (refusals.unexpected_numeric_prefix prefix) = record { status = 20; first = prefix; second = 0 }
fault_of_refusal refusals.address_map_not_found = record { status = 21; first = 0; second = 0 }
fault_of_refusal (refusals.unimplemented_debug_subsection kind) = record { status = 22; first = kind; second = 0 }
fault_of_refusal (refusals.unimplemented_file_checksum_kind kind) = record { status = 23; first = kind; second = 0 }
fault_of_refusal (refusals.invalid_file_checksum_offset offset) = record { status = 24; first = offset; second = 0 }
fault_of_refusal refusals.lines_not_found = record { status = 25; first = 0; second = 0 }
fault_of_refusal refusals.invalid_compressed_annotation = record { status = 26; first = 0; second = 0 }
fault_of_refusal (refusals.unknown_binary_annotation number) = record { status = 27; first = number; second = 0 }
fault_of_refusal refusals.out_of_memory = record { status = 28; first = 0; second = 0 }
