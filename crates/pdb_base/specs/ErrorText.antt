-- The text of each refusal, as `{}` prints it.
use Rattle.std.specs.Prelude.{⊤, ℕ, ◌-◌, List, ◌++◌, length, replicate, false, Option, Some, None, codes}
use Rattle.std.specs.Fmt.{decimal, digits}
use Rattle.pdb_base.specs.Refusal.{Refusal, unrecognized_file_format, stream_name_not_found, unexpected_eof}
use Rattle.pdb_base.specs.Refusal.{global_symbols_not_found, symbol_too_short, type_too_short, address_map_not_found}
use Rattle.pdb_base.specs.Refusal.{lines_not_found, invalid_compressed_annotation, out_of_memory}
use Rattle.pdb_base.specs.Refusal.{page_reference_out_of_range, invalid_page_size, stream_not_found}
use Rattle.pdb_base.specs.Refusal.{unimplemented_symbol_kind, type_not_found, unimplemented_type_kind}
use Rattle.pdb_base.specs.Refusal.{not_a_cross_module_ref, cross_module_ref_not_found, unexpected_numeric_prefix}
use Rattle.pdb_base.specs.Refusal.{unimplemented_debug_subsection, unimplemented_file_checksum_kind}
use Rattle.pdb_base.specs.Refusal.{invalid_file_checksum_offset, unknown_binary_annotation, type_not_indexed}
use Rattle.pdb_base.specs.Refusal.{invalid_stream_length, unimplemented_feature, invalid_type_information_header}
use Rattle.pdb_base.specs.Refusal.{io_error}

-- the byte `0`
abbrev pub digit_zero : ℕ
digit_zero = 48

-- `0x` and the lower-case hexadecimal digits
abbrev pub hexadecimal : ℕ → List ℕ
hexadecimal n = codes "0x" ++ digits 16 false n

-- the same, with zeros before the digits so that there are at least four
abbrev pub hexadecimal_of_four : ℕ → List ℕ
hexadecimal_of_four n = codes "0x" ++ replicate (4 - length (digits 16 false n)) digit_zero ++ digits 16 false n

-- what is printed before the text of an `io::Error`, which is not the library's own
abbrev pub io_error_front : List ℕ
io_error_front = codes "IO error while reading PDB: "

-- the text of a refusal, or None for an `io::Error`, whose text is not the library's own
abbrev pub text_of : Refusal → Option (List ℕ)
text_of unrecognized_file_format = Some (codes "UnrecognizedFileFormat")
text_of (page_reference_out_of_range page) =
    Some (codes "MSF referred to page number (" ++ decimal page ++ codes ") out of range")
text_of (invalid_page_size size) = Some (codes "The MSF header specifies an invalid page size (" ++ decimal size
    ++ codes " bytes)")
text_of (stream_not_found number) = Some (codes "The requested stream (" ++ decimal number
    ++ codes ") is not stored in this file")
text_of stream_name_not_found = Some (codes "StreamNameNotFound")
text_of (invalid_stream_length stream) = Some
    (stream ++ codes " stream has an invalid length or alignment for its records")
text_of (io_error kind) = None
text_of unexpected_eof = Some (codes "UnexpectedEof")
text_of (unimplemented_feature feature) = Some (codes "Unimplemented PDB feature: " ++ feature)
text_of global_symbols_not_found = Some (codes "GlobalSymbolsNotFound")
text_of symbol_too_short = Some (codes "SymbolTooShort")
text_of (unimplemented_symbol_kind kind) =
    Some (codes "Support for symbols of kind " ++ hexadecimal_of_four kind ++ codes " is not implemented")
text_of (invalid_type_information_header rule) = Some (codes "The type information header was invalid: " ++ rule)
text_of type_too_short = Some (codes "TypeTooShort")
text_of (type_not_found index) = Some (codes "Type " ++ decimal index ++ codes " not found")
text_of (type_not_indexed index covered) =
    Some (codes "Type " ++ decimal index ++ codes " not indexed (index covers " ++ decimal covered ++ codes ")")
text_of (unimplemented_type_kind kind) = Some
    (codes "Support for types of kind " ++ hexadecimal_of_four kind ++ codes " is not implemented")
text_of (not_a_cross_module_ref index) = Some
    (codes "Type " ++ hexadecimal_of_four index ++ codes " is not a cross module reference")
text_of (cross_module_ref_not_found index) =
    Some (codes "Cross module reference " ++ hexadecimal_of_four index ++ codes " not found in imports")
text_of (unexpected_numeric_prefix prefix) =
    Some (codes "Variable-length numeric parsing encountered an unexpected prefix (" ++ hexadecimal_of_four prefix
    ++ codes ")")
text_of address_map_not_found = Some (codes "AddressMapNotFound")
text_of (unimplemented_debug_subsection kind) =
    Some (codes "Debug module subsection of kind " ++ hexadecimal_of_four kind ++ codes " is not implemented")
text_of (unimplemented_file_checksum_kind kind) = Some (codes "Unknown source file checksum kind " ++ decimal kind)
text_of (invalid_file_checksum_offset offset) =
    Some (codes "Invalid source file checksum offset " ++ hexadecimal offset)
text_of lines_not_found = Some (codes "LinesNotFound")
text_of invalid_compressed_annotation = Some (codes "InvalidCompressedAnnotation")
text_of (unknown_binary_annotation number) = Some (codes "Unknown binary annotation " ++ decimal number)
text_of out_of_memory = Some (codes "OutOfMemory")

-- the refusals whose text says nothing but their name
abbrev pub HasPlainText : Refusal → Type 0
HasPlainText unrecognized_file_format = ⊤
HasPlainText stream_name_not_found = ⊤
HasPlainText unexpected_eof = ⊤
HasPlainText global_symbols_not_found = ⊤
HasPlainText symbol_too_short = ⊤
HasPlainText type_too_short = ⊤
HasPlainText address_map_not_found = ⊤
HasPlainText lines_not_found = ⊤
HasPlainText invalid_compressed_annotation = ⊤
HasPlainText out_of_memory = ⊤
HasPlainText _ = ⊥

-- the refusals whose text names a number in hexadecimal
abbrev pub HasHexadecimalText : Refusal → Type 0
HasHexadecimalText (unimplemented_symbol_kind kind) = ⊤
HasHexadecimalText (unimplemented_type_kind kind) = ⊤
HasHexadecimalText (not_a_cross_module_ref index) = ⊤
HasHexadecimalText (cross_module_ref_not_found index) = ⊤
HasHexadecimalText (unexpected_numeric_prefix prefix) = ⊤
HasHexadecimalText (unimplemented_debug_subsection kind) = ⊤
HasHexadecimalText (invalid_file_checksum_offset offset) = ⊤
HasHexadecimalText _ = ⊥
