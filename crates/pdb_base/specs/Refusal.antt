-- What a refusal says: an `Error` without what no contract can name. A text is kept as its bytes and an
-- `io::Error` as its kind, so two errors that say the same are the same refusal.
use Rattle.std.specs.Prelude.{ℕ, List}
use Rattle.std.specs.declared.io.ErrorKind.{ErrorKind}
use Rattle.std.specs.IoError.{error_kind}
use Rattle.pdb_base.specs.declared.error.Error.{Error}
use Rattle.pdb_base.specs.declared.error.Error.TheVariants as errors

-- the refusals, one for each variant of `Error`, with its numbers, its text or the kind of its `io::Error`
pub data Refusal : Type 0 where
  unrecognized_file_format stream_name_not_found unexpected_eof global_symbols_not_found : Refusal
  symbol_too_short type_too_short address_map_not_found lines_not_found : Refusal
  invalid_compressed_annotation out_of_memory : Refusal
  page_reference_out_of_range invalid_page_size stream_not_found : ℕ → Refusal
  unimplemented_symbol_kind type_not_found unimplemented_type_kind : ℕ → Refusal
  not_a_cross_module_ref cross_module_ref_not_found unexpected_numeric_prefix : ℕ → Refusal
  unimplemented_debug_subsection unimplemented_file_checksum_kind : ℕ → Refusal
  invalid_file_checksum_offset unknown_binary_annotation : ℕ → Refusal
  type_not_indexed : ℕ → ℕ → Refusal
  invalid_stream_length unimplemented_feature invalid_type_information_header : List ℕ → Refusal
  io_error : ErrorKind → Refusal

-- the refusal that an error stands for
abbrev pub refusal_of : Error → Refusal
refusal_of errors.UnrecognizedFileFormat = unrecognized_file_format
refusal_of (errors.PageReferenceOutOfRange page) = page_reference_out_of_range page
refusal_of (errors.InvalidPageSize size) = invalid_page_size size
refusal_of (errors.StreamNotFound number) = stream_not_found number
refusal_of errors.StreamNameNotFound = stream_name_not_found
refusal_of (errors.InvalidStreamLength stream) = invalid_stream_length stream.now
refusal_of (errors.IoError cause) = io_error (error_kind cause)
refusal_of errors.UnexpectedEof = unexpected_eof
refusal_of (errors.UnimplementedFeature feature) = unimplemented_feature feature.now
refusal_of errors.GlobalSymbolsNotFound = global_symbols_not_found
refusal_of errors.SymbolTooShort = symbol_too_short
refusal_of (errors.UnimplementedSymbolKind kind) = unimplemented_symbol_kind kind
refusal_of (errors.InvalidTypeInformationHeader rule) = invalid_type_information_header rule.now
refusal_of errors.TypeTooShort = type_too_short
refusal_of (errors.TypeNotFound index) = type_not_found index
refusal_of (errors.TypeNotIndexed index covered) = type_not_indexed index covered
refusal_of (errors.UnimplementedTypeKind kind) = unimplemented_type_kind kind
refusal_of (errors.NotACrossModuleRef index) = not_a_cross_module_ref index
refusal_of (errors.CrossModuleRefNotFound index) = cross_module_ref_not_found index
refusal_of (errors.UnexpectedNumericPrefix prefix) = unexpected_numeric_prefix prefix
refusal_of errors.AddressMapNotFound = address_map_not_found
refusal_of (errors.UnimplementedDebugSubsection kind) = unimplemented_debug_subsection kind
refusal_of (errors.UnimplementedFileChecksumKind kind) = unimplemented_file_checksum_kind kind
refusal_of (errors.InvalidFileChecksumOffset offset) = invalid_file_checksum_offset offset
refusal_of errors.LinesNotFound = lines_not_found
refusal_of errors.InvalidCompressedAnnotation = invalid_compressed_annotation
refusal_of (errors.UnknownBinaryAnnotation number) = unknown_binary_annotation number
refusal_of errors.OutOfMemory = out_of_memory
