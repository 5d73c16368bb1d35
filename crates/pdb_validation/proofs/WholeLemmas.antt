-- A file has no fault that is an error exactly if it is whole.
use Rattle.std.proofs.Common.{◌≡◌, ◌↔◌, inl, inr, ℕ, zero, suc, ◌+◌, ◌<◌, ◌≤◌, List, [], ◌∷◌, ◌++◌, length, map, refl}
use Rattle.std.proofs.Common.{sym, ap, ◌∙◌, subst, arith, Bool, true, false, Option, Some, None, Ok, Err, Result}
use Rattle.std.specs.Prelude.{IsOk, IfOk, nat_lt, min, if◌then◌else◌, slice_get, ⊤}
use Rattle.std.specs.List.{flat_map, range_with_len}
use Rattle.std.specs.Option.{option_map, option_to_list}
use Rattle.std.proofs.Math.Nat.{le-min, min-le_right}
use Rattle.std.proofs.lemmas.Bool.{cases_lt, false≢true, lt-ltb, le-ltb}
use Rattle.pdb_base.specs.Answer.{Answer, AnswersUnless, ◌>>=◌, ok_if}
use Rattle.pdb_base.specs.Refusal.{Refusal, stream_not_found}
use Rattle.pdb_base.specs.declared.error.Error.{Error}
use Rattle.pdb_base.proofs.lemmas.Collected.{ok_is}
use Rattle.pdb_msf.specs.Directory.{stream_entry_of, stream_place_in, stream_count_in}
use Rattle.pdb_msf.specs.Header.{Head, file_head}
use Rattle.pdb_msf.specs.Layout.{LayoutValue, layout_of, stream_by}
use Rattle.pdb_msf.specs.Pages.{present, words}
use Rattle.pdb_base.specs.Index.{stream_number}
use Rattle.pdb_file.specs.DebugHeader.{extra_streams_of}
use Rattle.pdb_file.specs.SectionHeaders.{section_headers_of}
use Rattle.pdb_file.specs.declared.debug_header.DBIExtraStreams.{DBIExtraStreams}
use Rattle.pdb_frames.specs.Merge.{by_heads}
use Rattle.pdb_frames.specs.Table.{frame_table_of}
use Rattle.pdb_space.specs.Omap.{omap_table_of}
use Rattle.pdb_space.specs.StringTable.{names_of}
use Rattle.pdb_tpi.specs.Steps.{walk, walk_rest}
use Rattle.pdb_tpi.specs.Table.{Table, table_of}
use Rattle.pdb_validation.specs.Finding.{FaultPlace, by_extent, error_count, errors_in, finding_view, stream_fault}
use Rattle.pdb_validation.specs.IsWhole.{AreFaultless, AreNames, HasRole, HasWholeNames}
use Rattle.pdb_validation.specs.IsWhole.{HasWholeParts, HasWholeRecords, IfRead, IsNumbered, IsReadOrAbsent, IsThere}
use Rattle.pdb_validation.specs.IsWhole.{IsWhole, IsWholeBehind, IsWholeTable}
use Rattle.pdb_validation.specs.Names.{fault_of_answer, named_fault, names_fault, string_table_fault}
use Rattle.pdb_validation.specs.Names.{string_table_number, whole_names}
use Rattle.pdb_validation.specs.Places.{PagesValue, stream_pages}
use Rattle.pdb_validation.specs.Problem.{ProblemValue, is_tolerated}
use Rattle.pdb_validation.specs.Relations.{container_relations, debug_relations}
use Rattle.pdb_validation.specs.Relations.{id_relations, name_relations, related_faults, section_relations}
use Rattle.pdb_validation.specs.Relations.{symbol_relations, type_relations}
use Rattle.pdb_validation.specs.Roles.{frames_problem, known_roles, numbered_fault, omap_problem, problem_in}
use Rattle.pdb_validation.specs.Roles.{role_fault, role_index, role_problem, roles_fault, sections_problem}
use Rattle.pdb_validation.specs.Roles.{sources_rise, starts_rise, unless_sorted}
use Rattle.pdb_validation.specs.Sizes.{directory_size, nameable, streams_nameable, streams_size}
use Rattle.pdb_validation.specs.Streams.{bytes_fault, fault_there, if_read, streams_faults, unless_absent}
use Rattle.pdb_validation.specs.Tables.{checked_id, checked_type, fault_behind, faults_in_table, item_fault}
use Rattle.pdb_validation.specs.Tables.{item_faults, missing_fault, record_faults, refusal_fault, table_faults}
use Rattle.pdb_validation.specs.Whole.{faults_behind, faults_by, faults_of, fixed_faults, opened_faults, part_faults}
use Rattle.pdb_validation.specs.Whole.{refused_faults, sized_faults, table_faults_by, with_roles}
use Rattle.pdb_validation.specs.declared.mismatch.Extent.{Extent}
use Rattle.pdb_validation.specs.declared.mismatch.Extent.TheVariants as extents
use Rattle.pdb_validation.specs.declared.finding.Finding.{Finding}
use Rattle.pdb_validation.specs.declared.finding.Part.{Part}
use Rattle.pdb_validation.specs.declared.finding.Part.TheVariants as parts
use Rattle.pdb_validation.proofs.NameLemmas.{names_whole, whole_from_names}
use Rattle.pdb_validation.proofs.RelationLemmas.{agreeing, counted}

-- ---- what faults say

abbrev IsError : FaultPlace → Type 0
IsError fault = is_tolerated fault.problem ≡ false

-- Faults say whether it is so: there are none, and it is so, or the first is an error, and it is not.
data Says (So : Type 0) : List FaultPlace → Type 0 where
  fine : So → Says So []
  wrong : {fault : FaultPlace} {faults : List FaultPlace} → IsError fault → (So → ⊥) → Says So (fault ∷ faults)

-- the same of a fault that there may be
abbrev Tells : Type 0 → Option FaultPlace → Type 0
Tells So fault = Says So (option_to_list fault)

also : {A B : Type 0} {xs ys : List FaultPlace} → Says A xs → Says B ys → Says (A × B) (xs ++ ys)
also (fine one) (fine other) = fine (one, other)
also (fine one) (wrong error not) = wrong error (λ both. not both.1)
also (wrong error not) says = wrong error (λ both. not both.0)

same : {A B : Type 0} {xs : List FaultPlace} → (A → B) → (B → A) → Says A xs → Says B xs
same there back (fine so) = fine (there so)
same there back (wrong error not) = wrong error (λ so. not (back so))

told : {A : Type 0} {xs : List FaultPlace} (extent : Extent) → Says A xs → Says A (by_extent extent xs)
told extents.First (fine so) = fine so
told extents.First (wrong error not) = wrong error not
told extents.All says = says

no_error : {A : Type 0} {xs : List FaultPlace} → Says A xs → (errors_in xs ≡ []) ↔ A
no_error (fine so) = (λ none. so, λ is. refl)
no_error {A} (wrong {fault = fault} {faults = faults} error not) =
    rw error (λ none. absurd cc, λ so. absurd (not so))

-- ---- one stream

absent_says : (number : ℕ) (answer : Answer (List ℕ)) → Tells (IsReadOrAbsent answer) (unless_absent number answer)
absent_says number (Ok stream) = fine tt
absent_says number (Err (stream_not_found n)) = fine tt
absent_says number (Err refusal) = wrong refl (λ is. is)

there_says : (part : Part) (number : ℕ) (within : List ℕ → Option FaultPlace) (So : List ℕ → Type 0)
    (answer : Answer (List ℕ)) → ((stream : List ℕ) → Tells (So stream) (within stream))
    → Tells (IsThere So answer) (fault_there part number within answer)
there_says part number within So (Ok stream) says = says stream
there_says part number within So (Err (stream_not_found n)) says = wrong refl (λ is. is)
there_says part number within So (Err refusal) says = fine tt

answer_says : {A : Type 0} (part : Part) (number : ℕ) (answer : Answer A)
    → Tells (IsOk answer) (fault_of_answer part number answer)
answer_says part number (Ok x) = fine refl
answer_says part number (Err refusal) = wrong refl false≢true

-- ---- the streams

-- the faults of streams, one at most for each number
abbrev each : (ℕ → Option FaultPlace) → List ℕ → List FaultPlace
each fault numbers = flat_map (λ n. option_to_list (fault n)) numbers

each_says : (fault : ℕ → Option FaultPlace) (So : ℕ → Type 0) (from count : ℕ) → ((n : ℕ) → Tells (So n) (fault n))
    → Says ((n : ℕ) → from ≤ n → n < from + count → So n) (each fault (range_with_len from count))
each_says fault So from zero says = fine (λ n least most. absurd (omega (arith, least, most)))
each_says fault So from (suc count) says = same
    (λ both n least most. elim (cases_lt from n) [
      | inl above ↦ both.1 n (omega (arith, above)) (omega (arith, most))
      | inr here ↦ let is : from ≡ n = omega (arith, least, here) in subst So is both.0
    ])
    (λ all. (all from (omega arith) (omega arith), λ n least most. all n (omega (arith, least)) (omega (arith, most))))
    (also (says from) (each_says fault So (from + 1) count says))

-- a number that is not below the count of streams names none
not_over : (count n : ℕ) → min count 0xffff ≤ n → n < 0xffff → count ≤ n
not_over count n least below = elim (cases_lt n count) [
  | inl under ↦ let more : suc n ≤ min count 0xffff = le-min {k = suc n} {a = count} {b = 0xffff} under below in
      absurd (omega (arith, more, least))
  | inr over ↦ over
]

no_number : (n : ℕ) → 0xffff ≤ n → n < 0xffff → ⊥
no_number n least below = omega (arith, least, below)

past_word : {A : Type 0} (word : Option ℕ) (n : ℕ) (more : ℕ → Unit {0} → Answer A) → nameable (present word) ≤ n
    → n < 0xffff
    → (present word >>= λ count. ok_if (nat_lt n count) (stream_not_found n) >>= more count)
    ≡ Err (stream_not_found n)
past_word None n more least below = absurd (no_number n least below)
past_word (Some count) n more least below = let test = le-ltb n count (not_over count n least below) in rw test refl

past_place : (page_size n : ℕ) (directory : List ℕ) → nameable (stream_count_in directory) ≤ n → n < 0xffff
    → stream_place_in page_size n directory ≡ Err (stream_not_found n)
unfolding stream_place_in
past_place page_size n directory least below = past_word (slice_get (words directory) 0) n _ least below

absent_past : (layout : LayoutValue) (file : List ℕ) (n : ℕ) → streams_nameable layout ≤ n → n < 0xffff
    → stream_by layout file n None ≡ Err (stream_not_found n)
unfolding stream_by stream_entry_of
absent_past layout file n least below =
    let place = past_place layout.head.geometry.page_size n layout.directory least below in rw place refl

none_there : (answer : Answer (List ℕ)) (n : ℕ) → answer ≡ Err (stream_not_found n) → IsReadOrAbsent answer
none_there answer n is = rw is tt

few_nameable : (answer : Answer ℕ) → nameable answer ≤ 0xffff
few_nameable (Ok count) = min-le_right count 0xffff
few_nameable (Err refusal) = omega arith

streams_say : (layout : LayoutValue) (file : List ℕ)
    → Says ((n : ℕ) → n < 0xffff → IsReadOrAbsent (stream_by layout file n None))
    (streams_faults layout file (streams_nameable layout))
unfolding streams_faults bytes_fault
streams_say layout file =
    let few = few_nameable (stream_count_in layout.directory) in
    same
    (λ all n below. elim (cases_lt n (streams_nameable layout)) [
      | inl under ↦ all n (omega arith) (omega (arith, under))
      | inr past ↦ none_there (stream_by layout file n None) n (absent_past layout file n past below)
    ])
    (λ all n least most. all n (omega (arith, most, few)))
    (each_says (bytes_fault layout file) (λ n. IsReadOrAbsent (stream_by layout file n None)) 0
    (streams_nameable layout) (λ n. absent_says n (stream_by layout file n None)))

-- ---- records

refusal_says : {A : Type 0} (fault : Refusal → FaultPlace) (answer : Answer A) → ((r : Refusal) → IsError (fault r))
    → Tells (IsOk answer) (refusal_fault fault answer)
refusal_says fault (Ok x) error = fine refl
refusal_says fault (Err refusal) error = wrong (error refusal) false≢true

items_say : {A : Type 0} (fault : ℕ → Refusal → FaultPlace) (means : ℕ → List ℕ → Answer A) (So : Type 0) (index : ℕ)
    (items : List (List ℕ)) (behind : Option FaultPlace) → ((i : ℕ) (r : Refusal) → IsError (fault i r))
    → Tells So behind → Says (AreFaultless means index items × So) (item_faults fault means index items behind)
items_say fault means So index [] behind error last = same (λ so. (tt, so)) (λ both. both.1) last
items_say {A} fault means So index (item ∷ items) behind error last =
    same (λ all. ((all.0, all.1.0), all.1.1)) (λ all. (all.0.0, (all.0.1, all.1)))
    (also (refusal_says (fault index) (means index item) (error index))
    (items_say fault means So (index + 1) items behind error last))

missing_says : (fault : ℕ → Refusal → FaultPlace) (index maximum : ℕ) → ((i : ℕ) (r : Refusal) → IsError (fault i r))
    → Tells (maximum ≤ index) (missing_fault fault index maximum)
missing_says fault index maximum error = elim (cases_lt index maximum) [
  | inl below ↦ let test = lt-ltb index maximum below in
      rw test (wrong (error index _) (λ past. omega (arith, below, past)))
  | inr past ↦ let test = le-ltb index maximum past in rw test (fine past)
]

some_bytes : (byte : ℕ) (bytes : List ℕ) → byte ∷ bytes ≡ [] → ⊥
some_bytes byte bytes is = cc

behind_says : (fault : ℕ → Refusal → FaultPlace) (index maximum : ℕ) (rest : List ℕ)
    → ((i : ℕ) (r : Refusal) → IsError (fault i r))
    → Tells ((rest ≡ []) × (maximum ≤ index)) (fault_behind fault index maximum rest)
behind_says fault index maximum [] error =
    same (λ past. (refl, past)) (λ both. both.1) (missing_says fault index maximum error)
behind_says fault index maximum (byte ∷ rest) error = wrong (error index _) (λ both. some_bytes byte rest both.0)

records_say : {A : Type 0} (fault : ℕ → Refusal → FaultPlace) (means : ℕ → List ℕ → Answer A) (table : Table)
    → ((i : ℕ) (r : Refusal) → IsError (fault i r))
    → Says (HasWholeRecords means table) (record_faults fault means table)
unfolding record_faults
records_say fault means table error =
    same (λ all. record { records = all.0; ends = all.1.0; counted = all.1.1 })
    (λ whole. (whole.records, (whole.ends, whole.counted)))
    (items_say fault means _ table.header.minimum_index (walk table) _ error
    (behind_says fault (table.header.minimum_index + length (walk table)) table.header.maximum_index (walk_rest table)
    error))

table_says : (part : Part) (number : ℕ) (checked : Table → ℕ → List ℕ → Answer (Unit {0})) (pages : PagesValue)
    (answer : Answer Table) → Says (IsWholeTable checked answer) (table_faults part number
    (λ table. record_faults (item_fault part number pages table) (checked table) table) answer)
table_says part number checked pages (Ok table) =
    records_say (item_fault part number pages table) (checked table) table (λ i r. refl)
table_says part number checked pages (Err refusal) = wrong refl (λ is. is)

table_in : (part : Part) (number : ℕ) (checked : Table → ℕ → List ℕ → Answer (Unit {0})) (pages : PagesValue)
    (answer : Answer (List ℕ))
    → Says (IfRead (λ stream. IsWholeTable checked (table_of stream)) answer)
    (if_read [] (faults_in_table part number checked pages) answer)
unfolding faults_in_table
table_in part number checked pages (Ok stream) = table_says part number checked pages (table_of stream)
table_in part number checked pages (Err refusal) = fine tt

table_by : (part : Part) (number : ℕ) (checked : Table → ℕ → List ℕ → Answer (Unit {0})) (layout : LayoutValue)
    (file : List ℕ)
    → Says (IfRead (λ stream. IsWholeTable checked (table_of stream)) (stream_by layout file number None))
    (table_faults_by part number checked layout file)
unfolding table_faults_by
table_by part number checked layout file =
    table_in part number checked (stream_pages layout number) (stream_by layout file number None)

-- ---- names

named_says : (layout : LayoutValue) (file : List ℕ) (answer : Answer (Option ℕ))
    → Tells (AreNames layout file answer) (named_fault layout file answer)
unfolding string_table_fault
named_says layout file (Ok None) = fine tt
named_says layout file (Ok (Some number)) =
    there_says parts.StringTable number (λ stream. fault_of_answer parts.StringTable number (whole_names stream))
    (λ stream. HasWholeNames (names_of stream)) (stream_by layout file number None)
    (λ stream. same (names_whole stream) (whole_from_names stream)
    (answer_says parts.StringTable number (whole_names stream)))
named_says layout file (Err refusal) = wrong refl (λ is. is)

-- ---- roles

abbrev MaybeError : Option ProblemValue → Type 0
MaybeError None = ⊤
MaybeError (Some problem) = is_tolerated problem ≡ false

problem_error : {A : Type 0} (within : A → Option ProblemValue) (answer : Answer A)
    → ((x : A) → MaybeError (within x)) → MaybeError (problem_in within answer)
problem_error within (Ok x) error = error x
problem_error within (Err refusal) error = refl

sorted_error : (is_sorted : Bool) → MaybeError (unless_sorted is_sorted)
sorted_error true = tt
sorted_error false = refl

sections_error : (stream : List ℕ) → MaybeError (sections_problem stream)
unfolding sections_problem
sections_error stream = problem_error (λ sections. None) (section_headers_of stream) (λ sections. tt)

omap_error : (stream : List ℕ) → MaybeError (omap_problem stream)
unfolding omap_problem
omap_error stream = problem_error (λ table. unless_sorted (sources_rise table)) (omap_table_of stream)
    (λ table. sorted_error (sources_rise table))

frames_error : (old new : Option (List ℕ)) → MaybeError (frames_problem old new)
unfolding frames_problem
frames_error old new = problem_error (λ frames. unless_sorted (starts_rise (by_heads frames.old frames.new)))
    (frame_table_of old new) (λ frames. sorted_error (starts_rise (by_heads frames.old frames.new)))

role_problem_error : (part : Part) (stream : List ℕ) → MaybeError (role_problem part stream)
unfolding role_problem
role_problem_error parts.SectionHeaders stream = sections_error stream
role_problem_error parts.OriginalSectionHeaders stream = sections_error stream
role_problem_error parts.OmapToSource stream = omap_error stream
role_problem_error parts.OmapFromSource stream = omap_error stream
role_problem_error parts.OldFrames stream = frames_error (Some stream) None
role_problem_error parts.NewFrames stream = frames_error None (Some stream)
role_problem_error other stream = tt

some_problem : (problem : ProblemValue) → Some problem ≡ None → ⊥
some_problem problem is = cc

problem_says : (part : Part) (number : ℕ) (problem : Option ProblemValue) → MaybeError problem
    → Tells (problem ≡ None) (option_map (stream_fault part number) problem)
problem_says part number None error = fine refl
problem_says part number (Some problem) error = wrong error (some_problem problem)

numbered_says : (layout : LayoutValue) (file : List ℕ) (part : Part) (number : Option ℕ)
    → Tells (IsNumbered layout file part number) (numbered_fault layout file part number)
numbered_says layout file part None = fine tt
numbered_says layout file part (Some number) =
    there_says part number (λ stream. option_map (stream_fault part number) (role_problem part stream))
    (λ stream. role_problem part stream ≡ None) (stream_by layout file number None)
    (λ stream. problem_says part number (role_problem part stream) (role_problem_error part stream))

role_says : (layout : LayoutValue) (file : List ℕ) (part : Part) (roles : Option DBIExtraStreams)
    → Tells (HasRole layout file part roles) (role_fault layout file part roles)
role_says layout file part None = fine tt
role_says layout file part (Some roles) = numbered_says layout file part (stream_number (role_index part roles))

-- the roles of all parts that are read, and those of all parts
abbrev HaveRoles : LayoutValue → List ℕ → Option DBIExtraStreams → Type 0
HaveRoles layout file roles =
    HasRole layout file parts.SectionHeaders roles × HasRole layout file parts.OriginalSectionHeaders roles
    × HasRole layout file parts.OmapToSource roles × HasRole layout file parts.OmapFromSource roles
    × HasRole layout file parts.OldFrames roles × HasRole layout file parts.NewFrames roles

by_part : (layout : LayoutValue) (file : List ℕ) (roles : Option DBIExtraStreams) → HaveRoles layout file roles
    → (part : Part) → HasRole layout file part roles
unfolding role_index
by_part layout file None have part = tt
by_part layout file (Some roles) have parts.SectionHeaders = have.0
by_part layout file (Some roles) have parts.OriginalSectionHeaders = have.1
by_part layout file (Some roles) have parts.OmapToSource = have.2
by_part layout file (Some roles) have parts.OmapFromSource = have.3
by_part layout file (Some roles) have parts.OldFrames = have.4
by_part layout file (Some roles) have parts.NewFrames = have.5
by_part layout file (Some roles) have other = tt

roles_say : {A : Type 0} {faults : List FaultPlace} (layout : LayoutValue) (file : List ℕ)
    (roles : Option DBIExtraStreams) → Says A faults
    → Says (A × ((part : Part) → HasRole layout file part roles)) (with_roles layout file roles faults)
unfolding with_roles
roles_say layout file roles says =
    let one = λ (part : Part). role_says layout file part roles in
    same
    (λ all. (
      all.0.0.0.0.0.0,
      by_part layout file roles
          (all.0.0.0.0.0.1, all.0.0.0.0.1, all.0.0.0.1, all.0.0.1, all.0.1, all.1),
    ))
    (λ all. (
      (
        (
          (((all.0, all.1 parts.SectionHeaders), all.1 parts.OriginalSectionHeaders), all.1 parts.OmapToSource),
          all.1 parts.OmapFromSource,
        ),
        all.1 parts.OldFrames,
      ),
      all.1 parts.NewFrames,
    ))
    (also (also (also (also (also (also says (one parts.SectionHeaders)) (one parts.OriginalSectionHeaders))
    (one parts.OmapToSource)) (one parts.OmapFromSource)) (one parts.OldFrames)) (one parts.NewFrames))

roles_in : (answer : Answer (List ℕ)) → Tells (IfRead (λ stream. IsOk (extra_streams_of stream)) answer)
    (if_read None (λ stream. fault_of_answer parts.Roles 3 (extra_streams_of stream)) answer)
roles_in (Ok stream) = answer_says parts.Roles 3 (extra_streams_of stream)
roles_in (Err refusal) = fine tt

-- ---- the whole file

-- the parts behind a test have no errors, if the test fails, and no parts else
tested : {A : Type 0} (small large : ℕ) (fault : FaultPlace) (faults : List FaultPlace) → IsError fault
    → (errors_in faults ≡ []) ↔ A
    → (errors_in (if nat_lt small large then fault ∷ [] else faults) ≡ []) ↔ ((large ≤ small) × A)
tested small large fault faults error agree = elim (cases_lt small large) [
  | inl under ↦ let test = lt-ltb small large under in
      rw (test, error) (λ none. absurd cc, λ both. absurd (omega (arith, under, both.0)))
  | inr over ↦ let test = le-ltb small large over in
      rw test (λ none. (over, agree.0 none), λ both. agree.1 both.1)
]

parts_agree : (extent : Extent) (layout : LayoutValue) (file : List ℕ)
    → (errors_in (sized_faults extent layout file) ≡ []) ↔ HasWholeParts layout file
unfolding sized_faults part_faults related_faults refused_faults fixed_faults names_fault roles_fault
parts_agree extent layout file =
    let names = there_says parts.Names 1 (λ stream. named_fault layout file (string_table_number stream))
    (λ stream. AreNames layout file (string_table_number stream)) (stream_by layout file 1 None)
    (λ stream. named_says layout file (string_table_number stream)) in
    let types = table_by parts.Types 2 checked_type layout file in
    let ids = table_by parts.Ids 4 (λ table. checked_id) layout file in
    let fixed = also (also (also (also (told extent (streams_say layout file)) names)
    (roles_in (stream_by layout file 3 None))) (told extent types)) (told extent ids) in
    let apart = no_error (roles_say layout file (known_roles layout file) fixed) in
    let whole = tested (length file) (streams_size layout) _ (part_faults extent layout file) refl
    (agreeing extent layout (section_relations layout file) _
    (agreeing extent layout (symbol_relations layout file) _
    (agreeing extent layout (debug_relations layout file) _
    (agreeing extent layout (name_relations layout file) _
    (agreeing extent layout (id_relations layout file) _
    (agreeing extent layout (type_relations layout file) _
    (agreeing extent layout (container_relations layout file) _ apart))))))) in (
      λ none. let all = whole.0 none in let are = all.1.0.0.0.0.0.0.0 in record {
        streams_fit = all.0;
        streams = are.0.0.0.0.0;
        names = are.0.0.0.0.1;
        roles = are.0.0.0.1;
        types = are.0.0.1;
        ids = are.0.1;
        by_role = are.1;
        pages_agree = all.1.0.0.0.0.0.0.1;
        types_agree = all.1.0.0.0.0.0.1;
        ids_agree = all.1.0.0.0.0.1;
        names_agree = all.1.0.0.0.1;
        roles_agree = all.1.0.0.1;
        symbols_agree = all.1.0.1;
        sections_agree = all.1.1;
      },
      λ so. whole.1 (
        so.streams_fit,
        (
          (
            (
              (
                (
                  (
                    (
                      (((((so.streams, so.names), so.roles), so.types), so.ids), so.by_role),
                      so.pages_agree,
                    ),
                    so.types_agree,
                  ),
                  so.ids_agree,
                ),
                so.names_agree,
              ),
              so.roles_agree,
            ),
            so.symbols_agree,
          ),
          so.sections_agree,
        ),
      ),
    )

layout_agrees : (extent : Extent) (file : List ℕ) (answer : Answer LayoutValue)
    → (errors_in (faults_by extent file answer) ≡ []) ↔ IsWholeBehind file answer
layout_agrees extent file (Ok layout) = parts_agree extent layout file
layout_agrees extent file (Err refusal) = (λ none. absurd cc, λ whole. absurd whole)

opened_agrees : (extent : Extent) (file : List ℕ) → (errors_in (opened_faults extent file) ≡ []) ↔ IsWhole file
unfolding opened_faults
opened_agrees extent file =
    let agree = tested (length file) (directory_size file) _ (faults_by extent file (layout_of file)) refl
    (layout_agrees extent file (layout_of file)) in (
      λ none. record { directory_fits = (agree.0 none).0; parts = (agree.0 none).1 },
      λ whole. agree.1 (whole.directory_fits, whole.parts),
    )

header_agrees : (extent : Extent) (file : List ℕ) (answer : Answer Head)
    → (errors_in (faults_behind extent file answer) ≡ []) ↔ (IsOk answer × IsWhole file)
header_agrees extent file (Ok head) =
    let agree = opened_agrees extent file in (λ none. (refl, agree.0 none), λ both. agree.1 both.1)
header_agrees extent file (Err refusal) = (λ none. absurd cc, λ both. absurd (false≢true both.0))

-- the header of a file whose layout can be read
first_ok : (file : List ℕ) (answer : Answer Head) (more : Head → Answer LayoutValue)
    → IsWholeBehind file (answer >>= more) → IsOk answer
first_ok file (Ok head) more whole = refl
first_ok file (Err refusal) more whole = absurd whole

opened_by : (file : List ℕ) → IsWholeBehind file (layout_of file) → IsOk (file_head file)
unfolding layout_of
opened_by file whole = first_ok file (file_head file) _ whole

file_agrees : (extent : Extent) (file : List ℕ) → (errors_in (faults_of extent file) ≡ []) ↔ IsWhole file
unfolding faults_of
file_agrees extent file =
    let agree = header_agrees extent file (file_head file) in
    (λ none. (agree.0 none).1, λ whole. agree.1 (opened_by file whole.parts, whole))

abbrev said : List FaultPlace → Answer (List FaultPlace)
said faults = Ok faults

pub whole_findings : {X : Type 0} (items : X → List Finding) (failed : Type 0) (result : Result X Error)
    (extent : Extent) (file : List ℕ)
    → AnswersUnless failed (λ (findings : X). map finding_view (items findings)) result (said (faults_of extent file))
    → IfOk result (λ findings. (error_count (map finding_view (items findings)) ≡ 0) ↔ IsWhole file)
whole_findings items failed (Ok findings) extent file is =
    let same : faults_of extent file ≡ map finding_view (items findings) = ok_is _ _ is in
    let agree = file_agrees extent file in
    let none = counted (map finding_view (items findings)) in (
      λ zero. agree.0 (ap errors_in same ∙ none.0 zero),
      λ whole. none.1 (sym (ap errors_in same) ∙ agree.1 whole),
    )
whole_findings items failed (Err e) extent file is = tt
