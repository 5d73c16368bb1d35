-- The answers for a header, a directory and a stream follow the rules of `Faults`.
use Rattle.std.proofs.Common.{◌≡◌, ◌⊎◌, inl, inr, ℕ, ◌+◌, ◌*◌, ◌<◌, ◌≤◌, Bool, cond, eqb, ltb, leb, List, []}
use Rattle.std.proofs.Common.{◌∷◌, ◌++◌, length, take, drop, map, refl, sym, ap, ◌∙◌, subst, arith, slice_index}
use Rattle.std.proofs.Common.{Option, Some}
use Rattle.std.proofs.Common.{None}
use Rattle.std.specs.Prelude.{nat_eq, codes, not, IsTrue}
use Rattle.std.specs.declared.io.ErrorKind.TheVariants.{UnexpectedEof}
use Rattle.std.specs.List.{list_all, range_with_len, slice_get, starts_with}
use Rattle.std.proofs.lemmas.Bool.{both_ways, cases_Bool, cases_lt, eqb-false, eqb-true, leb-false, leb-true}
use Rattle.std.proofs.lemmas.Bool.{le-leb, le-ltb, lt-leb, lt-ltb, ltb-false, ltb-true, not-false, not-true}
use Rattle.std.proofs.lemmas.List.{drop-drop, length-drop}
use Rattle.std.proofs.lemmas.Option.{none-some, same_Some, slice_get_within}
use Rattle.pdb_base.specs.Endian.{little_number}
use Rattle.pdb_base.specs.Refusal.{io_error, unexpected_eof, unimplemented_feature, unrecognized_file_format}
use Rattle.pdb_base.specs.Refusal.{invalid_page_size, page_reference_out_of_range, stream_not_found}
use Rattle.pdb_base.specs.Reading.{word_at}
use Rattle.pdb_base.specs.Answer.{◌>>=◌, ok_if}
use Rattle.pdb_base.specs.Rules.{Rule, ◌⇒◌, FollowsRules}
use Rattle.pdb_base.proofs.lemmas.Collected.{ok, option_cases}
use Rattle.pdb_base.proofs.lemmas.Rules.{follows_ok, follows_fails, follows_kept, follows_next, follows_map}
use Rattle.pdb_base.proofs.lemmas.Rules.{follows_each}
use Rattle.pdb_base.proofs.lemmas.Rules.{follows_if, follows_last, follows_restated}
use Rattle.pdb_msf.specs.declared.header.Geometry.{Geometry}
use Rattle.pdb_msf.specs.declared.directory.StreamPlace.{StreamPlace}
use Rattle.pdb_msf.specs.Source.{bytes_at, bytes_or_eof}
use Rattle.pdb_msf.specs.Pages.{pages, position_of, scatter, words, present, valid_page, page_number, page_numbers}
use Rattle.pdb_msf.specs.Header.{Head, is_page_size, small_magic, big_magic, magic_of, geometry_of, head_of, opening}
use Rattle.pdb_msf.specs.Header.{file_head, directory_pages, location_pages}
use Rattle.pdb_msf.specs.Directory.{PagesOfStream, absent, limit_size, sizes_of, stream_place_in}
use Rattle.pdb_msf.specs.Directory.{stream_entry_of, directory_numbers, directory_of}
use Rattle.pdb_msf.specs.File.{stream_of}
use Rattle.pdb_msf.specs.Laws.{IsDirectory, IsStream}
use Rattle.pdb_msf.specs.Faults.{numbers_from, number_rules, bytes_in, IsPastEnd, geometry_in, head_in, header_rules}
use Rattle.pdb_msf.specs.Faults.{file_rules, location_in, directory_numbers_in, directory_in, directory_rules, size_at}
use Rattle.pdb_msf.specs.Faults.{numbers_start, stream_numbers_in, stream_rules}
use Rattle.pdb_msf.proofs.WordLemmas.{slice_get-drop, words-drop, words-drop_one}
use Rattle.pdb_msf.proofs.LawLemmas.{scatters, stand_at_offsets}
use Rattle.pdb_msf.proofs.StreamLaws.{is_directory, only_directory, is_stream, only_stream}

-- ---- numbers

first_word_there : (bytes : List ℕ) → 4 ≤ length bytes
    → slice_get (words bytes) 0 ≡ Some (little_number 4 (take 4 bytes))
first_word_there [] long = absurd (omega arith)
first_word_there (a ∷ []) long = absurd (omega arith)
first_word_there (a ∷ b ∷ []) long = absurd (omega arith)
first_word_there (a ∷ b ∷ c ∷ []) long = absurd (omega arith)
first_word_there (a ∷ b ∷ c ∷ d ∷ rest) long = refl

first_word_missing : (bytes : List ℕ) → length bytes < 4 → slice_get (words bytes) 0 ≡ None
first_word_missing [] short = refl
first_word_missing (a ∷ []) short = refl
first_word_missing (a ∷ b ∷ []) short = refl
first_word_missing (a ∷ b ∷ c ∷ []) short = refl
first_word_missing (a ∷ b ∷ c ∷ d ∷ rest) short = absurd (omega arith)

-- number i from an offset on is the first number at its own offset
word_from : (bytes : List ℕ) (start i : ℕ)
    → slice_get (words (drop start bytes)) i ≡ slice_get (words (drop (start + 4 * i) bytes)) 0
word_from bytes start i =
    sym (slice_get-drop i (words (drop start bytes)))
    ∙ ap (λ (ws : List ℕ). slice_get ws 0) (sym (words-drop i (drop start bytes)))
    ∙ ap (λ (b : List ℕ). slice_get (words b) 0) (drop-drop (4 * i) start bytes)

number_there : (bytes : List ℕ) (start i : ℕ) → start + 4 * i + 4 ≤ length bytes
    → slice_get (words (drop start bytes)) i ≡ Some (word_at (start + 4 * i) bytes)
number_there bytes start i long =
    word_from bytes start i
    ∙ first_word_there (drop (start + 4 * i) bytes) (omega (arith, length-drop (start + 4 * i) bytes))

number_missing : (bytes : List ℕ) (start i : ℕ) → length bytes < start + 4 * i + 4
    → slice_get (words (drop start bytes)) i ≡ None
number_missing bytes start i short =
    word_from bytes start i
    ∙ first_word_missing (drop (start + 4 * i) bytes) (omega (arith, length-drop (start + 4 * i) bytes))

judged : (pages_used word : ℕ)
    → FollowsRules (((word ≡ 0) ⊎ (pages_used < word) ⇒ page_reference_out_of_range word) ∷ []) (λ x. x ≡ word)
    (valid_page pages_used word)
judged pages_used word = elim (cases_lt 0 word) [
  | inr zero ↦ rw (le-ltb 0 word zero) (follows_fails _ _ [] (λ x. x ≡ word) (inl (omega arith)))
  | inl some ↦ elim (cases_lt pages_used word) [
    | inl above ↦ rw (lt-ltb 0 word some, lt-leb word pages_used above)
        (follows_fails _ _ [] (λ x. x ≡ word) (inr above))
    | inr within ↦ rw (lt-ltb 0 word some, le-leb word pages_used within)
        (follows_kept _ _ [] (λ x. x ≡ word) (ok word)
        (λ bad. elim bad [ inl zero ↦ omega arith | inr above ↦ omega arith ]) (follows_ok word))
  ]
]

present_follows : (bytes : List ℕ) (start i : ℕ)
    → FollowsRules ((length bytes < start + 4 * i + 4 ⇒ unexpected_eof) ∷ []) (λ x. x ≡ word_at (start + 4 * i) bytes)
    (present (slice_get (words (drop start bytes)) i))
present_follows bytes start i = elim (cases_lt (length bytes) (start + 4 * i + 4)) [
  | inl short ↦ rw (number_missing bytes start i short)
      (follows_fails _ _ [] (λ x. x ≡ word_at (start + 4 * i) bytes) short)
  | inr long ↦ rw (number_there bytes start i long)
      (follows_kept _ _ [] (λ x. x ≡ word_at (start + 4 * i) bytes) _ (λ short. omega arith)
      (follows_ok (word_at (start + 4 * i) bytes)))
]

number_follows : (pages_used start : ℕ) (bytes : List ℕ) (i : ℕ)
    → FollowsRules (
    (length bytes < start + 4 * i + 4 ⇒ unexpected_eof)
    ∷ ((word_at (start + 4 * i) bytes ≡ 0) ⊎ (pages_used < word_at (start + 4 * i) bytes)
    ⇒ page_reference_out_of_range (word_at (start + 4 * i) bytes))
    ∷ []
    ) (λ x. x ≡ word_at (start + 4 * i) bytes) (page_number pages_used (words (drop start bytes)) i)
number_follows pages_used start bytes i =
    follows_next _ _ (word_at (start + 4 * i) bytes) (λ x. x ≡ word_at (start + 4 * i) bytes)
    (present (slice_get (words (drop start bytes)) i)) (valid_page pages_used) (present_follows bytes start i)
    (judged pages_used (word_at (start + 4 * i) bytes))

pub numbers_follow : (pages_used start count : ℕ) (bytes : List ℕ)
    → FollowsRules (number_rules pages_used start count bytes) (λ xs. xs ≡ numbers_from start count bytes)
    (page_numbers pages_used count (words (drop start bytes)))
unfolding page_numbers
numbers_follow pages_used start count bytes =
    follows_each _ (page_number pages_used (words (drop start bytes))) (λ i. word_at (start + 4 * i) bytes)
    (range_with_len 0 count) (number_follows pages_used start bytes)

-- ---- bytes

bytes_found : (file at bytes : List ℕ) → bytes_at file at ≡ Some bytes → map (slice_index file) at ≡ bytes
unfolding bytes_at
bytes_found file at bytes e = elim (cases_Bool (list_all (λ place. ltb place (length file)) at)) [
  | inr none ↦ absurd (none-some bytes
      (subst (λ (b : Bool). cond b (Some (map (slice_index file) at)) None ≡ Some bytes) none e))
  | inl all ↦ same_Some (map (slice_index file) at) bytes
      (subst (λ (b : Bool). cond b (Some (map (slice_index file) at)) None ≡ Some bytes) all e)
]

pub bytes_follow : (file : List ℕ) (page_size : ℕ) (numbers : List ℕ) (size : ℕ)
    → FollowsRules ((IsPastEnd file page_size numbers size ⇒ io_error UnexpectedEof) ∷ [])
    (λ bytes. bytes ≡ bytes_in file page_size numbers size)
    (bytes_or_eof (scatter file page_size numbers size))
unfolding scatter
bytes_follow file page_size numbers size = elim (option_cases (scatter file page_size numbers size)) [
  | inl none ↦ rw none (follows_fails _ _ [] (λ bytes. bytes ≡ bytes_in file page_size numbers size)
      ((scatters file page_size numbers size).missing none))
  | inr there ↦
      let are = (scatters file page_size numbers size).found there.0 there.1 in
      let is : bytes_in file page_size numbers size ≡ there.0 = bytes_found file _ there.0 there.1 in
      rw there.1 (follows_kept _ _ [] (λ bytes. bytes ≡ bytes_in file page_size numbers size) (ok there.0)
      (λ past. let within : position_of page_size numbers past.0 < length file =
      slice_get_within file (position_of page_size numbers past.0) (slice_index there.0 past.0) (are.each past.0 past.1)
      in omega (arith, past.2, within))
      (subst (λ (bytes : List ℕ). FollowsRules [] (λ x. x ≡ bytes) (ok there.0)) (sym is) (follows_ok there.0)))
]

-- ---- the header

geometry_follows : (view : List ℕ) → 52 ≤ length view
    → FollowsRules (
    (IsTrue (starts_with nat_eq view small_magic) ⇒ unimplemented_feature (codes "small MSF file format"))
    ∷ (¬ IsTrue (starts_with nat_eq view big_magic) ⇒ unrecognized_file_format)
    ∷ (¬ IsTrue (is_page_size (word_at 32 view)) ⇒ invalid_page_size (word_at 32 view))
    ∷ []
    ) (λ fields. fields ≡ (geometry_in view, drop 52 view)) (geometry_of view)
unfolding geometry_of magic_of
geometry_follows view long =
    let small = starts_with nat_eq view small_magic in
    let big = starts_with nat_eq view big_magic in
    let sized = is_page_size (word_at 32 view) in
    rw (le-leb 52 (length view) long, stand_at_offsets view long)
    (follows_next
    ((IsTrue (starts_with nat_eq view small_magic) ⇒ unimplemented_feature (codes "small MSF file format"))
    ∷ (¬ IsTrue (starts_with nat_eq view big_magic) ⇒ unrecognized_file_format)
    ∷ []) ((¬ IsTrue (is_page_size (word_at 32 view)) ⇒ invalid_page_size (word_at 32 view)) ∷ []) tt
    (λ fields. fields ≡ (geometry_in view, drop 52 view)) _ _
    (follows_if _ (not small) _ _ (λ x. x ≡ tt) _ (λ t. both_ways small (not-true small t)) (not-false small)
    (λ _. follows_last _ big _ (λ t no. no t) (both_ways big)))
    (follows_if _ sized _ [] (λ fields. fields ≡ (geometry_in view, drop 52 view)) _ (λ t no. no t) (both_ways sized)
    (λ _. follows_ok (geometry_in view, drop 52 view))))

pub header_follows : (view : List ℕ) → FollowsRules (header_rules view) (λ head. head ≡ head_in view) (head_of view)
unfolding head_of geometry_of magic_of
header_follows view = elim (cases_lt (length view) 52) [
  | inl short ↦ rw (lt-leb 52 (length view) short) (follows_fails _ _ _ (λ head. head ≡ head_in view) short)
  | inr long ↦ follows_kept _ _ _ (λ head. head ≡ head_in view) (head_of view) (λ short. omega arith)
      (follows_next _ (number_rules (word_at 40 view) 52 (location_pages (geometry_in view)) view)
      (geometry_in view, drop 52 view) (λ head. head ≡ head_in view) (geometry_of view) _ (geometry_follows view long)
      (follows_map _ (numbers_from 52 (location_pages (geometry_in view)) view) _
      (λ location. let head : Head = record { geometry = geometry_in view; location = location } in head)
      (numbers_follow (word_at 40 view) 52 (location_pages (geometry_in view)) view)))
]

pub file_follows : (file : List ℕ)
    → FollowsRules (file_rules file) (λ head. head ≡ head_in (take 4096 file)) (file_head file)
unfolding file_head opening
file_follows file = elim (cases_lt (length file) 4096) [
  | inl short ↦ rw (lt-ltb (length file) 4096 short)
      (follows_fails _ _ _ (λ head. head ≡ head_in (take 4096 file)) short)
  | inr long ↦ rw (le-ltb (length file) 4096 long)
      (follows_kept _ _ _ (λ head. head ≡ head_in (take 4096 file)) _ (λ short. omega arith)
      (header_follows (take 4096 file)))
]

-- ---- the directory

directory_is : (file : List ℕ) (head : Head)
    → FollowsRules (directory_rules file head) (λ d. d ≡ directory_in file head) (directory_of file head)
unfolding directory_of directory_numbers
directory_is file head =
    let g = head.geometry in
    follows_next _ _ (directory_numbers_in file head) (λ d. d ≡ directory_in file head) (directory_numbers file head) _
    (follows_next _ (number_rules g.pages_used 0 (directory_pages g) (location_in file head)) (location_in file head)
    (λ numbers. numbers ≡ directory_numbers_in file head) _ _
    (bytes_follow file g.page_size head.location (4 * directory_pages g))
    (numbers_follow g.pages_used 0 (directory_pages g) (location_in file head)))
    (bytes_follow file g.page_size (directory_numbers_in file head) g.directory_size)

pub directory_follows : (file : List ℕ) (head : Head)
    → FollowsRules (directory_rules file head) (IsDirectory file head) (directory_of file head)
directory_follows file head =
    follows_restated _ _ (IsDirectory file head) (directory_of file head) (directory_is file head)
    (is_directory file head) (only_directory file head)

-- ---- a stream

-- the rules of where stream n stands in a directory
abbrev place_rules : ℕ → ℕ → List ℕ → List Rule
place_rules page_size n d =
    (length d < 4 ⇒ unexpected_eof)
    ∷ (word_at 0 d ≤ n ⇒ stream_not_found n)
    ∷ (length d < 4 + 4 * n + 4 ⇒ unexpected_eof)
    ∷ (size_at n d ≡ absent ⇒ stream_not_found n)
    ∷ (length d < 4 + 4 * word_at 0 d ⇒ unexpected_eof)
    ∷ (length d < numbers_start page_size n d ⇒ unexpected_eof)
    ∷ []

abbrev place_in : ℕ → ℕ → List ℕ → StreamPlace
place_in page_size n d = record { size = size_at n d; start = numbers_start page_size n d }

-- the offset at which its page numbers begin is behind all sizes
start_follows : (page_size n : ℕ) (d : List ℕ)
    → FollowsRules (
    (length d < 4 + 4 * word_at 0 d ⇒ unexpected_eof)
    ∷ (length d < numbers_start page_size n d ⇒ unexpected_eof)
    ∷ []
    ) (λ place. place ≡ place_in page_size n d)
    (ok_if (leb (numbers_start page_size n d) (length d)) unexpected_eof >>= λ reached. ok (place_in page_size n d))
start_follows page_size n d =
    let start = numbers_start page_size n d in
    elim (cases_lt (length d) (4 + 4 * word_at 0 d)) [
      | inl cut ↦ rw (lt-leb start (length d) (omega arith))
          (follows_fails _ _ _ (λ place. place ≡ place_in page_size n d) cut)
      | inr sized ↦ follows_kept _ _ _ (λ place. place ≡ place_in page_size n d) _ (λ cut. omega arith)
          (follows_if _ (leb start (length d)) _ [] (λ place. place ≡ place_in page_size n d) _
          (λ t past. let within : start ≤ length d = leb-true start (length d) t in omega arith)
          (leb-false start (length d)) (λ _. follows_ok (place_in page_size n d)))
    ]

place_follows : (page_size n : ℕ) (d : List ℕ)
    → FollowsRules (place_rules page_size n d) (λ place. place ≡ place_in page_size n d) (stream_place_in page_size n d)
unfolding stream_place_in
place_follows page_size n d =
    let count = word_at 0 d in
    let size = size_at n d in
    let sized : FollowsRules ((length d < 4 + 4 * n + 4 ⇒ unexpected_eof) ∷ []) (λ x. x ≡ size_at n d)
    (present (slice_get (sizes_of d) n)) =
    subst (λ (sizes : List ℕ). FollowsRules ((length d < 4 + 4 * n + 4 ⇒ unexpected_eof) ∷ []) (λ x. x ≡ size_at n d)
    (present (slice_get sizes n))) (words-drop_one d) (present_follows d 4 n) in
    follows_next _ _ count (λ place. place ≡ place_in page_size n d) _ _ (present_follows d 0 0)
    (follows_if _ (ltb n count) _ _ (λ place. place ≡ place_in page_size n d) _
    (λ t few. let known : n < count = ltb-true n count t in omega arith) (ltb-false n count) (λ _.
    follows_next _ _ size (λ place. place ≡ place_in page_size n d) _ _ sized
    (follows_if _ (not (eqb size absent)) _ _ (λ place. place ≡ place_in page_size n d) _
    (λ t. eqb-false size absent (not-true (eqb size absent) t))
    (λ f. eqb-true size absent (not-false (eqb size absent) f)) (λ _. start_follows page_size n d))))

abbrev entry_in : Geometry → ℕ → Option ℕ → List ℕ → PagesOfStream
entry_in g n limit d =
    record { size = limit_size (size_at n d) limit; pages = stream_numbers_in g.page_size n d }

entry_follows : (g : Geometry) (n : ℕ) (limit : Option ℕ) (d : List ℕ)
    → FollowsRules (
    place_rules g.page_size n d
    ++ number_rules g.pages_used (numbers_start g.page_size n d) (pages g.page_size (size_at n d)) d
    ) (λ entry. entry ≡ entry_in g n limit d) (stream_entry_of g n limit d)
unfolding stream_entry_of
entry_follows g n limit d =
    follows_next (place_rules g.page_size n d) _ (place_in g.page_size n d) (λ entry. entry ≡ entry_in g n limit d) _ _
    (place_follows g.page_size n d)
    (follows_map _ (stream_numbers_in g.page_size n d) _
    (λ numbers. let entry : PagesOfStream = record { size = limit_size (size_at n d) limit; pages = numbers } in entry)
    (numbers_follow g.pages_used (numbers_start g.page_size n d) (pages g.page_size (size_at n d)) d))

pub stream_follows : (file : List ℕ) (head : Head) (n : ℕ) (limit : Option ℕ)
    → FollowsRules (stream_rules file head n limit) (IsStream file head n limit) (stream_of file head n limit)
unfolding stream_of
stream_follows file head n limit =
    let g = head.geometry in
    let d = directory_in file head in
    let lies = bytes_in file g.page_size (stream_numbers_in g.page_size n d) (limit_size (size_at n d) limit) in
    follows_restated _ (λ bytes. bytes ≡ lies) (IsStream file head n limit) (stream_of file head n limit)
    (follows_next (directory_rules file head) _ d (λ bytes. bytes ≡ lies) (directory_of file head) _
    (directory_is file head)
    (follows_next _ _ (entry_in g n limit d) (λ bytes. bytes ≡ lies) (stream_entry_of g n limit d) _
    (entry_follows g n limit d)
    (bytes_follow file g.page_size (stream_numbers_in g.page_size n d) (limit_size (size_at n d) limit))))
    (is_stream file head n limit) (only_stream file head n limit)
