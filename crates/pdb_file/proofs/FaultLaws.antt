-- The answers for named streams follow their rules.
use Rattle.std.proofs.Common.{◌≡◌, ◌≢◌, ◌↔◌, inl, inr, ℕ, ◌+◌, ◌*◌, ◌/◌, ◌<◌, ◌≤◌, eqb}
use Rattle.std.proofs.Common.{Option, Some, None, subst, List, [], ◌∷◌, ◌++◌, length, map, take}
use Rattle.std.proofs.Common.{drop, refl, sym, ap, ◌∙◌, arith, Ok, Err}
use Rattle.std.specs.List.{range_with_len}
use Rattle.std.proofs.lemmas.Bool.{both_ways, cases_Bool, cases_lt, eqb-false, eqb-true, le-leb, lt-leb}
use Rattle.std.specs.List.{AllByRecursion, find}
use Rattle.std.specs.Cmp.Lexicographic.{bytes_decides}
use Rattle.std.specs.Str.{bytes_eq}
use Rattle.std.proofs.lemmas.List.{drop-drop, length-drop}
use Rattle.pdb_base.specs.Index.{no_stream}
use Rattle.pdb_base.specs.Refusal.{Refusal, refusal_of, unexpected_eof, stream_name_not_found}
use Rattle.pdb_base.specs.declared.error.Error.{Error}
use Rattle.pdb_base.specs.declared.error.Error.TheVariants.{OutOfMemory}
use Rattle.pdb_base.specs.Reading.{front_at, number_at, word_at}
use Rattle.pdb_base.specs.Answer.{Answer, ◌>>=◌, values_of_all}
use Rattle.pdb_base.specs.Rules.{Rule, ◌⇒◌, FirstRefuses, rules_of_each, rule_of, FollowsRules}
use Rattle.pdb_base.proofs.lemmas.Collected.{ok, err, ok_is, err_is, ok_is_no_err, answer_cases, bind_err}
use Rattle.pdb_base.proofs.lemmas.Reading.{front_whole, front_cut, number_there, number_cut}
use Rattle.pdb_base.proofs.lemmas.Rules.{follows_ok, follows_fails, follows_kept, follows_then, follows_next}
use Rattle.pdb_base.proofs.lemmas.Rules.{follows_map}
use Rattle.pdb_base.proofs.lemmas.Rules.{follows_restated, follows_said, follows_found, follows_assigned}
use Rattle.pdb_base.proofs.lemmas.Rules.{follows_as_one}
use Rattle.pdb_base.proofs.lemmas.Rules.{bind_apart}
use Rattle.pdb_msf.specs.Header.{Head}
use Rattle.pdb_msf.specs.File.{stream_of}
use Rattle.pdb_msf.specs.Laws.{IsStream}
use Rattle.pdb_msf.specs.Faults.{stream_rules}
use Rattle.pdb_msf.proofs.lemmas.Faults.{stream_follows}
use Rattle.pdb_space.proofs.NameLemmas.{finds_name}
use Rattle.pdb_space.specs.StringTable.{name_of}
use Rattle.pdb_space.specs.StringTableLaws.{name_rules}
use Rattle.pdb_space.proofs.lemmas.Faults.{name_follows}
use Rattle.pdb_file.specs.StreamNames.{Map, Named, behind_set, entries_at, map_of, named_at, named_in, stream_names_of}
use Rattle.pdb_file.specs.StreamNames.{number_found, number_named}
use Rattle.pdb_file.specs.Information.{information, information_of}
use Rattle.pdb_file.specs.File.{information_stream, file_information, file_number, file_named_stream}
use Rattle.pdb_file.specs.declared.information.PDBInformation.{PDBInformation}
use Rattle.pdb_file.specs.Laws.{AreNamed, EndsTooSoon, FindsNamed}
use Rattle.pdb_file.specs.Faults.{set_end, entries_start, entries_size, map_within, named_rules}
use Rattle.pdb_file.specs.Faults.{NamesStreams, IsNumberNamed, named_stream_rules, IsNamedStream}
use Rattle.pdb_file.proofs.NamedLaws.{all_found, all_only, map_found, map_only}

-- ---- reads one behind the other, of which the last reaches furthest

further : {A B : Type 0} (s : List ℕ) (x y : ℕ) (v : A) (Was : B → Type 0) (answer : Answer A) (next : A → Answer B)
    → FollowsRules ((length s < x ⇒ unexpected_eof) ∷ []) (λ a. a ≡ v) answer → x ≤ y
    → (x ≤ length s → FollowsRules ((length s < y ⇒ unexpected_eof) ∷ []) Was (next v))
    → FollowsRules ((length s < y ⇒ unexpected_eof) ∷ []) Was (answer >>= next)
further {A} s x y v Was answer next first le more = elim (cases_lt (length s) x) [
  | inl short ↦
      let is : answer ≡ err {A = A} unexpected_eof = (first.refused unexpected_eof).1 (inl (short, refl)) in
      rw is (follows_fails (length s < y) unexpected_eof [] Was (omega arith))
  | inr long ↦
      let is : answer ≡ ok v = (first.value v).1 (((λ e short. let past = short.0 in omega arith), tt), refl) in
      rw is (more long)
]

reads : {A : Type 0} (s : List ℕ) (end : ℕ) (v : A) (answer : Answer A)
    → (length s < end → answer ≡ Err unexpected_eof) → (end ≤ length s → answer ≡ Ok v)
    → FollowsRules ((length s < end ⇒ unexpected_eof) ∷ []) (λ a. a ≡ v) answer
reads s end v answer cut whole = elim (cases_lt (length s) end) [
  | inl short ↦ rw (cut short) (follows_fails _ _ [] (λ a. a ≡ v) short)
  | inr long ↦ rw (whole long) (follows_kept _ _ [] (λ a. a ≡ v) _ (λ short. omega arith) (follows_ok v))
]

front_step : (s : List ℕ) (at count : ℕ) → at ≤ length s
    → FollowsRules ((length s < at + count ⇒ unexpected_eof) ∷ [])
    (λ a. a ≡ (take count (drop at s), drop (at + count) s)) (front_at count (drop at s))
front_step s at count within =
    reads s (at + count) _ _ (λ short. front_cut count (drop at s) (omega (arith, length-drop at s)))
    (λ long. front_whole count (drop at s) (omega (arith, length-drop at s)) ∙ rw (drop-drop count at s) refl)

number_step : (s : List ℕ) (at : ℕ)
    → FollowsRules ((length s < at + 4 ⇒ unexpected_eof) ∷ []) (λ a. a ≡ (word_at at s, drop (at + 4) s))
    (number_at 4 (drop at s))
number_step s at =
    reads s (at + 4) _ _ (λ short. number_cut 4 (drop at s) (omega (arith, length-drop at s)))
    (number_there 4 at (at + 4) s refl)

set_step : (s : List ℕ) (at : ℕ)
    → FollowsRules ((length s < set_end at s ⇒ unexpected_eof) ∷ []) (λ a. a ≡ drop (set_end at s) s)
    (behind_set (drop at s))
unfolding behind_set
set_step s at =
    further s _ _ _ _ _ _ (number_step s at) (omega arith) (λ long. follows_map _ _ _ (λ (words : List ℕ × List ℕ).
    words.1) (front_step s (at + 4) (4 * word_at at s) long))

-- ---- the table

entries_step : (s : List ℕ) (at : ℕ)
    → FollowsRules ((length s < set_end (set_end (at + 4 + 4) s) s + 8 * word_at at s ⇒ unexpected_eof) ∷ [])
    (λ a. a ≡ (
      take (8 * word_at at s) (drop (set_end (set_end (at + 4 + 4) s) s) s),
      drop (set_end (set_end (at + 4 + 4) s) s + 8 * word_at at s) s,
    )) (entries_at (drop at s))
unfolding entries_at
entries_step s at =
    further s _ _ _ _ _ _ (number_step s at) (omega arith) (λ _.
    further s _ _ _ _ _ _ (number_step s (at + 4)) (omega arith) (λ _.
    further s _ _ _ _ _ _ (set_step s (at + 4 + 4)) (omega arith) (λ _.
    further s _ _ _ _ _ _ (set_step s (set_end (at + 4 + 4) s)) (omega arith) (λ long.
    front_step s (set_end (set_end (at + 4 + 4) s) s) (8 * word_at at s) long))))

map_follows : (information : PDBInformation)
    → FollowsRules
    ((length information.stream < entries_start information + entries_size information ⇒ unexpected_eof) ∷ [])
    (λ table. table ≡ map_within information) (map_of information)
unfolding map_of
map_follows information =
    let s = information.stream in
    let offset = information.names_offset in
    let size = information.names_size in
    further s _ _ _ _ _ _ (reads s offset _ _ (front_cut offset s) (front_whole offset s)) (omega arith) (λ long.
    further s _ _ _ _ _ _ (front_step s offset size long) (omega arith) (λ _.
    follows_map _ _ _ (λ (entries : List ℕ × List ℕ).
    let table : Map = record { names = take size (drop offset s); entries = entries.0; behind = entries.1 } in table)
    (entries_step s (offset + size))))

-- ---- the entries

-- answers for each of some numbers, of which each follows rules
all_follow : {A : Type 0} (rules : ℕ → List Rule) (f : ℕ → Answer A) (numbers : List ℕ)
    → ((i : ℕ) → FollowsRules (rules i) (λ x. f i ≡ Ok x) (f i))
    → FollowsRules (rules_of_each numbers rules) (λ xs. values_of_all (map f numbers) ≡ Ok xs)
    (values_of_all (map f numbers))
all_follow rules f [] each = follows_restated [] _ _ _ (follows_ok []) (λ xs e. e) (λ xs e. e)
all_follow {A} rules f (i ∷ numbers) each =
    follows_then (rules i) (rules_of_each numbers rules) _ _ _ _ (each i) (λ x is.
    follows_restated _ _ _ _ (follows_said _ _ _ (λ xs. x ∷ xs) (all_follow rules f numbers each))
    (λ xs e. rw is e) (λ xs e. rw is at e))

entry_follows : (table : Map) (k : ℕ)
    → FollowsRules (name_rules table.names (word_at (8 * k) table.entries)) (λ one. named_at table k ≡ Ok one)
    (named_at table k)
unfolding named_at
entry_follows table k =
    follows_restated _ _ _ _ (follows_said _ _ _ _ (name_follows table.names (word_at (8 * k) table.entries)))
    (λ one e. e) (λ one e. e)

pub named_follow : (information : PDBInformation)
    → FollowsRules (named_rules information) (AreNamed (map_within information)) (stream_names_of information)
unfolding stream_names_of named_in
named_follow information =
    follows_next _ _ _ _ _ _ (map_follows information)
    (follows_restated _ _ _ _ (all_follow _ _ _ (entry_follows (map_within information)))
    (all_found (map_within information)) (all_only (map_within information)))

-- ---- what is refused only since the bytes end too soon

pub map_ends : (information : PDBInformation) → EndsTooSoon (map_of information)
map_ends information e h = elim (((map_follows information).refused e).0 h) [
  | inl here ↦ here.1
  | inr later ↦ absurd later.1
]

then_ends : {A B : Type 0} (r : Answer A) (f : A → Answer B) → EndsTooSoon r → ((x : A) → EndsTooSoon (f x))
    → EndsTooSoon (r >>= f)
then_ends (Ok x) f here behind e h = behind x e h
then_ends {A} {B} (Err d) f here behind e h = sym (err_is {A = B} d e h) ∙ here d refl

-- answers none of which is refused otherwise
collected_ends : {A : Type 0} (f : ℕ → Answer A) (places : List ℕ) → ((place : ℕ) → EndsTooSoon (f place))
    → EndsTooSoon (values_of_all (map f places))
collected_ends f [] each e h = absurd cc
collected_ends f (place ∷ places) each e h =
    then_ends (f place) (λ x. values_of_all (map f places) >>= λ xs. Ok (x ∷ xs)) (each place)
    (λ x d more. collected_ends f places each d (bind_err (values_of_all (map f places)) (λ xs. x ∷ xs) d more)) e h

named_ends : (table : Map) (place : ℕ) → EndsTooSoon (named_at table place)
unfolding named_at
named_ends table place e h =
    ((finds_name table.names (word_at (8 * place) table.entries)).missing e
    (bind_err (name_of table.names (word_at (8 * place) table.entries)) _ e h)).0

names_end : (information : PDBInformation) → EndsTooSoon (stream_names_of information)
unfolding stream_names_of named_in
names_end information = then_ends (map_of information) named_in (map_ends information)
    (λ table. collected_ends (named_at table) (range_with_len 0 (length table.entries / 8)) (named_ends table))

-- no want of memory comes before the names are there
pub no_want_before : (information : PDBInformation) (e : Error) → e ≡ OutOfMemory
    → map_of information ≡ Err (refusal_of e) → ⊥
no_want_before information e want refused =
    let end = map_ends information (refusal_of e) refused in
    let is = ap refusal_of want in
    cc

pub finds_named : (information : PDBInformation) → FindsNamed information
finds_named information = record {
  map_found = map_found information;
  map_only = map_only information;
  found = all_found;
  only = all_only;
  refused = names_end information;
}

-- ---- the number of a name

abbrev search_for : List ℕ → List Named → Option Named
search_for name streams = find (λ named. bytes_eq named.name name) streams

-- the number of an entry that was found
number_told : (named : Named) (number : ℕ)
    → (number_found (Some named) ≡ Ok number) ↔ ((named.stream ≡ number) × (number ≢ no_stream))
number_told named number = elim (cases_Bool (eqb named.stream no_stream)) [
  | inl gone ↦ (
    λ e. absurd (ok_is_no_err number stream_name_not_found (sym e ∙ rw gone refl)),
    λ both. absurd (both.1 (sym both.0 ∙ eqb-true named.stream no_stream gone)),
  )
  | inr some ↦ (
    λ e. let is = ok_is named.stream number (sym (rw some refl) ∙ e) in (
      is,
      λ none. eqb-false named.stream no_stream some (is ∙ none),
    ),
    λ both. rw some (ap (λ (n : ℕ). ok n) both.0),
  )
]

found_missing : (o : Option Named) (e : Refusal) → number_found o ≡ Err e → e ≡ stream_name_not_found
found_missing None e h = sym (err_is {A = ℕ} stream_name_not_found e h)
found_missing (Some named) e h = elim (cases_Bool (eqb named.stream no_stream)) [
  | inl gone ↦ let is : err {A = ℕ} stream_name_not_found ≡ Err e = rw gone at h in
      sym (err_is {A = ℕ} stream_name_not_found e is)
  | inr some ↦ let is : ok named.stream ≡ Err e = rw some at h in absurd (ok_is_no_err named.stream e is)
]

-- a number that is answered is that of the first stream with the name
number_is : (name : List ℕ) (streams : List Named) (number : ℕ) → number_found (search_for name streams) ≡ Ok number
    → IsNumberNamed name streams number
number_is name [] number e = absurd (ok_is_no_err number stream_name_not_found (sym e))
number_is name (first ∷ streams) number e = elim (cases_Bool (bytes_eq first.name name)) [
  | inl same ↦
      let told = (number_told first number).0 (rw same at e) in
      ([], first, streams, refl, tt, (bytes_decides first.name name).0 same, told.0, told.1)
  | inr other ↦
      let more = number_is name streams number (rw other at e) in (
        first ∷ more.0,
        more.1,
        more.2,
        ap (λ (all : List Named). first ∷ all) more.3,
        (λ is. both_ways (bytes_eq first.name name) other ((bytes_decides first.name name).1 is), more.4),
        more.5,
        more.6,
        more.7,
      )
]

-- the first stream with a name is found
search_only : (name : List ℕ) (before : List Named) (named : Named) (behind : List Named)
    → AllByRecursion (λ other. other.name ≢ name) before → named.name ≡ name
    → search_for name (before ++ named ∷ behind) ≡ Some named
search_only name [] named behind others is = rw ((bytes_decides named.name name).1 is) refl
search_only name (first ∷ before) named behind others is = elim (cases_Bool (bytes_eq first.name name)) [
  | inl same ↦ absurd (others.0 ((bytes_decides first.name name).0 same))
  | inr other ↦ rw other (search_only name before named behind others.1 is)
]

number_only : (name : List ℕ) (streams : List Named) (number : ℕ) → IsNumberNamed name streams number
    → number_found (search_for name streams) ≡ Ok number
number_only name streams number (before, named, behind, are, others, is, stream, some) =
    ap number_found (ap (search_for name) are ∙ search_only name before named behind others is)
    ∙ (number_told named number).1 (stream, some)

number_follows : (name : List ℕ) (streams : List Named)
    → FollowsRules ((((number : ℕ) → ¬ IsNumberNamed name streams number) ⇒ stream_name_not_found) ∷ [])
    (IsNumberNamed name streams) (number_named name streams)
unfolding number_named
number_follows name streams = elim (answer_cases (number_found (search_for name streams))) [
  | inl there ↦
      follows_kept _ _ [] (IsNumberNamed name streams) _ (λ none. none there.0 (number_is name streams there.0 there.1))
      (follows_found (IsNumberNamed name streams) _ there.0 there.1 (number_is name streams) (number_only name streams))
  | inr refused ↦
      rw (refused.1 ∙ ap (λ (e : Refusal). err {A = ℕ} e) (found_missing (search_for name streams) refused.0 refused.1))
      (follows_fails _ _ [] (IsNumberNamed name streams)
      (λ number is. ok_is_no_err number refused.0 (sym (number_only name streams number is) ∙ refused.1)))
]

-- ---- a named stream

streams_named : (file : List ℕ) (head : Head)
    → FollowsRules (
    FirstRefuses (stream_rules file head information_stream None)
    ∷ rule_of (IsStream file head information_stream None)
    (λ stream. (length stream < 32 ⇒ unexpected_eof) ∷ named_rules (information stream))
    ∷ []
    ) (NamesStreams file head) (stream_of file head information_stream None >>= λ stream. information_of stream >>=
    stream_names_of)
unfolding information_of
streams_named file head =
    follows_assigned _ (λ stream. (length stream < 32 ⇒ unexpected_eof) ∷ named_rules (information stream)) _
    (λ stream. AreNamed (map_within (information stream))) _ _
    (follows_as_one _ _ _ (stream_follows file head information_stream None))
    (λ stream _. elim (cases_lt (length stream) 32) [
      | inl short ↦ rw (lt-leb 32 (length stream) short)
          (follows_fails _ _ _ (AreNamed (map_within (information stream))) short)
      | inr long ↦ rw (le-leb 32 (length stream) long)
          (follows_kept _ _ _ (AreNamed (map_within (information stream))) _ (λ short. omega arith)
          (named_follow (information stream)))
    ])

number_steps : {A B C D : Type 0} (answer : Answer A) (f : A → Answer B) (g : B → Answer C) (h : C → Answer D)
    → (answer >>= (λ x. f x >>= g) >>= h) ≡ (answer >>= f >>= λ y. g y >>= h)
number_steps (Ok x) f g h = bind_apart (f x) g h
number_steps (Err e) f g h = refl

pub named_stream_follows : (file : List ℕ) (head : Head) (name : List ℕ)
    → FollowsRules (named_stream_rules file head name) (IsNamedStream file head name) (file_named_stream file head name)
unfolding file_named_stream file_number file_information
named_stream_follows file head name =
    subst (λ (answer : Answer ℕ). FollowsRules (named_stream_rules file head name) (IsNamedStream file head name)
    (answer >>= λ number. stream_of file head number None))
    (number_steps (stream_of file head information_stream None) information_of stream_names_of (number_named name))
    (follows_assigned _ _ _ _ _ _
    (follows_assigned _ _ _ _ _ _ (streams_named file head) (λ streams _. number_follows name streams))
    (λ number _. stream_follows file head number None))
