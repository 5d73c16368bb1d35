-- Where the parts of a string table stand, and how a stream that holds none is refused.
use Rattle.std.proofs.Common.{◌≡◌, ℕ, ◌+◌, ◌<◌, ◌≤◌, ◌==◌, ◌⊎◌, inl, inr, true, false, List, length, take, drop}
use Rattle.std.proofs.Common.{refl, sym, ap, ◌∙◌, arith, eq-eqb, Ok, Err, codes}
use Rattle.std.proofs.lemmas.Bool.{cases_lt, ne_eqb}
use Rattle.std.proofs.lemmas.Bool.Decides.{nat_tests}
use Rattle.std.proofs.lemmas.List.{length-drop, length-take-le}
use Rattle.pdb_base.specs.Refusal.{Refusal, unexpected_eof, unimplemented_feature}
use Rattle.pdb_base.specs.Answer.{◌>>=◌, ok_if}
use Rattle.pdb_base.specs.Reading.{front_at, number_at, word_at}
use Rattle.pdb_base.proofs.lemmas.Collected.{ok, ok_is, ok_is_no_err, bind_ok, required_holds}
use Rattle.pdb_base.proofs.lemmas.Reading.{front_whole, front_cut, number_cut, number_there}
use Rattle.pdb_space.specs.declared.string_table.Header.{Header}
use Rattle.pdb_space.specs.StringTable.{names_signature, is_known_version, header_at, names_of}
use Rattle.pdb_space.specs.StringTableLaws.{HoldsNames, FindsNames, RefusesByFirstFault}

-- ---- the header

word_cut : (stream : List ℕ) (offset : ℕ) → length stream < offset + 4
    → number_at 4 (drop offset stream) ≡ Err unexpected_eof
word_cut stream offset short = number_cut 4 (drop offset stream) (omega (arith, length-drop offset stream))

-- the header at the front of a stream
abbrev header_of : List ℕ → Header
header_of stream = record {
  signature = word_at 0 stream;
  hash_version = word_at 4 stream;
  names_size = word_at 8 stream;
}

header_there : (stream : List ℕ) → 12 ≤ length stream → header_at stream ≡ Ok (header_of stream, drop 12 stream)
unfolding header_at
header_there stream long =
    rw (
      number_there 4 0 4 stream refl (omega arith),
      number_there 4 4 8 stream refl (omega arith),
      number_there 4 8 12 stream refl (omega arith),
    ) refl

header_cut : (stream : List ℕ) → length stream < 12 → header_at stream ≡ Err unexpected_eof
unfolding header_at
header_cut stream short = elim (cases_lt (length stream) 4) [
  | inl first ↦ rw (word_cut stream 0 (omega arith)) refl
  | inr one ↦ elim (cases_lt (length stream) 8) [
    | inl second ↦ rw (number_there 4 0 4 stream refl (omega arith), word_cut stream 4 (omega arith)) refl
    | inr two ↦ rw (
      number_there 4 0 4 stream refl (omega arith),
      number_there 4 4 8 stream refl (omega arith),
      word_cut stream 8 (omega arith),
    ) refl
  ]
]

-- ---- the names

-- what is refused of a stream that holds a header
abbrev unsigned : Refusal
unsigned = unimplemented_feature (codes "invalid string table signature")

abbrev unknown : Refusal
unknown = unimplemented_feature (codes "unknown string table hash version")

-- a stream as long as a header, read by the places of its parts
by_places : (stream : List ℕ) → 12 ≤ length stream →
    names_of stream ≡ (ok_if (word_at 0 stream == names_signature) unsigned >>= λ signed.
    front_at (word_at 8 stream) (drop 12 stream) >>= λ names.
    ok_if (is_known_version (word_at 4 stream)) unknown >>= λ known. Ok names.0)
unfolding names_of
by_places stream long = rw (header_there stream long) refl

known_cases : (version : ℕ) → is_known_version version ≡ true → (version ≡ 1) ⊎ (version ≡ 2)
known_cases version known = grind (arith, nat_tests)

known_of : (version : ℕ) → (version ≡ 1) ⊎ (version ≡ 2) → is_known_version version ≡ true
known_of version (inl one) = rw one refl
known_of version (inr two) = rw two refl

short : (stream : List ℕ) → length stream < 12 → names_of stream ≡ Err unexpected_eof
unfolding names_of
short stream cut = rw (header_cut stream cut) refl

-- the names that were read are those that the stream holds
pub names_held : (stream names : List ℕ) → names_of stream ≡ Ok names → HoldsNames stream names
names_held stream names e = elim (cases_lt (length stream) 12) [
  | inl cut ↦ absurd (ok_is_no_err names unexpected_eof (sym e ∙ short stream cut))
  | inr long ↦
      let signed = bind_ok (ok_if (word_at 0 stream == names_signature) unsigned) _ names
      (sym (by_places stream long) ∙ e) in
      let front = bind_ok (front_at (word_at 8 stream) (drop 12 stream)) _ names signed.2 in
      let known = bind_ok (ok_if (is_known_version (word_at 4 stream)) unknown) _ names front.2 in
      let is : front.0.0 ≡ names = ok_is front.0.0 names known.2 in
      elim (cases_lt (length (drop 12 stream)) (word_at 8 stream)) [
        | inl cut ↦ absurd (ok_is_no_err front.0 unexpected_eof
            (sym front.1 ∙ front_cut (word_at 8 stream) (drop 12 stream) cut))
        | inr fits ↦
            let taken : take (word_at 8 stream) (drop 12 stream) ≡ names =
            ap (λ (p : List ℕ × List ℕ). p.0) (ok_is (
              take (word_at 8 stream) (drop 12 stream),
              drop (word_at 8 stream) (drop 12 stream),
            ) front.0
            (sym (front_whole (word_at 8 stream) (drop 12 stream) fits) ∙ front.1)) ∙ is in
            let size : word_at 8 stream ≡ length names = sym (length-take-le (word_at 8 stream) (drop 12 stream) fits)
            ∙ ap length taken in
            let test = required_holds (word_at 0 stream == names_signature) unsigned signed.0 signed.1 in
            record {
              signed = grind (arith, nat_tests, test);
              version = known_cases (word_at 4 stream) (required_holds
                  (is_known_version (word_at 4 stream)) unknown known.0 known.1);
              size = size;
              fits = omega (arith, size, fits, length-drop 12 stream);
              behind = ap (λ (n : ℕ). take n (drop 12 stream)) (sym size) ∙ taken;
            }
      ]
]

-- the names that the stream holds are read
names_read : (stream names : List ℕ) → HoldsNames stream names → names_of stream ≡ Ok names
names_read stream names held =
    let signed : (word_at 0 stream == names_signature) ≡ true = eq-eqb (word_at 0 stream) names_signature held.signed in
    let known = known_of (word_at 4 stream) held.version in
    let front = front_whole (word_at 8 stream) (drop 12 stream)
    (omega (arith, held.size, held.fits, length-drop 12 stream)) in
    by_places stream (omega (arith, held.fits))
    ∙ rw (signed, front, known) (ap (λ (n : ℕ). ok (take n (drop 12 stream))) held.size ∙ ap ok held.behind)

pub finds_names : (stream : List ℕ) → FindsNames stream
finds_names stream = record { found = names_held stream; only = names_read stream }

pub refuses_by_first_fault : (stream : List ℕ) → RefusesByFirstFault stream
refuses_by_first_fault stream = record {
  short = short stream;
  unsigned = λ long other.
      let test : (word_at 0 stream == names_signature) ≡ false = ne_eqb (word_at 0 stream) names_signature other in
      by_places stream long ∙ rw test refl;
  cut = λ long signed past.
      let test : (word_at 0 stream == names_signature) ≡ true = eq-eqb (word_at 0 stream) names_signature signed in
      let front = front_cut (word_at 8 stream) (drop 12 stream) (omega (arith, past, length-drop 12 stream)) in
      by_places stream long ∙ rw (test, front) refl;
  unknown = λ fits signed not_one not_two.
      let test : (word_at 0 stream == names_signature) ≡ true = eq-eqb (word_at 0 stream) names_signature signed in
      let front = front_whole (word_at 8 stream) (drop 12 stream) (omega (arith, fits, length-drop 12 stream)) in
      let one : (word_at 4 stream == 1) ≡ false = ne_eqb (word_at 4 stream) 1 not_one in
      let two : (word_at 4 stream == 2) ≡ false = ne_eqb (word_at 4 stream) 2 not_two in
      by_places stream (omega (arith, fits)) ∙ rw (test, front, one, two) refl;
}
