-- Which header and which debug header a stream holds.
use Rattle.std.proofs.Common.{◌≡◌, ℕ, ◌+◌, ◌<◌, ◌≤◌, ◌==◌, nat_le, inl, inr, List, length}
use Rattle.std.proofs.Common.{drop, sum, refl, sym, subst, ap, ◌∙◌, arith, eq-eqb, Ok, Err, codes}
use Rattle.std.proofs.lemmas.List.{length-drop}
use Rattle.std.proofs.lemmas.Bool.{cases_lt, eqb-true, le-leb, leb-true, lt-leb, ne_eqb}
use Rattle.pdb_base.specs.Refusal.{Refusal, unexpected_eof, unimplemented_feature}
use Rattle.pdb_base.specs.Answer.{◌>>=◌, ok_if}
use Rattle.pdb_base.specs.Reading.{front_at, word_at}
use Rattle.pdb_base.proofs.lemmas.Collected.{ok, ok_is, ok_is_no_err, bind_ok, required_holds}
use Rattle.pdb_base.proofs.lemmas.Reading.{front_cut, front_whole, number_whole, number_cut}
use Rattle.pdb_file.specs.DbiHeader.{dbi_signature, header_size, dbi_header, dbi_header_of}
use Rattle.pdb_file.specs.DebugHeader.{sizes_before, debug_header_behind}
use Rattle.pdb_file.specs.declared.dbi_header.DBIHeader.{DBIHeader}
use Rattle.pdb_file.specs.Laws.{HoldsHeader, FindsHeader, HoldsDebugHeader, FindsDebugHeader}
use Rattle.pdb_file.proofs.CutLemmas.{front_found, front_only, joined, parted}

abbrev ancient : Refusal
ancient = unimplemented_feature (codes "ancient DBI header")

-- a stream of four bytes at least, by its first field
by_first : (stream : List ℕ) → 4 ≤ length stream →
    dbi_header_of stream ≡ (ok_if (word_at 0 stream == dbi_signature) ancient
    >>= λ signed. ok_if (nat_le header_size (length stream)) unexpected_eof >>= λ whole. Ok (dbi_header stream))
unfolding dbi_header_of
by_first stream long = rw (number_whole 4 stream long) refl

header_short : (stream : List ℕ) → length stream < 4 → dbi_header_of stream ≡ Err unexpected_eof
unfolding dbi_header_of
header_short stream short = rw (number_cut 4 stream short) refl

header_found : (stream : List ℕ) (header : DBIHeader) → dbi_header_of stream ≡ Ok header → HoldsHeader stream header
unfolding dbi_header
header_found stream header e = elim (cases_lt (length stream) 4) [
  | inl short ↦ absurd (ok_is_no_err header unexpected_eof (sym e ∙ header_short stream short))
  | inr long ↦
      let signed = bind_ok (ok_if (word_at 0 stream == dbi_signature) ancient) _ header
      (sym (by_first stream long) ∙ e) in
      let whole = bind_ok (ok_if (nat_le header_size (length stream)) unexpected_eof) _ header signed.2 in
      let is = ok_is (dbi_header stream) header whole.2 in
      record {
        whole = leb-true header_size (length stream) (required_holds _ unexpected_eof whole.0 whole.1);
        fields = is;
        signed = ap (λ (h : DBIHeader). h.signature) (sym is)
            ∙ eqb-true (word_at 0 stream) dbi_signature (required_holds _ ancient signed.0 signed.1);
      }
]

header_only : (stream : List ℕ) (header : DBIHeader) → HoldsHeader stream header → dbi_header_of stream ≡ Ok header
unfolding dbi_header
header_only stream header holds =
    let first : word_at 0 stream ≡ dbi_signature = ap (λ (h : DBIHeader). h.signature) holds.fields ∙ holds.signed in
    by_first stream (omega (arith, holds.whole))
    ∙ rw (eq-eqb (word_at 0 stream) dbi_signature first, le-leb header_size (length stream) holds.whole)
    (ap (λ (h : DBIHeader). ok h) holds.fields)

pub finds_header : (stream : List ℕ) → FindsHeader stream
finds_header stream = record {
  found = header_found stream;
  only = header_only stream;
  short = header_short stream;
  unsigned = λ long other. by_first stream long ∙ rw (ne_eqb (word_at 0 stream) dbi_signature other) refl;
  cut = λ long first cut. by_first stream long
      ∙ rw (eq-eqb (word_at 0 stream) dbi_signature first, lt-leb header_size (length stream) cut) refl;
}

-- ---- the debug header

debug_found : (stream list : List ℕ) → debug_header_behind stream ≡ Ok list → HoldsDebugHeader stream list
unfolding debug_header_behind
debug_found stream list e =
    let header = bind_ok (dbi_header_of stream) _ list e in
    let before = bind_ok (front_at (sum (sizes_before header.0)) stream) _ list header.2 in
    let taken = bind_ok (front_at header.0.debug_header_size before.0.1) _ list before.2 in
    subst (HoldsDebugHeader stream) (ok_is taken.0.0 list taken.2) (record {
      header = header.0;
      begins = header_found stream header.0 header.1;
      behind = before.0.1;
      before = parted (sizes_before header.0) stream before.0.0 before.0.1
          (front_found (sum (sizes_before header.0)) stream before.0 before.1);
      rest = taken.0.1;
      taken = front_found header.0.debug_header_size before.0.1 taken.0 taken.1;
    })

debug_only : (stream list : List ℕ) → HoldsDebugHeader stream list → debug_header_behind stream ≡ Ok list
unfolding debug_header_behind
debug_only stream list holds =
    let before = joined (sizes_before holds.header) stream holds.behind holds.before in
    rw (
      header_only stream holds.header holds.begins,
      front_only (sum (sizes_before holds.header)) stream before.0 holds.behind before.1,
      front_only holds.header.debug_header_size holds.behind list holds.rest holds.taken,
    ) refl

debug_cut : (stream : List ℕ) (header : DBIHeader) → HoldsHeader stream header
    → length stream < sum (sizes_before header) + header.debug_header_size
    → debug_header_behind stream ≡ Err unexpected_eof
unfolding debug_header_behind
debug_cut stream header holds short = elim (cases_lt (length stream) (sum (sizes_before header))) [
  | inl early ↦ rw (header_only stream header holds, front_cut (sum (sizes_before header)) stream early) refl
  | inr late ↦
      let few = length-drop (sum (sizes_before header)) stream in
      rw (
        header_only stream header holds,
        front_whole (sum (sizes_before header)) stream late,
        front_cut header.debug_header_size (drop (sum (sizes_before header)) stream) (omega (arith, few, late, short)),
      ) refl
]

pub finds_debug_header : (stream : List ℕ) → FindsDebugHeader stream
unfolding debug_header_behind
finds_debug_header stream = record {
  found = debug_found stream;
  only = debug_only stream;
  refused = λ e refused. rw refused refl;
  cut = debug_cut stream;
}
