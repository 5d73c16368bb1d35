-- Id records that are lists.
use Rattle.std.proofs.Common.{◌≡◌, inl, inr, ℕ, ◌*◌, ◌≤◌, List, length, refl, sym, ap, ◌∙◌, arith, Option, Some, None}
use Rattle.std.proofs.Common.{Result, Ok, Err, IfOk}
use Rattle.pdb_base.specs.declared.error.Error.{Error}
use Rattle.pdb_base.specs.declared.error.Error.TheVariants as errors
use Rattle.pdb_base.specs.Refusal.{refusal_of, unexpected_eof}
use Rattle.pdb_base.specs.Answer.{Answer, Answers}
use Rattle.pdb_base.specs.Memory.{LacksOnlyIf}
use Rattle.pdb_base.specs.Reading.{number_at}
use Rattle.pdb_base.specs.Spelling.{SpellsNumber}
use Rattle.pdb_base.proofs.lemmas.Collected.{ok, ok_is_no_err, err_is}
use Rattle.pdb_base.proofs.lemmas.Spelling.{numbers}
use Rattle.pdb_records.specs.Shape.{as_id, as_type}
use Rattle.pdb_records.proofs.Agreeing.{bind_at, bind_no}
use Rattle.pdb_records.proofs.TakesLemmas.{begins_length}
use Rattle.pdb_values.specs.declared.id_data.IdData.{IdData}
use Rattle.pdb_values.specs.IdValue.{IdValue, id_value}
use Rattle.pdb_values.specs.IdValue as values
use Rattle.pdb_records.specs.declared.id_leaf.IdLeaf.{IdLeaf}
use Rattle.pdb_records.specs.declared.id_leaf.IdLeaf.TheVariants.{Plain, BuildInfo, StringList}
use Rattle.pdb_records.specs.declared.parse.counted.CountWidth.TheVariants.{Bits16, Bits32}
use Rattle.pdb_records.specs.Counted.{counted_at}
use Rattle.pdb_records.specs.Known.{IsOfKnownLeaf}
use Rattle.pdb_records.specs.Ids.{id_leaf_of, behind_id_leaf, id_at, id_record, IsIdData, IsId}
use Rattle.pdb_records.specs.IdLists.{SaysIdItem, item_count, HoldsIdItem, IsCutIdList, build_info_leaf}
use Rattle.pdb_records.specs.IdLists.{string_list_leaf}
use Rattle.pdb_records.specs.Claims.{ClaimsMore}
use Rattle.pdb_records.proofs.CountedLemmas.{counted_short, types_few, ids_few}
use Rattle.pdb_records.proofs.IdLaws.{ids_agree}
use Rattle.pdb_records.proofs.AssignedLemmas.{says_front, end_is}

-- ---- a count that the bytes don't hold

build_info_cut : (bytes : List ℕ) → ClaimsMore build_info_leaf 2 bytes → id_at bytes ≡ Err unexpected_eof
unfolding id_at behind_id_leaf
build_info_cut bytes claims =
    bind_at (number_at 2 bytes) (λ n. behind_id_leaf n.0 n.1) (build_info_leaf, claims.0)
    ((numbers 2).only bytes build_info_leaf claims.0 claims.1)
    ∙ bind_no (counted_at Bits16 as_id claims.0) (λ list. ok (values.build_info list.0, list.1)) unexpected_eof
    (counted_short Bits16 as_id claims.0 claims.2.0 claims.2.1 claims.2.2 claims.2.3)

string_list_cut : (bytes : List ℕ) → ClaimsMore string_list_leaf 4 bytes → id_at bytes ≡ Err unexpected_eof
unfolding id_at behind_id_leaf
string_list_cut bytes claims =
    bind_at (number_at 2 bytes) (λ n. behind_id_leaf n.0 n.1) (string_list_leaf, claims.0)
    ((numbers 2).only bytes string_list_leaf claims.0 claims.1)
    ∙ bind_no (counted_at Bits32 as_type claims.0) (λ list. ok (values.string_list list.0, list.1)) unexpected_eof
    (counted_short Bits32 as_type claims.0 claims.2.0 claims.2.1 claims.2.2 claims.2.3)

cut_at : (bytes : List ℕ) → IsCutIdList bytes → id_at bytes ≡ Err unexpected_eof
cut_at bytes (inl claims) = build_info_cut bytes claims
cut_at bytes (inr claims) = string_list_cut bytes claims

pub refuses_cut : (bytes rest : List ℕ) (result : Result IdData Error)
    → Answers (λ id. (id_value id, rest)) result (id_at bytes) → LacksOnlyIf result (SaysIdItem (id_at bytes))
    → IsCutIdList bytes → result ≡ Err errors.UnexpectedEof
refuses_cut bytes rest (Ok id) is want cut =
    absurd (ok_is_no_err (id_value id, rest) unexpected_eof (sym is ∙ cut_at bytes cut))
refuses_cut bytes rest (Err e) (inl is) want cut =
    ap (λ (d : Error). Err d) (end_is e (err_is {A = IdValue × List ℕ} (refusal_of e) unexpected_eof
    (sym is ∙ cut_at bytes cut)))
refuses_cut bytes rest (Err e) (inr lacks) want cut =
    absurd (rw (cut_at bytes cut) at want (ap (λ (d : Error). Err d) lacks))

-- ---- memory is asked for only where a list with an item is assigned

list_meant : (bytes : List ℕ) (answer : Answer (IdValue × List ℕ)) → id_at bytes ≡ answer → SaysIdItem answer
    → HoldsIdItem bytes
list_meant bytes (Ok read) is list = (read.0, read.1, ids_agree.found bytes read.0 read.1 is, list)
list_meant bytes (Err e) is list = absurd list

pub lacks_for_list : (bytes : List ℕ) (result : Result IdData Error) → LacksOnlyIf result (SaysIdItem (id_at bytes))
    → LacksOnlyIf result (HoldsIdItem bytes)
lacks_for_list bytes result want lacks = list_meant bytes (id_at bytes) refl (want lacks)

-- ---- how long lists can be

data_few : (number : ℕ) (leaf : IdLeaf) (bytes : List ℕ) (value : IdValue) (rest : List ℕ)
    → IsIdData number leaf bytes value rest → 4 * item_count value ≤ length bytes
data_few number (Plain leaf) bytes value rest is = let none : 0 ≡ item_count value = ap item_count is.2 in
    omega (arith, none)
data_few number BuildInfo bytes value rest is = let all : length is.0 ≡ item_count value = ap item_count is.2 in
    omega (arith, all, ids_few Bits16 bytes is.0 rest is.1)
data_few number StringList bytes value rest is = let all : length is.0 ≡ item_count value = ap item_count is.2 in
    omega (arith, all, types_few Bits32 bytes is.0 rest is.1)

behind_few : (number : ℕ) (leaf : Option IdLeaf) (bytes : List ℕ) (value : IdValue) (rest : List ℕ)
    → IsOfKnownLeaf (IsIdData number) leaf bytes value rest → 4 * item_count value ≤ length bytes
behind_few number None bytes value rest is = absurd is
behind_few number (Some leaf) bytes value rest is = data_few number leaf bytes value rest is

id_short : (bytes : List ℕ) (value : IdValue) (rest : List ℕ) → IsId bytes value rest
    → 2 * item_count value ≤ length bytes
id_short bytes value rest is =
    omega (
      arith,
      begins_length (SpellsNumber 2) bytes is.0 is.1 is.2,
      behind_few is.0 (id_leaf_of is.0) is.1 value rest is.3,
    )

pub shows_short : (bytes rest : List ℕ) (result : Result IdData Error)
    → Answers (λ id. (id_value id, rest)) result (id_at bytes)
    → IfOk result (λ id. 2 * item_count (id_value id) ≤ length bytes)
shows_short bytes rest (Ok id) is = id_short bytes (id_value id) rest (ids_agree.found bytes (id_value id) rest is)
shows_short bytes rest (Err e) is = tt

-- ---- what is read, but for what is left behind it

pub says_id : (bytes rest : List ℕ) (result : Result IdData Error)
    → Answers (λ id. (id_value id, rest)) result (id_at bytes) → Answers id_value result (id_record bytes)
unfolding id_record
says_id bytes rest result is = says_front id_value rest result (id_at bytes) is
