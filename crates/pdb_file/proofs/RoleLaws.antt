-- Which roles a list gives.
use Rattle.std.proofs.Common.{◌≡◌, ◌≢◌, ℕ, ◌+◌, ◌*◌, ◌%◌, ◌<◌, ◌≤◌, inl, inr, true, false, List}
use Rattle.std.proofs.Common.{length, drop, refl, sym, ap, subst, ◌∙◌, arith}
use Rattle.std.proofs.lemmas.Bool.{cases_Bool, cases_lt, le-leb, lt-leb}
use Rattle.std.proofs.lemmas.Bool.Decides.{nat_tests}
use Rattle.std.proofs.lemmas.List.{length-drop, length-append}
use Rattle.pdb_base.specs.Refusal.{unexpected_eof}
use Rattle.pdb_base.specs.Answer.{ok_if}
use Rattle.pdb_base.specs.Spelling.{SpellsNumber, Begins}
use Rattle.pdb_base.proofs.lemmas.Collected.{ok, ok_is, ok_is_no_err, err_is, bind_ok, required_holds}
use Rattle.pdb_base.proofs.lemmas.Reading.{number_there}
use Rattle.pdb_base.proofs.lemmas.Spelling.{numbers}
use Rattle.pdb_base.specs.declared.index.StreamIndex.{StreamIndex}
use Rattle.pdb_file.specs.DebugHeader.{stream_listed_at, roles_in, is_whole, extra_streams}
use Rattle.pdb_file.specs.declared.debug_header.DBIExtraStreams.{DBIExtraStreams}
use Rattle.pdb_file.specs.Laws.{IsStreamListed, AreListed, FindsRoles}

-- ---- one place

-- of a list without half a number
place_found : (list : List ℕ) (place : ℕ) → is_whole list ≡ true → place < 11
    → IsStreamListed list place (stream_listed_at place list)
place_found list place whole within = elim (cases_lt (length list) (2 * place + 2)) [
  | inl short ↦ rw (lt-leb (2 * place + 2) (length list) short) (inr (grind (arith, nat_tests), refl))
  | inr long ↦ rw (le-leb (2 * place + 2) (length list) long) (inl (
    drop (2 * place + 2) list,
    (numbers 2).found _ _ _ (number_there 2 (2 * place) (2 * place + 2) list refl long),
  ))
]

-- a number that stands there has both its bytes
begins_long : (list : List ℕ) (place number : ℕ) (rest : List ℕ)
    → Begins (SpellsNumber 2) (drop (2 * place) list) number rest → 2 * place + 2 ≤ length list
begins_long list place number rest begins =
    let is = ap length begins.is in
    omega (arith, begins.spelled.len, is, length-append begins.front rest, length-drop (2 * place) list)

place_only : (list : List ℕ) (place : ℕ) (index : StreamIndex) → IsStreamListed list place index
    → stream_listed_at place list ≡ index
place_only list place index (inl begins) =
    let long = begins_long list place index.0 begins.0 begins.1 in
    rw (le-leb (2 * place + 2) (length list) long) (ap (λ (p : ℕ × List ℕ). record { 0 = p.0 })
    (ok_is _ _ (sym (number_there 2 (2 * place) (2 * place + 2) list refl long)
    ∙ (numbers 2).only _ _ _ begins.1)))
place_only list place index (inr none) =
    rw (lt-leb (2 * place + 2) (length list) (omega (arith, none.0))) (ap (λ (n : ℕ). record { 0 = n }) (sym none.1))

-- where half a number stands, that place is not listed
no_half : (list : List ℕ) (place : ℕ) (index : StreamIndex) → IsStreamListed list place index
    → length list ≢ 2 * place + 1
no_half list place index (inl begins) half =
    omega (arith, half, begins_long list place index.0 begins.0 begins.1)
no_half list place index (inr none) half = omega (arith, half, none.0)

-- ---- all places

halved_cases : (list : List ℕ) → is_whole list ≡ false → (length list < 22) × (length list % 2 ≡ 1)
halved_cases list whole = (grind (arith, nat_tests), grind (arith, nat_tests))

is_halved : (list : List ℕ) → length list < 22 → length list % 2 ≡ 1 → is_whole list ≡ false
is_halved list few odd = grind (arith, nat_tests)

all_found : (list : List ℕ) → is_whole list ≡ true → AreListed list (roles_in list)
unfolding roles_in
all_found list whole = record {
  fpo = place_found list 0 whole (omega arith);
  exception = place_found list 1 whole (omega arith);
  fixup = place_found list 2 whole (omega arith);
  omap_to_src = place_found list 3 whole (omega arith);
  omap_from_src = place_found list 4 whole (omega arith);
  section_headers = place_found list 5 whole (omega arith);
  token_rid_map = place_found list 6 whole (omega arith);
  xdata = place_found list 7 whole (omega arith);
  pdata = place_found list 8 whole (omega arith);
  framedata = place_found list 9 whole (omega arith);
  original_section_headers = place_found list 10 whole (omega arith);
}

all_only : (list : List ℕ) (roles : DBIExtraStreams) → AreListed list roles → roles_in list ≡ roles
unfolding roles_in
all_only list roles are = λ i. record {
  fpo = place_only list 0 roles.fpo are.fpo i;
  exception = place_only list 1 roles.exception are.exception i;
  fixup = place_only list 2 roles.fixup are.fixup i;
  omap_to_src = place_only list 3 roles.omap_to_src are.omap_to_src i;
  omap_from_src = place_only list 4 roles.omap_from_src are.omap_from_src i;
  section_headers = place_only list 5 roles.section_headers are.section_headers i;
  token_rid_map = place_only list 6 roles.token_rid_map are.token_rid_map i;
  xdata = place_only list 7 roles.xdata are.xdata i;
  pdata = place_only list 8 roles.pdata are.pdata i;
  framedata = place_only list 9 roles.framedata are.framedata i;
  original_section_headers = place_only list 10 roles.original_section_headers are.original_section_headers i;
}

all_whole : (list : List ℕ) (roles : DBIExtraStreams) → AreListed list roles → is_whole list ≡ true
all_whole list roles are =
    grind (
      arith,
      nat_tests,
      no_half list 0 _ are.fpo,
      no_half list 1 _ are.exception,
      no_half list 2 _ are.fixup,
      no_half list 3 _ are.omap_to_src,
      no_half list 4 _ are.omap_from_src,
      no_half list 5 _ are.section_headers,
      no_half list 6 _ are.token_rid_map,
      no_half list 7 _ are.xdata,
      no_half list 8 _ are.pdata,
      no_half list 9 _ are.framedata,
      no_half list 10 _ are.original_section_headers,
    )

pub finds_roles : (list : List ℕ) → FindsRoles list
unfolding extra_streams
finds_roles list = record {
  found = λ roles e.
      let whole = bind_ok (ok_if (is_whole list) unexpected_eof) _ roles e in
      subst (AreListed list) (ok_is _ roles whole.2)
      (all_found list (required_holds _ unexpected_eof whole.0 whole.1));
  only = λ roles are. rw (all_whole list roles are) (ap ok (all_only list roles are));
  halved = λ few odd. rw (is_halved list few odd) refl;
  refused = λ e h. elim (cases_Bool (is_whole list)) [
    | inl whole ↦ absurd (ok_is_no_err (roles_in list) e (sym (rw whole refl) ∙ h))
    | inr halved ↦
        let cases = halved_cases list halved in
        (sym (err_is {A = DBIExtraStreams} unexpected_eof e (sym (rw halved refl) ∙ h)), cases.0, cases.1)
  ];
}
