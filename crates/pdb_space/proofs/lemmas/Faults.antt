-- The answers for a string table, a name and an OMAP table follow their rules.
use Rattle.std.proofs.Common.{◌≡◌, ◌≢◌, inl, inr, ℕ, ◌+◌, ◌%◌, ◌≤◌, eqb, ◌⊎◌, List, [], ◌∷◌, length, take, drop, refl}
use Rattle.std.proofs.Common.{sym, ap, ◌∙◌, arith}
use Rattle.std.specs.Prelude.{codes}
use Rattle.std.proofs.lemmas.Bool.{cases_Bool, cases_lt, eqb-false, eqb-true}
use Rattle.std.proofs.lemmas.List.{length-drop, length-take-le}
use Rattle.pdb_base.specs.Refusal.{unexpected_eof, unimplemented_feature, invalid_stream_length}
use Rattle.pdb_base.specs.Reading.{word_at}
use Rattle.pdb_base.specs.Rules.{◌⇒◌, FollowsRules}
use Rattle.pdb_base.proofs.lemmas.Collected.{ok, ok_is_no_err, answer_cases}
use Rattle.pdb_base.proofs.lemmas.Rules.{follows_ok, follows_fails, follows_kept, follows_found, follows_if}
use Rattle.pdb_space.specs.Omap.{mappings_of, omap_table_of}
use Rattle.pdb_space.specs.StringTable.{names_signature, name_of, names_of}
use Rattle.pdb_space.specs.StringTableLaws.{HoldsNames, IsNameAt, names_rules, name_rules}
use Rattle.pdb_space.specs.Laws.{omap_rules}
use Rattle.pdb_space.proofs.StringTableLemmas.{finds_names, refuses_by_first_fault}
use Rattle.pdb_space.proofs.NameLemmas.{finds_name}

-- the names that follow a header whose version is known
names_held : (stream : List ℕ) → 12 + word_at 8 stream ≤ length stream → word_at 0 stream ≡ names_signature
    → (word_at 4 stream ≡ 1) ⊎ (word_at 4 stream ≡ 2) → HoldsNames stream (take (word_at 8 stream) (drop 12 stream))
names_held stream fits signed known =
    let size : length (take (word_at 8 stream) (drop 12 stream)) ≡ word_at 8 stream =
    length-take-le (word_at 8 stream) (drop 12 stream) (omega (arith, length-drop 12 stream)) in
    record {
      signed = signed;
      version = known;
      size = sym size;
      fits = omega (arith, size);
      behind = ap (λ (n : ℕ). take n (drop 12 stream)) size;
    }

version_follows : (stream : List ℕ) → 12 + word_at 8 stream ≤ length stream → word_at 0 stream ≡ names_signature
    → FollowsRules (
    ((word_at 4 stream ≢ 1) × (word_at 4 stream ≢ 2)
    ⇒ unimplemented_feature (codes "unknown string table hash version"))
    ∷ []
    ) (HoldsNames stream) (names_of stream)
version_follows stream fits signed =
    let finds = finds_names stream in
    let known : (word_at 4 stream ≡ 1) ⊎ (word_at 4 stream ≡ 2)
    → FollowsRules [] (HoldsNames stream) (names_of stream) =
    λ version. follows_found (HoldsNames stream) (names_of stream) _
    (finds.only _ (names_held stream fits signed version)) finds.found finds.only in
    elim (cases_Bool (eqb (word_at 4 stream) 1)) [
      | inl one ↦ let is : word_at 4 stream ≡ 1 = eqb-true (word_at 4 stream) 1 one in
          follows_kept _ _ [] (HoldsNames stream) (names_of stream) (λ bad. bad.0 is) (known (inl is))
      | inr other ↦ elim (cases_Bool (eqb (word_at 4 stream) 2)) [
        | inl two ↦ let is : word_at 4 stream ≡ 2 = eqb-true (word_at 4 stream) 2 two in
            follows_kept _ _ [] (HoldsNames stream) (names_of stream) (λ bad. bad.1 is) (known (inr is))
        | inr none ↦
            let not_one = eqb-false (word_at 4 stream) 1 other in
            let not_two = eqb-false (word_at 4 stream) 2 none in
            rw ((refuses_by_first_fault stream).unknown fits signed not_one not_two)
            (follows_fails _ _ [] (HoldsNames stream) (not_one, not_two))
      ]
    ]

pub names_follow : (stream : List ℕ) → FollowsRules (names_rules stream) (HoldsNames stream) (names_of stream)
names_follow stream =
    let faults = refuses_by_first_fault stream in
    elim (cases_lt (length stream) 12) [
      | inl short ↦ rw (faults.short short) (follows_fails _ _ _ (HoldsNames stream) short)
      | inr long ↦ follows_kept _ _ _ (HoldsNames stream) (names_of stream) (λ short. omega arith)
          (elim (cases_Bool (eqb (word_at 0 stream) names_signature)) [
            | inr other ↦
                let unsigned = eqb-false (word_at 0 stream) names_signature other in
                rw (faults.unsigned long unsigned) (follows_fails _ _ _ (HoldsNames stream) unsigned)
            | inl same ↦
                let signed = eqb-true (word_at 0 stream) names_signature same in
                follows_kept _ _ _ (HoldsNames stream) (names_of stream) (λ other. other signed)
                (elim (cases_lt (length stream) (12 + word_at 8 stream)) [
                  | inl cut ↦ rw (faults.cut long signed cut) (follows_fails _ _ _ (HoldsNames stream) cut)
                  | inr fits ↦ follows_kept _ _ _ (HoldsNames stream) (names_of stream) (λ cut. omega arith)
                      (version_follows stream fits signed)
                ])
          ])
    ]

pub name_follows : (names : List ℕ) (offset : ℕ)
    → FollowsRules (name_rules names offset) (IsNameAt names offset) (name_of names offset)
name_follows names offset =
    let finds = finds_name names offset in
    elim (answer_cases (name_of names offset)) [
      | inr refused ↦
          let missing = finds.missing refused.0 refused.1 in
          rw (finds.none missing.1) (follows_fails _ unexpected_eof [] (IsNameAt names offset) missing.1)
      | inl there ↦
          rw there.1 (follows_kept _ unexpected_eof [] (IsNameAt names offset) (ok there.0)
          (λ none. ok_is_no_err there.0 unexpected_eof (sym there.1 ∙ finds.none none))
          (follows_found (IsNameAt names offset) (ok there.0) there.0 refl (λ name is. finds.found name (there.1 ∙ is))
          (λ name is. sym there.1 ∙ finds.only name is)))
    ]

pub omap_follows : (stream : List ℕ)
    → FollowsRules (omap_rules stream) (λ table. table ≡ mappings_of stream) (omap_table_of stream)
unfolding omap_table_of
omap_follows stream =
    follows_if (length stream % 8 ≢ 0) (eqb (length stream % 8) 0) (invalid_stream_length (codes "OMAP")) []
    (λ table. table ≡ mappings_of stream) _ (λ t other. other (eqb-true (length stream % 8) 0 t))
    (eqb-false (length stream % 8) 0) (λ _. follows_ok (mappings_of stream))
