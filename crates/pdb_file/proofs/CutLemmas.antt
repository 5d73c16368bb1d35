-- Parts that lie one behind the other.
use Rattle.std.proofs.Common.{◌≡◌, ℕ, ◌+◌, ◌≤◌, inl, inr, List, [], ◌∷◌, ◌++◌, length, take, drop, sum, refl, sym}
use Rattle.std.proofs.Common.{ap, subst, ◌∙◌, arith, Ok}
use Rattle.std.proofs.Math.Seq.{drop-append_seam, take-append_seam}
use Rattle.std.proofs.lemmas.Bool.{cases_lt}
use Rattle.std.proofs.lemmas.List.{append-nil, append_assoc, length-append, length-drop, length-take-le}
use Rattle.std.proofs.lemmas.List.{take-append-drop}
use Rattle.std.proofs.lemmas.List.Sums.{sum_by-cons}
use Rattle.pdb_base.specs.Refusal.{unexpected_eof}
use Rattle.pdb_base.specs.Reading.{front_at}
use Rattle.pdb_base.proofs.lemmas.Collected.{ok_is, ok_is_no_err}
use Rattle.pdb_base.proofs.lemmas.Reading.{front_whole, front_cut}
use Rattle.pdb_file.specs.Laws.{IsPartOf, LieInOrder}

-- bytes are cut anywhere within them
cut_at : (size : ℕ) (bytes : List ℕ) → size ≤ length bytes → IsPartOf size bytes (take size bytes) (drop size bytes)
cut_at size bytes long = record { len = length-take-le size bytes long; is = take-append-drop size bytes }

-- a part that was taken lies there
pub front_found : (size : ℕ) (bytes : List ℕ) (x : List ℕ × List ℕ) → front_at size bytes ≡ Ok x
    → IsPartOf size bytes x.0 x.1
front_found size bytes x e = elim (cases_lt (length bytes) size) [
  | inl short ↦ absurd (ok_is_no_err x unexpected_eof (sym e ∙ front_cut size bytes short))
  | inr long ↦ subst (λ (p : List ℕ × List ℕ). IsPartOf size bytes p.0 p.1)
      (ok_is _ x (sym (front_whole size bytes long) ∙ e)) (cut_at size bytes long)
]

-- a part that lies there is taken
pub front_only : (size : ℕ) (bytes part rest : List ℕ) → IsPartOf size bytes part rest
    → front_at size bytes ≡ Ok (part, rest)
front_only size bytes part rest cut =
    rw (
      ← cut.len,
      ← cut.is,
      front_whole (length part) (part ++ rest) (omega (arith, length-append part rest)),
      take-append_seam part rest,
      drop-append_seam part rest,
    ) refl

-- parts in order are one part of all their bytes
pub joined : (sizes bytes rest : List ℕ) → LieInOrder sizes bytes rest → (before : List ℕ)
    × IsPartOf (sum sizes) bytes before rest
joined [] bytes rest lie = ([], record { len = refl; is = sym lie })
joined (size ∷ sizes) bytes rest lie =
    let more = joined sizes lie.1 rest lie.3 in
    let all : sum (size ∷ sizes) ≡ size + sum sizes = sum_by-cons (λ (n : ℕ). n) size sizes in (
      lie.0 ++ more.0,
      record {
        len = omega (arith, length-append lie.0 more.0, lie.2.len, more.1.len);
        is = append_assoc lie.0 more.0 rest ∙ ap (λ (b : List ℕ). lie.0 ++ b) more.1.is ∙ lie.2.is;
      },
    )

-- one part of all their bytes is parts in order
pub parted : (sizes bytes before rest : List ℕ) → IsPartOf (sum sizes) bytes before rest → LieInOrder sizes bytes rest
parted [] bytes [] rest cut = sym cut.is
parted [] bytes (byte ∷ before) rest cut = absurd (omega (arith, cut.len))
parted (size ∷ sizes) bytes before rest cut =
    let all : sum (size ∷ sizes) ≡ size + sum sizes = sum_by-cons (λ (n : ℕ). n) size sizes in
    let long : size ≤ length before = omega (arith, cut.len) in (
      take size before,
      drop size before ++ rest,
      record {
        len = length-take-le size before long;
        is = sym (append_assoc (take size before) (drop size before) rest)
            ∙ ap (λ (b : List ℕ). b ++ rest) (take-append-drop size before) ∙ cut.is;
      },
      parted sizes (drop size before ++ rest) (drop size before) rest
          (record { len = omega (arith, length-drop size before, cut.len); is = refl }),
    )

-- all bytes are taken, and none are left
pub front_of_all : (bytes : List ℕ) → front_at (length bytes) bytes ≡ Ok (bytes, [])
front_of_all bytes = front_only (length bytes) bytes bytes [] (record { len = refl; is = append-nil bytes })
