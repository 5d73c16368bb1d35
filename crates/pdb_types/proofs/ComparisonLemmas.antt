-- What definitions have in common, one element after another.
use Rattle.std.proofs.Common.{◌≡◌, ◌≢◌, ℕ, suc, List, [], ◌∷◌, map, length, refl, ap, Bool, true, false, ◌&&◌}
use Rattle.pdb_types.specs.Comparison.{each_like}

and_false : (test other : Bool) → false ≡ other → false ≡ (test && other)
and_false true other is = is
and_false false other is = refl

-- lists of two lengths aren't alike
pub lengths_differ : {A B : Type 0} (view : A → B) (like : B → B → Bool) (xs ys : List A) → length xs ≢ length ys
    → false ≡ each_like like (map view xs) (map view ys)
lengths_differ view like [] [] differ = absurd (differ refl)
lengths_differ view like [] (y ∷ ys) differ = refl
lengths_differ view like (x ∷ xs) [] differ = refl
lengths_differ view like (x ∷ xs) (y ∷ ys) differ =
    and_false (like (view x) (view y)) (each_like like (map view xs) (map view ys))
    (lengths_differ view like xs ys (λ same. differ (ap (λ (n : ℕ). suc n) same)))
