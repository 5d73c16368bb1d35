-- One stream more among those that a file holds.
use Rattle.std.proofs.Common.{◌≡◌, inl, inr, ℕ, ◌+◌, List, [], ◌∷◌, ◌++◌, length, refl, sym, ap, ◌∙◌, arith, Ok, None}
use Rattle.std.specs.List.{filter_map, range_with_len}
use Rattle.std.proofs.lemmas.List.Elements.{filter_map-append}
use Rattle.std.proofs.lemmas.List.FromFn.{map-range_with_len_more}
use Rattle.std.proofs.lemmas.List.{append-nil, map-id}
use Rattle.pdb_container.specs.Answer.{RefusesUnless}
use Rattle.pdb_base.specs.declared.error.Error.TheVariants.{StreamNotFound}
use Rattle.pdb_container.specs.Header.{Head}
use Rattle.pdb_container.specs.File.{stream_of}
use Rattle.pdb_examples.specs.Uses.{size_if_there, sizes_by_number}

pub none_yet : (file : List ℕ) (head : Head) → [] ≡ sizes_by_number 0 file head
unfolding sizes_by_number
none_yet file head = refl

pub sizes_more : (n : ℕ) (file : List ℕ) (head : Head) → sizes_by_number (n + 1) file head ≡ sizes_by_number n file head
    ++ filter_map (λ number. size_if_there number (stream_of file head number None)) (n ∷ [])
unfolding sizes_by_number
sizes_more n file head =
    let h = λ (number : ℕ). size_if_there number (stream_of file head number None) in
    ap (filter_map h) (sym (map-id (range_with_len 0 (n + 1)))
    ∙ map-range_with_len_more (λ (k : ℕ). k) 0 n n (omega arith)
    ∙ ap (λ (l : List ℕ). l ++ n ∷ []) (map-id (range_with_len 0 n)))
    ∙ filter_map-append h (range_with_len 0 n) (n ∷ [])

-- a stream that is there is one more
pub one_more : (n : ℕ) (file : List ℕ) (head : Head) (stream : List ℕ) (sizes : List (ℕ × ℕ))
    → stream_of file head n None ≡ Ok stream → sizes ≡ sizes_by_number n file head
    → sizes ++ (n, length stream) ∷ [] ≡ sizes_by_number (n + 1) file head
one_more n file head stream sizes is so_far = rw (sizes_more n file head, is, so_far) refl

-- one that is not found is none
pub no_more : (failed : Type 0) (n number : ℕ) (file : List ℕ) (head : Head) (sizes : List (ℕ × ℕ))
    → RefusesUnless failed (StreamNotFound number) (stream_of file head n None) → sizes ≡ sizes_by_number n file head
    → sizes ≡ sizes_by_number (n + 1) file head
no_more failed n number file head sizes (inl is) so_far =
    rw (sizes_more n file head, is, so_far) (sym (append-nil (sizes_by_number n file head)))
no_more failed n number file head sizes (inr (inl want)) so_far = absurd cc
no_more failed n number file head sizes (inr (inr fault)) so_far = absurd fault.0
