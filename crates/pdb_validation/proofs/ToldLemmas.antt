-- What is told of a part, one fault after another.
use Rattle.std.proofs.Common.{◌≡◌, Bool, true, false, List, [], ◌++◌, refl, sym, ap, ◌∙◌, append_assoc, Option, Some}
use Rattle.std.proofs.Common.{None, Ok}
use Rattle.std.specs.Option.{option_to_list}
use Rattle.std.proofs.lemmas.Bool.{false≢true}
use Rattle.std.proofs.lemmas.List.{append-nil}
use Rattle.pdb_base.specs.Answer.{Answer}
use Rattle.pdb_base.proofs.lemmas.Collected.{ok_is}
use Rattle.pdb_validation.specs.Finding.{FaultPlace, by_extent, is_enough}
use Rattle.pdb_validation.specs.declared.mismatch.Extent.{Extent}
use Rattle.pdb_validation.specs.declared.mismatch.Extent.TheVariants as extents

-- a fault, or none, before others that are told too
one_more : (extent : Extent) (one : Option FaultPlace) (others : List FaultPlace) → is_enough extent one ≡ false
    → by_extent extent (option_to_list one ++ others) ≡ option_to_list one ++ by_extent extent others
one_more extents.First None others more = refl
one_more extents.First (Some fault) others more = absurd (false≢true (sym more))
one_more extents.All one others more = refl

-- a fault before others that are not told
one_enough : (extent : Extent) (one : Option FaultPlace) (others : List FaultPlace) → is_enough extent one ≡ true
    → by_extent extent (option_to_list one ++ others) ≡ option_to_list one
one_enough extents.First None others enough = absurd (false≢true enough)
one_enough extents.First (Some fault) others enough = refl
one_enough extents.All one others enough = absurd (false≢true enough)

pub told_alone : (extent : Extent) (one : Option FaultPlace) → by_extent extent (option_to_list one)
    ≡ option_to_list one
told_alone extents.First None = refl
told_alone extents.First (Some fault) = refl
told_alone extents.All one = refl

-- So far `now` is told of a part, of which `left` is left; in the end `all` is told behind `before`.
abbrev pub IsTelling : Extent → List FaultPlace → List FaultPlace → List FaultPlace → List FaultPlace → Type 0
IsTelling extent before all now left = now ++ by_extent extent left ≡ before ++ by_extent extent all

abbrev pub said : {A : Type 0} → A → Answer A
said x = Ok x

pub telling_more : (extent : Extent) (before all now now' left left' : List FaultPlace) (one found : Option FaultPlace)
    (flag : Bool) → IsTelling extent before all now left → left ≡ option_to_list one ++ left'
    → said one ≡ Ok found → said (now ++ option_to_list found) ≡ Ok now'
    → flag ≡ is_enough extent found → flag ≡ false → IsTelling extent before all now' left'
telling_more extent before all now now' left left' one found flag telling next is adds last more =
    let same = ok_is _ _ is in
    let enough : is_enough extent one ≡ false =
    ap (is_enough extent) same ∙ sym last ∙ more in
    let list : now' ≡ now ++ option_to_list one =
    sym (ok_is _ _ adds) ∙ ap (λ (o : Option FaultPlace). now ++ option_to_list o) (sym same) in
    ap (λ (l : List FaultPlace). l ++ by_extent extent left') list
    ∙ append_assoc now (option_to_list one) (by_extent extent left')
    ∙ ap (λ (l : List FaultPlace). now ++ l) (sym (one_more extent one left' enough))
    ∙ ap (λ (l : List FaultPlace). now ++ by_extent extent l) (sym next) ∙ telling

pub telling_enough : (extent : Extent) (before all now now' left left' : List FaultPlace)
    (one found : Option FaultPlace)
    (flag : Bool) → IsTelling extent before all now left → left ≡ option_to_list one ++ left'
    → said one ≡ Ok found → said (now ++ option_to_list found) ≡ Ok now'
    → flag ≡ is_enough extent found → flag ≡ true → said (before ++ by_extent extent all) ≡ Ok now'
telling_enough extent before all now now' left left' one found flag telling next is adds last stop =
    let same = ok_is _ _ is in
    let enough : is_enough extent one ≡ true =
    ap (is_enough extent) same ∙ sym last ∙ stop in
    let list : now ++ option_to_list one ≡ now' =
    ap (λ (o : Option FaultPlace). now ++ option_to_list o) same ∙ ok_is _ _ adds in
    ap said (sym telling ∙ ap (λ (l : List FaultPlace). now ++ by_extent extent l) next
    ∙ ap (λ (l : List FaultPlace). now ++ l) (one_enough extent one left' enough) ∙ list)

-- the last fault of a part, or none
pub telling_last : (extent : Extent) (before all now left : List FaultPlace) (one : Option FaultPlace)
    → IsTelling extent before all now left → left ≡ option_to_list one
    → before ++ by_extent extent all ≡ now ++ option_to_list one
telling_last extent before all now left one telling last =
    sym telling ∙ ap (λ (l : List FaultPlace). now ++ by_extent extent l) last
    ∙ ap (λ (l : List FaultPlace). now ++ l) (told_alone extent one)

nothing_told : (extent : Extent) → by_extent extent [] ≡ []
nothing_told extents.First = refl
nothing_told extents.All = refl

-- nothing is left
pub telling_none : (extent : Extent) (before all now left : List FaultPlace) → IsTelling extent before all now left
    → left ≡ [] → before ++ by_extent extent all ≡ now
telling_none extent before all now left telling none =
    sym telling ∙ ap (λ (l : List FaultPlace). now ++ by_extent extent l) none
    ∙ ap (λ (l : List FaultPlace). now ++ l) (nothing_told extent) ∙ append-nil now
