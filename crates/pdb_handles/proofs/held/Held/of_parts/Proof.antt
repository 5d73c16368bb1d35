-- A pointer to a content becomes a pointer to what nobody sees. What it owns stays.
use Rattle.pdb_handles.proofs.WalkNames.{refl, [], ◌∷◌, id⊢, ftrue, ‵, ◌⊛◌, ◌$◌, ◌∵◌, !, qed, done, move, keep, use1}
use Rattle.pdb_handles.proofs.WalkNames.{split, join, suffices, whole, sub, agg, enter, of_opd, no_more, and_then}
use Rattle.pdb_handles.proofs.WalkNames.{stop, fld, returns, alloc_all, pass_all, free_all, look_at, get, get_in}
use Rattle.pdb_handles.proofs.WalkNames.{sets, yes, plain, nothing, Stays, walk_of, says, stay_dropped, Goes-dropped}
use Rattle.pdb_handles.proofs.WalkNames.{ends_at, Some, proved}
use Rattle.pdb_handles.specs.contracts.held.Held as held
use Rattle.pdb_handles.specs.contracts.held.Held.of_parts as f
use Rattle.pdb_handles.proofs.held.Held.of_parts.Statement.{statement}
use Rattle.pdb_handles.proofs.held.Held.of_parts.Code as code
use Rattle.pdb_handles.proofs.HeldSteps.{PartsRow, pair, parts_tells, ptr_typed, alloc_typed, pair_typed}

pub of_parts_spec : {M : Type 1} → statement M
of_parts_spec 𝓤 𝓛 𝓜 𝓡 wired =
    let stayed : Stays f.ended.signature.params f.ended.kept = (stay_dropped _ yes, tt) in
    let c = f.clauses 𝓛 𝓜.mem 𝓡.returns in let W = walk_of 𝓛 f.ended stayed c in
    proved 𝓛 f.ended stayed c 𝓜 𝓡 (Goes-dropped 𝓛 0 (plain (λ _. PartsRow)) yes (λ κs x w. refl), tt)
    f.Key.name code.function (code.unfolded 𝓤 𝓛.H 𝓜 𝓡 wired)
    (λ κs. ((λ h. pair h.ptr h.alloc ∷ []), tt)) (λ κs. (parts_tells, tt)) (λ κs qs bounds a _ are.
    let h = a.0 in let word = pair h.ptr h.alloc in
    let y : W.Ghost = ((κs, qs, bounds, a, (word ∷ [], tt)), tt) in
    let made : held.the_row.Denot = record { ptr = h.ptr; alloc = h.alloc; content = Some h.value } in
    qed 𝓛 ((‵ ftrue ⊛ ‵ (PartsRow.own_val h (word ∷ [])) ⊛ ‵ ftrue) ∷ ‵ ftrue ∷ []) ∵
    split ! $ move ! (1 ∷ []) $ split ! $ keep ! (0 ∷ []) $
    use1 𝓛 (‵ (held.the_row.own_val made (word ∷ []))) (id⊢ 𝓤 _) $
    enter ! _ _ _ _ _ $ alloc_all ! (λ l. pass_all ! refl (pair_typed h.ptr h.alloc, tt) $
    sets ! (of_opd ! (get_in ! (fld ! refl (stop !)) (sub ! 0 refl (whole !)))) refl (ptr_typed h.ptr) $
    sets ! (of_opd ! (get_in ! (fld ! refl (stop !)) (sub ! 1 refl (whole !)))) refl (alloc_typed h.alloc) $
    sets ! (of_opd ! (get ! refl)) refl (ptr_typed h.ptr) $
    sets ! (agg ! (and_then ! (get ! refl) (and_then ! (get ! refl) (no_more !)))) refl (pair_typed h.ptr h.alloc) $
    returns ! (look_at ! 0 refl) $ free_all ! refl $
    suffices ! _ (ends_at 𝓛 f.ended stayed c y word made (tt, tt) (tt, tt)) $ says ! refl $
    nothing ! $ nothing ! $ join ! $ nothing ! $ done !))
