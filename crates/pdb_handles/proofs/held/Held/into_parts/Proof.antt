-- A pointer to what nobody sees becomes a pointer to the content again, since there is one.
use Rattle.pdb_handles.proofs.WalkNames.{refl, [], ◌∷◌, id⊢, ftrue, fact, ‵, raw, ◌⊛◌, ◌$◌, ◌∵◌, !, qed, done, move}
use Rattle.pdb_handles.proofs.WalkNames.{keep, use1, split, join, rewrite, suffices, whole, sub, agg, enter, of_opd}
use Rattle.pdb_handles.proofs.WalkNames.{no_more, and_then, stop, fld, returns, alloc_all, pass_all, free_all}
use Rattle.pdb_handles.proofs.WalkNames.{look_at, get, get_in, sets, yes, plain, nothing, heard, Stays, walk_of, says}
use Rattle.pdb_handles.proofs.WalkNames.{stay_dropped, Goes-dropped, ends_at, Option, IsSome, proved}
use Rattle.pdb_handles.specs.declared.content.Content.{Content}
use Rattle.pdb_handles.specs.contracts.held.Held as held
use Rattle.pdb_handles.specs.contracts.held.Held.into_parts as f
use Rattle.pdb_handles.proofs.held.Held.into_parts.Statement.{statement}
use Rattle.pdb_handles.proofs.held.Held.into_parts.Code as code
use Rattle.pdb_handles.proofs.HeldSteps.{inside, inside_is, PartsRow, pair, held_tells, ptr_typed, alloc_typed}
use Rattle.pdb_handles.proofs.HeldSteps.{pair_typed}

pub into_parts_spec : {M : Type 1} → statement M
into_parts_spec 𝓤 𝓛 𝓜 𝓡 wired =
    let stayed : Stays f.ended.signature.params f.ended.kept = (stay_dropped _ yes, tt) in
    let c = f.clauses 𝓛 𝓜.mem 𝓡.returns in let W = walk_of 𝓛 f.ended stayed c in
    proved 𝓛 f.ended stayed c 𝓜 𝓡 (Goes-dropped 𝓛 0 (plain (λ _. held.the_row)) yes (λ κs x w. refl), tt)
    f.Key.name code.function (code.unfolded 𝓤 𝓛.H 𝓜 𝓡 wired)
    (λ κs. ((λ h. pair h.ptr h.alloc ∷ []), tt)) (λ κs. (held_tells, tt)) (λ κs qs bounds a _ are.
    let h = a.0 in let word = pair h.ptr h.alloc in
    let y : W.Ghost = ((κs, qs, bounds, a, (word ∷ [], tt)), tt) in
    qed 𝓛 ((‵ ftrue ⊛ ‵ (held.the_row.own_val h (word ∷ [])) ⊛ ‵ ftrue) ∷ raw (fact 𝓤 (IsSome h.content)) ∷ []) ∵
    move ! (1 ∷ []) $ heard ! (IsSome h.content) (λ there.
    let made : PartsRow.Denot = record { ptr = h.ptr; alloc = h.alloc; value = inside h.content there } in
    split ! $ move ! (1 ∷ []) $ split ! $ keep ! (0 ∷ []) $
    rewrite ! 0 (λ (o : Option Content). ‵ (held.the_row.own_val (record h { content = o }) (word ∷ [])))
    (inside_is h.content there) refl $
    use1 𝓛 (‵ (PartsRow.own_val made (word ∷ []))) (id⊢ 𝓤 _) $
    enter ! _ _ _ _ _ $ alloc_all ! (λ l. pass_all ! refl (pair_typed h.ptr h.alloc, tt) $
    sets ! (of_opd ! (get_in ! (fld ! refl (stop !)) (sub ! 0 refl (whole !)))) refl (ptr_typed h.ptr) $
    sets ! (of_opd ! (get_in ! (fld ! refl (stop !)) (sub ! 1 refl (whole !)))) refl (alloc_typed h.alloc) $
    sets ! (of_opd ! (get ! refl)) refl (ptr_typed h.ptr) $
    sets ! (agg ! (and_then ! (get ! refl) (and_then ! (get ! refl) (no_more !)))) refl (pair_typed h.ptr h.alloc) $
    returns ! (look_at ! 0 refl) $ free_all ! refl $
    suffices ! _ (ends_at 𝓛 f.ended stayed c y word made (tt, tt) (tt, tt)) $ says ! (inside_is h.content there) $
    nothing ! $ nothing ! $ join ! $ nothing ! $ done !)))
