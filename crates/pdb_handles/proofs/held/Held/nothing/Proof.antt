-- The null pointer, which owns nothing.
use Rattle.pdb_handles.proofs.WalkNames.{refl, List, [], ◌∷◌, Val, ftrue, ‵, ◌⊛◌, ◌$◌, ◌∵◌, !, qed, done, move, keep}
use Rattle.pdb_handles.proofs.WalkNames.{split, join, fjoin, fpack, feq_i, suffices, agg, enter, lit, no_more}
use Rattle.pdb_handles.proofs.WalkNames.{and_then, returns, alloc_all, pass_all, free_all, look_at, get, sets, yes}
use Rattle.pdb_handles.proofs.WalkNames.{Valss, null_ptr, ptr_val, plain, nothing, shape, to, within, Stays, walk_of}
use Rattle.pdb_handles.proofs.WalkNames.{says, stay_dropped, Goes-dropped, ends_at, None, proved}
use Rattle.std_heap.specs.contracts.Global as global
use Rattle.std_heap.proofs.Global.TheLaws as global_laws
use Rattle.pdb_handles.specs.contracts.held.Held as held
use Rattle.pdb_handles.specs.contracts.held.Held.nothing as f
use Rattle.pdb_handles.proofs.held.Held.nothing.Statement.{statement}
use Rattle.pdb_handles.proofs.held.Held.nothing.Code as code
use Rattle.pdb_handles.proofs.HeldSteps.{pair, alloc_typed, pair_typed}

pub nothing_spec : {M : Type 1} → statement M
nothing_spec 𝓤 𝓛 𝓜 𝓡 wired =
    let stayed : Stays f.ended.signature.params f.ended.kept = (stay_dropped _ yes, tt) in
    let c = f.clauses 𝓛 𝓜.mem 𝓡.returns in let W = walk_of 𝓛 f.ended stayed c in
    proved 𝓛 f.ended stayed c 𝓜 𝓡 (Goes-dropped 𝓛 0 (plain (λ _. global.the_row)) yes (λ κs x w. refl), tt)
    f.Key.name code.function (code.unfolded 𝓤 𝓛.H 𝓜 𝓡 wired)
    (λ κs. ((λ g. global_laws.lowered g ∷ []), tt)) (λ κs. (global_laws.lowers.val_is, tt)) (λ κs qs bounds a _ are.
    let g = a.0 in let word = pair null_ptr g in
    let y : W.Ghost = ((κs, qs, bounds, a, (global_laws.lowered g ∷ [], tt)), tt) in
    let made : held.the_row.Denot = record { ptr = null_ptr; alloc = g; content = None } in
    qed 𝓛 ((‵ ftrue ⊛ ‵ (global.the_row.own_val g (global_laws.lowered g ∷ [])) ⊛ ‵ ftrue) ∷ ‵ ftrue ∷ []) ∵
    split ! $ move ! (1 ∷ []) $ split ! $ keep ! (0 ∷ []) $
    enter ! _ _ _ _ _ $ alloc_all ! (λ l. pass_all ! refl (alloc_typed g, tt) $
    sets ! (agg ! (and_then ! (lit ! tt) (and_then ! (get ! refl) (no_more !)))) refl (pair_typed null_ptr g) $
    returns ! (look_at ! 0 refl) $ free_all ! refl $
    suffices ! _ (ends_at 𝓛 f.ended stayed c y word made (tt, tt) (tt, tt)) $ says ! refl $
    -- [the allocator], and of it the fields, and beside them what null owns
    nothing ! $ nothing ! $ move ! (2 ∷ 0 ∷ []) $ fjoin ! $ feq_i ! (List Val) (ptr_val null_ptr ∷ [])
    (ptr_val null_ptr ∷ []) refl $ fjoin ! $
    feq_i ! (List Val) (word ∷ []) (word ∷ []) refl $ fjoin ! $
    fpack ! (Valss (shape held.the_type).fields) (within (shape held.the_type) (to held.the_type made) (word ∷ []))
    (ptr_val null_ptr ∷ [], (global_laws.lowered g ∷ [], tt)) $ fjoin ! $
    nothing ! $ nothing ! $ join ! $ nothing ! $ done !))
