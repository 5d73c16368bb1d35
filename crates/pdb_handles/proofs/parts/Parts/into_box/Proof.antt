-- The pointer and the allocator go back into a box, together with what the parts owned.
use Rattle.pdb_handles.proofs.WalkNames.{◌≡◌, refl, sym, subst, ap, List, [], ◌∷◌, ◌++◌, T, Fn, Body, place, copy}
use Rattle.pdb_handles.proofs.WalkNames.{assign, rv_opd, seq, return, inst_fn, Val, vptr, has_ty, WT, ent, id⊢, ftrue}
use Rattle.pdb_handles.proofs.WalkNames.{fsep, flft, ◌⊑◌, fact, tables, WpFn, Item, at_ret, ‵, raw, ◌⊛◌, some, later}
use Rattle.pdb_handles.proofs.WalkNames.{◌$◌, ◌∵◌, !, qed, by, move, drop, use1, join, split, split3, pick, rewrite}
use Rattle.pdb_handles.proofs.WalkNames.{fsplit, fjoin, feq_i, suffices, await, done, whole, sub, stop, fld, no_more}
use Rattle.pdb_handles.proofs.WalkNames.{and_then, of_opd, returns, enter, first, blocks, exec, alloc_all, pass_all}
use Rattle.pdb_handles.proofs.WalkNames.{free_all, look_at, get, get_in, sets, lands_last, env, no, block_ptr, plain}
use Rattle.pdb_handles.proofs.WalkNames.{heard, nothing, only, calls_at_last, Ended, triple_of, framed, says, Stays}
use Rattle.pdb_handles.proofs.WalkNames.{stay_dropped, walk_of, ends_at, token, Goes-blank, proved_at, box_owns, Bx}
use Rattle.pdb_handles.proofs.WalkNames.{D, R, P, B, box_ty, word, box_typed, box_out, box_in}
use Rattle.std_alloc.specs.contracts.boxed.Box.from_raw as from_raw
use Rattle.std_alloc.proofs.boxed.Box.from_raw.Met as from_raw_met
use Rattle.pdb_handles.specs.contracts.parts.Parts.into_box as f
use Rattle.pdb_handles.proofs.parts.Parts.into_box.Statement.{statement}
use Rattle.pdb_handles.proofs.parts.Parts.into_box.Code as code
use Rattle.pdb_handles.proofs.PartsSteps.{PartsRow, without_drop}

abbrev ended : Bx → Ended
ended box = f.ended box.row box.al.row box.al.g box.al.d box.al.drops

abbrev stayed : (box : Bx) → Stays (ended box).signature.params (ended box).kept
stayed box = (stay_dropped (plain (λ _. PartsRow box)) no, tt)

-- what is left to run behind the call
abbrev behind : Body
behind = seq (assign (place 0 []) (rv_opd (copy (place 4 [])))) return

pub into_box_spec : {M : Type 1} → statement M
into_box_spec 𝓤 𝓛 𝓜 𝓡 wired X Z LX LZ g d dd allocator md =
    let box : Bx = record { row = X; laws = LX; al = record { row = Z; laws = LZ; g = g; d = d; drops = dd } } in
    let c = f.clauses X Z g d dd 𝓛 𝓜.mem 𝓡.returns in
    let 𝓣 = tables 𝓤 𝓛.H 𝓜 𝓡 𝓡.env in
    let here : Fn = inst_fn (without_drop box) code.function in
    proved_at 𝓛 (ended box) (stayed box) c 𝓜 𝓡 (Goes-blank 𝓛 2 (plain (λ _. PartsRow box)) no (λ κs x w. tt), tt)
    (f.Key.name (without_drop box)) here (code.unfolded 𝓤 𝓛.H 𝓜 𝓡 wired (X, (Z, tt)) d dd) (λ y are.
    let Called = triple_of 𝓛 (from_raw.signature X Z g d dd) (from_raw.spec X Z g d dd 𝓛 𝓜.mem 𝓡.returns) in
    let κs = y.0.0 in let qs = y.0.1 in let parts = y.0.3.0 in let alloc = parts.alloc in
    let Post = (walk_of 𝓛 (ended box) (stayed box) c).post y in
    let boxed : D box = record { ptr = parts.ptr; alloc = alloc; value = parts.value } in
    let tokens : Item 𝓤 = ‵ (flft κs.0 qs.0) ⊛ ‵ (flft κs.1.0 qs.1.0) ⊛ ‵ ftrue in
    let lives_x : Item 𝓤 = raw (fact 𝓤 (κs.0 ⊑ X.lives)) in let lives_z : Item 𝓤 = raw (fact 𝓤 (κs.1.0 ⊑ Z.lives)) in
    -- the parts own what a box does
    qed 𝓛 ((tokens ⊛ ‵ (fsep ((B box).own_val boxed y.0.4.0) ftrue)) ∷ (lives_x ⊛ lives_z ⊛ ‵ ftrue) ∷ []) ∵
    split ! $ move ! (1 ∷ []) $ fsplit ! $
    box_out box ! boxed y.0.4.0 (λ b o handle at_block words typed_handle. fjoin ! $
    let parted = word box handle b o in
    let z : Called.Ghost = (
      (κs, qs, tt, (alloc, (block_ptr b o, tt)), (handle ∷ [], (vptr b o ∷ [], tt))),
      parts.value,
    ) in
    let Γ : List (Item 𝓤) = ‵ (box_owns (token box.al alloc) (R box) (block_ptr b o) parts.value)
    ∷ ‵ ((P box).own_val alloc (handle ∷ [])) ∷ ‵ ftrue ∷ tokens ∷ (lives_x ⊛ lives_z ⊛ ‵ ftrue) ∷ [] in
    by ! (subst (λ (ws : List Val). ent 𝓤 (types.Kit.⋆ 𝓛 Γ) (WpFn 𝓤 𝓛.H 𝓣.C 𝓣.Λ here (ws ++ []) Post)) (sym words)
    (qed 𝓛 Γ ∵ enter ! 𝓣.C 𝓣.Λ here (parted ∷ []) _ $ alloc_all !
    (λ ls. pass_all ! refl (box_typed box handle b o typed_handle, tt) $
    sets ! (of_opd ! (get_in ! (fld ! refl (stop !)) (sub ! 0 refl (whole !)))) refl (tt, tt) $
    sets ! (of_opd ! (get_in ! (fld ! refl (stop !)) (sub ! 1 refl (whole !)))) refl typed_handle $
    first ! $ blocks ! $ sets ! (of_opd ! (get ! refl)) refl typed_handle $
    -- what the call takes: the tokens, the allocator and the pointer, and the value with the right to free it
    move ! (4 ∷ []) $ split3 ! $ move ! (2 ∷ []) $ drop ! $ move ! (1 ∷ 2 ∷ []) $ join ! $ move !
    (1 ∷ 0 ∷ []) $ join ! $
    move ! (2 ∷ []) $ feq_i ! (List Val) (vptr b o ∷ []) (vptr b o ∷ []) refl $ fjoin ! $ move !
    (2 ∷ 0 ∷ []) $ fjoin ! $ move ! (2 ∷ 0 ∷ []) $ join ! $ join ! $
    use1 𝓛 (raw (Called.pre z)) (id⊢ 𝓤 _) $
    calls_at_last ! (framed 𝓤 𝓛.H 𝓜 𝓣) Called (from_raw_met.met 𝓤 𝓛 𝓜 𝓡
    (code.calls-std_alloc::boxed::Box::from_raw 𝓡.env wired) X Z LX LZ g d dd allocator md) z
    (and_then ! (get ! refl) (and_then ! (get ! refl) (no_more !))) (λ v.
    use1 𝓛 (later (some (λ (r : D box). (tokens ⊛ ‵ ((B box).own_val r (v ∷ []))) ⊛ some
    (λ (_ : Unit {0} × (Unit {0} × Unit {0})).
    ‵ (fsep ftrue (fsep ftrue ftrue)) ⊛ (raw (fact 𝓤 (r.value ≡ parts.value)) ⊛ raw (fact 𝓤 (r.alloc ≡ alloc)))))))
    (id⊢ 𝓤 _) $
    await ! tt $ pick ! (λ r. split ! $ move ! (1 ∷ []) $ pick !
    (λ _. split3 ! $ drop ! $ heard ! (r.value ≡ parts.value) (λ same. drop ! $ split ! $ move ! (1 ∷ []) $
    -- the box that came back, as it is in memory
    box_out box ! r (v ∷ []) (λ b' o' handle' at' is_word typed'. box_in box ! r b' o' r.value at' refl $
    rewrite ! 0 (λ (ws : List Val). ‵ ((B box).own_val r ws)) (sym is_word) refl $
    let typed : T (has_ty (box_ty box) v) × WT v = subst (λ (w : Val). T (has_ty (box_ty box) w) × WT w)
    (sym (ap only is_word)) (box_typed box handle' b' o' typed') in
    lands_last ! refl typed $ exec ! 𝓣.C 𝓣.Λ (env here.locals ls) behind (at_ret (env here.locals ls) Post) $
    sets ! (of_opd ! (get ! refl)) refl typed $ returns ! (look_at ! 0 refl) $ free_all ! refl $
    suffices ! _ (ends_at 𝓛 (ended box) (stayed box) c y v r ((tt, (tt, tt)), tt) (tt, tt)) $ says ! same $
    nothing ! $ nothing ! $ fjoin ! $ join ! $ move ! (1 ∷ 0 ∷ []) $ join ! $ done !))))))))))
