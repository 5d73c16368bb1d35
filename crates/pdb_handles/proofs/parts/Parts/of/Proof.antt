-- The pointer and the allocator come out of the box together with what it owned, and go into the parts.
use Rattle.pdb_handles.proofs.WalkNames.{◌≡◌, refl, sym, subst, ap, ◌∙◌, List, [], ◌∷◌, ◌++◌, Fn, Dict, inst_fn, Val}
use Rattle.pdb_handles.proofs.WalkNames.{vstruct, of_list, ent, id⊢, never, fst∗, ftrue, fsep, flft, ◌⊑◌, fact}
use Rattle.pdb_handles.proofs.WalkNames.{tables, framed, WpFn, sem, Item, ‵, raw, ◌⊛◌, some, later, ◌$◌, ◌∵◌, !, qed}
use Rattle.pdb_handles.proofs.WalkNames.{by, move, drop, use1, join, split, split3, pick, rewrite, fsplit, fjoin}
use Rattle.pdb_handles.proofs.WalkNames.{fpick, feq_l, suffices, await, done, whole, sub, agg, stop, fld, no_more}
use Rattle.pdb_handles.proofs.WalkNames.{and_then, of_opd, returns, enter, alloc_all, pass_all, free_all, look_at}
use Rattle.pdb_handles.proofs.WalkNames.{get, get_in, sets, lands_as, no, Ptr, RawPtr, block_ptr, null_ptr, ptr_val}
use Rattle.pdb_handles.proofs.WalkNames.{in_a_block, plain, heard, nothing, only, Tuple, calls_at, Ended, triple_of}
use Rattle.pdb_handles.proofs.WalkNames.{says, Stays, stay_dropped, walk_of, ends_at, token, handle_tells, Goes-blank}
use Rattle.pdb_handles.proofs.WalkNames.{proved_at, box_owns, Bx, D, τ, R, P, B, word, box_typed, box_out, box_in}
use mir.Raw.{raw as bare}
use Rattle.std_alloc.specs.contracts.boxed.Box.into_raw_with_allocator as into_raw
use Rattle.std_alloc.proofs.boxed.Box.into_raw_with_allocator.Met as into_raw_met
use Rattle.pdb_handles.specs.contracts.parts.Parts.of as f
use Rattle.pdb_handles.proofs.parts.Parts.of.Statement.{statement}
use Rattle.pdb_handles.proofs.parts.Parts.of.Code as code
use Rattle.pdb_handles.proofs.PartsSteps.{PartsRow, with_drop}

abbrev ended : Bx → Dict → Ended
ended box dx = f.ended box.row box.al.row box.al.g box.al.d box.al.drops dx

abbrev stayed : (box : Bx) (dx : Dict) → Stays (ended box dx).signature.params (ended box dx).kept
stayed box dx = (stay_dropped (plain (λ _. B box)) no, tt)

pub of_spec : {M : Type 1} → statement M
of_spec 𝓤 𝓛 𝓜 𝓡 wired X Z LX LZ g d dd dx allocator md glue =
    let box : Bx = record { row = X; laws = LX; al = record { row = Z; laws = LZ; g = g; d = d; drops = dd } } in
    let c = f.clauses X Z g d dd dx 𝓛 𝓜.mem 𝓡.returns in
    let 𝓣 = tables 𝓤 𝓛.H 𝓜 𝓡 𝓡.env in
    let here : Fn = inst_fn (with_drop box dx) code.function in
    proved_at 𝓛 (ended box dx) (stayed box dx) c 𝓜 𝓡 (Goes-blank 𝓛 2 (plain (λ _. B box)) no (λ κs x w. tt), tt)
    (f.Key.name (with_drop box dx)) here (code.unfolded 𝓤 𝓛.H 𝓜 𝓡 wired (X, (Z, tt)) d dd dx) (λ y are.
    let Called = triple_of 𝓛 (into_raw.signature X Z g d dd dx) (into_raw.spec X Z g d dd dx 𝓛 𝓜.mem 𝓡.returns) in
    let κs = y.0.0 in let qs = y.0.1 in let whole_box = y.0.3.0 in let alloc = whole_box.alloc in
    let Post = (walk_of 𝓛 (ended box dx) (stayed box dx) c).post y in
    let tokens : Item 𝓤 = ‵ (flft κs.0 qs.0) ⊛ ‵ (flft κs.1.0 qs.1.0) ⊛ ‵ ftrue in
    let lives : Item 𝓤 = raw (fact 𝓤 (κs.0 ⊑ X.lives)) ⊛ raw (fact 𝓤 (κs.1.0 ⊑ Z.lives)) ⊛ ‵ ftrue in
    qed 𝓛 ((tokens ⊛ ‵ (fsep ((B box).own_val whole_box y.0.4.0) ftrue)) ∷ lives ∷ []) ∵
    split ! $ move ! (1 ∷ []) $ fsplit ! $
    -- the box: a block that is not null, its value, and the right to free it
    box_out box ! whole_box y.0.4.0 (λ b o handle at_block words typed_handle. box_in box ! whole_box b o
    whole_box.value at_block refl $
    let boxed = word box handle b o in
    let z : Called.Ghost = ((κs, qs, tt, (whole_box, tt), (boxed ∷ [], tt)), tt) in
    let Γ : List (Item 𝓤) = ‵ ((B box).own_val whole_box (boxed ∷ [])) ∷ ‵ ftrue ∷ tokens ∷ lives ∷ [] in
    by ! (subst (λ (ws : List Val). ent 𝓤 (types.Kit.⋆ 𝓛 Γ) (WpFn 𝓤 𝓛.H 𝓣.C 𝓣.Λ here (ws ++ []) Post)) (sym words)
    (qed 𝓛 Γ ∵ enter ! 𝓣.C 𝓣.Λ here (boxed ∷ []) _ $ alloc_all !
    (λ ls. pass_all ! refl (box_typed box handle b o typed_handle, tt) $
    sets ! (of_opd ! (get ! refl)) refl (box_typed box handle b o typed_handle) $
    fjoin ! $ move ! (1 ∷ 0 ∷ []) $ join ! $ join ! $ use1 𝓛 (raw (Called.pre z)) (id⊢ 𝓤 _) $
    calls_at ! (framed 𝓤 𝓛.H 𝓜 𝓣) Called (into_raw_met.met 𝓤 𝓛 𝓜 𝓡
    (code.calls-std_alloc::boxed::Box::into_raw_with_allocator 𝓡.env wired) X Z LX LZ g d dd dx allocator md glue) z
    (and_then ! (get ! refl) (no_more !)) (λ v.
    use1 𝓛 (later (some (λ (r : Ptr × Z.Denot). (tokens ⊛ ‵ ((Tuple (RawPtr ∷ P box ∷ [])).own_val r (v ∷ []))) ⊛ some
    (λ (_ : (Unit {0} × (Unit {0} × Unit {0})) × Unit {0}).
    ‵ (fsep (fsep ftrue (fsep ftrue ftrue)) ftrue) ⊛ (raw (fact 𝓤 (r.1 ≡ alloc)) ⊛ ‵
    (box_owns (token box.al alloc) (R box) r.0 whole_box.value)))))) (id⊢ 𝓤 _) $
    await ! tt $ pick ! (λ r. split ! $ move ! (1 ∷ []) $ pick !
    (λ _. split3 ! $ drop ! $ heard ! (r.1 ≡ alloc) (λ same_alloc.
    -- [the value with its token; the tokens with the pair]: the pair is the pointer and the allocator
    in_a_block ! r.0 (λ p. box_owns (token box.al alloc) (R box) p whole_box.value)
    (fst∗ 𝓤 (never 𝓤) (sem 𝓛 (token box.al alloc (bare (τ box)) null_ptr))) (λ b' o' at'.
    move ! (1 ∷ []) $ split ! $ move ! (1 ∷ []) $ fpick !
    (λ vss. fsplit ! $ feq_l ! (λ is_pair. fsplit ! $ feq_l ! (λ is_ptr. fsplit ! $
    rewrite ! 0 (λ (it : Z.Denot). ‵ (Z.own_val it vss.1.0)) same_alloc refl $ handle_tells box.al ! alloc vss.1.0
    (λ handle' is_handle typed'.
    let whole' : D box = record { ptr = block_ptr b' o'; alloc = alloc; value = whole_box.value } in
    let made : (PartsRow box).Denot = record { ptr = block_ptr b' o'; alloc = alloc; value = whole_box.value } in
    let parted = word box handle' b' o' in
    lands_as ! (ap only (is_pair ∙ (λ j. vstruct (of_list
    ((is_ptr ∙ ap (λ (p : Ptr). ptr_val p ∷ []) at') j ++ (is_handle j ++ []))) ∷ []))) refl
    (box_typed box handle' b' o' typed') $
    sets ! (of_opd ! (get_in ! (fld ! refl (stop !)) (sub ! 0 refl (whole !)))) refl (tt, tt) $
    sets ! (of_opd ! (get_in ! (fld ! refl (stop !)) (sub ! 1 refl (whole !)))) refl typed' $
    sets ! (of_opd ! (get ! refl)) refl typed' $
    sets ! (agg ! (and_then ! (get ! refl) (and_then ! (get ! refl) (no_more !)))) refl
    (box_typed box handle' b' o' typed') $
    returns ! (look_at ! 0 refl) $ free_all ! refl $
    -- [the handle; true; the tokens; the value with its token], of which the parts are made as a box is
    move ! (3 ∷ []) $ fsplit ! $ box_in box ! whole' b' o' whole_box.value refl refl $ use1 𝓛
    (‵ ((PartsRow box).own_val made (parted ∷ []))) (id⊢ 𝓤 _) $ move ! (1 ∷ []) $ drop ! $
    suffices ! _ (ends_at 𝓛 (ended box dx) (stayed box dx) c y parted made ((tt, (tt, tt)), tt)
    (tt, tt)) $ says ! refl $
    nothing ! $ nothing ! $ fjoin ! $ join ! $ move ! (1 ∷ 0 ∷ []) $ join ! $ done !))))))))))))))
