use Rattle.std.proofs.Common.{◌≡◌, ◌+◌, ◌-◌, ◌<◌, ◌++◌, [], ◌∷◌, false, true, eqb, set, refl, arith, ap, sym, ◌∙◌, List}
use Rattle.std.proofs.Common.{vec_len, Result, Ok, Err, OnErr}
use Rattle.std.proofs.lemmas.List.{set-get_or}
use Rattle.pdb_msf.specs.declared.source.SourceSlice.{SourceSlice}
use Rattle.pdb_msf.specs.PageList.{with_slice}
use Rattle.pdb_msf.proofs.SliceLemmas.{add_joined, add_apart, add_first, last_fits}
use Rattle.pdb_msf.proofs.page_list.add_slice.Goals as goal
use Rattle.pdb_msf.proofs.page_list.add_slice.Goals.{in-Some+else-ends_at, in_default}

pub overflow_add-last : goal.overflow_add-last
overflow_add-last c =
    let slices = c.args.slices.now in
    let some : 0 < vec_len slices = c.in-Some.ensures.variant.0 refl in
    omega (
      arith,
      last_fits slices.items (vec_len slices - 1) c.in-Some.last.now
          (omega (arith, slices.ok.0)) c.in-Some.ensures.value,
    )

pub returns-then-ends_at-clause-slices : goal.returns-then-ends_at-clause-slices
returns-then-ends_at-clause-slices c =
    let slices = c.args.slices.now in
    let last = c.in-Some.last.now in
    let some : 0 < vec_len slices = c.in-Some.ensures.variant.0 refl in
    let meets : eqb (last.offset + last.size) c.args.next.offset ≡ true = sym c.ends_at.ensures ∙ c.if-ends_at.true in
    add_joined slices.items (vec_len slices - 1) last c.args.next
    (omega (arith, slices.ok.0)) c.in-Some.ensures.value meets

on_err : {A E : Type 0} (r : Result A E) (P : Type 0) → P → OnErr r P
on_err (Ok x) P holds = tt
on_err (Err e) P holds = holds

-- memory is asked for only where a slice begins
pub returns-in_err-push-clause-begins : goal.returns-in_err-push-clause-begins
returns-in_err-push-clause-begins c =
    let slices = c.args.slices.now in
    let apart : with_slice slices.items c.args.next ≡ slices.items ++ c.args.next ∷ [] = elim c.match-last_mut.branch [
      | in-Some+else-ends_at w ↦
          let some : 0 < vec_len slices = w.in-Some.ensures.variant.0 refl in
          sym (add_apart slices.items (vec_len slices - 1) w.in-Some.last.now c.args.next
          (omega (arith, slices.ok.0)) w.in-Some.ensures.value (sym w.ends_at.ensures ∙ w.if-ends_at.false))
      | in_default w ↦ sym (add_first slices.items c.args.next
          (λ some. let e : false ≡ true = w.in_default.ensures.variant.1 (omega (arith, slices.ok.0, some)) in cc))
    ] in
    on_err c.from_residual.result _ apart

pub returns-clause-slices : goal.returns-clause-slices
returns-clause-slices c =
    let slices = c.args.slices.now in
    c.in_ok-push.ensures.items ∙ elim c.match-last_mut.branch [
      | in-Some+else-ends_at w ↦
          let last = w.in-Some.last.now in
          let i = vec_len slices - 1 in
          let some : 0 < vec_len slices = w.in-Some.ensures.variant.0 refl in
          let apart : eqb (last.offset + last.size) c.args.next.offset ≡ false = sym w.ends_at.ensures
          ∙ w.if-ends_at.false in
          let same : c.match-last_mut.slices.items ≡ slices.items =
          ap (λ v. v.items) w.slices-is ∙ ap (set slices.items i) w.in-Some.ensures.value
          ∙ set-get_or slices.items i last in
          ap (λ (s : List SourceSlice). s ++ c.args.next ∷ []) same
          ∙ add_apart slices.items i last c.args.next (omega (arith, slices.ok.0)) w.in-Some.ensures.value apart
      | in_default w ↦ ap (λ v. v.items ++ c.args.next ∷ []) w.slices-is ∙ add_first slices.items c.args.next
          (λ some. let e : false ≡ true = w.in_default.ensures.variant.1 (omega (arith, slices.ok.0, some)) in cc)
    ]
