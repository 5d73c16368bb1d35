-- The names of the logic that the walks by hand use, in one place.
pub use base.Fml.{ftrue, fsep, flft}
pub use base.Logic.{id⊢, ent, never, fst∗}
pub use contract.Running.{tables}
pub use contract.{BorrowLft.◌⊑◌, Monad.fact}
pub use denote.Triple.Walked.{Stays, walk_of, says, stay_dropped, Goes-dropped, ends_at}
pub use denote.{Exit.yes, Exit.no, Laws.Is, Laws.Tells, Param.bounded, RattleType.Valss, RattleType.RattleType}
pub use denote.RawPtr.{null_ptr, ptr_val, Ptr, RawPtr, block_ptr, in_a_block}
pub use denote.{Signature.plain, Steps.nothing, Steps.heard, Steps.only, Struct.Owning.shape, Struct.Owning.to}
pub use denote.{Struct.Struct.within, Struct.Tuple.Tuple, Triple.Call.calls_at, Triple.Call.calls_at_last}
pub use denote.{Triple.Clauses.Ended, Triple.Spec.triple_of, Triple.Table.framed}
pub use lib.Dec.{T, lit<}
pub use mathlib.Core.Path.{refl, ◌≡◌, sym, subst, ap, ◌∙◌}
pub use mathlib.{Core.Bool.false≢true, Core.List.List, Core.List.[], Core.List.◌∷◌, Core.List.◌++◌}
pub use mir.Syntax.{Fn, Dict, Body, place, copy, assign, rv_opd, seq, return, ty_ptr, Args, a_type, dcons, dnil}
pub use mir.{MapTy.inst_fn, Val.Val, Val.vstruct, Val.of_list, Val.vptr, Val.has_ty, Val.WT}
pub use prog.Wp.{WpFn}
pub use types.ByLocal.{alloc_all, pass_all, free_all, look_at, get, sets, get_in, lands_as, lands_last, env}
pub use types.Kit.{‵, ◌⊛◌, ◌$◌, ◌∵◌, !, qed, done, move, keep, split, join, fjoin, fpack, feq_i, suffices, use1, raw}
pub use types.Kit.{rewrite, Item, some, later, by, drop, split3, pick, fsplit, fpick, feq_l, await, at_ret}
pub use types.{Logic.sem, Part.agg, Part.whole, Part.sub, Run.enter, Run.lit, Run.no_more, Run.and_then, Run.returns}
pub use types.Run.{of_opd, stop, fld, first, blocks, exec}
pub use Rattle.std.specs.Prelude.{None, Some, Option, IsSome}
pub use Rattle.std.proofs.raw_atomic.Walks.{proved, proved_at}
pub use Rattle.core.proofs.alloc.Calls.{token, handle_tells, Goes-blank}
pub use Rattle.std_alloc.specs.Box.Ownership.{box_owns}
pub use Rattle.std_alloc.proofs.BoxSteps.Form.{Bx, D, τ, R, P, B, word, box_typed, box_ty}
pub use Rattle.std_alloc.proofs.BoxSteps.Steps.{box_out, box_in}
pub use Rattle.std_heap.specs.contracts.GlobalAllocator.TheImpl.{ghosts}
pub use Rattle.std_heap.specs.declared.Global.{Global}
