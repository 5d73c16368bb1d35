use Rattle.std.specs.Prelude.{nat_eq}
use Rattle.std.specs.Cmp.{unsigned_Decides, booleans_Decides}
use denote.Enum.Bare.{sameb, same_true, true_same}
use Rattle.pdb_base.specs.Derived.{TellsApart}
use Rattle.pdb_base.proofs.lemmas.Derived.{both, options}
use Rattle.pdb_frames.specs.contracts.frame_type.FrameType.{the_type}
use Rattle.pdb_frames.proofs.laws.derived.records.Goals as goal

kinds : TellsApart (sameb the_type)
kinds a b = (same_true the_type tt a b, true_same the_type a b)

pub returns-clause-frames : goal.returns-clause-frames
returns-clause-frames c a b =
    let fields = both _ _ (kinds a.ty b.ty) (both _ _ (unsigned_Decides a.code_start b.code_start)
    (both _ _ (unsigned_Decides a.code_size b.code_size)
    (both _ _ (unsigned_Decides a.locals_size b.locals_size)
    (both _ _ (unsigned_Decides a.params_size b.params_size)
    (both _ _ (unsigned_Decides a.prolog_size b.prolog_size)
    (both _ _ (unsigned_Decides a.saved_regs_size b.saved_regs_size)
    (both _ _ (options nat_eq unsigned_Decides a.max_stack_size b.max_stack_size)
    (both _ _ (booleans_Decides a.has_structured_eh b.has_structured_eh)
    (both _ _ (booleans_Decides a.has_cpp_eh b.has_cpp_eh)
    (both _ _ (booleans_Decides a.is_function_start b.is_function_start)
    (both _ _ (booleans_Decides a.uses_base_pointer b.uses_base_pointer)
    (options nat_eq unsigned_Decides a.program b.program)))))))))))) in (
      λ holds. let same = fields.0 holds in λ i. record {
        ty = same.0 i;
        code_start = same.1.0 i;
        code_size = same.1.1.0 i;
        locals_size = same.1.1.1.0 i;
        params_size = same.1.1.1.1.0 i;
        prolog_size = same.1.1.1.1.1.0 i;
        saved_regs_size = same.1.1.1.1.1.1.0 i;
        max_stack_size = same.1.1.1.1.1.1.1.0 i;
        has_structured_eh = same.1.1.1.1.1.1.1.1.0 i;
        has_cpp_eh = same.1.1.1.1.1.1.1.1.1.0 i;
        is_function_start = same.1.1.1.1.1.1.1.1.1.1.0 i;
        uses_base_pointer = same.1.1.1.1.1.1.1.1.1.1.1.0 i;
        program = same.1.1.1.1.1.1.1.1.1.1.1.1 i;
      },
      λ is. fields.1 (cc, (cc, (cc, (cc, (cc, (cc, (cc, (cc, (cc, (cc, (cc, (cc, cc)))))))))))),
    )
