use Rattle.std.proofs.Common.{◌∙◌, sym, arith}
use Rattle.pdb_base.proofs.lemmas.Refused.{passed_on}
use Rattle.pdb_types.proofs.PartLemmas.{part_alone, part_by, part_none, part_refused, part_refused_by, part_zero}
use Rattle.pdb_types.proofs.definitions.Definitions.+part_along.Goals as goal

pub returns-then-most-eq0 : goal.returns-then-most-eq0
returns-then-most-eq0 t c = part_zero c.args.most c.args.self.now c.args.index.0 c.if-most-eq0.true

pub returns-in_err-outline : goal.returns-in_err-outline
returns-in_err-outline t c = rw (passed_on _ _ c.from_residual.ensures.1)
    (part_refused c.args.most c.args.self.now c.args.index.0 _ (omega arith) c.in_err-outline.ensures)

pub returns-in_default : goal.returns-in_default
returns-in_default t c = part_none c.args.most c.args.self.now c.args.index.0 (omega arith)
    (rw c.in_default.is at c.in_ok-outline.ensures)

pub returns-in_default-base_within : goal.returns-in_default-base_within
returns-in_default-base_within t c =
    rw c.part_before.ensures (part_alone c.args.most c.args.self.now c.args.index.0 c.in-Some.outline (omega arith)
    (rw c.in-Some.is at c.in_ok-outline.ensures) (sym c.base_within.ensures ∙ c.in_default-base_within.is))

pub returns-in_err-part : goal.returns-in_err-part
returns-in_err-part t c = rw (passed_on _ _ c.from_residual-in_err-part.ensures.1)
    (part_refused_by c.args.most c.args.self.now c.args.index.0 c.in-Some.outline c.in-Some-base_within.last _
    (omega arith) (rw c.in-Some.is at c.in_ok-outline.ensures)
    (sym c.base_within.ensures ∙ c.in-Some-base_within.is) c.in_err-part.ensures)

pub returns : goal.returns
returns t c =
    rw (c.part_before-2.ensures, c.extent_end-end.ensures, c.part_extent.ensures)
    (part_by c.args.most c.args.self.now c.args.index.0 c.in-Some.outline c.in-Some-base_within.last _ (omega arith)
    (rw c.in-Some.is at c.in_ok-outline.ensures) (sym c.base_within.ensures ∙ c.in-Some-base_within.is)
    c.in_ok-part.ensures)
