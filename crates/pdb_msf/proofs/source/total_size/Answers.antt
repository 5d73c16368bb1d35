use Rattle.std.proofs.Common.{◌≡◌, ◌∙◌, sym, ap, arith, length, take, List}
use Rattle.std.proofs.lemmas.List.{take_all}
use Rattle.pdb_msf.specs.declared.source.SourceSlice.{SourceSlice}
use Rattle.pdb_msf.specs.Source.{positions}
use Rattle.pdb_msf.proofs.PositionLemmas.{nowhere, size_more, size_past, size_fits}
use Rattle.pdb_msf.proofs.source.total_size.Goals as goal

pub returns-in_err-total : goal.returns-in_err-total
returns-in_err-total c =
    c.from_residual.ensures
    ∙ sym (size_past c.args.slices.now c.loop-slice.slice-index nowhere c.loop-slice.total
    (omega (arith, c.loop-slice-test.true)) c.loop-slice.invariant.is (omega (arith, c.in_err-total.ensures)))

pub loop-slice-preserved : goal.loop-slice-preserved
loop-slice-preserved c = record {
  is = size_more c.args.slices.now c.loop-slice.slice-index nowhere c.loop-slice.total c.in_ok-total.total
      (omega (arith, c.loop-slice-test.true)) c.loop-slice.invariant.is c.in_ok-total.ensures.1;
  fits = let fits = c.in_ok-total.ensures.0 in let is = c.in_ok-total.ensures.1 in omega (arith, fits, is);
}

pub returns : goal.returns
returns c =
    let all : take c.loop-slice.slice-index c.args.slices.now ≡ c.args.slices.now =
    take_all c.loop-slice.slice-index c.args.slices.now c.loop-slice-test.false in
    sym (size_fits c.args.slices.now c.loop-slice.total
    (c.loop-slice.invariant.is ∙ ap (λ (s : List SourceSlice). length
    (positions s)) all) c.loop-slice.invariant.fits)
