use Rattle.pdb_validation.specs.Symbols.{behind_symbols}
use Rattle.pdb_validation.proofs.SymbolLemmas.{behind_all, behind_last, behind_more}
use Rattle.pdb_validation.proofs.symbols.behind_symbols.Goals as goal

pub loop-step-preserved : goal.loop-step-preserved
loop-step-preserved c = behind_more _ _ _ _ _ c.loop-step.invariant c.loop-step-test.true c.in-Ok.ensures

pub returns-in-Err : goal.returns-in-Err
unfolding behind_symbols
returns-in-Err c = behind_last _ _ _ _ _ c.loop-step.invariant c.loop-step-test.true c.in-Err.ensures

pub returns : goal.returns
unfolding behind_symbols
returns c = behind_all _ _ _ _ c.loop-step.invariant c.loop-step-test.false
