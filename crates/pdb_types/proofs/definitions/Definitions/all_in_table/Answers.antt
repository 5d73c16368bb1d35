use Rattle.std.proofs.Common.{◌≡◌, ℕ, ◌+◌, ap, ◌∙◌, arith}
use Rattle.std.proofs.lemmas.List.{append-nil, map-append}
use Rattle.pdb_base.proofs.lemmas.Collected.{ok, ok_is}
use Rattle.pdb_types.specs.Declaration.{type_name}
use Rattle.pdb_types.specs.Numbering.{most_above}
use Rattle.pdb_types.specs.declared.numbering.Numbering.{Numbering}
use Rattle.pdb_types.proofs.DefinitionLemmas.{defined_among, scanned_all, scanned_more}
use Rattle.pdb_types.proofs.definitions.Definitions.all_in_table.Goals as goal
use Rattle.pdb_types.proofs.definitions.Definitions.all_in_table.Goals.{then-branch+in_ok-push, else-branch}

pub loop-above-preserved : goal.loop-above-preserved
loop-above-preserved c =
    let told = ap (λ (n : Numbering). n.least + c.loop-above.above) c.requires in
    let more = scanned_more _ (type_name c.args.name) _ _ _ told c.loop-above.invariant in
    elim c.if-branch.branch [
      | then-branch+in_ok-push w ↦
          rw (w.found-is, w.in_ok-push.ensures.items, map-append)
          (rw (ok_is _ _ c.in_ok-defines.ensures ∙ w.if-branch.true) at more)
      | else-branch w ↦
          rw w.found-is (rw (ok_is _ _ c.in_ok-defines.ensures ∙ w.if-branch.false, append-nil) at more)
    ]

pub returns : goal.returns
returns c =
    let table = c.args.self.now in
    let name = type_name c.args.name in
    let most = ap (λ (n : Numbering). n.most) c.requires in
    let all : c.loop-above.above ≡ most_above table + 1 = omega (arith, most) in
    ap ok (scanned_all table name _ (c.loop-above.invariant ∙ ap (λ (n : ℕ). defined_among table name n) all))
