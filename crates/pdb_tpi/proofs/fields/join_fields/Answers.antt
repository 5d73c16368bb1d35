use Rattle.std.proofs.Common.{map, length, ap, ◌∙◌, ◌<◌, inl, sym, Err, arith}
use Rattle.std.proofs.lemmas.List.{map-append}
use Rattle.pdb_base.specs.Count.{calls_of}
use Rattle.pdb_base.specs.declared.error.Error.{Error}
use Rattle.pdb_base.proofs.lemmas.Refused.{passed_on}
use Rattle.pdb_values.specs.TypeView.{type_value}
use Rattle.pdb_tpi.specs.Chain.{listed_value}
use Rattle.pdb_tpi.specs.LookUp.{answers, reads_in}
use Rattle.pdb_tpi.specs.LookedUp.{lists_looked_up}
use Rattle.pdb_tpi.proofs.ChainLemmas.{fields_listed, fields_refused, follows_refused, follows_more, not_ge, refused_on}
use Rattle.pdb_tpi.proofs.LookedUpLemmas.{all_left, left_listed, left_below, left_refused, left_needs, has_more}
use Rattle.pdb_tpi.proofs.LookUpLemmas.{wants_on}
use Rattle.pdb_tpi.proofs.fields.join_fields.Goals as goal

-- ---- the first list

pub returns-in_err-list : goal.returns-in_err-list
returns-in_err-list c =
    let look = answers c.args.types in
    let reads = reads_in c.args.types in
    let start = all_left look reads (lists_looked_up look c.args.index.0) (calls_of c.args.count.now) in
    let told = left_refused look reads _ _ c.args.index.0 _ _ _ start c.in_err-list.ensures.counted
    c.in_err-list.ensures.list in
    record {
      fields = rw (passed_on _ _ c.from_residual.ensures.1)
          (refused_on _ _ _ (fields_refused look c.args.index.0 _) c.in_err-list.ensures.list);
      counted = λ other. told.0 (λ is. other (passed_on _ _ c.from_residual.ensures.1
          ∙ ap (λ (e : Error). Err e) is));
      few = told.1;
      memory = wants_on c.from_residual.result c.in_err-list.field-0.0 _
          (λ want. left_needs look reads _ _ c.args.index.0 _ start (c.in_err-list.ensures.memory want))
          c.from_residual.ensures.1;
    }

pub loop-continuation-init : goal.loop-continuation-init
loop-continuation-init c =
    let look = answers c.args.types in
    let start = all_left look (reads_in c.args.types) _ (calls_of c.args.count.now) in
    record {
      follows = fields_listed look c.args.index.0 _ c.in_ok-list.ensures.list;
      left = left_listed look (reads_in c.args.types) _ _ c.args.index.0 (listed_value c.in_ok-list.list) _ _ start
          c.in_ok-list.ensures.counted c.in_ok-list.ensures.list;
    }

-- ---- a list that continues another

pub returns-in_err-list-2 : goal.returns-in_err-list-2
returns-in_err-list-2 c =
    let look = answers c.args.types in
    let reads = reads_in c.args.types in
    let so_far = c.loop-continuation.invariant in
    let below = not_ge _ _ (sym c.ge.ensures ∙ c.if-ge.false) in
    let at = left_below look reads _ _ c.loop-continuation.above.0 c.in-Some.next _ (rw c.in-Some.is at so_far.left)
    below in
    let told = left_refused look reads _ _ c.in-Some.next.0 _ _ _ at c.in_err-list-2.ensures.counted
    c.in_err-list-2.ensures.list in
    let passed = c.from_residual-in_err-list-2.ensures.1 in
    record {
      fields = rw (passed_on _ _ passed) (refused_on _ _ _ (follows_refused look c.args.index.0
          (map type_value c.loop-continuation.fields.items) c.loop-continuation.above.0 c.in-Some.next _
          (rw c.in-Some.is at so_far.follows) below) c.in_err-list-2.ensures.list);
      counted = λ other. told.0 (λ is. other (passed_on _ _ passed ∙ ap (λ (e : Error). Err e) is));
      few = told.1;
      memory = wants_on c.from_residual-in_err-list-2.result c.in_err-list-2.field-0.0 _
          (λ want. left_needs look reads _ _ c.in-Some.next.0 _ at (c.in_err-list-2.ensures.memory want)) passed;
    }

pub returns-in_err-append-clause-few : goal.returns-in_err-append-clause-few
returns-in_err-append-clause-few c =
    let at = left_below (answers c.args.types) (reads_in c.args.types) _ _ c.loop-continuation.above.0 c.in-Some.next _
    (rw c.in-Some.is at c.loop-continuation.invariant.left) (not_ge _ _ (sym c.ge.ensures ∙ c.if-ge.false)) in
    let left = left_listed (answers c.args.types) (reads_in c.args.types) _ _ c.in-Some.next.0
    (listed_value c.in_ok-list-2.list) _ _ at c.in_ok-list-2.ensures.counted c.in_ok-list-2.ensures.list in
    omega (arith, left.few)

pub returns-in_err-append-clause-memory : goal.returns-in_err-append-clause-memory
returns-in_err-append-clause-memory c want =
    let at = left_below (answers c.args.types) (reads_in c.args.types) _ _ c.loop-continuation.above.0 c.in-Some.next _
    (rw c.in-Some.is at c.loop-continuation.invariant.left) (not_ge _ _ (sym c.ge.ensures ∙ c.if-ge.false)) in
    let fields = c.in_ok-list-2.list.fields in
    let some : 0 < length fields.items =
    omega (arith, c.in_err-append.ensures.full, fields.ok.0, c.loop-continuation.fields.ok.1) in
    left_needs (answers c.args.types) (reads_in c.args.types) _ _ c.in-Some.next.0 _ at
    (inl (listed_value c.in_ok-list-2.list, c.in_ok-list-2.ensures.list, has_more type_value fields.items some))

pub loop-continuation-preserved : goal.loop-continuation-preserved
loop-continuation-preserved c =
    let look = answers c.args.types in
    let below = not_ge _ _ (sym c.ge.ensures ∙ c.if-ge.false) in
    let more = follows_more look c.args.index.0 (map type_value c.loop-continuation.fields.items)
    c.loop-continuation.above.0 c.in-Some.next (listed_value c.in_ok-list-2.list)
    (rw c.in-Some.is at c.loop-continuation.invariant.follows) below c.in_ok-list-2.ensures.list in
    let at = left_below look (reads_in c.args.types) _ _ c.loop-continuation.above.0 c.in-Some.next _
    (rw c.in-Some.is at c.loop-continuation.invariant.left) below in
    record {
      follows = rw (
        c.in_ok-append.ensures.items,
        map-append type_value c.loop-continuation.fields.items c.in_ok-list-2.list.fields.items,
      ) more;
      left = left_listed look (reads_in c.args.types) _ _ c.in-Some.next.0 (listed_value c.in_ok-list-2.list) _ _ at
          c.in_ok-list-2.ensures.counted c.in_ok-list-2.ensures.list;
    }
