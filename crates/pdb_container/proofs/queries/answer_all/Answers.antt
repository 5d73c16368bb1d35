use Rattle.std.proofs.Common.{◌≡◌, ◌+◌, List, ℕ, length, take, get_or, ◌∙◌, ap, arith, None}
use Rattle.std.proofs.lemmas.List.{take_more, length_push}
use Rattle.std.proofs.Math.Seq.{take-length}
use Rattle.pdb_msf.proofs.lemmas.Kept.{kept_then, unsound_before}
use Rattle.pdb_container.specs.declared.query.Query.{Query}
use Rattle.pdb_container.specs.declared.query.Query.TheVariants as queries
use Rattle.pdb_container.specs.declared.query.Reply.{Reply}
use Rattle.pdb_container.proofs.RunLemmas.{one_more, reply_of_first, same_tables}
use Rattle.pdb_container.proofs.queries.answer_all.Goals as goal

pub loop-query-preserved : goal.loop-query-preserved
loop-query-preserved g c =
    let state = g.S.Source.state in
    let before = c.loop-query.invariant in
    let next = c.reply.ensures.kept in
    let first = c.in-Some.first.now in
    let place = c.loop-query.query-index in
    let query : Query = get_or first place (queries.Stream 0 None) in
    let pushed = c.push_reserved.ensures.items in
    let reply =
    reply_of_first _ (state c.args.file.source) (state c.loop-query.file.source) c.args.file.head
    c.loop-query.file.head query c.reply.result before.kept before.head
    (unsound_before _ _ _ before.kept next.source) c.reply.ensures.reply in
    record {
      kept = kept_then _ _ _ before.kept next.source;
      head = next.head ∙ before.head;
      tables = same_tables state c.loop-query.file c.reply.new.file c.reply.new.self next c.reply.ensures.of;
      room = c.push_reserved.ensures.capacity ∙ before.room;
      count =
          ap (λ (all : List Reply). length all) pushed ∙ length_push c.loop-query.replies.items c.reply.result
          ∙ ap (λ (n : ℕ). n + 1) before.count;
      replied = λ fixed.
          rw (take_more first place (queries.Stream 0 None) c.loop-query-test.true, pushed)
          (one_more _ _ _ _ _ _ _ (before.replied fixed) (reply fixed));
    }

pub returns : goal.returns
returns g c fixed =
    let state = g.S.Source.state in
    let before = c.loop-query.invariant in
    let first = c.in-Some.first.now in
    let reply =
    reply_of_first _ (state c.args.file.source) (state c.loop-query.file.source) c.args.file.head
    c.loop-query.file.head c.in-Some.last.now c.reply-2.result before.kept before.head
    (λ unsound sound. unsound (before.kept.sound sound).0) c.reply-2.ensures.reply in
    let reached : c.loop-query.query-index ≡ length first = omega arith in
    let all : take c.loop-query.query-index first ≡ first = ap (λ (n : ℕ). take n first) reached ∙ take-length first in
    rw (c.in-Some.ensures.cases.0, c.push_reserved-2.ensures.items)
    (one_more _ _ _ _ _ _ _ (rw all at before.replied fixed) (reply fixed))
