use Rattle.std.proofs.Common.{◌≡◌, length, take}
use Rattle.std.specs.Prelude.{vec_capacity, IsTrue}
use Rattle.pdb_msf.specs.Source.{IsFixed, IsKept}
use Rattle.pdb_msf.specs.File.{stream_of}
use Rattle.pdb_container.specs.OpenTables.{AreOf}
use Rattle.pdb_container.specs.Reply.{AreReplies}
use Rattle.pdb_container.proofs.queries.answer_all.Given as goal

abbrev pub invariant-loop-query : goal.invariant-loop-query
invariant-loop-query g l =
    let state = g.S.Source.state in
    record {
      kept : IsKept (state l.fn.file.source) (state l.file.source);
      head : l.file.head ≡ l.fn.file.head;
      tables : IsFixed (state l.file.source) → AreOf (stream_of (state l.file.source).bytes l.file.head) l.tables;
      room : vec_capacity l.replies ≡ vec_capacity l.fn.replies;
      count : length l.replies.items ≡ l.query-index;
      replied : IsFixed (state l.fn.file.source) → AreReplies (¬ IsTrue (state l.fn.file.source).is_sound)
          (state l.fn.file.source).bytes l.fn.file.head (take l.query-index l.first) l.replies.items;
    }
