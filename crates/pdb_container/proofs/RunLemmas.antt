-- Replies to queries one after another.
use Rattle.std.proofs.Common.{◌≡◌, ℕ, List, [], ◌∷◌, ◌++◌, subst, sym}
use Rattle.std.specs.Prelude.{IsTrue}
use Rattle.pdb_msf.specs.Source.{State, IsFixed, IsKept}
use Rattle.pdb_msf.specs.File.{Opened, stream_of}
use Rattle.pdb_msf.specs.Header.{Head}
use Rattle.pdb_container.specs.declared.query.Query.{Query}
use Rattle.pdb_container.specs.declared.query.Reply.{Reply}
use Rattle.pdb_container.specs.declared.open_tables.OpenTables.{OpenTables}
use Rattle.pdb_container.specs.OpenTables.{AreOf}
use Rattle.pdb_container.specs.ReadStreams.{StaysOpen}
use Rattle.pdb_container.specs.Reply.{AreReplies, IsReply, reply_of}
use Rattle.pdb_container.proofs.lemmas.Replies.{IsReply-weaker}

-- one more reply to one more query
pub one_more : (failed : Type 0) (file : List ℕ) (head : Head) (queries : List Query) (replies : List Reply)
    (query : Query) (reply : Reply)
    → AreReplies failed file head queries replies → IsReply failed reply (reply_of file head query)
    → AreReplies failed file head (queries ++ query ∷ []) (replies ++ reply ∷ [])
one_more failed file head [] [] query reply are is = (is, tt)
one_more failed file head [] (r ∷ replies) query reply are is = absurd are
one_more failed file head (q ∷ queries) [] query reply are is = absurd are
one_more failed file head (q ∷ queries) (r ∷ replies) query reply are is =
    (are.0, one_more failed file head queries replies query reply are.1 is)

-- bytes that were fixed first are so now
pub still_fixed : (first old : State) → IsKept first old → IsFixed first → IsFixed old
still_fixed first old kept fixed = subst IsTrue (sym kept.fixed) fixed

-- and bytes that are fixed now were so first
pub was_fixed : (first old : State) → IsKept first old → IsFixed old → IsFixed first
was_fixed first old kept fixed = subst IsTrue kept.fixed fixed

-- a reply of a source as it was left is one of the source as it was first
pub reply_of_first : (failed : Type 0) (first old : State) (before head : Head) (query : Query) (reply : Reply)
    → IsKept first old → head ≡ before
    → (failed → ¬ IsTrue first.is_sound) → (IsFixed old → IsReply failed reply (reply_of old.bytes head query))
    → IsFixed first → IsReply (¬ IsTrue first.is_sound) reply (reply_of first.bytes before query)
reply_of_first failed first old before head query reply kept same unsound is fixed =
    rw (← kept.bytes, ← same) (IsReply-weaker _ _ reply _ unsound (is (still_fixed first old kept fixed)))

-- tables of a file that stays open are still its tables
pub same_tables : {S : Type 0} (state : S → State) (old new : Opened S) (tables : OpenTables) → StaysOpen state old new
    → (IsFixed (state old.source) → AreOf (stream_of (state old.source).bytes old.head) tables)
    → IsFixed (state new.source) → AreOf (stream_of (state new.source).bytes new.head) tables
same_tables state old new tables kept are fixed =
    rw (kept.source.bytes, kept.head) (are (was_fixed _ _ kept.source fixed))

AreReplies-weaker : (failed unsound : Type 0) (file : List ℕ) (head : Head) (queries : List Query)
    (replies : List Reply) → (failed → unsound)
    → AreReplies failed file head queries replies → AreReplies unsound file head queries replies
AreReplies-weaker failed unsound file head [] [] weaker are = tt
AreReplies-weaker failed unsound file head [] (r ∷ replies) weaker are = absurd are
AreReplies-weaker failed unsound file head (q ∷ queries) [] weaker are = absurd are
AreReplies-weaker failed unsound file head (q ∷ queries) (r ∷ replies) weaker are = (
  IsReply-weaker failed unsound r (reply_of file head q) weaker are.0,
  AreReplies-weaker failed unsound file head queries replies weaker are.1,
)

-- the replies of a file that was opened are those of its source
pub opened_replies : (first now : State) (head : Head) (queries : List Query) (replies : List Reply) → IsKept first now
    → (IsFixed now → AreReplies (¬ IsTrue now.is_sound) now.bytes head queries replies)
    → IsFixed first → AreReplies (¬ IsTrue first.is_sound) first.bytes head queries replies
opened_replies first now head queries replies kept are fixed =
    rw (← kept.bytes) (AreReplies-weaker _ _ now.bytes head queries replies
    (λ unsound sound. unsound (kept.sound sound).0) (are (still_fixed first now kept fixed)))
