-- Replies of sources that fail more or less often, and the reply of a run with one query.
use Rattle.std.proofs.Common.{◌≡◌, ℕ, true, List, [], ◌∷◌, ◌++◌, Ok, Err, refl, inl, inr}
use Rattle.std.specs.Prelude.{IsTrue}
use Rattle.std.specs.Global.{Vec}
use Rattle.pdb_base.specs.Answer.{Answer}
use Rattle.pdb_base.specs.declared.error.Error.{Error}
use Rattle.pdb_msf.specs.Header.{Head}
use Rattle.pdb_container.specs.declared.query.Query.{Query}
use Rattle.pdb_container.specs.declared.query.Reply.{Reply}
use Rattle.pdb_container.specs.declared.query.Reply.TheVariants as replies
use Rattle.pdb_container.specs.Reply.{ReplyValue, IsReply, AreReplies, IsRun, answer_of, reply_of}

-- a reply of a source that fails less often is one of a source that fails more often
pub IsReply-weaker : (failed unsound : Type 0) (reply : Reply) (meant : Answer ReplyValue)
    → (failed → unsound) → IsReply failed reply meant → IsReply unsound reply meant
IsReply-weaker failed unsound (replies.Bytes stream) meant weaker is = is
IsReply-weaker failed unsound (replies.Record index kind name) meant weaker is = is
IsReply-weaker failed unsound (replies.Name name) meant weaker is = is
IsReply-weaker failed unsound (replies.Fields names) meant weaker is = is
IsReply-weaker failed unsound (replies.Ranges ranges) meant weaker is = is
IsReply-weaker failed unsound (replies.Refused e) meant weaker (inl is) = inl is
IsReply-weaker failed unsound (replies.Refused e) meant weaker (inr (inl memory)) = inr (inl memory)
IsReply-weaker failed unsound (replies.Refused e) meant weaker (inr (inr fault)) = inr (inr (fault.0, weaker fault.1))

lone_reply : (file : List ℕ) (head : Head) (query : Query) (all front : List Reply) (reply : Reply)
    → AreReplies (¬ IsTrue true) file head (query ∷ []) all → all ≡ front ++ reply ∷ []
    → IsReply (¬ IsTrue true) reply (reply_of file head query)
lone_reply file head query [] front reply are is = absurd are
lone_reply file head query (first ∷ []) [] reply are is =
    let same : first ≡ reply = cc in rw (← same) are.0
lone_reply file head query (first ∷ []) (x ∷ []) reply are is = absurd cc
lone_reply file head query (first ∷ []) (x ∷ y ∷ front) reply are is = absurd cc
lone_reply file head query (first ∷ second ∷ rest) front reply are is = absurd are.1

-- the reply of a run with one query is that of the file
pub one_reply : (file : List ℕ) (query : Query) (all : Vec Reply) (front : List Reply) (reply : Reply)
    → IsRun (¬ IsTrue true) file (query ∷ []) (Ok all) → all.items ≡ front ++ reply ∷ []
    → IsReply ⊥ reply (answer_of file query)
unfolding answer_of
one_reply file query all front reply (head, is, are) last =
    let told = lone_reply file head query all.items front reply are last in
    IsReply-weaker (¬ IsTrue true) ⊥ reply _ (λ unsound. unsound refl) (rw is told)

-- the error of a run with one query is the reply
pub no_reply : (file : List ℕ) (query : Query) (e : Error) → IsRun (¬ IsTrue true) file (query ∷ []) (Err e)
    → IsReply ⊥ (replies.Refused e) (answer_of file query)
unfolding answer_of
no_reply file query e (inl is) = inl (rw is refl)
no_reply file query e (inr (inl memory)) = inr (inl memory)
no_reply file query e (inr (inr fault)) = absurd (fault.1 refl)
