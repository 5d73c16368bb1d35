-- How far bytes were written.
use Rattle.std.proofs.Common.{◌≡◌, ℕ, List, [], ◌++◌, Option, Ok, Err, Result, inl, inr, refl, sym, subst, ◌∙◌}
use Rattle.std.proofs.lemmas.List.{append_assoc, append-nil}
use Rattle.std.specs.Io.KnownBytes.{Appends, Keeps}
use Rattle.std.proofs.KnownBytes.{Appends-nil, Appends-trans, Appends-kept}
use Rattle.pdb_base.specs.declared.error.Error.{Error}
use Rattle.pdb_base.specs.declared.error.Error.TheVariants.{OutOfMemory}
use Rattle.pdb_output.specs.Output.{OutputState, Gets, IsCutShort, IsFailed, IsOutputFailure}
use Rattle.pdb_output.specs.Output.{IsPrefix, IsReceived, IsWritten, Writes}

-- ---- bytes that are received

-- nothing is received
pub received_none : (old : Option (List ℕ)) (all : List ℕ) → IsReceived old old all all
received_none old all = record { done = []; got = Appends-nil old; left = refl }

-- some bytes more
pub received_more : (old now new : Option (List ℕ)) (all more rest left : List ℕ) → left ≡ more ++ rest
    → IsReceived old now all left → Appends now new more → IsReceived old new all rest
received_more old now new all more rest left next before got = record {
  done = before.done ++ more;
  got = Appends-trans old now new before.done more before.got got;
  left = before.left ∙ rw next (sym (append_assoc before.done more rest));
}

-- the contents are as they were
pub received_kept : (old now new : Option (List ℕ)) (all rest : List ℕ) → IsReceived old now all rest → Keeps now new
    → IsReceived old new all rest
received_kept old now new all rest before kept = record {
  done = before.done;
  got = Appends-kept old now new before.done before.got kept;
  left = before.left;
}

-- a prefix of the next bytes, after those that were received
prefix_more : (old now new : Option (List ℕ)) (all more rest left : List ℕ) → left ≡ more ++ rest
    → IsReceived old now all left → IsPrefix more now new → IsPrefix all old new
prefix_more old now new all more rest left next before (others, part) = (
  others ++ rest,
  record {
    done = before.done ++ part.done;
    got = Appends-trans old now new before.done part.done before.got part.got;
    left = before.left ∙ rw (next, part.left)
        (rw (append_assoc part.done others rest) (sym (append_assoc before.done part.done (others ++ rest))));
  },
)

-- ---- lines that are written, one after another

-- nothing is written
pub written_none : (old : OutputState) (all : List ℕ) → IsWritten old old all all
written_none old all = record { holds = refl; received = received_none old.contents all }

-- one line more
pub written_more : (old now new : OutputState) (all line rest left : List ℕ) → left ≡ line ++ rest
    → IsWritten old now all left → Gets now new line → IsWritten old new all rest
written_more old now new all line rest left next before got = record {
  holds = got.holds ∙ before.holds;
  received = received_more old.contents now.contents new.contents all line rest left next before.received got.added;
}

-- nothing is left
pub written_all : (old now : OutputState) (all rest : List ℕ) → rest ≡ [] → IsWritten old now all rest
    → Gets old now all
written_all old now all rest none before =
    let part = before.received in
    record {
      holds = before.holds;
      added = subst (Appends old.contents now.contents) (sym (part.left ∙ rw none (append-nil part.done))) part.got;
    }

-- what is left, said in other words
pub written_as : (old now : OutputState) (all rest other : List ℕ) → rest ≡ other → IsWritten old now all rest
    → IsWritten old now all other
written_as old now all rest other same before = subst (IsWritten old now all) same before

-- memory ran out after what was written
pub lacks_more : (old now : OutputState) (all left : List ℕ) (e : Error) → IsWritten old now all left → e ≡ OutOfMemory
    → IsCutShort all old now e
lacks_more old now all left e before want =
    record { cause = inr (want, before.holds); prefix = (left, before.received) }

cause_after : (old now new : OutputState) (e : Error) → now.has_failed ≡ old.has_failed → IsOutputFailure now new e
    → IsOutputFailure old new e
cause_after old now new e same (inl failing) = inl failing
cause_after old now new e same (inr (want, holds)) = inr (want, holds ∙ same)

-- the next line was cut short
pub cut_more : (old now new : OutputState) (all line rest left : List ℕ) (e : Error) → left ≡ line ++ rest
    → IsWritten old now all left → IsCutShort line now new e → IsCutShort all old new e
cut_more old now new all line rest left e next before cut = record {
  cause = cause_after old now new e before.holds cut.cause;
  prefix = prefix_more old.contents now.contents new.contents all line rest left next before.received cut.prefix;
}

-- nothing is received of an output that failed before
pub fails_again : (state : OutputState) (all : List ℕ) (e : Error) → IsFailed state e → IsCutShort all state state e
fails_again state all e failing = record { cause = inl failing; prefix = (all, received_none state.contents all) }

-- ---- two writes

-- memory ran out before the first line
pub lacks_all : (old : OutputState) (all : List ℕ) (e : Error) → e ≡ OutOfMemory → IsCutShort all old old e
lacks_all old all e want = lacks_more old old all all e (written_none old all) want

-- the first of two was cut short
pub first_cut : (old new : OutputState) (first rest : List ℕ) (e : Error) → IsCutShort first old new e
    → IsCutShort (first ++ rest) old new e
first_cut old new first rest e cut = cut_more old old new (first ++ rest) first rest (first ++ rest) e refl
    (written_none old (first ++ rest)) cut

-- what follows the first is written, or cut short
pub second_writes : (old now new : OutputState) (first second : List ℕ) (result : Result (Unit {0}) Error)
    → Gets old now first → Writes second now new result → Writes (first ++ second) old new result
second_writes old now new first second (Ok done) got more = record {
  holds = more.holds ∙ got.holds;
  added = Appends-trans old.contents now.contents new.contents first second got.added more.added;
}
second_writes old now new first second (Err e) got cut =
    let before : IsWritten old now (first ++ second) second =
    record { holds = got.holds; received = record { done = first; got = got.added; left = refl } } in
    cut_more old now new (first ++ second) second [] second e (sym (append-nil second)) before cut

-- ---- the end

-- what was written is flushed, or the output failed
pub flushed_after : (old now new : OutputState) (all : List ℕ) (e : Error) → Gets old now all → IsCutShort [] now new e
    → IsCutShort all old new e
flushed_after old now new all e got cut =
    subst (λ (bytes : List ℕ). IsCutShort bytes old new e) (append-nil all)
    (second_writes old now new all [] (Err e) got cut)

-- what a function that writes one line, or two parts, is proved of
pub ruleset writing = (lacks_all, first_cut, second_writes)
