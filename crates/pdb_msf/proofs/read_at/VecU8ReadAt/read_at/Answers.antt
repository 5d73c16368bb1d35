use Rattle.std.proofs.Common.{◌≡◌, List, ℕ, ◌++◌, length, take, drop, min, ap, sym, subst, ◌∙◌}
use Rattle.pdb_msf.specs.ReadAt.{IsRead, memory_file}
use Rattle.pdb_msf.proofs.ReadLemmas.{front_read}
use Rattle.pdb_msf.proofs.read_at.VecU8ReadAt.read_at.Goals as goal

pub returns-clause-read : goal.returns-clause-read
returns-clause-read c =
    let file = c.args.self.now.items in
    let offset = c.args.offset in
    let room = c.args.room.now in
    let count = c.copy_front.result in
    let behind : c.from_offset.result.now ≡ drop offset file = c.from_offset.ensures
    ∙ ap (λ (bytes : List ℕ). drop offset bytes) c.as_slice.ensures.value in
    let counted : count ≡ min (length (drop offset file)) (length room) = c.copy_front.ensures.count
    ∙ ap (λ (bytes : List ℕ). min (length bytes) (length room)) behind in
    let copied : c.copy_front.new.to ≡ take count (drop offset file) ++ drop count room = c.copy_front.ensures.copied
    ∙ ap (λ (bytes : List ℕ). take count bytes ++ drop count room) behind in
    subst (λ (read : List ℕ). IsRead (memory_file file) offset (length room) read count) (sym copied)
    (front_read file room offset count counted)
